-- `check_numbers::serials_distinct` meets its contract. Distinct residues are enough; else each two serials are compared, by their distance. Assumes nothing.
use Rattle.std.proofs.Common.{rules, ◌∙◌, eqb}
use Rattle.table_passes.specs.Arrays.{Twice}
use Rattle.check_numbers.specs.Numbers.{serial_in}
use Rattle.check_numbers.proofs.Serials.{residues_distinct, apart_is}
use Rattle.check_numbers.proofs.serials_distinct.Goals as goal

pub returns-then-from-v : goal.returns-then-from-v
returns-then-from-v c =
    residues_distinct c.args.table.now c.args.v c.requires.1 (cc)

pub returns : goal.returns
returns c =
    let t : Twice 32 (serial_in c.args.table.now) c.twice-w.result = c.twice-w.ensures (serial_in c.args.table.now) (λ k x h r. search rules) in
    c.apart.ensures (λ x. eqb x 0) (λ x r e. search rules) ∙ apart_is c.args.table.now c.twice-w.result t

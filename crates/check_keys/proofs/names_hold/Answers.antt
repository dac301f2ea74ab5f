-- `check_keys::names_hold` meets its contract: at most one name, distinct keys, or what the exact rule says. Assumes nothing.
use Rattle.std.proofs.Common.{rules, sym, ◌∙◌, false}
use Rattle.table_passes.specs.Arrays.{Twice}
use Rattle.check_keys.specs.Keys.{name_key}
use Rattle.check_keys.proofs.Distinct.{one_name_holds, name_keys_hold}
use Rattle.check_keys.proofs.names_hold.Goals as goal

pub returns-then-all_empty : goal.returns-then-all_empty
returns-then-all_empty c =
    sym (one_name_holds c.args.table.now c.requires.0 (sym c.all_empty.ensures ∙ c.if-all_empty.true))

pub returns-then-apart : goal.returns-then-apart
returns-then-apart c =
    let t : Twice 16 (name_key c.args.table.now) c.twice-keys.result = c.twice-keys.ensures (name_key c.args.table.now) (λ k x h r. search rules) in
    c.if-apart.true
    ∙ sym (name_keys_hold c.args.table.now c.requires.0 c.requires.1 c.twice-keys.result t (sym (c.apart.ensures (λ x. false) (λ x r e. search rules)) ∙ c.if-apart.true))

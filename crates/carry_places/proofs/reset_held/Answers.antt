-- `carry_places::reset_held` meets its contract: each turn looks at one job, and after the last none is left. Assumes nothing.
use mathlib.Core.Path.{refl}
use native.Mathlib.Omega.{arith}
use lib.ListN.{get_or}
use mathlib.Core.Path.{ap, ◌∙◌}
use Rattle.server.specs.Sizes.{job_count}
use mathlib.Core.List.{List}
use Rattle.server.specs.declared.JobRow.{JobRow}
use Rattle.server.specs.Table.{no_row, held_by}
use Rattle.carry_places.specs.Laying.{laid_zeros}
use Rattle.carry_places.specs.Written.{laid_returned}
use Rattle.carry_places.proofs.Each.{each_turn, each_end}
use borrow.Author.Rules.{rules}
use Rattle.carry_places.proofs.reset_held.Goals as goal

pub loop-p-preserved : goal.loop-p-preserved
loop-p-preserved c =
    each_turn (λ k. laid_zeros (held_by c.args.c (get_or c.read_rows-rows.result k no_row)) k) job_count c.loop-p.p _ _ _ c.loop-p-test.true c.loop-p.invariant c.put_zeros.ensures

pub returns : goal.returns
returns c =
    each_end (λ k. laid_zeros (held_by c.args.c (get_or c.read_rows-rows.result k no_row)) k) job_count c.loop-p.p _ _ (omega arith) c.loop-p.invariant
    ∙ ap (λ (rs : List JobRow). laid_returned c.args.c rs c.args.table.now) c.read_rows-rows.ensures

use Prim.Native.Nat.{◌+◌, ◌*◌}
use mathlib.Core.Path.{sym, ◌∙◌}
use native.Mathlib.Omega.{arith}
use Rattle.lists.specs.Lists.{numbers}
use Rattle.server.specs.Sizes.{job_count}
use Rattle.server.specs.Layout.{little_at, serials_at}
use Rattle.table_rows.proofs.Reading.{column_at}
use Rattle.lists.proofs.Lowest.{lowest_start, number_here, number_on, number_none}
use Rattle.plan_find_texts.specs.Uniques.{lies_for}
use Rattle.plan_find_texts.proofs.Joining.{unique_found}
use Rattle.plan_find_texts.proofs.with_unique.Goals as goal

pub loop-i-init : goal.loop-i-init
loop-i-init c = (omega arith, lowest_start (lies_for _ _ _) (numbers 0 job_count))

pub has_unique-requires : goal.has_unique-requires
has_unique-requires c =
    (c.requires.1, omega arith, column_at (λ k. little_at 4 c.args.table.now (serials_at + 4 * k)) 0 32 _ c.loop-i.i c.fours-serials.ensures (omega arith))

pub returns-then-has_unique : goal.returns-then-has_unique
returns-then-has_unique c =
    unique_found _ c.requires.0 _ _ _ _ c.requires.2 c.requires.3 c.padded-place.ensures
    (number_here _ 32 c.loop-i.i c.loop-i.invariant.1 (omega arith) (sym c.has_unique.ensures ∙ c.if-has_unique.true))

pub loop-i-preserved : goal.loop-i-preserved
loop-i-preserved c =
    (omega arith, number_on _ 32 c.loop-i.i c.loop-i.invariant.1 (omega arith) (sym c.has_unique.ensures ∙ c.if-has_unique.false))

pub returns : goal.returns
returns c =
    unique_found _ c.requires.0 _ _ _ _ c.requires.2 c.requires.3 c.padded-place.ensures (number_none _ 32 c.loop-i.i c.loop-i.invariant.1 (omega arith))

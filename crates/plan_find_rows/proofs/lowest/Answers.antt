-- `plan_find_rows::lowest` meets its contract: the library's search is ours. Assumes nothing.
use Prim.Native.Nat.{ℕ}
use mathlib.Core.Path.{◌∙◌}
use mathlib.Core.Bool.{Bool}
use lib.Dec.{eqb}
use Rattle.std.proofs.Common.{rules, tests}
use Rattle.std.proofs.lemmas.Iterator.{YieldsList-from_slice}
use Rattle.std.proofs.lemmas.Iterator.Search.{position_from_yields_List}
use Rattle.lists.proofs.Searches.{position_found}
use Rattle.plan_find_rows.proofs.lowest.Goals as goal

pub returns : goal.returns
returns c =
    let stands : ℕ → Bool = λ k. eqb k c.args.x in
    position_from_yields_List stands _ _ c.position.result c.position.ensures.ran (YieldsList-from_slice c.args.column.now cc) (λ x b q k. search (rules, tests))
    ∙ position_found stands c.args.column.now

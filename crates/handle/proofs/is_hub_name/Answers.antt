-- `handle::is_hub_name` meets its contract: empty, too long, or decided by its bytes. Assumes nothing.
use mathlib.Core.Path.{◌∙◌}
use native.Mathlib.Omega.{arith}
use borrow.Author.Rules.{rules}
use Rattle.std.proofs.lemmas.Iterator.{YieldsList-from_slice}
use Rattle.std.proofs.lemmas.Iterator.Search.{all_from_yields_List}
use Rattle.octets.proofs.Strings.{all_every}
use Rattle.handle.specs.Handle.{is_hub_byte}
use Rattle.handle.proofs.Hubs.{name_begun, name_bytes, name_empty, name_long}
use Rattle.handle.proofs.is_hub_name.Goals as goal
use Rattle.handle.proofs.is_hub_name.Goals.{then-is_empty-via-then-is_empty, then-is_empty-via-else-is_empty+then-name-gt-HUB_MOST}

pub returns-then-is_empty : goal.returns-then-is_empty
returns-then-is_empty c =
    let name = c.args.name.now in
    elim c.then-is_empty.branch [
      | then-is_empty-via-then-is_empty w ↦ name_empty name _ c.is_empty.ensures w.if-is_empty.true
      | then-is_empty-via-else-is_empty+then-name-gt-HUB_MOST w ↦ name_long name (name_begun name _ c.is_empty.ensures w.if-is_empty.false) w.if-name-gt-HUB_MOST.true
    ]

pub returns : goal.returns
returns c =
    let name = c.args.name.now in
    name_bytes name _ (name_begun name _ c.is_empty.ensures c.if-is_empty.false) (omega arith)
    (all_from_yields_List is_hub_byte _ _ _ c.all.ensures.ran (YieldsList-from_slice name cc) (λ x b q k. search rules) ∙ all_every _ _)

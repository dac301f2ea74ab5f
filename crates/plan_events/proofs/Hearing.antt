-- How the loop over the connections meets the definition of who hears. Assumes nothing.
use Prim.Native.Nat.{ℕ, ◌+◌, ◌<◌, ◌≤◌}
use mathlib.Core.Path.{◌≡◌, sym, ◌∙◌}
use mathlib.Core.Bool.{cond}
use mathlib.Core.List.{List}
use native.Mathlib.Numerals.{add-one}
use lib.ListN.{length, get_or, drop, drop_of_length-le}
use lib.Seq.{drop-cons}
use Rattle.sets.specs.Sets.{remove}
use Rattle.server.specs.declared.Connection.{Connection}
use Rattle.server.specs.Table.{closed}
use Rattle.plan.specs.Parts.{heard_from, heard}

-- i connections passed: the answer is that of the rest, from the set that is left
module _ (cs : List Connection) (listeners s i : ℕ) (e : heard cs listeners ≡ heard_from i (drop i cs) s) where
  pub heard_turn : (r : ℕ) → i < length cs → r ≡ cond (get_or cs i closed).exceptions s (remove s i) → heard cs listeners ≡ heard_from (i + 1) (drop (i + 1) cs) r
  heard_turn r h q = e ∙ rw (drop-cons cs i closed h, add-one, q)

  pub heard_end : length cs ≤ i → s ≡ heard cs listeners
  heard_end h = let q : heard_from i (drop i cs) s ≡ s = rw (drop_of_length-le cs h) in sym (e ∙ q)

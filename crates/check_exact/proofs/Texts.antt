-- Laws of texts in their places: how long a text is, and how the code's tests of texts meet the rules' own. Assumes nothing.
use Prim.Native.Nat.{ℕ, suc, ◌<◌, ◌≤◌}
use mathlib.Core.Path.{◌≡◌, refl, sym, ap, ◌∙◌}
use mathlib.Core.Bool.{Bool, true, false, not, ◌&&◌, ◌||◌, true≢false}
use mathlib.Core.List.{[], ◌∷◌}
use native.Mathlib.Omega.{arith}
use borrow.Author.Tests.{ne_eqb}
use lib.ListN.{length, take, drop, length-take}
use lib.Seq.{length-take-le}
use lib.Dec.{eqb}
use Rattle.octets.specs.Bytes.{Bytes, same, first_zero}
use Rattle.octets.proofs.Strings.{zero_le_length}
use Rattle.server.specs.Sizes.{connection_count, function_count}
use Rattle.server.specs.Table.{Function, Job, function_at}
use Rattle.server.specs.Layout.{text_at, function_in, table_of}
use Rattle.server.specs.Rules.{uniques_apart}
use Rattle.table_passes.proofs.Rows.{function_at_lem, no_function_lem}

-- ---- lengths

-- the text of a place is as long as its first zero byte says, which is at most the place
text_long : (k : ℕ) (b : Bytes) (at : ℕ) → length (text_at k b at) ≡ first_zero (take k (drop at b))
unfolding text_at
text_long k b at = length-take-le (first_zero (take k (drop at b))) (take k (drop at b)) (zero_le_length (take k (drop at b)))

pub text_within_lem : (s : Bytes) (k : ℕ) (b : Bytes) (at : ℕ) → s ≡ text_at k b at → length s ≤ k
text_within_lem s k b at e =
    omega (arith, ap length e, text_long k b at, zero_le_length (take k (drop at b)), length-take k (drop at b))

-- the length of a function's name; past the last function there is none
pub name_length : (b s : Bytes) (q : ℕ) → s ≡ (function_in connection_count b q).name → q < function_count → length s ≡ length (function_at (table_of connection_count b) q).name
name_length b s q e h = ap length e ∙ ap (λ (x : Function). length x.name) (sym (function_at_lem connection_count b q h))

pub no_name : (b : Bytes) (q : ℕ) → 16 ≤ q → 0 ≡ length (function_at (table_of connection_count b) q).name
no_name b q h = ap (λ (x : Function). length x.name) (sym (no_function_lem connection_count b q h))

-- ---- tests of texts

empty_is : (s : Bytes) → eqb (length s) 0 ≡ same s []
unfolding same
empty_is [] = refl
empty_is (x ∷ s) = ne_eqb (suc (length s)) 0 (λ e. omega arith)

empty_text : (s a : Bytes) → s ≡ a → eqb (length s) 0 ≡ same a []
empty_text s a e = rw e (empty_is a)

twice_not : (x y : Bool) → x || y ≡ not (not x) || y
twice_not true y = refl
twice_not false y = refl

-- a text that is empty, or is not the other one
pub apart_texts : (r s t x y : Bytes) (e : Bool) → r ≡ x → s ≡ x → t ≡ y → e ≡ same s t → eqb (length r) 0 || not e ≡ not (not (same x [])) || not (same x y)
apart_texts r s t x y e i j k q = rw (empty_text r x i, q, j, k) (twice_not (same x []) (not (same x y)))

-- ---- uniques

compare : (a b c d e : Bool) → a || (b || not d) ≡ false → not (not c) || not e ≡ not (not a && (not b && (not c && (d && e))))
compare true b c d e h = absurd (true≢false h)
compare false true c d e h = absurd (true≢false h)
compare false false c false e h = absurd (true≢false h)
compare false false true true e h = refl
compare false false false true e h = refl

module _ (j k : Job) (s t : ℕ) (i : s ≡ j.row.serial) (l : t ≡ k.row.serial) where
  pub uniques_compared : eqb s 0 || (eqb t 0 || not (eqb j.row.function k.row.function)) ≡ false
      → (u v w : Bytes) (e : Bool) → u ≡ j.unique → v ≡ j.unique → w ≡ k.unique → e ≡ same v w → eqb (length u) 0 || not e ≡ uniques_apart j k
  uniques_compared h u v w e f g m q =
      apart_texts u v w j.unique k.unique e f g m q
      ∙ compare (eqb j.row.serial 0) (eqb k.row.serial 0) (same j.unique []) (eqb j.row.function k.row.function) (same j.unique k.unique)
      (rw (i, l) at h)

-- A text in its place: read off the place, and laid over it with zeros after it. Assumes nothing.
use Prim.Native.Nat.{ℕ, zero, suc, ◌+◌, ◌-◌, ◌≤◌}
use mathlib.Core.Path.{◌≡◌, sym, ap}
use mathlib.Core.List.{[], ◌∷◌, ◌++◌}
use native.Mathlib.Nat.{add-sub_cancel_left, sub-zero, suc-sub-suc, le_of_suc-le-suc, not-suc-le-zero}
use native.Mathlib.Omega.{arith}
use borrow.Rule.Slice.PartMut.{put_mid}
use lib.ListN.{length, take, drop, replicate, length-replicate, length-drop}
use lib.Seq.{length-take-le}
use Rattle.octets.specs.Bytes.{Bytes, first_zero}
use Rattle.octets.specs.Put.{over, put}
use Rattle.octets.proofs.Laying.{length_put, put_part, put_put}
use Rattle.lists.specs.Lists.{fit}
use Rattle.server.specs.Layout.{text_at}
use Rattle.lists.proofs.Lists.{fit_none}
use Rattle.table_texts.specs.Places.{zeros}

-- ---- read

pub text_length : (n : ℕ) (place : Bytes) → n ≤ length place → n ≡ length (take n place)
text_length n place h = sym (length-take-le n place h)

pub text_before_zero : (b : Bytes) (at width n : ℕ) → n ≡ first_zero (take (at + width - at) (drop at b)) → take n (take (at + width - at) (drop at b)) ≡ text_at width b at
unfolding text_at
text_before_zero b at width n e = rw (e, add-sub_cancel_left)

-- ---- laid

-- a text and zeros up to the width
fit_zeros : (width : ℕ) (s : Bytes) → length s ≤ width → s ++ zeros (width - length s) ≡ fit width s
unfolding zeros
fit_zeros w [] h = rw sub-zero (sym (fit_none w))
fit_zeros zero (x ∷ s) h = absurd (not-suc-le-zero h)
fit_zeros (suc w) (x ∷ s) h = rw suc-sub-suc (ap (λ (l : Bytes). x ∷ l) (fit_zeros w s (le_of_suc-le-suc h)))

-- a text, and zeros over the rest of the place
pub text_laid : (b o p r : Bytes) (at end width : ℕ) (s : Bytes) → at + width ≤ length b → length s ≤ width → end ≡ at + length s → o ≡ put at s b
    → r ≡ replicate (length (take (at + width - end) (drop end o))) 0 → p ≡ put_mid end (at + width - end) o r → p ≡ put at (fit width s) b
unfolding zeros
text_laid b o p r at end width s long h e f g q =
    let n : at + width - end ≡ width - length s = omega arith in
    let room : length o ≡ length b = rw (f, length_put at s b) in
    let k : length (take (at + width - end) (drop end o)) ≡ at + width - end = length-take-le (at + width - end) (drop end o) (rw length-drop (omega arith)) in
    rw (q, put_part end (at + width - end) r o (rw (g, k, length-replicate {A = ℕ})) (omega arith), g, k, n, f, e, put_put, fit_zeros width s h)

-- over zeros
pub laid_over_zeros : (width : ℕ) (s : Bytes) → length s ≤ width → put 0 s (replicate width 0) ≡ fit width s
unfolding put over zeros
laid_over_zeros w [] h = sym (fit_none w)
laid_over_zeros zero (x ∷ s) h = absurd (not-suc-le-zero h)
laid_over_zeros (suc w) (x ∷ s) h = ap (λ (l : Bytes). x ∷ l) (laid_over_zeros w s (le_of_suc-le-suc h))

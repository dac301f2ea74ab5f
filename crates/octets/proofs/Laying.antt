-- Laws of a run of bytes laid over a buffer. None has a side condition: two runs one after the other are one run.
-- Assumes nothing.
use Prim.Native.Nat.{ℕ, zero, suc, ◌+◌, ◌<◌, ◌≤◌}
use mathlib.Core.Path.{◌≡◌, refl, sym, ap, ◌∙◌}
use mathlib.Core.List.{[], ◌∷◌, ◌++◌}
use native.Mathlib.Nat.{zero-add, suc-add, le_of_suc-le-suc, not-suc-le-zero}
use native.Mathlib.Numerals.{add-one}
use native.Mathlib.Omega.{arith}
use borrow.Rule.Slice.PartMut.{put_mid}
use lib.ListN.{length, get_or, take, drop, set}
use lib.Seq.{take-suc, take-length, length-take-le}
use Rattle.octets.specs.Bytes.{Bytes}
use Rattle.octets.specs.Put.{over, put}

over_put : (s t b : Bytes) → put (length s) t (over s b) ≡ over (s ++ t) b
unfolding over put
over_put [] t b = refl
over_put (x ∷ s) t [] = refl
over_put (x ∷ s) t (y ∷ b) = ap (λ (l : Bytes). x ∷ l) (over_put s t b)

pub put_put : (at : ℕ) (s t b : Bytes) → put (at + length s) t (put at s b) ≡ put at (s ++ t) b
unfolding over put
put_put zero s t b = rw (zero-add, over_put)
put_put (suc at) s t [] = rw suc-add
put_put (suc at) s t (y ∷ b) = rw (suc-add, put_put at s t b)

-- t right after s, whose length is n
pub put_next : (at : ℕ) (s t b : Bytes) (n : ℕ) → length s ≡ n → put (at + n) t (put at s b) ≡ put at (s ++ t) b
put_next at s t b n e = rw (← e, put_put)

pub put_none : (at : ℕ) (b : Bytes) → put at [] b ≡ b
unfolding over put
put_none zero b = refl
put_none (suc at) [] = refl
put_none (suc at) (y ∷ b) = ap (λ (l : Bytes). y ∷ l) (put_none at b)

-- one byte stored is a run of one
pub put_one : (at x : ℕ) (b : Bytes) → set b at x ≡ put at (x ∷ []) b
unfolding over put
put_one zero x [] = refl
put_one zero x (y ∷ b) = refl
put_one (suc at) x [] = refl
put_one (suc at) x (y ∷ b) = ap (λ (l : Bytes). y ∷ l) (put_one at x b)

-- one byte stored right after a run
pub put_more : (at : ℕ) (s b : Bytes) (n x : ℕ) → length s ≡ n → set (put at s b) (at + n) x ≡ put at (s ++ (x ∷ [])) b
put_more at s b n x e = put_one (at + n) x (put at s b) ∙ put_next at s (x ∷ []) b n e

-- one byte stored right before a run
pub put_front : (at x : ℕ) (s b : Bytes) → set (put (at + 1) s b) at x ≡ put at (x ∷ s) b
unfolding over put
put_front zero x s [] = refl
put_front zero x s (y ∷ b) = refl
put_front (suc at) x s [] = rw suc-add
put_front (suc at) x s (y ∷ b) = rw (suc-add, put_front at x s b)

length_over : (s b : Bytes) → length (over s b) ≡ length b
unfolding over
length_over [] b = refl
length_over (x ∷ s) [] = refl
length_over (x ∷ s) (y ∷ b) = ap suc (length_over s b)

pub length_put : (at : ℕ) (s b : Bytes) → length (put at s b) ≡ length b
unfolding put
length_put zero s b = length_over s b
length_put (suc at) s [] = refl
length_put (suc at) s (y ∷ b) = ap suc (length_put at s b)

-- a run that fits at the start: itself, and then what the buffer had there
pub put_start : (s b : Bytes) → length s ≤ length b → put 0 s b ≡ s ++ drop (length s) b
unfolding over put
put_start [] b h = refl
put_start (x ∷ s) [] h = absurd (not-suc-le-zero h)
put_start (x ∷ s) (y ∷ b) h = ap (λ (l : Bytes). x ∷ l) (put_start s b (le_of_suc-le-suc h))

-- a run that fits from `at` on: what the buffer had before it, the run, and what the buffer had after it. So `fill` on a part of the
-- buffer lays a run of zeros.
pub put_part : (at k : ℕ) (s b : Bytes) → k ≡ length s → at + k ≤ length b → put_mid at k b s ≡ put at s b
unfolding put
put_part zero k s b e h = rw e (sym (put_start s b (omega arith)))
put_part (suc at) k s [] e h = absurd (omega arith)
put_part (suc at) k s (y ∷ b) e h = ap (λ (l : Bytes). y ∷ l) (put_part at k s b e (omega arith))

-- a copy under way: the first i bytes of s lie over b from `at` on
module _ (b : Bytes) (at : ℕ) (s : Bytes) where
  pub copy_none : b ≡ put at (take 0 s) b
  copy_none = sym (put_none at b)

  pub copy_more : (o : Bytes) (i : ℕ) → o ≡ put at (take i s) b → i < length s → set o (at + i) (get_or s i 0) ≡ put at (take (i + 1) s) b
  copy_more o i e h = rw (e, add-one, take-suc s i 0) (put_more at (take i s) b i (get_or s i 0) (length-take-le i s (omega arith)))

  pub copy_all : (o : Bytes) (i : ℕ) → o ≡ put at (take i s) b → i ≤ length s → length s ≤ i → o ≡ put at s b
  copy_all o i e h k = let q : i ≡ length s = omega arith in rw (e, q, take-length)

-- ---- a run written over one as long

over_upon : (s r t b : Bytes) → length s ≡ length r → over s (over (r ++ t) b) ≡ over (s ++ t) b
unfolding over
over_upon [] [] t b e = refl
over_upon [] (y ∷ r) t b e = absurd (omega arith)
over_upon (x ∷ s) [] t b e = absurd (omega arith)
over_upon (x ∷ s) (y ∷ r) t [] e = refl
over_upon (x ∷ s) (y ∷ r) t (z ∷ b) e = ap (λ (l : Bytes). x ∷ l) (over_upon s r t b (omega arith))

-- over a run's start: the rest of the run stays
pub put_upon : (at : ℕ) (s r t b : Bytes) → length s ≡ length r → put at s (put at (r ++ t) b) ≡ put at (s ++ t) b
unfolding put
put_upon zero s r t b e = over_upon s r t b e
put_upon (suc at) s r t [] e = refl
put_upon (suc at) s r t (y ∷ b) e = ap (λ (l : Bytes). y ∷ l) (put_upon at s r t b e)

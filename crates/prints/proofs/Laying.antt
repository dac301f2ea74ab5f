-- A text laid as it is printed, byte by byte: what the start, one turn and the end of that loop add. Assumes nothing.
use Prim.Native.Nat.{ℕ, zero, suc, ◌+◌, ◌<◌, ◌≤◌}
use mathlib.Core.Path.{◌≡◌, refl, sym, ap, ◌∙◌}
use mathlib.Core.List.{[], ◌∷◌}
use native.Mathlib.Nat.{not-suc-le-zero, le_of_suc-le-suc}
use native.Mathlib.Omega.{arith}
use lib.ListN.{length, get_or, take, set}
use Rattle.octets.specs.Bytes.{Bytes}
use Rattle.octets.specs.Put.{put}
use Rattle.octets.proofs.Laying.{copy_none, copy_more, copy_all}
use Rattle.prints.specs.Printed.{printed, printed_byte}
use Rattle.prints.proofs.Printed.{length_printed}

printed_at : (s : Bytes) (i : ℕ) → i < length s → get_or (printed s) i 0 ≡ printed_byte (get_or s i 0)
unfolding printed
printed_at [] i h = absurd (not-suc-le-zero h)
printed_at (x ∷ s) zero h = refl
printed_at (x ∷ s) (suc i) h = printed_at s i (le_of_suc-le-suc h)

-- the first i bytes of s lie as they are printed over b from `at` on
module _ (b : Bytes) (at : ℕ) (s : Bytes) where
  pub laid_none : b ≡ put at (take 0 (printed s)) b
  laid_none = copy_none b at (printed s)

  pub laid_more : (o : Bytes) (i x : ℕ) → o ≡ put at (take i (printed s)) b → i < length s → x ≡ printed_byte (get_or s i 0)
      → set o (at + i) x ≡ put at (take (i + 1) (printed s)) b
  laid_more o i x e h q =
      ap (λ (y : ℕ). set o (at + i) y) (q ∙ sym (printed_at s i h)) ∙ copy_more b at (printed s) o i e (omega (arith, length_printed s))

  pub laid_end : at + length s ≡ at + length (printed s)
  laid_end = omega (arith, length_printed s)

  pub laid_all : (o : Bytes) (i : ℕ) → i ≤ length s → length s ≤ i → o ≡ put at (take i (printed s)) b → o ≡ put at (printed s) b
  laid_all o i h k e = copy_all b at (printed s) o i e (omega (arith, length_printed s)) (omega (arith, length_printed s))

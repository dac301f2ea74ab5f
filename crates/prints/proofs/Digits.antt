-- The digits of a number, laid over ten zeros, are the front of them. Assumes nothing.
use Prim.Native.Nat.{ℕ, ◌+◌, ◌≤◌}
use mathlib.Core.Path.{◌≡◌, sym, ap, ◌∙◌}
use native.Mathlib.Nat.{zero-add}
use lib.ListN.{length, take, replicate}
use Rattle.octets.specs.Bytes.{Bytes}
use Rattle.octets.specs.Put.{put}
use Rattle.handle.specs.Handle.{decimal, decimal_in}
use Rattle.handle.proofs.Decimal.{decimal_in_most}
use Rattle.handle.proofs.Printing.{put_padded, take_padded}

module _ (o : Bytes) (number count : ℕ) (e : o ≡ put 0 (decimal_in 10 number) (replicate 10 0)) (n : count ≡ 0 + length (decimal_in 10 number)) where
  pub digits_part : take count o ≡ decimal number
  unfolding decimal
  digits_part =
      let l : length (decimal_in 10 number) ≤ 10 = decimal_in_most 10 number in
      rw (e, n, zero-add, put_padded 10 (decimal_in 10 number) l) (take_padded 10 (decimal_in 10 number) l)

  pub digits_count : count ≡ length (take count o)
  unfolding decimal
  digits_count = n ∙ zero-add _ ∙ sym (ap length digits_part)

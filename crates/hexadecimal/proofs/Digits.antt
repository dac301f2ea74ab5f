-- Hexadecimal digits one at a time: what a byte stands for as a digit, at each return of `digit_value`; the digit of a number; and
-- that each takes the other back. Assumes nothing.
use Prim.Native.Nat.{ℕ, ◌+◌, ◌-◌, ◌<◌, ◌≤◌}
use mathlib.Core.Path.{◌≡◌, sym}
use native.Mathlib.Omega.{arith}
use borrow.Author.Tests.{le-leb, lt-leb}
use Rattle.hexadecimal.specs.Hex.{digit_value, hex_digit}

module _ (x : ℕ) where
  pub value_below : x < 48 → 16 ≡ digit_value x
  value_below h = sym (simp (lt-leb 48 x h, lt-leb 97 x (omega arith)))

  pub value_decimal : 48 ≤ x → x ≤ 57 → x - 48 ≡ digit_value x
  value_decimal h k = sym (simp (le-leb 48 x h, le-leb x 57 k))

  pub value_between : 57 < x → x < 97 → 16 ≡ digit_value x
  value_between h k = sym (simp (le-leb 48 x (omega arith), lt-leb x 57 h, lt-leb 97 x k))

  pub value_letter : 97 ≤ x → x ≤ 102 → x - 87 ≡ digit_value x
  value_letter h k = sym (simp (le-leb 48 x (omega arith), lt-leb x 57 (omega arith), le-leb 97 x h, le-leb x 102 k))

  pub value_above : 102 < x → 16 ≡ digit_value x
  value_above h = sym (simp (le-leb 48 x (omega arith), lt-leb x 57 (omega arith), le-leb 97 x (omega arith), lt-leb x 102 h))

module _ (n : ℕ) where
  pub digit_decimal : n ≤ 9 → n + 48 ≡ hex_digit n
  digit_decimal h = sym (simp (le-leb n 9 h))

  pub digit_letter : 9 < n → n + 87 ≡ hex_digit n
  digit_letter h = sym (simp (lt-leb n 9 h))

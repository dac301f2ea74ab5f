-- What each step of `number_of`, `names_hub` and `serial_of` says, in the shape of their tests and calls. Assumes nothing.
use Prim.Native.Nat.{ℕ, suc, ◌+◌, ◌-◌, ◌*◌, ◌^◌, ◌<◌, ◌≤◌}
use mathlib.Core.Path.{◌≡◌, refl, ap, ◌∙◌, sym}
use mathlib.Core.Bool.{Bool, true, false, not, cond}
use mathlib.Core.List.{[], ◌∷◌, ◌++◌, append_assoc}
use native.Mathlib.Nat.{add-zero, pow-suc}
use native.Mathlib.Numerals.{add-one}
use native.Mathlib.Omega.{arith}
use borrow.Author.Tests.{leb-true, not-true, not-false}
use lib.ListN.{length, get_or, take, drop, drop_of_length-le, length-append, length-drop}
use lib.Dec.{leb}
use lib.Seq.{drop-cons, get_or-append-add, get_or-drop}
use Rattle.octets.specs.Bytes.{Bytes, every, starts_with, within}
use Rattle.octets.proofs.Strings.{and_left, every_low, every_high, every_on, every_end, rest_part, starts_self, starts_is}
use Rattle.handle.specs.Handle.{decimal, handle, prefix, value, number_of, serial_of}
use Rattle.std.specs.Prelude.{Option, Some, None, Result, Ok, Err}
use Rattle.std.specs.Result.{OkIff, result_ok}
use Rattle.handle.proofs.Decimal.{decimal_digits, decimal_first, decimal_value, value_decimal}
use Rattle.handle.proofs.Handles.{drop_handle, handle_least, handle_most_lem, handle_of_serial, serial_of_handle}

-- ---- the number that bytes make, if all are digits

module _ (s : Bytes) (a i : ℕ) (e : value 0 s ≡ value a (drop i s)) (d : every (within 48 57) s ≡ every (within 48 57) (drop i s)) where
  pub number_low : i < length s → get_or s i 0 < 48 → None ≡ number_of s
  number_low h l = rw (← every_low s 48 57 i d h l)

  pub number_high : i < length s → 48 ≤ get_or s i 0 → 57 < get_or s i 0 → None ≡ number_of s
  number_high h l k = rw (← every_high s 48 57 i d h l k)

  pub value_on : i < length s → value 0 s ≡ value (a * 10 + (get_or s i 0 - 48)) (drop (i + 1) s)
  unfolding value
  value_on h = e ∙ rw (drop-cons s i 0 h, add-one)

  pub digits_on : i < length s → 48 ≤ get_or s i 0 → get_or s i 0 ≤ 57 → every (within 48 57) s ≡ every (within 48 57) (drop (i + 1) s)
  digits_on h l k = every_on s 48 57 i d h l k

  pub number_end : length s ≤ i → Some a ≡ number_of s
  unfolding value
  number_end h = sym (rw (← every_end s 48 57 i d h) (ap (λ (n : ℕ). Some n) (e ∙ rw (drop_of_length-le s h))))

-- a first digit that is not `0`
not_zero : (s : Bytes) → 1 ≤ length s → every (within 48 57) s ≡ true → (get_or s 0 0 ≡ 48 → ⊥) → 49 ≤ get_or s 0 0
unfolding every
not_zero [] l e n = absurd (omega arith)
not_zero (x ∷ s) l e n =
    let b : 48 ≤ x = leb-true 48 x (and_left (leb 48 x) (leb x 57) (and_left (within 48 57 x) (every (within 48 57) s) e)) in
    omega arith

-- and such digits make no zero
value_least : (s : Bytes) (a : ℕ) → a ≤ value a s
unfolding value
value_least [] a = omega arith
value_least (x ∷ s) a = omega (arith, value_least s (a * 10 + (x - 48)))

not_none : (s : Bytes) → 49 ≤ get_or s 0 0 → 1 ≤ value 0 s
unfolding value
not_none [] h = absurd (omega arith)
not_none (x ∷ s) h = omega (arith, value_least s (0 * 10 + (x - 48)))

-- a digit more does not wrap
pub bound_on : (a i x : ℕ) → a < 10 ^ i → x ≤ 57 → a * 10 + (x - 48) < 10 ^ (i + 1)
bound_on a i x h l = rw (add-one, pow-suc) (omega arith)

-- ---- `names_hub`: the prefix, part by part

module _ (name t : Bytes) (at : ℕ) (here : at ≡ 3 + length name) where
  -- a text that begins with the prefix has each of its parts at its place
  starts_parts : starts_with t (prefix name) ≡ true → (starts_with t (72 ∷ 58 ∷ []) ≡ true) × (get_or t (at - 1) 0 ≡ 58) × (starts_with (drop 2 t) name ≡ true)
  starts_parts e =
      let r = drop (length (prefix name)) t in
      let whole : t ≡ 72 ∷ 58 ∷ (name ++ (58 ∷ r)) = starts_is t (prefix name) e ∙ ap (λ (l : Bytes). 72 ∷ 58 ∷ l) (append_assoc name (58 ∷ []) r) in
      let q : at - 1 ≡ suc (suc (length name + 0)) = omega arith in
      rw (whole, q) (starts_self (72 ∷ 58 ∷ []) (name ++ (58 ∷ r)), get_or-append-add name (58 ∷ r) 0 0, starts_self name (58 ∷ r))

  not_starts : (starts_with t (prefix name) ≡ true → ⊥) → false ≡ starts_with t (prefix name)
  not_starts n = go (starts_with t (prefix name)) n
    where
      go : (b : Bool) → (b ≡ true → ⊥) → false ≡ b
      go true n = absurd (n refl)
      go false n = refl

  never : (b : Bool) → b ≡ true → not b ≡ true → ⊥
  never true e h = let z : ◌≡◌ {A = ℕ} 0 1 = cc in omega arith
  never false e h = let z : ◌≡◌ {A = ℕ} 0 1 = cc in omega arith

  pub hub_elsewhere : (b : Bool) → b ≡ starts_with t (72 ∷ 58 ∷ []) → not b ≡ true → false ≡ starts_with t (prefix name)
  hub_elsewhere b e h = not_starts (λ q. never b (e ∙ (starts_parts q).0) h)

  pub hub_no_colon : (get_or t (at - 1) 0 ≡ 58 → ⊥) → false ≡ starts_with t (prefix name)
  hub_no_colon h = not_starts (λ q. h (starts_parts q).1)

  pub hub_here : (b r : Bool) → b ≡ starts_with t (72 ∷ 58 ∷ []) → not b ≡ false → get_or t (at - 1) 0 ≡ 58 → r ≡ starts_with (take (length t - 2) (drop 2 t)) name → r ≡ starts_with t (prefix name)
  hub_here b r eb nb colon er = by r (er ∙ ap (λ (s : Bytes). starts_with s name) (rest_part t 2))
    where
      first : t ≡ 72 ∷ 58 ∷ drop 2 t
      first = starts_is t (72 ∷ 58 ∷ []) (sym eb ∙ not-false b nb)

      by : (r : Bool) → r ≡ starts_with (drop 2 t) name → r ≡ starts_with t (prefix name)
      by false e = not_starts (λ q. let z : false ≡ true = e ∙ (starts_parts q).2 in let o : ◌≡◌ {A = ℕ} 0 1 = cc in omega arith)
      by true e =
          let r = drop (length name) (drop 2 t) in
          let whole : t ≡ 72 ∷ 58 ∷ (name ++ r) = first ∙ ap (λ (l : Bytes). 72 ∷ 58 ∷ l) (starts_is (drop 2 t) name (sym e)) in
          let q : at - 1 ≡ suc (suc (length name + 0)) = omega arith in
          let c : get_or r 0 0 ≡ 58 = sym (get_or-append-add name r 0 0) ∙ rw (whole, q) at colon in
          let s : r ≡ 58 ∷ drop 1 r = colon_first r c in
          sym (rw (whole, s, ← append_assoc name (58 ∷ []) (drop 1 r)) (starts_self (prefix name) (drop 1 r)))
        where
          colon_first : (r : Bytes) → get_or r 0 0 ≡ 58 → r ≡ 58 ∷ drop 1 r
          colon_first [] c = absurd (omega arith)
          colon_first (x ∷ r) c = ap (λ (y : ℕ). y ∷ r) c

-- ---- the answers of `serial_of`

-- a number as one of 32 bits: the two ends of `try_from`
pub narrowed : {E : Type 0} (v : ℕ) (s : Option ℕ) (w : Result ℕ E) → OkIff w (v < 4294967296) v → (4294967295 < v → None ≡ s) → (v ≤ 4294967295 → Some v ≡ s) → result_ok w ≡ s
narrowed v s (Ok x) k f g = let h : v ≤ 4294967295 = omega (arith, k.0) in rw k.1 (g h)
narrowed v s (Err x) k f g = f (omega (arith, k))

module _ (name t : Bytes) where
  -- where the digits begin
  abbrev at : ℕ
  at = 3 + length name

  -- a text that is no serial's handle
  no_serial_lem : ((n : ℕ) → 1 ≤ n → n < 2 ^ 32 → handle name n ≡ t → ⊥) → None ≡ serial_of name t
  no_serial_lem never = by_answer (serial_of name t) refl
    where
      by_answer : (s : Option ℕ) → serial_of name t ≡ s → None ≡ serial_of name t
      by_answer None e = sym e
      by_answer (Some n) e = let h = handle_of_serial name t n e in absurd (never n h.1 h.2 h.0)

  pub serial_short : length t < at + 1 → None ≡ serial_of name t
  serial_short h = no_serial_lem (λ n l m e. omega (arith, handle_least name n, ap length e))

  pub serial_long : at + 10 < length t → None ≡ serial_of name t
  serial_long h = no_serial_lem (λ n l m e. omega (arith, handle_most_lem name n, ap length e))

  handle_parts : (n : ℕ) → handle name n ≡ prefix name ++ decimal n
  unfolding handle
  handle_parts n = ap (λ (l : Bytes). 72 ∷ 58 ∷ l) (sym (append_assoc name (58 ∷ []) (decimal n)))

  prefix_length : length (prefix name) ≡ at
  prefix_length = rw length-append (omega arith)

  starts_handle : (n : ℕ) → handle name n ≡ t → starts_with t (prefix name) ≡ true
  starts_handle n e = rw (← e, handle_parts n) (starts_self (prefix name) (decimal n))

  pub serial_elsewhere : (b : Bool) → b ≡ starts_with t (prefix name) → not b ≡ true → None ≡ serial_of name t
  serial_elsewhere b e h = no_serial_lem (λ n l m q. let z : true ≡ false = sym (starts_handle n q) ∙ sym e ∙ not-true b h in let o : ◌≡◌ {A = ℕ} 0 1 = cc in omega arith)

  digits_handle : (n : ℕ) → handle name n ≡ t → drop at t ≡ decimal n
  digits_handle n e = ap (drop at) (sym e) ∙ drop_handle name n

  digit_at : get_or (drop at t) 0 0 ≡ get_or t at 0
  digit_at = get_or-drop at t 0 0 ∙ rw add-zero

  pub serial_leading : get_or t at 0 ≡ 48 → None ≡ serial_of name t
  serial_leading z = no_serial_lem (λ n l m e. omega (arith, decimal_first n l (omega arith), ap (λ (x : Bytes). get_or x 0 0) (digits_handle n e), digit_at))

  -- the number that the bytes behind the prefix make
  module _ (r : Option ℕ) (e : r ≡ number_of (take (length t - at) (drop at t))) where
    number_is : r ≡ number_of (drop at t)
    number_is = e ∙ ap number_of (rest_part t at)

    number_handle : (n : ℕ) → n < 2 ^ 32 → handle name n ≡ t → r ≡ Some n
    number_handle n m q =
        let v : value 0 (decimal n) ≡ n = value_decimal n (omega arith) in
        number_is ∙ ap number_of (digits_handle n q) ∙ rw (decimal_digits n, v)

    pub serial_letter : r ≡ None → None ≡ serial_of name t
    serial_letter z = no_serial_lem (λ n l m q. let k = number_handle n m q in let o : ◌≡◌ {A = ℕ} 0 1 = cc in omega arith)

    module _ (v : ℕ) (f : r ≡ Some v) where
      pub serial_high : 4294967295 < v → None ≡ serial_of name t
      serial_high h = no_serial_lem (λ n l m q. let k = number_handle n m q in let o : v ≡ n = cc in omega arith)

      digits_are : (b : Bool) (w : ℕ) → r ≡ cond b (Some w) None → (b ≡ true) × (v ≡ w)
      digits_are true w q = let o : v ≡ w = cc in (refl, o)
      digits_are false w q = let o : ◌≡◌ {A = ℕ} 0 1 = cc in absurd (omega arith)

      module _ (b : Bool) (eb : b ≡ starts_with t (prefix name)) (nb : b ≡ true) (least : at + 1 ≤ length t) (most : length t ≤ at + 10) (z : get_or t at 0 ≡ 48 → ⊥) where
        pub serial_found : v ≤ 4294967295 → Some v ≡ serial_of name t
        serial_found hi =
            let d = digits_are (every (within 48 57) (drop at t)) (value 0 (drop at t)) number_is in
            let l = length-drop at t in
            let first : 49 ≤ get_or (drop at t) 0 0 = not_zero (drop at t) (omega arith) d.0 (λ q. z (sym digit_at ∙ q)) in
            let back : decimal (value 0 (drop at t)) ≡ drop at t = decimal_value (drop at t) (omega arith) (omega arith) d.0 first in
            let whole : t ≡ prefix name ++ drop at t = starts_is t (prefix name) (sym eb ∙ nb) ∙ ap (λ (k : ℕ). prefix name ++ drop k t) prefix_length in
            let same : handle name v ≡ t = handle_parts v ∙ rw (d.1, back) (sym whole) in
            sym (ap (serial_of name) (sym same) ∙ serial_of_handle name v (omega (arith, d.1, not_none (drop at t) first)) (omega arith))

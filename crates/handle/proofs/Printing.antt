-- What each step of `count_digits`, `put_digits` and `handle_of` adds, in the shape of their tests and calls: digits counted, and laid
-- from the last to the first, and a text followed by zeros. Assumes nothing.
use Prim.Native.Nat.{ℕ, zero, suc, ◌+◌, ◌-◌, ◌/◌, ◌%◌, ◌<◌, ◌≤◌}
use mathlib.Core.Path.{◌≡◌, refl, ap, ◌∙◌, sym, subst}
use mathlib.Core.Bool.{Bool, true, false, cond}
use mathlib.Core.List.{[], ◌∷◌, ◌++◌, append_assoc}
use native.Mathlib.Nat.{add-zero, not-suc-le-zero, le_of_suc-le-suc}
use native.Mathlib.Numerals.{add-one}
use native.Mathlib.Omega.{arith}
use borrow.Author.Tests.{lt-ltb, le-ltb, ltb-true}
use lib.ListN.{length, get_or, take, drop, set, replicate, length-append, length-replicate}
use lib.Seq.{drop-cons, drop-length, take-append_seam, take-length, take-suc, length-take-le}
use lib.Dec.{ltb}
use Rattle.octets.specs.Bytes.{Bytes}
use Rattle.octets.specs.Put.{put}
use Rattle.octets.proofs.Laying.{put_none, put_front, put_put, put_start}
use Rattle.handle.specs.Handle.{decimal_in, decimal, handle, handle_most, is_hub_name, padded, printed}
use Rattle.handle.specs.declared.Handle.{Handle}
use Rattle.handle.proofs.Handles.{length_handle, handle_bounded}

-- ---- digits counted

decimal_step : (k n : ℕ) → (k ≡ 0 → ⊥) → decimal_in k n ≡ cond (ltb n 10) ((n + 48) ∷ []) (decimal_in (k - 1) (n / 10) ++ ((n % 10 + 48) ∷ []))
unfolding decimal_in
decimal_step zero n h = absurd (h refl)
decimal_step (suc k) n h = let e : suc k - 1 ≡ k = omega arith in rw e

-- how many digits: one, or one more than the number without its last
count_one : (k n : ℕ) → (k ≡ 0 → ⊥) → n < 10 → length (decimal_in k n) ≡ 1
count_one k n z h = rw (decimal_step k n z, lt-ltb _ _ h)

count_more : (k n : ℕ) → (k ≡ 0 → ⊥) → 10 ≤ n → length (decimal_in k n) ≡ length (decimal_in (k - 1) (n / 10)) + 1
count_more k n z h = rw (decimal_step k n z, le-ltb _ _ h, length-append)

-- the count: `count` digits are behind, and those of `left` are before
module _ (most number left count : ℕ) (e : length (decimal_in most number) ≡ count + length (decimal_in (most - count) left)) where
  pub count_last : count < most → left < 10 → count + 1 ≡ length (decimal_in most number)
  count_last h l = omega (arith, count_one (most - count) left (λ z. omega arith) l)

  pub count_on : count < most → 10 ≤ left → length (decimal_in most number) ≡ count + 1 + length (decimal_in (most - (count + 1)) (left / 10))
  count_on h l =
      let q : most - count - 1 ≡ most - (count + 1) = omega arith in
      omega (arith, rw q at (count_more (most - count) left (λ z. omega arith) l))

  pub count_end : most ≤ count → count ≡ length (decimal_in most number)
  unfolding decimal_in
  count_end h = let q : most - count ≡ 0 = omega arith in let n : length (decimal_in (most - count) left) ≡ 0 = rw q in omega arith

-- ---- digits laid over a buffer, the last one first

fit_step : (b : Bool) (k n : ℕ) → ltb n 10 ≡ b → decimal_in (length (decimal_in k (n / 10))) (n / 10) ≡ decimal_in k (n / 10)
    → decimal_in (length (cond b ((n + 48) ∷ []) (decimal_in k (n / 10) ++ ((n % 10 + 48) ∷ [])))) n ≡ cond b ((n + 48) ∷ []) (decimal_in k (n / 10) ++ ((n % 10 + 48) ∷ []))
unfolding decimal_in
fit_step true k n e h = rw e
fit_step false k n e h = rw (length-append, add-one, e, h)

-- as many places as digits are enough
pub decimal_fit : (k n : ℕ) → decimal_in (length (decimal_in k n)) n ≡ decimal_in k n
unfolding decimal_in
decimal_fit zero n = refl
decimal_fit (suc k) n = fit_step (ltb n 10) k n refl (decimal_fit k (n / 10))

snoc_both : (s t : Bytes) (x y : ℕ) → s ++ (x ∷ []) ≡ t ++ (y ∷ []) → (s ≡ t) × (x ≡ y)
snoc_both [] [] x y e = let q : x ≡ y = cc in (refl, q)
snoc_both [] (b ∷ t) x y e = absurd (omega (arith, ap length e, length-append t (y ∷ [])))
snoc_both (a ∷ s) [] x y e = absurd (omega (arith, ap length e, length-append s (x ∷ [])))
snoc_both (a ∷ s) (b ∷ t) x y e =
    let h : a ≡ b = cc in
    let r : s ++ (x ∷ []) ≡ t ++ (y ∷ []) = cc in
    let both = snoc_both s t x y r in
    (rw (h, both.0), both.1)

last_step : (b : Bool) (d : Bytes) (j n : ℕ) → suc j ≤ length d → ltb n 10 ≡ b
    → take j d ++ (get_or d j 0 ∷ []) ≡ cond b ((n + 48) ∷ []) (decimal_in j (n / 10) ++ ((n % 10 + 48) ∷ [])) → (take j d ≡ decimal_in j (n / 10)) × (get_or d j 0 ≡ n % 10 + 48)
unfolding decimal_in
last_step true d j n h t e =
    let l : n < 10 = ltb-true n 10 t in
    let both = snoc_both (take j d) [] (get_or d j 0) (n + 48) e in
    let z : j ≡ 0 = omega (arith, ap length both.0, length-take-le j d (omega arith)) in
    (rw z, omega (arith, both.1))
last_step false d j n h t e = snoc_both (take j d) (decimal_in j (n / 10)) (get_or d j 0) (n % 10 + 48) e

-- what is before the last of i digits, and the last
module _ (d : Bytes) (i n : ℕ) (h : i ≤ length d) (z : 0 < i) (e : take i d ≡ decimal_in i n) where
  last_digit : (take (i - 1) d ≡ decimal_in (i - 1) (n / 10)) × (get_or d (i - 1) 0 ≡ n % 10 + 48)
  unfolding decimal_in
  last_digit =
      let q : i ≡ suc (i - 1) = omega arith in
      let s : take (suc (i - 1)) d ≡ decimal_in (suc (i - 1)) n = subst (λ (k : ℕ). take k d ≡ decimal_in k n) q e in
      last_step (ltb n 10) d (i - 1) n (omega arith) refl (sym (take-suc d (i - 1) 0 (omega arith)) ∙ s)

  pub digits_left : take (i - 1) d ≡ decimal_in (i - 1) (n / 10)
  digits_left = last_digit.0

  pub digit_laid : (at : ℕ) (o b : Bytes) → o ≡ put (at + i) (drop i d) b → set o (at + (i - 1)) (n % 10 + 48) ≡ put (at + (i - 1)) (drop (i - 1) d) b
  digit_laid at o b eo =
      let q : at + i ≡ at + (i - 1) + 1 = omega arith in
      let r : suc (i - 1) ≡ i = omega arith in
      let c : drop (i - 1) d ≡ (n % 10 + 48) ∷ drop i d = drop-cons d (i - 1) 0 (omega arith) ∙ rw (r, last_digit.1) in
      rw (eo, q, c) (put_front (at + (i - 1)) (n % 10 + 48) (drop i d) b)

-- at the start all digits are left
module _ (at k n : ℕ) (b : Bytes) where
  pub all_left : (i : ℕ) → i ≡ length (decimal_in k n) → (take i (decimal_in k n) ≡ decimal_in i n) × (b ≡ put (at + i) (drop i (decimal_in k n)) b)
  all_left i e = (rw (e, take-length, decimal_fit k n), rw (e, drop-length) (sym (put_none _ b)))

-- ---- a text and then zeros

abbrev zeros : ℕ → Bytes
zeros n = replicate n 0

zeros_front : (n j : ℕ) → zeros n ≡ take n (zeros (n + j))
zeros_front zero j = refl
zeros_front (suc n) j = let q : suc n + j ≡ suc (n + j) = omega arith in rw q (ap (λ (l : Bytes). 0 ∷ l) (zeros_front n j))

padded_step : (s : Bytes) (n j : ℕ) → length s ≤ n → s ++ drop (length s) (zeros n) ≡ take n (s ++ zeros (n + j))
padded_step [] n j h = zeros_front n j
padded_step (x ∷ s) zero j h = absurd (not-suc-le-zero h)
padded_step (x ∷ s) (suc n) j h =
    let q : suc n + j ≡ n + suc j = omega arith in
    rw q (ap (λ (l : Bytes). x ∷ l) (padded_step s n (suc j) (le_of_suc-le-suc h)))

padded_is : (n : ℕ) (s : Bytes) → length s ≤ n → s ++ drop (length s) (zeros n) ≡ padded n s
padded_is n s h = rw add-zero at (padded_step s n 0 h)

-- a text laid over zeros is the text and then zeros
pub put_padded : (n : ℕ) (s : Bytes) → length s ≤ n → put 0 s (zeros n) ≡ padded n s
put_padded n s h =
    let q : length s ≤ length (zeros n) = omega (arith, length-replicate {A = ℕ} n 0) in
    put_start s (zeros n) q ∙ padded_is n s h

-- and its front is the text
pub take_padded : (n : ℕ) (s : Bytes) → length s ≤ n → take (length s) (padded n s) ≡ s
take_padded n s h = rw (← padded_is n s h, take-append_seam)

length_padded : (n : ℕ) (s : Bytes) → length (padded n s) ≡ n
length_padded n s = length-take-le n (s ++ zeros n) (rw length-append (omega (arith, length-replicate {A = ℕ} n 0)))

-- ---- the handle: `H:`, the name, `:` and then its digits

-- what is laid behind a text that was laid from the first byte on
put_behind : (s t b : Bytes) (n : ℕ) → n ≡ length s → put n t (put 0 s b) ≡ put 0 (s ++ t) b
put_behind s t b n e = let q : n ≡ 0 + length s = omega arith in rw q (put_put 0 s t b)

module _ (name : Bytes) (good : is_hub_name name ≡ true) (n a b e : ℕ) (ha : a ≡ 2) (hb : b ≡ a + length name) (he : e ≡ b + 1) where
  -- each part lies behind the one before
  pub handle_length : (r : ℕ) → r ≡ e + length (decimal_in 10 n) → r ≡ length (handle name n)
  unfolding decimal
  handle_length r hr = omega (arith, length_handle name n)

  pub handle_text : (o p q x : Bytes) → o ≡ put 0 (72 ∷ 58 ∷ []) (zeros handle_most) → p ≡ put a name o → q ≡ put b (58 ∷ []) p → x ≡ put e (decimal_in 10 n) q
      → x ≡ padded handle_most (handle name n)
  unfolding handle decimal
  handle_text o p q x ho hp hq hx =
      let z = zeros handle_most in
      let first : Bytes = 72 ∷ 58 ∷ [] in
      let p1 : p ≡ put 0 (first ++ name) z = hp ∙ rw ho (put_behind first name z a ha) in
      let q1 : q ≡ put 0 ((first ++ name) ++ (58 ∷ [])) z = hq ∙ rw p1 (put_behind (first ++ name) (58 ∷ []) z b (omega arith)) in
      let x1 : x ≡ put 0 (((first ++ name) ++ (58 ∷ [])) ++ decimal_in 10 n) z
      = hx ∙ rw q1 (put_behind ((first ++ name) ++ (58 ∷ [])) (decimal_in 10 n) z e (rw length-append (omega arith))) in
      let whole : ((first ++ name) ++ (58 ∷ [])) ++ decimal_in 10 n ≡ handle name n = simp append_assoc in
      x1 ∙ rw whole (put_padded handle_most (handle name n) (handle_bounded name good n))

pub printed_is : (s p : Bytes) (r : ℕ) → p ≡ padded handle_most s → r ≡ length s → ◌≡◌ {A = Handle} (record { text = p; length = r }) (printed s)
unfolding printed
printed_is s p r e h = λ i. record { text = e i; length = h i }

-- what `handle_of` answers: the first bytes of its text, as many as it says, are the handle
module _ (name : Bytes) (good : is_hub_name name ≡ true) (w : Handle) (n : ℕ) (e : w ≡ printed (handle name n)) where
  pub printed_fits : w.length ≤ length w.text
  unfolding printed
  printed_fits = rw (e, length_padded) (handle_bounded name good n)

  pub printed_front : take w.length w.text ≡ handle name n
  unfolding printed
  printed_front = rw e (take_padded handle_most (handle name n) (handle_bounded name good n))

-- A column of the layout: fields of one width, row after row. The field of row i lies w * i bytes after the column's start, and a
-- list that is read by place is a list with that entry at each place. Assumes nothing.
use Prim.Native.Nat.{ℕ, zero, suc, ◌+◌, ◌*◌, ◌^◌, ◌<◌, ◌≤◌}
use mathlib.Core.Path.{◌≡◌, refl, sym, ap, ◌∙◌}
use mathlib.Core.Bool.{Bool, true}
use mathlib.Core.List.{List, [], ◌∷◌, map}
use native.Mathlib.Nat.{not-suc-le-zero, le_of_suc-le-suc, mul-suc, mul-zero, add-zero, zero-add, add-suc, suc-add, one-mul}
use native.Mathlib.Omega.{arith}
use lib.ListN.{length, get_or, length-append, length-map}
use lib.Seq.{ext_get_or}
use Rattle.octets.specs.Bytes.{Bytes, zero_free}
use Rattle.lists.specs.Lists.{fit, numbers}
use Rattle.server.specs.Layout.{little, little_at, flag_byte, flag_at, text_at, column}
use Rattle.lists.proofs.Lists.{length_numbers, length_fit}
use Rattle.table_laws.proofs.Fields.{Lies, lies_left, lies_right, length_little, little_lies, byte_lies, flag_lies, text_lies}

-- ---- lists by place

module _ {A : Type 0} where
  pub length_places : (g : ℕ → A) (i n : ℕ) → length (map g (numbers i n)) ≡ n
  length_places g i n = length-map (numbers i n) g ∙ length_numbers i n

  places_from : (g : ℕ → A) (d : A) (i n k : ℕ) → k < n → get_or (map g (numbers i n)) k d ≡ g (i + k)
  places_from g d i zero k h = absurd (not-suc-le-zero h)
  places_from g d i (suc n) zero h = ap g (sym (add-zero i))
  places_from g d i (suc n) (suc k) h = places_from g d (suc i) n k (le_of_suc-le-suc h) ∙ ap g (suc-add i k ∙ sym (add-suc i k))

  pub places_at : (g : ℕ → A) (d : A) (n k : ℕ) → k < n → get_or (map g (numbers 0 n)) k d ≡ g k
  places_at g d n k h = places_from g d 0 n k h ∙ ap g (zero-add k)

  -- what is read at each place of a list is the list
  pub places_are : (g : ℕ → A) (d : A) (n : ℕ) (xs : List A) → length xs ≡ n → ((k : ℕ) → k < n → g k ≡ get_or xs k d) → map g (numbers 0 n) ≡ xs
  places_are g d n xs e h =
      ext_get_or d (map g (numbers 0 n)) xs (length_places g 0 n ∙ sym e)
      (λ k l. let m : k < n = rw (length_places g 0 n) at l in places_at g d n k m ∙ h k m)

-- ---- a column

module _ {A : Type 0} (f : A → Bytes) (w : ℕ) (width : (x : A) → length (f x) ≡ w) where
  pub length_column : (xs : List A) → length (column f xs) ≡ w * length xs
  length_column [] = sym (mul-zero w)
  length_column (x ∷ xs) = rw (length-append, width x, length_column xs, mul-suc) (omega arith)

  pub column_lies : (b : Bytes) (at : ℕ) (xs : List A) (i : ℕ) (d : A) → Lies b at (column f xs) → i < length xs → Lies b (at + w * i) (f (get_or xs i d))
  column_lies b at [] i d l h = absurd (not-suc-le-zero h)
  column_lies b at (x ∷ xs) zero d l h = rw (mul-zero, add-zero) (lies_left b at (f x) (column f xs) l)
  column_lies b at (x ∷ xs) (suc i) d l h =
      let e : at + w * suc i ≡ at + w + w * i = rw mul-suc (omega arith) in
      rw e (column_lies b (at + w) xs i d (lies_right b at (f x) (column f xs) (at + w) l (ap (λ (n : ℕ). at + n) (width x))) (le_of_suc-le-suc h))

-- ---- the columns of the layout: numbers, flags and texts

module _ {A : Type 0} where
  pub numbers_long : (k : ℕ) (v : A → ℕ) (xs : List A) (m : ℕ) → length xs ≡ m → length (column (λ x. little k (v x)) xs) ≡ k * m
  numbers_long k v xs m e = length_column (λ (x : A). little k (v x)) k (λ x. length_little k (v x)) xs ∙ ap (λ (n : ℕ). k * n) e

  pub flags_long : (v : A → Bool) (xs : List A) (m : ℕ) → length xs ≡ m → length (column (λ x. flag_byte (v x)) xs) ≡ m
  flags_long v xs m e = length_column (λ (x : A). flag_byte (v x)) 1 (λ x. refl) xs ∙ ap (λ (n : ℕ). 1 * n) e ∙ one-mul m

  pub texts_long : (k : ℕ) (v : A → Bytes) (xs : List A) (m : ℕ) → length xs ≡ m → length (column (λ x. fit k (v x)) xs) ≡ k * m
  texts_long k v xs m e = length_column (λ (x : A). fit k (v x)) k (λ x. length_fit k (v x)) xs ∙ ap (λ (n : ℕ). k * n) e

  module _ (b : Bytes) (at : ℕ) (xs : List A) (i : ℕ) (d : A) (h : i < length xs) where
    pub number_at : (k : ℕ) (v : A → ℕ) → Lies b at (column (λ x. little k (v x)) xs) → v (get_or xs i d) < 256 ^ k → little_at k b (at + k * i) ≡ v (get_or xs i d)
    number_at k v l s = little_lies k _ b _ s (column_lies (λ (x : A). little k (v x)) k (λ x. length_little k (v x)) b at xs i d l h)

    pub byte_at : (v : A → ℕ) → Lies b at (column (λ x. little 1 (v x)) xs) → v (get_or xs i d) < 256 → get_or b (at + i) 0 ≡ v (get_or xs i d)
    byte_at v l s = byte_lies _ b _ s (rw one-mul at (column_lies (λ (x : A). little 1 (v x)) 1 (λ x. length_little 1 (v x)) b at xs i d l h))

    pub flag_at_lem : (v : A → Bool) → Lies b at (column (λ x. flag_byte (v x)) xs) → flag_at b (at + i) ≡ v (get_or xs i d)
    flag_at_lem v l = flag_lies _ b _ (rw one-mul at (column_lies (λ (x : A). flag_byte (v x)) 1 (λ x. refl) b at xs i d l h))

    pub text_at_lem : (k : ℕ) (v : A → Bytes) → Lies b at (column (λ x. fit k (v x)) xs) → length (v (get_or xs i d)) ≤ k → zero_free (v (get_or xs i d)) ≡ true
        → text_at k b (at + k * i) ≡ v (get_or xs i d)
    text_at_lem k v l s z = text_lies k _ b _ s z (column_lies (λ (x : A). fit k (v x)) k (λ x. length_fit k (v x)) b at xs i d l h)

-- Equal texts in padded places are equal places, and equal places have equal words: so equal texts have equal keys. Assumes nothing.
use Prim.Native.Nat.{ℕ, zero, suc, ◌+◌, ◌*◌, ◌<◌, ◌≤◌}
use mathlib.Core.Path.{◌≡◌, refl, sym, ap, ap₂, ◌∙◌}
use mathlib.Core.Bool.{Bool, true, false}
use mathlib.Core.List.{[], ◌∷◌}
use native.Mathlib.Nat.{add-zero, add-suc}
use native.Mathlib.Omega.{arith}
use borrow.Author.Tests.{eqb-true}
use lib.ListN.{length, get_or, take, drop}
use lib.Seq.{get_or-take, get_or-drop}
use lib.Bits.{bit_xor}
use lib.Dec.{eqb}
use Rattle.octets.specs.Bytes.{Bytes, same, first_zero, every}
use Rattle.octets.proofs.Strings.{and_left, and_right, same_is}
use Rattle.server.specs.Layout.{little_at, text_at}
use Rattle.table_laws.specs.Tests.{part, is_zero, is_padded, are_padded}
use Rattle.table_laws.proofs.Same.{length_part}
use Rattle.lists.proofs.Rows.{below_at}
use Rattle.check_image.specs.Padded.{empty_at}
use Rattle.check_image.proofs.Places.{empty_text}
use Rattle.check_keys.specs.Keys.{word_at, words_at, place_key}

-- ---- equal texts in padded places

zeros_same : (p q : Bytes) → length p ≡ length q → every is_zero p ≡ true → every is_zero q ≡ true → p ≡ q
unfolding every
zeros_same [] [] l e f = refl
zeros_same [] (y ∷ q) l e f = absurd (omega arith)
zeros_same (x ∷ p) [] l e f = absurd (omega arith)
zeros_same (x ∷ p) (y ∷ q) l e f =
    ap₂ ◌∷◌ (eqb-true x 0 (and_left (eqb x 0) (every is_zero p) e) ∙ sym (eqb-true y 0 (and_left (eqb y 0) (every is_zero q) f)))
    (zeros_same p q (omega arith) (and_right (eqb x 0) (every is_zero p) e) (and_right (eqb y 0) (every is_zero q) f))

unfoldable front : Bytes → Bytes
front p = take (first_zero p) p

unfoldable rest : Bytes → Bool
rest p = every is_zero (drop (first_zero p) p)

front_step : (x : ℕ) (p : Bytes) → eqb x 0 ≡ false → front (x ∷ p) ≡ x ∷ front p
unfolding front first_zero
front_step x p e = rw e

front_zero : (x : ℕ) (p : Bytes) → eqb x 0 ≡ true → front (x ∷ p) ≡ []
unfolding front first_zero
front_zero x p e = rw e

rest_step : (x : ℕ) (p : Bytes) → eqb x 0 ≡ false → rest (x ∷ p) ≡ rest p
unfolding rest first_zero
rest_step x p e = rw e

rest_zero : (x : ℕ) (p : Bytes) → eqb x 0 ≡ true → rest (x ∷ p) ≡ every is_zero (x ∷ p)
unfolding rest first_zero
rest_zero x p e = rw e

places_step : (x y : ℕ) (p q : Bytes) (s t : Bool) → eqb x 0 ≡ s → eqb y 0 ≡ t → length p ≡ length q → (rest p ≡ true → rest q ≡ true → front p ≡ front q → p ≡ q)
    → rest (x ∷ p) ≡ true → rest (y ∷ q) ≡ true → front (x ∷ p) ≡ front (y ∷ q) → x ∷ p ≡ y ∷ q
places_step x y p q true true a b l ih e f g = zeros_same (x ∷ p) (y ∷ q) (ap suc l) (sym (rest_zero x p a) ∙ e) (sym (rest_zero y q b) ∙ f)
places_step x y p q true false a b l ih e f g =
    let h : [] ≡ y ∷ front q = sym (front_zero x p a) ∙ g ∙ front_step y q b in
    let z : ◌≡◌ {A = ℕ} 0 1 = cc in absurd (omega arith)
places_step x y p q false true a b l ih e f g =
    let h : x ∷ front p ≡ [] = sym (front_step x p a) ∙ g ∙ front_zero y q b in
    let z : ◌≡◌ {A = ℕ} 0 1 = cc in absurd (omega arith)
places_step x y p q false false a b l ih e f g =
    let h : x ∷ front p ≡ y ∷ front q = sym (front_step x p a) ∙ g ∙ front_step y q b in
    let i : x ≡ y = cc in
    let j : front p ≡ front q = cc in
    ap₂ ◌∷◌ i (ih (sym (rest_step x p a) ∙ e) (sym (rest_step y q b) ∙ f) j)

places_same : (p q : Bytes) → length p ≡ length q → rest p ≡ true → rest q ≡ true → front p ≡ front q → p ≡ q
places_same [] [] l e f g = refl
places_same [] (y ∷ q) l e f g = absurd (omega arith)
places_same (x ∷ p) [] l e f g = absurd (omega arith)
places_same (x ∷ p) (y ∷ q) l e f g = places_step x y p q (eqb x 0) (eqb y 0) refl refl (omega arith) (places_same p q (omega arith)) e f g

-- ---- equal places

little_part : (w : ℕ) (b : Bytes) (at k i : ℕ) → i + k ≤ w → little_at k (part w b at) i ≡ little_at k b (at + i)
unfolding little_at
little_part w b at zero i h = refl
little_part w b at (suc k) i h =
    let e : get_or (take w (drop at b)) i 0 ≡ get_or b (at + i) 0 = get_or-take w (drop at b) i 0 (omega arith) ∙ get_or-drop at b i 0 in
    let r : little_at k (part w b at) (suc i) ≡ little_at k b (suc (at + i)) = little_part w b at k (suc i) (omega arith) ∙ ap (little_at k b) (add-suc at i) in
    ap₂ (λ (x y : ℕ). x + 256 * y) e r

byte_part : (w : ℕ) (b : Bytes) (at : ℕ) → 0 < w → get_or (part w b at) 0 0 ≡ get_or b at 0
byte_part w b at h = get_or-take w (drop at b) 0 0 h ∙ get_or-drop at b 0 0 ∙ ap (λ (k : ℕ). get_or b k 0) (add-zero at)

-- the words of 32 bytes, read inside their place of w bytes
word_part : (w : ℕ) (b : Bytes) (at i : ℕ) → i + 8 ≤ w → word_at b (at + i) ≡ word_at (part w b at) i
unfolding word_at
word_part w b at i h =
    let e : at + i + 4 ≡ at + (i + 4) = omega arith in
    ap₂ (λ (x y : ℕ). x + 4294967296 * y) (sym (little_part w b at 4 i (omega arith))) (ap (little_at 4 b) e ∙ sym (little_part w b at 4 (i + 4) (omega arith)))

words_part : (w : ℕ) (b : Bytes) (at i : ℕ) → i + 32 ≤ w → words_at b (at + i) ≡ words_at (part w b at) i
unfolding words_at
words_part w b at i h =
    let later : (j : ℕ) → i + j + 8 ≤ w → word_at b (at + i + j) ≡ word_at (part w b at) (i + j) =
    λ j g. (let e : at + i + j ≡ at + (i + j) = omega arith in ap (word_at b) e ∙ word_part w b at (i + j) g) in
    ap₂ bit_xor (ap₂ bit_xor (word_part w b at i (omega arith)) (later 8 (omega arith))) (ap₂ bit_xor (later 16 (omega arith)) (later 24 (omega arith)))

pub words_same : (w : ℕ) (b : Bytes) (x y i : ℕ) → i + 32 ≤ w → part w b x ≡ part w b y → words_at b (x + i) ≡ words_at b (y + i)
words_same w b x y i h e = words_part w b x i h ∙ ap (λ (p : Bytes). words_at p i) e ∙ sym (words_part w b y i h)

-- ---- m padded places of suc n bytes from `at` on, whose keys are distinct

module _ (n m : ℕ) (b : Bytes) (at : ℕ) (inside : (k : ℕ) → k < m → at + suc n * k + suc n ≤ length b) (padded : are_padded (suc n) m b at ≡ true) where
  pads : (k : ℕ) → k < m → rest (part (suc n) b (at + suc n * k)) ≡ true
  unfolding are_padded is_padded rest
  pads k h = below_at (λ i. is_padded (suc n) b (at + suc n * i)) m k padded h

  parts_same : (i k : ℕ) → i < m → k < m → text_at (suc n) b (at + suc n * i) ≡ text_at (suc n) b (at + suc n * k)
      → part (suc n) b (at + suc n * i) ≡ part (suc n) b (at + suc n * k)
  unfolding text_at front
  parts_same i k h g e =
      places_same (part (suc n) b (at + suc n * i)) (part (suc n) b (at + suc n * k))
      (length_part (suc n) b (at + suc n * i) (inside i h) ∙ sym (length_part (suc n) b (at + suc n * k) (inside k g))) (pads i h) (pads k g) e

  -- where keys are distinct and equal places fold to one number, a text that is not empty is not that of a later place
  pub texts_differ : (fold : ℕ → ℕ) → ((i k : ℕ) → i < k → k < m → place_key b at (suc n) fold i ≡ place_key b at (suc n) fold k → ⊥)
      → (i k : ℕ) → i < k → k < m → (part (suc n) b (at + suc n * i) ≡ part (suc n) b (at + suc n * k) → fold i ≡ fold k)
      → same (text_at (suc n) b (at + suc n * i)) [] ≡ false → same (text_at (suc n) b (at + suc n * i)) (text_at (suc n) b (at + suc n * k)) ≡ true → ⊥
  texts_differ fold distinct i k g h folds full equal = distinct i k g h (rw (here, there) (folds parts))
    where
      parts : part (suc n) b (at + suc n * i) ≡ part (suc n) b (at + suc n * k)
      parts = parts_same i k (omega arith) h (same_is (text_at (suc n) b (at + suc n * i)) (text_at (suc n) b (at + suc n * k)) equal)

      here : empty_at b at (suc n) i ≡ false
      here = let l : at + suc n * i + suc n ≤ length b = inside i (omega arith) in sym (empty_text n b (at + suc n * i) (omega arith)) ∙ full

      there : empty_at b at (suc n) k ≡ false
      there =
          ap (λ (x : ℕ). eqb x 0)
          (sym (byte_part (suc n) b (at + suc n * k) (omega arith)) ∙ ap (λ (p : Bytes). get_or p 0 0) (sym parts) ∙ byte_part (suc n) b (at + suc n * i) (omega arith))
          ∙ here

-- Laws of hubs' names: how long they are, that they hold no zero byte and no colon, so that the handles of two hubs never agree; and what
-- each step of `is_hub_name` says. Assumes nothing.
use Prim.Native.Nat.{ℕ, suc, ◌<◌, ◌≤◌}
use mathlib.Core.Path.{◌≡◌, refl, ap, ap₂, ◌∙◌, sym}
use mathlib.Core.Bool.{Bool, true, false, ◌||◌}
use mathlib.Core.List.{[], ◌∷◌, ◌++◌}
use native.Mathlib.Omega.{arith}
use borrow.Author.Tests.{le-leb, lt-leb, leb-true, ne_eqb, eq-eqb, eqb-true, eqb-false}
use lib.ListN.{length}
use lib.Dec.{eqb, leb}
use Rattle.octets.specs.Bytes.{Bytes, every, first_zero, within, zero_free}
use Rattle.octets.proofs.Strings.{and_left, and_right}
use Rattle.handle.specs.Handle.{hub_most, is_hub_byte, is_hub_name, handle, decimal}

-- ---- one byte

or_cases : (a b : Bool) → a || b ≡ true → (P : Type 0) → (a ≡ true → P) → (b ≡ true → P) → P
or_cases true b e P f g = f refl
or_cases false b e P f g = g e

within_bounds : (lo hi x : ℕ) → within lo hi x ≡ true → (lo ≤ x) × (x ≤ hi)
within_bounds lo hi x e = (leb-true lo x (and_left (leb lo x) (leb x hi) e), leb-true x hi (and_right (leb lo x) (leb x hi) e))

-- it is no zero byte, and no colon
byte_least : (x : ℕ) → is_hub_byte x ≡ true → 1 ≤ x
byte_least x e =
    or_cases (within 97 122 x) (within 48 57 x) e (1 ≤ x)
    (λ l. let b = within_bounds 97 122 x l in omega arith)
    (λ d. let b = within_bounds 48 57 x d in omega arith)

byte_no_colon : (x : ℕ) → is_hub_byte x ≡ true → x ≡ 58 → ⊥
byte_no_colon x e q =
    or_cases (within 97 122 x) (within 48 57 x) e ⊥
    (λ l. let b = within_bounds 97 122 x l in omega arith)
    (λ d. let b = within_bounds 48 57 x d in omega arith)

-- ---- a whole name

module _ (name : Bytes) (good : is_hub_name name ≡ true) where
  hub_length : within 1 hub_most (length name) ≡ true
  unfolding is_hub_name
  hub_length = and_left (within 1 hub_most (length name)) (every is_hub_byte name) good

  pub hub_bytes : every is_hub_byte name ≡ true
  unfolding is_hub_name
  hub_bytes = and_right (within 1 hub_most (length name)) (every is_hub_byte name) good

  pub hub_least : 1 ≤ length name
  hub_least = (within_bounds 1 hub_most (length name) hub_length).0

  pub hub_most_lem : length name ≤ hub_most
  hub_most_lem = (within_bounds 1 hub_most (length name) hub_length).1

bytes_clean : (s : Bytes) → every is_hub_byte s ≡ true → first_zero s ≡ length s
unfolding every first_zero
bytes_clean [] e = refl
bytes_clean (x ∷ s) e =
    let l = byte_least x (and_left (is_hub_byte x) (every is_hub_byte s) e) in
    let z : eqb x 0 ≡ false = ne_eqb x 0 (λ q. omega arith) in
    rw z (ap suc (bytes_clean s (and_right (is_hub_byte x) (every is_hub_byte s) e)))

pub hub_zero_free : (name : Bytes) → is_hub_name name ≡ true → zero_free name ≡ true
hub_zero_free name good = eq-eqb (first_zero name) (length name) (bytes_clean name (hub_bytes name good))

-- ---- handles of two hubs

-- two names end where their colons stand
names_end : (a b x y : Bytes) → every is_hub_byte a ≡ true → every is_hub_byte b ≡ true → a ++ (58 ∷ x) ≡ b ++ (58 ∷ y) → a ≡ b
unfolding every
names_end [] [] x y e f q = refl
names_end [] (d ∷ b) x y e f q = let h : d ≡ 58 = cc in absurd (byte_no_colon d (and_left (is_hub_byte d) (every is_hub_byte b) f) h)
names_end (c ∷ a) [] x y e f q = let h : c ≡ 58 = cc in absurd (byte_no_colon c (and_left (is_hub_byte c) (every is_hub_byte a) e) h)
names_end (c ∷ a) (d ∷ b) x y e f q =
    let h : c ≡ d = cc in
    let t : a ++ (58 ∷ x) ≡ b ++ (58 ∷ y) = cc in
    ap₂ {C = Bytes} (λ (z : ℕ) (l : Bytes). z ∷ l) h (names_end a b x y (and_right (is_hub_byte c) (every is_hub_byte a) e) (and_right (is_hub_byte d) (every is_hub_byte b) f) t)

-- 02, ask 5: handles name the hub. One text is the handle of no two hubs, whatever the serials.
pub one_hub : (a b : Bytes) (m n : ℕ) → is_hub_name a ≡ true → is_hub_name b ≡ true → handle a m ≡ handle b n → a ≡ b
unfolding handle
one_hub a b m n ga gb e =
    let q : a ++ (58 ∷ decimal m) ≡ b ++ (58 ∷ decimal n) = cc in
    names_end a b (decimal m) (decimal n) (hub_bytes a ga) (hub_bytes b gb) q

-- ---- `is_hub_name`

module _ (name : Bytes) where
  pub name_short : length name < 1 → false ≡ is_hub_name name
  unfolding is_hub_name
  name_short h = rw (lt-leb 1 (length name) h)

  module _ (r : Bool) (e : r ≡ eqb (length name) 0) where
    pub name_empty : r ≡ true → false ≡ is_hub_name name
    name_empty h = let z : length name ≡ 0 = eqb-true (length name) 0 (sym e ∙ h) in name_short (omega arith)

    pub name_begun : r ≡ false → 1 ≤ length name
    name_begun h = let n : length name ≡ 0 → ⊥ = eqb-false (length name) 0 (sym e ∙ h) in omega arith

  pub name_long : 1 ≤ length name → hub_most < length name → false ≡ is_hub_name name
  unfolding is_hub_name
  name_long l h = rw (lt-leb (length name) hub_most h, le-leb 1 (length name) l)

  pub name_bytes : (b : Bool) → 1 ≤ length name → length name ≤ hub_most → b ≡ every is_hub_byte name → b ≡ is_hub_name name
  unfolding is_hub_name
  name_bytes b l h e = rw (le-leb 1 (length name) l, le-leb (length name) hub_most h) e

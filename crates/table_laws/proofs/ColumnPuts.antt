-- One field of one row laid over a table's bytes. The bytes are a list of columns one after the other; a field laid at its place in
-- its column is that column with one row changed, and the rest as it was. Assumes nothing.
use Prim.Native.Nat.{ℕ, zero, suc, ◌+◌, ◌*◌, ◌<◌}
use mathlib.Core.Path.{◌≡◌, refl, sym, ap, ap₂, ◌∙◌, subst}
use mathlib.Core.List.{List, [], ◌∷◌, ◌++◌, map, append_assoc}
use native.Mathlib.Nat.{zero-add, mul-zero, mul-suc, le_of_suc-le-suc, not-suc-le-zero, add-zero, one-mul}
use native.Mathlib.Omega.{arith}
use lib.ListN.{length, get_or, set, length-append, length-set}
use lib.Seq.{map-set_same}
use Rattle.octets.specs.Bytes.{Bytes}
use Rattle.octets.specs.Put.{put}
use Rattle.octets.proofs.Laying.{put_next, put_upon}
use Rattle.server.specs.Layout.{column}
use Rattle.table_laws.proofs.Columns.{length_column}

-- ---- a run laid over one of its own length, in the middle of a longer run

pub put_middle : (p s r q b : Bytes) (at : ℕ) → length p ≡ at → length s ≡ length r → put at s (put 0 (p ++ (r ++ q)) b) ≡ put 0 (p ++ (s ++ q)) b
put_middle p s r q b at l e =
    let start : (x : Bytes) → put 0 (p ++ x) b ≡ put at x (put 0 p b) = λ x. sym (ap (λ (m : ℕ). put m x (put 0 p b)) (sym (zero-add at)) ∙ put_next 0 p x b at l) in
    ap (put at s) (start (r ++ q)) ∙ put_upon at s r q (put 0 p b) e ∙ sym (start (s ++ q))

-- ---- one row of a column

module _ {A : Type 0} (f : A → Bytes) (w : ℕ) (wide : (x : A) → length (f x) ≡ w) where
  -- a column with one row changed, inside a longer run
  pub column_put : (xs : List A) (i : ℕ) (y : A) (p q b : Bytes) (at : ℕ) → i < length xs → length p ≡ at
      → put (at + w * i) (f y) (put 0 (p ++ (column f xs ++ q)) b) ≡ put 0 (p ++ (column f (set xs i y) ++ q)) b
  column_put [] i y p q b at h l = absurd (omega arith)
  column_put (x ∷ xs) zero y p q b at h l =
      let z : at + w * 0 ≡ at = ap (λ (m : ℕ). at + m) (mul-zero w) ∙ add-zero at in
      ap₂ (λ (m : ℕ) (c : Bytes). put m (f y) (put 0 (p ++ c) b)) z (append_assoc (f x) (column f xs) q)
      ∙ put_middle p (f y) (f x) (column f xs ++ q) b at l (wide y ∙ sym (wide x))
      ∙ ap (λ (c : Bytes). put 0 (p ++ c) b) (sym (append_assoc (f y) (column f xs) q))
  column_put (x ∷ xs) (suc i) y p q b at h l =
      let z : at + w * suc i ≡ at + w + w * i = ap (λ (m : ℕ). at + m) (mul-suc w i) ∙ omega arith in
      let m : length (p ++ f x) ≡ at + w = length-append p (f x) ∙ ap₂ ◌+◌ l (wide x) in
      let shift : (c : Bytes) → p ++ ((f x ++ c) ++ q) ≡ (p ++ f x) ++ (c ++ q) = λ c. simp append_assoc in
      ap₂ (λ (k : ℕ) (c : Bytes). put k (f y) (put 0 c b)) z (shift (column f xs))
      ∙ column_put xs i y (p ++ f x) q b (at + w) (le_of_suc-le-suc h) m
      ∙ ap (λ (c : Bytes). put 0 c b) (sym (shift (column f (set xs i y))))

  length_changed : (xs : List A) (i : ℕ) (y : A) → length (column f (set xs i y)) ≡ length (column f xs)
  length_changed xs i y = length_column f w wide (set xs i y) ∙ ap (λ (n : ℕ). w * n) (length-set xs i y) ∙ sym (length_column f w wide xs)

-- a column that does not see the change
pub column_same : {A : Type 0} (f : A → Bytes) (l : List A) (i : ℕ) (y d : A) → f y ≡ f (get_or l i d) → column f (set l i y) ≡ column f l
column_same f [] i y d e = refl
column_same f (x ∷ l) zero y d e = ap (λ (c : Bytes). c ++ column f l) e
column_same f (x ∷ l) (suc i) y d e = ap (λ (c : Bytes). f x ++ c) (column_same f l i y d e)

-- ---- columns one after the other

abbrev pub laid : List Bytes → Bytes
laid [] = []
laid (x ∷ xs) = x ++ laid xs

-- how many bytes stand before column k, from the columns' widths
abbrev pub before : List ℕ → ℕ → ℕ
before [] k = 0
before (w ∷ ws) zero = 0
before (w ∷ ws) (suc k) = w + before ws k

segment_put : {A : Type 0} (f : A → Bytes) (w : ℕ) (wide : (x : A) → length (f x) ≡ w) (segs : List Bytes) (k : ℕ) (xs : List A) (i : ℕ) (y : A) (p b : Bytes) (at : ℕ)
    → k < length segs → get_or segs k [] ≡ column f xs → i < length xs → length p + before (map length segs) k ≡ at
    → put (at + w * i) (f y) (put 0 (p ++ laid segs) b) ≡ put 0 (p ++ laid (set segs k (column f (set xs i y)))) b
segment_put f w wide [] k xs i y p b at h e g l = absurd (not-suc-le-zero h)
segment_put f w wide (x ∷ segs) zero xs i y p b at h e g l =
    ap (λ (c : Bytes). put (at + w * i) (f y) (put 0 (p ++ (c ++ laid segs)) b)) e
    ∙ column_put f w wide xs i y p (laid segs) b at g (sym (add-zero (length p)) ∙ l)
segment_put f w wide (x ∷ segs) (suc k) xs i y p b at h e g l =
    ap (λ (c : Bytes). put (at + w * i) (f y) (put 0 c b)) (sym (append_assoc p x (laid segs)))
    ∙ segment_put f w wide segs k xs i y (p ++ x) b at (le_of_suc-le-suc h) e g (omega (arith, length-append p x))
    ∙ ap (λ (c : Bytes). put 0 c b) (append_assoc p x (laid (set segs k (column f (set xs i y)))))

-- x is b with these columns, of these widths, laid over its start
pub record Over (b : Bytes) (ws : List ℕ) (x : Bytes) (segs : List Bytes) : Type 0 where
  pub is : x ≡ put 0 (laid segs) b
  pub widths : map length segs ≡ ws

-- one field more
pub next : {A : Type 0} {b : Bytes} {ws : List ℕ} {x : Bytes} {segs : List Bytes} → Over b ws x segs
    → (f : A → Bytes) (w : ℕ) (wide : (a : A) → length (f a) ≡ w) (k at : ℕ) (xs : List A) (i : ℕ) (y : A)
    → get_or segs k [] ≡ column f xs → k < length segs → before ws k ≡ at → i < length xs
    → Over b ws (put (at + w * i) (f y) x) (set segs k (column f (set xs i y)))
next {A} {b} {ws} {x} {segs} o f w wide k at xs i y e h l g =
    record {
      is = ap (put (at + w * i) (f y)) o.is ∙ segment_put f w wide segs k xs i y [] b at h e g (zero-add _ ∙ ap (λ (l : List ℕ). before l k) o.widths ∙ l);
      widths = map-set_same length segs k (column f (set xs i y)) [] (length_changed f w wide xs i y ∙ ap length (sym e)) ∙ o.widths;
    }

-- the same for a column of single bytes
pub next1 : {A : Type 0} {b : Bytes} {ws : List ℕ} {x : Bytes} {segs : List Bytes} → Over b ws x segs
    → (f : A → Bytes) (wide : (a : A) → length (f a) ≡ 1) (k at : ℕ) (xs : List A) (i : ℕ) (y : A)
    → get_or segs k [] ≡ column f xs → k < length segs → before ws k ≡ at → i < length xs
    → Over b ws (put (at + i) (f y) x) (set segs k (column f (set xs i y)))
next1 {A} {b} {ws} {x} {segs} o f wide k at xs i y e h l g =
    subst (λ (m : ℕ). Over b ws (put (at + m) (f y) x) (set segs k (column f (set xs i y)))) (one-mul i) (next o f 1 wide k at xs i y e h l g)

-- Splitting a packet's data into arguments and joining arguments to data are each other's inverse: what fits the rules is split
-- back to the same arguments, and what splits is joined back to the same bytes. Assumes nothing.
use Prim.Native.Nat.{ℕ, suc, ◌+◌, ◌<◌, ◌≤◌}
use mathlib.Core.Path.{◌≡◌, refl, ap, ◌∙◌, sym}
use mathlib.Core.Bool.{Bool, true, false, not, cond, ◌&&◌, ◌||◌}
use mathlib.Core.List.{List, [], ◌∷◌, ◌++◌}
use native.Mathlib.Numerals.{add-one}
use native.Mathlib.Omega.{arith}
use borrow.Author.Tests.{lt-ltb, eqb-true, ltb-true, leb-true}
use lib.ListN.{length, take, drop, length-append}
use lib.Seq.{split_at, take-append_seam, drop-append-add}
use lib.Dec.{ltb, leb, eqb}
use Rattle.octets.specs.Bytes.{Bytes, first_zero, zero_free, within, every, same}
use Rattle.octets.proofs.Strings.{and_left, and_right, and_both, same_is, zero_at_lem, zero_after}
use Rattle.packet.specs.declared.Rule.{Rule}
use Rattle.packet.specs.declared.Rule.TheVariants.{Text, Digits, Flag, AnyText, Opaque, Absent}
use Rattle.packet.specs.declared.Shape.{Shape}
use Rattle.packet.specs.declared.Shape.TheVariants.{Foreign, Empty, Function, Submission, WorkStatus, WorkData, Handle, Echo, OptionName, ClientId, Assignment, UniqueAssignment, Error, StatusAnswer}
use Rattle.packet.specs.Layout.{rules_of}
use Rattle.packet.specs.Arguments.{digits, fits, fit_all, join, Parts, bad, parts, front, split}
use Rattle.packet.specs.Opaque.{is_opaque}

-- ---- which rules keep zero bytes out

-- only the last rule may be opaque
abbrev pub plain : List Rule → Bool
plain [] = true
plain (r ∷ []) = true
plain (r ∷ (q ∷ rs)) = not (is_opaque r) && plain (q ∷ rs)

-- so it is with every shape
pub shapes_plain : (shape : Shape) → plain (rules_of shape) ≡ true
unfolding rules_of
shapes_plain Foreign = refl
shapes_plain Empty = refl
shapes_plain Function = refl
shapes_plain Submission = refl
shapes_plain WorkStatus = refl
shapes_plain WorkData = refl
shapes_plain Handle = refl
shapes_plain Echo = refl
shapes_plain OptionName = refl
shapes_plain ClientId = refl
shapes_plain Assignment = refl
shapes_plain UniqueAssignment = refl
shapes_plain Error = refl
shapes_plain StatusAnswer = refl

digit_step : (x : ℕ) (xs : Bytes) (b : Bool) → eqb x 0 ≡ b → leb 48 x ≡ true → first_zero xs ≡ length xs → cond b 0 (suc (first_zero xs)) ≡ suc (length xs)
digit_step x xs true e h ih = absurd (omega (arith, eqb-true x 0 e, leb-true 48 x h))
digit_step x xs false e h ih = ap suc ih

digits_clean : (a : Bytes) → digits a ≡ true → first_zero a ≡ length a
unfolding every first_zero
digits_clean [] e = refl
digits_clean (x ∷ xs) e =
    digit_step x xs (eqb x 0) refl (and_left (leb 48 x) (leb x 57) (and_left (within 48 57 x) (digits xs) e)) (digits_clean xs (and_right (within 48 57 x) (digits xs) e))

flag_clean : (a : Bytes) (b c : Bool) → same a (48 ∷ []) ≡ b → same a (49 ∷ []) ≡ c → b || c ≡ true → first_zero a ≡ length a
unfolding first_zero
flag_clean a true c p q e = rw (same_is a (48 ∷ []) p)
flag_clean a false true p q e = rw (same_is a (49 ∷ []) q)
flag_clean a false false p q e = let z : ◌≡◌ {A = ℕ} 0 1 = cc in absurd (omega arith)

-- an argument that fits a rule other than the opaque one has no zero byte
pub fits_clean : (r : Rule) (a : Bytes) → not (is_opaque r) ≡ true → fits r a ≡ true → first_zero a ≡ length a
unfolding fits
fits_clean (Text least most) a p e = eqb-true _ _ (and_right (within least most (length a)) (zero_free a) e)
fits_clean (Digits least most) a p e = digits_clean a (and_right (within least most (length a)) (digits a) e)
fits_clean Flag a p e = flag_clean a _ _ refl refl e
fits_clean AnyText a p e = eqb-true _ _ e
fits_clean Opaque a p e = let z : ◌≡◌ {A = ℕ} 0 1 = cc in absurd (omega arith)
fits_clean Absent a p e = let z : ◌≡◌ {A = ℕ} 0 1 = cc in absurd (omega arith)

-- what fits is short
pub text_short : (least most : ℕ) (a : Bytes) → fits (Text least most) a ≡ true → length a ≤ most
unfolding fits
text_short least most a e = leb-true (length a) most (and_right (leb least (length a)) _ (and_left (within least most (length a)) _ e))

-- there are as many arguments as rules
pub fit_length : (rs : List Rule) (args : List Bytes) → fit_all rs args ≡ true → length args ≡ length rs
unfolding fit_all
fit_length [] [] e = refl
fit_length [] (a ∷ args) e = let z : ◌≡◌ {A = ℕ} 0 1 = cc in absurd (omega arith)
fit_length (r ∷ rs) [] e = let z : ◌≡◌ {A = ℕ} 0 1 = cc in absurd (omega arith)
fit_length (r ∷ rs) (a ∷ args) e = ap suc (fit_length rs args (and_right (fits r a) (fit_all rs args) e))

-- ---- what is joined splits

-- a zero byte after a: it lies inside, and t is what follows it
module _ (a t : Bytes) where
  pub zero_inside : ltb (length a) (length (a ++ (0 ∷ t))) ≡ true
  zero_inside = let l : length a < length (a ++ (0 ∷ t)) = rw (length-append) (omega arith) in lt-ltb _ _ l

  pub past_zero : drop (length a + 1) (a ++ (0 ∷ t)) ≡ t
  past_zero = drop-append-add a (0 ∷ t) 1

-- data that begins with an argument without a zero byte, and a zero byte
pub split_one : (r q : Rule) (rs : List Rule) (a t : Bytes) → first_zero a ≡ length a
    → split (r ∷ (q ∷ rs)) (a ++ (0 ∷ t)) ≡ cond (fits r a) (front a (split (q ∷ rs) t)) bad
unfolding split
split_one r q rs a t h = rw (zero_after a t h, zero_inside a t, take-append_seam, past_zero a t)

pub join_split : (rs : List Rule) (args : List Bytes) → fit_all rs args ≡ true → plain rs ≡ true → split rs (join args) ≡ parts args
unfolding split join fit_all
join_split [] [] e p = refl
join_split [] (a ∷ args) e p = let z : ◌≡◌ {A = ℕ} 0 1 = cc in absurd (omega arith)
join_split (r ∷ rs) [] e p = let z : ◌≡◌ {A = ℕ} 0 1 = cc in absurd (omega arith)
join_split (r ∷ []) (a ∷ []) e p = rw (and_left (fits r a) true e)
join_split (r ∷ []) (a ∷ (b ∷ bs)) e p = let z : ◌≡◌ {A = ℕ} 0 1 = cc (and_right (fits r a) false e) in absurd (omega arith)
join_split (r ∷ (q ∷ rs)) (a ∷ []) e p = let z : ◌≡◌ {A = ℕ} 0 1 = cc (and_right (fits r a) false e) in absurd (omega arith)
join_split (r ∷ (q ∷ rs)) (a ∷ (b ∷ bs)) e p =
    let f : fits r a ≡ true = and_left (fits r a) (fit_all (q ∷ rs) (b ∷ bs)) e in
    let c : first_zero a ≡ length a = fits_clean r a (and_left (not (is_opaque r)) (plain (q ∷ rs)) p) f in
    let ih : split (q ∷ rs) (join (b ∷ bs)) ≡ parts (b ∷ bs)
    = join_split (q ∷ rs) (b ∷ bs) (and_right (fits r a) (fit_all (q ∷ rs) (b ∷ bs)) e) (and_right (not (is_opaque r)) (plain (q ∷ rs)) p) in
    split_one r q rs a (join (b ∷ bs)) c ∙ rw (f, ih)

-- ---- what splits joins

pub passed : (b : Bool) (p : Parts) (args : List Bytes) → cond b p bad ≡ parts args → (b ≡ true) × (p ≡ parts args)
passed true p args e = (refl, e)
passed false p args e = let z : ◌≡◌ {A = ℕ} 0 1 = cc in absurd (omega arith)

pub fronted : (a : Bytes) (p : Parts) (args : List Bytes) → front a p ≡ parts args → (bs : List Bytes) × (p ≡ parts bs) × (args ≡ a ∷ bs)
fronted a bad args e = let z : ◌≡◌ {A = ℕ} 0 1 = cc in absurd (omega arith)
fronted a (parts bs) args e = (bs, refl, cc)

-- the bytes up to a zero byte, the zero byte, and the rest
pub around_zero : (d : Bytes) → first_zero d < length d → take (first_zero d) d ++ (0 ∷ drop (first_zero d + 1) d) ≡ d
around_zero d h = sym (split_at d (first_zero d) 0 h ∙ rw (zero_at_lem d h, add-one))

-- one argument before the others
join_more : (r q : Rule) (rs : List Rule) (d a t : Bytes) (bs args : List Bytes) → a ++ (0 ∷ t) ≡ d → fits r a ≡ true
    → (join bs ≡ t) × (fit_all (q ∷ rs) bs ≡ true) → args ≡ a ∷ bs → (join args ≡ d) × (fit_all (r ∷ (q ∷ rs)) args ≡ true)
unfolding join fit_all
join_more r q rs d a t [] args e f ih w = let z : ◌≡◌ {A = ℕ} 0 1 = cc in absurd (omega arith)
join_more r q rs d a t (b ∷ bs) args e f ih w = (rw (w, ih.0) e, rw w (and_both (fits r a) (fit_all (q ∷ rs) (b ∷ bs)) f ih.1))

pub split_join : (rs : List Rule) (d : Bytes) (args : List Bytes) → split rs d ≡ parts args → (join args ≡ d) × (fit_all rs args ≡ true)
unfolding split join fit_all
split_join [] [] args e = let q : args ≡ [] = cc in (rw q, rw q)
split_join [] (x ∷ d) args e = absurd (omega (arith, eqb-true (length (x ∷ d)) 0 (passed _ _ args e).0))
split_join (r ∷ []) d args e =
    let k = passed (fits r d) (parts (d ∷ [])) args e in
    let q : args ≡ d ∷ [] = cc in
    (rw q, rw q (and_both (fits r d) true k.0 refl))
split_join (r ∷ (q ∷ rs)) d args e =
    let t : Bool × Bool = (ltb (first_zero d) (length d), fits r (take (first_zero d) d)) in
    let k = passed _ _ args e in
    let f = fronted (take (first_zero d) d) (split (q ∷ rs) (drop (first_zero d + 1) d)) args k.1 in
    join_more r q rs d (take (first_zero d) d) (drop (first_zero d + 1) d) f.0 args (around_zero d (ltb-true _ _ (and_left t.0 t.1 k.0))) (and_right t.0 t.1 k.0)
    (split_join (q ∷ rs) (drop (first_zero d + 1) d) f.0 f.1) f.2

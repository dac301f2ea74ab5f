-- Data in two parts: up to the last separator that the rules ask for, and the opaque bytes after it. How the data splits, and where
-- the second part begins, follows from the first part alone. Assumes nothing.
use Prim.Native.Nat.{ℕ, zero, suc, ◌+◌, ◌<◌}
use mathlib.Core.Path.{◌≡◌, refl, ap, sym, ◌∙◌}
use mathlib.Core.Bool.{Bool, true, false, cond}
use mathlib.Core.List.{List, [], ◌∷◌, ◌++◌, append_assoc}
use native.Mathlib.Numerals.{add-one}
use native.Mathlib.Omega.{arith}
use borrow.Author.Tests.{ltb-true}
use lib.ListN.{length, get_or, take, drop, length-append}
use lib.Seq.{take-suc, take-add, append_snoc}
use lib.Dec.{ltb, eqb}
use Rattle.octets.specs.Bytes.{Bytes, first_zero}
use Rattle.octets.proofs.Strings.{and_left, and_right, and_both, zero_at_lem, zero_after}
use Rattle.packet.specs.declared.Rule.{Rule}
use Rattle.packet.specs.declared.Rule.TheVariants.{Text, Digits, Flag, AnyText, Opaque, Absent}
use Rattle.packet.specs.Arguments.{fits, bad, parts, front, split, ends_from}
use Rattle.packet.specs.Opaque.{is_opaque, ends_opaque, has_zeros, past, with_last}
use Rattle.packet_laws.proofs.Splitting.{zero_inside, past_zero, split_one, passed, fronted}

-- n pieces without a zero byte, and a zero byte after each
pub data Heads : ℕ → Bytes → Type 0 where
  none : Heads zero []
  more : {n : ℕ} {t : Bytes} (a v : Bytes) → first_zero a ≡ length a → t ≡ a ++ (0 ∷ v) → Heads n v → Heads (suc n) t

front_step : (x : ℕ) (xs : Bytes) (b : Bool) → eqb x 0 ≡ b → first_zero (take (first_zero xs) xs) ≡ length (take (first_zero xs) xs)
    → first_zero (take (cond b 0 (suc (first_zero xs))) (x ∷ xs)) ≡ length (take (cond b 0 (suc (first_zero xs))) (x ∷ xs))
unfolding first_zero
front_step x xs true e ih = refl
front_step x xs false e ih = rw e (ap suc ih)

-- no zero byte stands before the first one
front_clean : (d : Bytes) → first_zero (take (first_zero d) d) ≡ length (take (first_zero d) d)
unfolding first_zero
front_clean [] = refl
front_clean (x ∷ xs) = front_step x xs (eqb x 0) refl (front_clean xs)

-- the bytes up to the n-th zero byte are such pieces
pub heads : (n : ℕ) (d : Bytes) → has_zeros n d ≡ true → Heads n (take (past n d) d)
unfolding has_zeros past
heads zero d e = none
heads (suc n) d e =
    let f : ℕ = first_zero d in
    let r : Bytes = drop (f + 1) d in
    let h : f < length d = ltb-true _ _ (and_left (ltb f (length d)) (has_zeros n r) e) in
    let t : take (f + 1) d ≡ take f d ++ (0 ∷ []) = rw (add-one, take-suc d f 0, zero_at_lem d h) in
    let s : take (past (suc n) d) d ≡ take f d ++ (0 ∷ take (past n r) r) = rw (take-add, t, append_snoc) in
    more (take f d) (take (past n r) r) (front_clean d) s (heads n r (and_right (ltb f (length d)) (has_zeros n r) e))

past_one : (n : ℕ) (a t : Bytes) → first_zero a ≡ length a
    → (has_zeros (suc n) (a ++ (0 ∷ t)) ≡ has_zeros n t) × (past (suc n) (a ++ (0 ∷ t)) ≡ length a + 1 + past n t)
unfolding has_zeros past
past_one n a t c = (rw (zero_after a t c, zero_inside a t, past_zero a t), rw (zero_after a t c, past_zero a t))

-- whatever follows them, they are the bytes up to the n-th zero byte
pub heads_past : (n : ℕ) (v x : Bytes) → Heads n v → (has_zeros n (v ++ x) ≡ true) × (past n (v ++ x) ≡ length v)
unfolding has_zeros past
heads_past zero v x none = (refl, refl)
heads_past (suc n) t x (more a v c e h) =
    let s : t ++ x ≡ a ++ (0 ∷ (v ++ x)) = rw (e, append_assoc) in
    let p = past_one n a (v ++ x) c in
    let ih = heads_past n v x h in
    let l : length t ≡ length a + suc (length v) = ap length e ∙ length-append a (0 ∷ v) in
    (rw s (p.0 ∙ ih.0), rw s (p.1 ∙ omega (arith, ih.1)))

-- ---- how such data splits

-- rules and a first part: it breaks a rule whatever follows, or it is some arguments and what follows is the last
pub data Fate (rs : List Rule) (v : Bytes) : Type 0 where
  broken : ((x : Bytes) → split rs (v ++ x) ≡ bad) → Fate rs v
  kept : (bs : List Bytes) → ((x : Bytes) → split rs (v ++ x) ≡ parts (bs ++ (x ∷ []))) → Fate rs v

opaque_fits : (r : Rule) (x : Bytes) → is_opaque r ≡ true → fits r x ≡ true
unfolding fits
opaque_fits (Text least most) x e = let z : ◌≡◌ {A = ℕ} 0 1 = cc in absurd (omega arith)
opaque_fits (Digits least most) x e = let z : ◌≡◌ {A = ℕ} 0 1 = cc in absurd (omega arith)
opaque_fits Flag x e = let z : ◌≡◌ {A = ℕ} 0 1 = cc in absurd (omega arith)
opaque_fits AnyText x e = let z : ◌≡◌ {A = ℕ} 0 1 = cc in absurd (omega arith)
opaque_fits Opaque x e = refl
opaque_fits Absent x e = let z : ◌≡◌ {A = ℕ} 0 1 = cc in absurd (omega arith)

module _ (r q : Rule) (rs : List Rule) (t a v : Bytes) (c : first_zero a ≡ length a) (e : t ≡ a ++ (0 ∷ v)) where
  fate_one : (x : Bytes) → split (r ∷ (q ∷ rs)) (t ++ x) ≡ cond (fits r a) (front a (split (q ∷ rs) (v ++ x))) bad
  fate_one x = rw (e, append_assoc) (split_one r q rs a (v ++ x) c)

  fate_more : (b : Bool) → fits r a ≡ b → Fate (q ∷ rs) v → Fate (r ∷ (q ∷ rs)) t
  fate_more false f u = broken (λ x. fate_one x ∙ rw f)
  fate_more true f (broken s) = broken (λ x. fate_one x ∙ rw (f, s x))
  fate_more true f (kept bs s) = kept (a ∷ bs) (λ x. fate_one x ∙ rw (f, s x))

pub fate : (rs : List Rule) (n : ℕ) (v : Bytes) → length rs ≡ suc n → ends_opaque rs ≡ true → Heads n v → Fate rs v
unfolding split
fate [] n v l o h = absurd (omega arith)
fate (r ∷ []) zero v l o none = kept [] (λ x. rw (opaque_fits r x o))
fate (r ∷ []) (suc n) v l o h = absurd (omega arith)
fate (r ∷ (q ∷ rs)) zero v l o h = absurd (omega arith)
fate (r ∷ (q ∷ rs)) (suc n) t l o (more a v c e h) = fate_more r q rs t a v c e (fits r a) refl (fate (q ∷ rs) n v (omega arith) o h)

-- data that splits has a zero byte for each rule but the last
pub split_zeros : (rs : List Rule) (n : ℕ) (d : Bytes) (args : List Bytes) → length rs ≡ suc n → split rs d ≡ parts args → has_zeros n d ≡ true
unfolding split has_zeros
split_zeros [] n d args l e = absurd (omega arith)
split_zeros (r ∷ rs) zero d args l e = refl
split_zeros (r ∷ []) (suc n) d args l e = absurd (omega arith)
split_zeros (r ∷ (q ∷ rs)) (suc n) d args l e =
    let t : Bytes = drop (first_zero d + 1) d in
    let k = passed _ _ args e in
    let f = fronted (take (first_zero d) d) (split (q ∷ rs) t) args k.1 in
    and_both (ltb (first_zero d) (length d)) (has_zeros n t) (and_left (ltb (first_zero d) (length d)) (fits r (take (first_zero d) d)) k.0)
    (split_zeros (q ∷ rs) n t f.0 (omega arith) f.1)

-- ---- the last argument

pub last_replaced : (bs : List Bytes) (x y : Bytes) → with_last y (bs ++ (x ∷ [])) ≡ bs ++ (y ∷ [])
last_replaced [] x y = refl
last_replaced (b ∷ []) x y = refl
last_replaced (b ∷ (c ∷ bs)) x y = ap (λ (l : List Bytes). b ∷ l) (last_replaced (c ∷ bs) x y)

-- the first of two stays
pub first_kept : (o : Bytes) (args : List Bytes) → length args ≡ 2 → get_or (with_last o args) 0 [] ≡ get_or args 0 []
first_kept o [] n = absurd (omega arith)
first_kept o (a ∷ []) n = absurd (omega arith)
first_kept o (a ∷ (b ∷ args)) n = refl

-- what is made of the first two of three and of the length of the last stays, if that length does
pub size_kept : {A : Type 0} (f : Bytes → Bytes → ℕ → A) (o : Bytes) (args : List Bytes) → length args ≡ 3 → length (get_or args 2 []) ≡ length o
    → f (get_or (with_last o args) 0 []) (get_or (with_last o args) 1 []) (length (get_or (with_last o args) 2 [])) ≡ f (get_or args 0 []) (get_or args 1 []) (length (get_or args 2 []))
size_kept f o [] n l = absurd (omega arith)
size_kept f o (a ∷ []) n l = absurd (omega arith)
size_kept f o (a ∷ (b ∷ [])) n l = absurd (omega arith)
size_kept f o (a ∷ (b ∷ (c ∷ []))) n l = ap (f a b) (sym l)
size_kept f o (a ∷ (b ∷ (c ∷ (d ∷ args)))) n l = absurd (omega arith)

pub last_at : (args : List Bytes) (n : ℕ) (y : Bytes) → length args ≡ suc n → get_or (with_last y args) n [] ≡ y
last_at [] n y l = absurd (omega arith)
last_at (a ∷ []) zero y l = refl
last_at (a ∷ []) (suc n) y l = absurd (omega arith)
last_at (a ∷ (b ∷ bs)) zero y l = absurd (omega arith)
last_at (a ∷ (b ∷ bs)) (suc n) y l = last_at (b ∷ bs) n y (omega arith)

-- two last arguments of one length: all ends are the same
pub last_ends : (args : List Bytes) (at : ℕ) (x y : Bytes) → length x ≡ length y → ends_from at (with_last x args) ≡ ends_from at (with_last y args)
last_ends [] at x y l = refl
last_ends (a ∷ []) at x y l = rw l
last_ends (a ∷ (b ∷ bs)) at x y l = ap (λ (es : List ℕ). (at + length a) ∷ es) (last_ends (b ∷ bs) (at + length a + 1) x y l)

-- What the sets of the end of an event are in the server's words: the busy are those with a grabbable job, the connections that
-- wake are those that the server wakes, and the named functions are those that a job names. Assumes nothing.
use Prim.Native.Nat.{ℕ, zero, suc, ◌+◌, ◌<◌, ◌≤◌}
use mathlib.Core.Path.{◌≡◌, refl, ap, sym, ◌∙◌}
use mathlib.Core.Bool.{Bool, true, false, not, cond, ◌&&◌, ◌||◌}
use mathlib.Core.List.{List, [], ◌∷◌, ◌++◌, map}
use native.Mathlib.Nat.{zero-add}
use native.Mathlib.Omega.{arith}
use borrow.Author.Tests.{ltb-false, eq-eqb, ne_eqb}
use lib.ListN.{length, get_or}
use lib.Dec.{eqb, ltb}
use Rattle.octets.proofs.Strings.{and_false}
use Rattle.sets.specs.Sets.{has, insert, union, members, is_empty}
use Rattle.sets.proofs.Laws.{zero_has, has_union, has_only}
use Rattle.server.specs.declared.Connection.{Connection}
use Rattle.server.specs.declared.JobRow.{JobRow}
use Rattle.lists.specs.Lists.{any, filter, map_from, numbers}
use Rattle.lists.proofs.Lists.{numbers_last}
use Rattle.server.specs.Sizes.{function_count}
use Rattle.server.specs.Table.{closed, live, queued, names, grabbable}
use Rattle.server.specs.Events.{awake, woken_in, to_wake_in}
use Rattle.plan.specs.Settling.{wanted_in, wanted_marks}
use Rattle.plan.specs.Busy.{unions, able_for, busy_set, woken_by, wakes_now, to_wake_set, name_of, named_set, marked_by}

-- ---- tests

pub or_assoc : (a b c : Bool) → (a || b) || c ≡ a || (b || c)
or_assoc true b c = refl
or_assoc false b c = refl

pub or_none_lem : (a : Bool) → a || false ≡ a
or_none_lem true = refl
or_none_lem false = refl

-- a set that is empty unless a test holds
pub has_if : (b : Bool) (s c : ℕ) → has (cond b s 0) c ≡ b && has s c
has_if true s c = refl
has_if false s c = zero_has c

-- ---- a union whose sets do not depend on the place

module _ {A : Type 0} (f : A → ℕ) (c : ℕ) (p : A → Bool) (e : (x : A) → has (f x) c ≡ p x) where
  has_joined : (s i : ℕ) (l : List A) → has (unions (λ k x. f x) s i l) c ≡ has s c || any p l
  unfolding unions
  has_joined s i [] = sym (or_none_lem (has s c))
  has_joined s i (x ∷ l) =
      has_joined (union s (f x)) (suc i) l ∙ ap (λ (b : Bool). b || any p l) (has_union s (f x) c ∙ ap (λ (b : Bool). has s c || b) (e x))
      ∙ or_assoc (has s c) (p x) (any p l)

  has_unions : (i : ℕ) (l : List A) → has (unions (λ k x. f x) 0 i l) c ≡ any p l
  has_unions i l = has_joined 0 i l ∙ ap (λ (b : Bool). b || any p l) (zero_has c)

-- the busy are the connections with a grabbable job
pub has_busy : (ables : List ℕ) (rs : List JobRow) (c : ℕ) → has (busy_set ables rs) c ≡ any (grabbable ables c) rs
unfolding busy_set able_for
has_busy ables rs c = has_unions (able_for ables) c (grabbable ables c) (λ r. has_if (queued r) (get_or ables r.function 0) c) 0 rs

-- ---- the functions that jobs name

name_test : (q n : ℕ) → q < function_count → ltb n 16 && eqb n q ≡ eqb n q
name_test q n h = go (ltb n 16) refl
  where
    go : (b : Bool) → ltb n 16 ≡ b → b && eqb n q ≡ eqb n q
    go true e = refl
    go false e = let g : 16 ≤ n = ltb-false n 16 e in sym (ne_eqb n q (λ z. omega arith))

and_assoc : (a b c : Bool) → (a && b) && c ≡ a && (b && c)
and_assoc true b c = refl
and_assoc false b c = refl

has_name : (q : ℕ) → q < function_count → (r : JobRow) → has (name_of r) q ≡ names q r
unfolding name_of
has_name q h r =
    let n = r.function in
    has_if (live r && ltb n 16) (insert 0 n) q ∙ ap (λ (b : Bool). (live r && ltb n 16) && b) (has_only n q)
    ∙ and_assoc (live r) (ltb n 16) (eqb n q) ∙ ap (λ (b : Bool). live r && b) (name_test q n h)

pub has_named : (rs : List JobRow) (q : ℕ) → q < function_count → has (named_set rs) q ≡ any (names q) rs
unfolding named_set
has_named rs q h = has_unions name_of q (names q) (has_name q h) 0 rs

-- the wanted functions are marked as the server wants them
module _ (f g : ℕ → Bool) where
  map_below : (i n : ℕ) → ((k : ℕ) → k < i + n → f k ≡ g k) → map f (numbers i n) ≡ map g (numbers i n)
  map_below i zero e = refl
  map_below i (suc n) e = rw (e i (omega arith), map_below (suc i) n (λ k h. e k (omega arith)))

pub marked_named : (ables : List ℕ) (rs : List JobRow) → marked_by ables (named_set rs) ≡ wanted_marks ables rs
unfolding marked_by wanted_marks
marked_named ables rs =
    map_below (λ q. not (is_empty (get_or ables q 0)) || has (named_set rs) q) (wanted_in ables rs) 0 16
    (λ q h. ap (λ (b : Bool). not (is_empty (get_or ables q 0)) || b) (has_named rs q h))

-- ---- the connections that wake

-- connection c's own set alone decides whether it belongs to the union
has_waking : (busy c : ℕ) (x : Connection) (k : ℕ) → has (wakes_now busy c x) k ≡ (x.asleep && has busy c) && eqb c k
unfolding wakes_now
has_waking busy c x k = has_if (x.asleep && has busy c) (insert 0 c) k ∙ ap (λ (b : Bool). (x.asleep && has busy c) && b) (has_only c k)

and_all : (b : Bool) → b && true ≡ b
and_all true = refl
and_all false = refl

waking_other : (busy c : ℕ) (x : Connection) (s k : ℕ) → (c ≡ k → ⊥) → has (union s (wakes_now busy c x)) k ≡ has s k
waking_other busy c x s k n =
    has_union s (wakes_now busy c x) k
    ∙ ap (λ (b : Bool). has s k || b) (has_waking busy c x k ∙ ap (λ (b : Bool). (x.asleep && has busy c) && b) (ne_eqb c k n) ∙ and_false (x.asleep && has busy c))
    ∙ or_none_lem (has s k)

-- connections before i have been asked
waking_before : (busy s i : ℕ) (cs : List Connection) (k : ℕ) → k < i → has (unions (wakes_now busy) s i cs) k ≡ has s k
unfolding unions
waking_before busy s i [] k h = refl
waking_before busy s i (x ∷ cs) k h =
    waking_before busy (union s (wakes_now busy i x)) (suc i) cs k (omega arith) ∙ waking_other busy i x s k (λ e. omega arith)

-- the rows are woken as the server wakes them
pub woken_busy : (ables : List ℕ) (rs : List JobRow) (cs : List Connection) → woken_by (busy_set ables rs) cs ≡ woken_in ables rs cs
unfolding woken_by woken_in
woken_busy ables rs cs = λ i. map_from (λ c x. cond (x.asleep && has_busy ables rs c i) (awake x) x) 0 cs

has_awakened : (busy s i : ℕ) (cs : List Connection) (k c : ℕ) → c ≡ i + k
    → has (unions (wakes_now busy) s i cs) c ≡ has s c || ((get_or cs k closed).asleep && has busy c)
unfolding unions
has_awakened busy s i [] k c e = sym (or_none_lem (has s c))
has_awakened busy s i (x ∷ cs) zero c e =
    let q : c ≡ i = omega arith in
    waking_before busy (union s (wakes_now busy i x)) (suc i) cs c (omega arith)
    ∙ rw q (has_union s (wakes_now busy i x) i
    ∙ ap (λ (b : Bool). has s i || b) (has_waking busy i x i ∙ ap (λ (b : Bool). (x.asleep && has busy i) && b) (eq-eqb i i refl) ∙ and_all (x.asleep && has busy i)))
has_awakened busy s i (x ∷ cs) (suc k) c e =
    has_awakened busy (union s (wakes_now busy i x)) (suc i) cs k c (omega arith)
    ∙ ap (λ (b : Bool). b || ((get_or cs k closed).asleep && has busy c)) (waking_other busy i x s c (λ q. omega arith))

-- a connection wakes exactly if it sleeps and is busy
pub has_to_wake : (busy : ℕ) (cs : List Connection) (c : ℕ) → has (to_wake_set busy cs) c ≡ (get_or cs c closed).asleep && has busy c
unfolding to_wake_set
has_to_wake busy cs c =
    has_awakened busy 0 0 cs c c (omega arith) ∙ ap (λ (b : Bool). b || ((get_or cs c closed).asleep && has busy c)) (zero_has c)

-- ---- the members of a set are the numbers that belong to it

filter_last : (p : ℕ → Bool) (l : List ℕ) (x : ℕ) → filter p (l ++ (x ∷ [])) ≡ filter p l ++ cond (p x) (x ∷ []) []
filter_last p [] x = refl
filter_last p (y ∷ l) x = go (p y) (filter_last p l x)
  where
    go : (b : Bool) → filter p (l ++ (x ∷ [])) ≡ filter p l ++ cond (p x) (x ∷ []) []
        → cond b (y ∷ filter p (l ++ (x ∷ []))) (filter p (l ++ (x ∷ []))) ≡ cond b (y ∷ filter p l) (filter p l) ++ cond (p x) (x ∷ []) []
    go true e = ap (λ (m : List ℕ). y ∷ m) e
    go false e = e

pub members_filter : (n s : ℕ) → members n s ≡ filter (has s) (numbers 0 n)
unfolding members
members_filter zero s = refl
members_filter (suc n) s =
    let e : numbers 0 (suc n) ≡ numbers 0 n ++ (n ∷ []) = numbers_last 0 n ∙ ap (λ (k : ℕ). numbers 0 n ++ (k ∷ [])) (zero-add n) in
    ap (λ (l : List ℕ). l ++ cond (has s n) (n ∷ []) []) (members_filter n s) ∙ sym (filter_last (has s) (numbers 0 n) n)
    ∙ ap (filter (has s)) (sym e)

-- the connections that wake are those that the server wakes
pub to_wake_busy : (ables : List ℕ) (rs : List JobRow) (cs : List Connection)
    → members (length cs) (to_wake_set (busy_set ables rs) cs) ≡ to_wake_in ables rs cs
unfolding to_wake_in
to_wake_busy ables rs cs =
    members_filter (length cs) (to_wake_set (busy_set ables rs) cs)
    ∙ (λ i. filter (λ c. has_to_wake (busy_set ables rs) cs c i) (numbers 0 (length cs)))
    ∙ (λ i. filter (λ c. (get_or cs c closed).asleep && has_busy ables rs c i) (numbers 0 (length cs)))

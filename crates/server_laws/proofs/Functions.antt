-- A sound table stays sound when connections give up functions, and when a function's name is put at the place that is found for it.
-- Assumes nothing.
use Prim.Native.Nat.{ℕ, suc, ◌<◌}
use mathlib.Core.Path.{◌≡◌, refl, ap, sym, ◌∙◌}
use mathlib.Core.Bool.{Bool, true, false, not}
use Rattle.std.specs.Prelude.{Option, Some, None}
use mathlib.Core.List.{List, [], ◌∷◌}
use native.Mathlib.Decide.{ℕ_discrete}
use borrow.Author.Tests.{not-true, eqb-true}
use lib.ListN.{length, set, length-set}
use lib.Seq.{get_or-set_same, get_or-set_other}
use lib.Dec.{leb}
use Rattle.octets.specs.Bytes.{Bytes, same, zero_free, within}
use Rattle.octets.proofs.Strings.{and_left, and_right, and_both, same_is, same_refl}
use Rattle.packet.specs.Layout.{function}
use Rattle.packet.specs.Arguments.{fits}
use Rattle.sets.specs.Sets.{is_empty}
use Rattle.sets.proofs.Laws.{zero_remove}
use Rattle.lists.specs.Lists.{all, pairwise}
use Rattle.server.specs.Sizes.{name_size}
use Rattle.server.specs.Table.{Function, Table, no_function, no_job, function_at, job_at, set_function, live, known, or_else, room_for, with_functions}
use Rattle.server.specs.Events.{unable}
use Rattle.server.specs.Rules.{text_within, is_known, names_apart, only_open}
use Rattle.lists.proofs.Cases.{All2, all2_set, all2_at}
use Rattle.lists.proofs.Searches.{found}
use Rattle.lists.proofs.Rows.{clash, never, implies_by, implies_use, or_right, all_at, all_imp, all_kept, all_set, pairwise_kept, pairwise_set}
use Rattle.server_laws.proofs.Openness.{open_remove}
use Rattle.server_laws.proofs.Sound.{Sound, job_named, sound_functions}

-- ---- fewer abilities

-- the same name, and no connection able that was not
pub record Less (t : Table) (x y : Function) : Type 0 where
  pub name : y.name ≡ x.name
  pub opened : only_open t x.able ≡ true → only_open t y.able ≡ true
  pub idle : is_empty x.able ≡ true → is_empty y.able ≡ true

pub less_same : (t : Table) (x : Function) → Less t x x
less_same t x = record { name = refl; opened = λ e. e; idle = λ e. e }

pub less_unable : (t : Table) (c : ℕ) (x : Function) → Less t x (unable c x)
less_unable t c x =
    record {
      name = refl;
      opened = open_remove t x.able c;
      idle = λ e. let z : x.able ≡ 0 = eqb-true _ 0 e in rw z (rw (zero_remove c));
    }

pub length_all2 : {A : Type 0} {B : Type 0} {R : A → B → Type 0} {xs : List A} {ys : List B} → All2 R xs ys → length ys ≡ length xs
length_all2 All2.none = refl
length_all2 (All2.more r rs) = ap suc (length_all2 rs)

-- a live job's function is known
pub job_known : (t : Table) → Sound t → (i : ℕ) → i < length t.jobs → live (job_at t i).row ≡ true → is_known (function_at t (job_at t i).row.function) ≡ true
job_known t h i l e = implies_use (live (job_at t i).row) _ (all_at (job_named t) t.jobs i no_job h.jobs_known l) e

pub sound_less : (t : Table) {fs : List Function} → All2 (Less t) t.functions fs → Sound t → Sound (with_functions fs t)
sound_less t {fs} g h =
    sound_functions t fs (length_all2 g)
    (λ i l e. (all2_at {R = Less t} g (job_at t i).row.function no_function no_function (less_same t no_function)).name)
    (all_kept _ _ (λ x y r e. rw r.name e) g h.names)
    (pairwise_kept names_apart (λ a b x y r s e. rw (r.name, s.name) e) g h.functions)
    (all_kept _ _ (λ x y r e. r.opened e) g h.abilities)
    (all_kept _ _ (λ x y r e. implies_by (not (is_empty y.able)) (is_known y) (λ q. rw r.name
    (implies_use (not (is_empty x.able)) _ e (not_idle (is_empty x.able) (is_empty y.able) r.idle q)))) g h.ables_known)
    h
  where
    not_idle : (a b : Bool) → (a ≡ true → b ≡ true) → not b ≡ true → not a ≡ true
    not_idle false b f e = refl
    not_idle true b f e = clash (f refl) (not-true b e)

-- ---- the place for a function

-- the name stands there, or the place is free and the name stands nowhere
pub data Place (t : Table) (f : Bytes) (q : ℕ) : Type 0 where
  there : (function_at t q).name ≡ f → Place t f q
  free : (function_at t q).name ≡ [] → all (λ x. not (same x.name f)) t.functions ≡ true → Place t f q

pub record Room (t : Table) (f : Bytes) (q : ℕ) : Type 0 where
  pub inside : q < length t.functions
  pub place : Place t f q

pub room : (t : Table) (f : Bytes) (q : ℕ) → room_for t.functions f ≡ Some q → Room t f q
room t f q e = go (known t.functions f) refl e
  where
    go : (o : Option ℕ) → known t.functions f ≡ o → or_else o (known t.functions []) ≡ Some q → Room t f q
    go (Some k) r s = let w = found (λ x. same x.name f) no_function t.functions (Some q) (r ∙ s) in record { inside = w.inside; place = there (same_is _ f w.passes) }
    go None r s =
        let w = found (λ x. same x.name []) no_function t.functions (Some q) s in
        record { inside = w.inside; place = free (same_is _ [] w.passes) (found (λ x. same x.name f) no_function t.functions None r) }

-- a name of a request's size is one of a known function
pub name_within : (f : Bytes) → fits function f ≡ true → text_within name_size f ≡ true
unfolding fits
name_within f e = and_both (leb (length f) 32) (zero_free f) (and_right (leb 1 (length f)) _ (and_left (within 1 32 (length f)) (zero_free f) e)) (and_right (within 1 32 (length f)) (zero_free f) e)

pub name_some : (f : Bytes) → fits function f ≡ true → same f [] ≡ false
unfolding fits same
name_some [] e = clash e refl
name_some (x ∷ f) e = refl

module _ (t : Table) (f : Bytes) (q : ℕ) (x : Function) (r : Room t f q) (n : x.name ≡ f) (fit : fits function f ≡ true) (o : only_open t x.able ≡ true) (h : Sound t) where
  known_new : is_known x ≡ true
  known_new = rw (n, name_some f fit)

  names_apart_lem : Place t f q → pairwise names_apart (set t.functions q x) ≡ true
  names_apart_lem (there e) =
      pairwise_kept names_apart {R = λ a b. b.name ≡ a.name} (λ a b y z u v w. rw (u, v) w)
      (all2_set (λ a b. b.name ≡ a.name) (λ a. refl) t.functions q no_function x (n ∙ sym e)) h.functions
  names_apart_lem (free e w) =
      pairwise_set names_apart t.functions q x h.functions
      (all_imp _ _ (λ y v. or_right (not (is_known x)) _ (rw n (other_way y v))) t.functions w)
      (all_imp _ _ (λ y v. or_right (not (is_known y)) _ (rw n v)) t.functions w)
    where
      other_way : (y : Function) → not (same y.name f) ≡ true → not (same f y.name) ≡ true
      other_way y v = ap not (never (same f y.name) (λ s. clash (rw (same_is f y.name s) (same_refl y.name)) (not-true (same y.name f) v)))

  pub room_name : (function_at (set_function t q x) q).name ≡ f
  room_name = ap (λ (y : Function). y.name) (get_or-set_same t.functions q x no_function r.inside) ∙ n

  -- a known function keeps its name
  pub known_stays : (k : ℕ) → is_known (function_at t k) ≡ true → (function_at (set_function t q x) k).name ≡ (function_at t k).name
  known_stays k e = go (ℕ_discrete k q) r.place
    where
      go : Dec (k ≡ q) → Place t f q → (function_at (set_function t q x) k).name ≡ (function_at t k).name
      go (no d) p = ap (λ (y : Function). y.name) (get_or-set_other t.functions q k x no_function d)
      go (yes i) (there w) = rw i (room_name ∙ sym w)
      go (yes i) (free w v) = clash e (rw (i, w) (ap not (same_refl [])))

  pub sound_name : Sound (set_function t q x)
  sound_name =
      sound_functions t (set t.functions q x) (length-set t.functions q x)
      (λ i l e. known_stays (job_at t i).row.function (job_known t h i l e))
      (all_set _ t.functions q x h.names (rw n (name_within f fit)))
      (names_apart_lem r.place)
      (all_set _ t.functions q x h.abilities o)
      (all_set _ t.functions q x h.ables_known (implies_by (not (is_empty x.able)) (is_known x) (λ e. known_new)))
      h

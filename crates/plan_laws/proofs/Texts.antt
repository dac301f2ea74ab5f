-- Which texts an event leaves alone: the table before it has, wherever a job is unfinished, the texts of the table after it.
-- Assumes nothing.
use Prim.Native.Nat.{ℕ, zero, suc}
use mathlib.Core.Path.{◌≡◌, refl, ap, sym, ◌∙◌}
use mathlib.Core.Bool.{Bool, true, false, cond}
use mathlib.Core.List.{List, [], ◌∷◌, map}
use lib.ListN.{get_or, set}
use Rattle.octets.proofs.Strings.{and_left, and_right}
use Rattle.server.specs.declared.JobRow.{JobRow}
use Rattle.lists.specs.Lists.{all}
use Rattle.server.specs.Table.{Function, Job, Table, no_job, with_row, with_texts, with_holder, live, held_by}
use Rattle.server.specs.Rules.{obeys}
use Rattle.server.specs.Events.{left_by, deaf_to}
use Rattle.lists.proofs.Cases.{All2}
use Rattle.lists.proofs.Rows.{clash}
use Rattle.server_laws.proofs.Sound.{row_means, free_none}
use Rattle.server_laws.proofs.Closing.{left_none}
use Rattle.server_laws.proofs.Obeyed.{obeyed}
use Rattle.plan_laws.proofs.Settled.{SameJob, SameTexts}

-- ---- two lists changed together

module _ {A : Type 0} (R : A → A → Type 0) where
  pub both_set : {l m : List A} (i : ℕ) (x y : A) → R x y → All2 R l m → All2 R (set l i x) (set m i y)
  both_set i x y r All2.none = All2.none
  both_set zero x y r (All2.more q qs) = All2.more r qs
  both_set (suc i) x y r (All2.more q qs) = All2.more q (both_set i x y r qs)

  pub left_set : {l m : List A} (i : ℕ) (d x : A) → R x (get_or m i d) → All2 R l m → All2 R (set l i x) m
  left_set i d x r All2.none = All2.none
  left_set zero d x r (All2.more q qs) = All2.more r qs
  left_set (suc i) d x r (All2.more q qs) = All2.more q (left_set i d x r qs)

  pub left_map : (g : A → A) → ((a b : A) → R a b → R (g a) b) → {l m : List A} → All2 R l m → All2 R (map g l) m
  left_map g f All2.none = All2.none
  left_map g f (All2.more q qs) = All2.more (f _ _ q) (left_map g f qs)

  pub both_map : (g h : A → A) → ((a b : A) → R a b → R (g a) (h b)) → {l m : List A} → All2 R l m → All2 R (map g l) (map h m)
  both_map g h f All2.none = All2.none
  both_map g h f (All2.more q qs) = All2.more (f _ _ q) (both_map g h f qs)

  pub each_self : ((a : A) → R a a) → (l : List A) → All2 R l l
  each_self f [] = All2.none
  each_self f (x ∷ l) = All2.more (f x) (each_self f l)

abbrev pub SameName : Function → Function → Type 0
SameName x y = x.name ≡ y.name

-- ---- jobs

-- an unfinished job, with another row of one too
pub rowed_same : (j : Job) (r : JobRow) → live r ≡ true → SameJob (with_row r j) j
rowed_same j r l = record { unfinished = λ e. refl; free = λ e. clash l e }

pub gone_same : (j : Job) → SameJob no_job j
gone_same j = record { unfinished = λ e. clash e refl; free = λ e. refl }

pub live_same : (j : Job) → live j.row ≡ true → SameJob j j
live_same j l = record { unfinished = λ e. refl; free = λ e. clash l e }

means_same : (t : Table) (j : Job) → row_means t j ≡ true → SameJob j j
means_same t j e = record { unfinished = λ l. refl; free = λ l. free_none j l (rw l at e) }

own_jobs : (t : Table) (js : List Job) → all (row_means t) js ≡ true → All2 SameJob js js
own_jobs t [] e = All2.none
own_jobs t (j ∷ js) e = All2.more (means_same t j (and_left (row_means t j) _ e)) (own_jobs t js (and_right (row_means t j) _ e))

-- a table that obeys the rules has its own texts
pub own_texts : (t : Table) → obeys t ≡ true → SameTexts t t
own_texts t ok = record { ids = refl; hub = refl; functions = each_self SameName (λ x. refl) t.functions; jobs = own_jobs t t.jobs (obeyed t ok).sound.rows }

-- ---- a job that a connection leaves

abbrev returned_texts : ℕ → Job → Job
returned_texts c j = cond (held_by c j.row) (with_texts (48 ∷ []) (48 ∷ []) j) j

left_job : (c : ℕ) (j : Job) → SameJob j j → SameJob (left_by c j) (returned_texts c j)
left_job c j s = record { unfinished = λ e. keep (held_by c j.row); free = λ e. gone (held_by c j.row) refl e }
  where
    keep : (b : Bool) → with_row (cond b (with_texts (48 ∷ []) (48 ∷ []) (with_row (with_holder 0 (deaf_to c j.row)) j)) (with_row (deaf_to c j.row) j)).row (cond b (with_texts (48 ∷ []) (48 ∷ []) j) j)
        ≡ cond b (with_texts (48 ∷ []) (48 ∷ []) (with_row (with_holder 0 (deaf_to c j.row)) j)) (with_row (deaf_to c j.row) j)
    keep true = refl
    keep false = refl

    still : (b : Bool) → live (cond b (with_texts (48 ∷ []) (48 ∷ []) (with_row (with_holder 0 (deaf_to c j.row)) j)) (with_row (deaf_to c j.row) j)).row ≡ live j.row
    still true = refl
    still false = refl

    gone : (b : Bool) → held_by c j.row ≡ b → live (left_by c j).row ≡ false → left_by c j ≡ no_job
    gone b q e = ap (left_by c) (s.free (sym (still (held_by c j.row)) ∙ e)) ∙ left_none c

-- a close: held jobs have `0` and `0`, and the others their own texts
pub left_jobs : (c : ℕ) {js : List Job} → All2 SameJob js js → All2 SameJob (map (left_by c) js) (map (returned_texts c) js)
left_jobs c {js} r = go js r
  where
    go : (l : List Job) → All2 SameJob l l → All2 SameJob (map (left_by c) l) (map (returned_texts c) l)
    go [] q = All2.none
    go (j ∷ l) (All2.more q qs) = All2.more (left_job c j q) (go l qs)

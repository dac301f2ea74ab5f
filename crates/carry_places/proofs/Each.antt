-- Places laid one after the other: what one turn of a loop adds, and the table that all of them leave. Assumes nothing.
use Prim.Native.Nat.{ℕ, zero, suc, ◌+◌, ◌-◌, ◌<◌, ◌≤◌}
use mathlib.Core.Path.{◌≡◌, refl, sym, ap, ◌∙◌}
use mathlib.Core.List.{List, [], ◌∷◌, ◌++◌, append_assoc}
use native.Mathlib.Numerals.{add-one}
use native.Mathlib.Omega.{arith}
use lib.ListN.{length, get_or, set, length-append, length-set}
use lib.Seq.{get_or_at, set_at}
use Rattle.octets.specs.Bytes.{Bytes}
use Rattle.octets.specs.Put.{put}
use Rattle.server.specs.declared.Connection.{Connection}
use Rattle.lists.specs.Lists.{map_from}
use Rattle.server.specs.Table.{Function, Job, Table, closed, no_function, no_job, connection_at, function_at, job_at, with_connections, with_functions, with_jobs, set_connection, set_function, set_job}
use Rattle.server.specs.Layout.{bytes_of}
use Rattle.carry_places.specs.Laying.{laid_each}
use Rattle.carry_places.proofs.Laid.{Whole, whole_connections, whole_functions, whole_jobs}

-- ---- a loop

module _ (lay : ℕ → Bytes → Bytes) (n : ℕ) where
  -- one place more
  pub each_turn : (k : ℕ) (x b y : Bytes) → k < n → x ≡ laid_each lay k (n - k) b → y ≡ lay k b → x ≡ laid_each lay (k + 1) (n - (k + 1)) y
  unfolding laid_each
  each_turn k x b y h e q =
      let m : n - k ≡ suc (n - (k + 1)) = omega arith in
      e ∙ rw (m, q, add-one)

  pub each_end : (k : ℕ) (x b : Bytes) → n ≤ k → x ≡ laid_each lay k (n - k) b → b ≡ x
  unfolding laid_each
  each_end k x b h e = let m : n - k ≡ 0 = omega arith in sym (e ∙ rw m)

-- where no place changes anything
pub each_none : (lay : ℕ → Bytes → Bytes) → ((k : ℕ) (b : Bytes) → lay k b ≡ b) → (k n : ℕ) (b : Bytes) → laid_each lay k n b ≡ b
unfolding laid_each
each_none lay e k zero b = refl
each_none lay e k (suc n) b = ap (laid_each lay (suc k) n) (e k b) ∙ each_none lay e (suc k) n b

-- ---- the table

-- a table with n places from k on put anew, one after the other
abbrev pub put_each : (ℕ → Table → Table) → ℕ → ℕ → Table → Table
put_each anew k zero t = t
put_each anew k (suc n) t = put_each anew (suc k) n (anew k t)

module _ (lay : ℕ → Bytes → Bytes) (anew : ℕ → Table → Table) (m : ℕ) (b : Bytes)
    (one : (k : ℕ) (t : Table) → Whole t → k < m → lay k (put 0 (bytes_of t) b) ≡ put 0 (bytes_of (anew k t)) b)
    (keeps : (k : ℕ) (t : Table) → Whole t → Whole (anew k t)) where
  pub each_laid : (k n : ℕ) (t : Table) → Whole t → k + n ≤ m → laid_each lay k n (put 0 (bytes_of t) b) ≡ put 0 (bytes_of (put_each anew k n t)) b
  unfolding laid_each
  each_laid k zero t w h = refl
  each_laid k (suc n) t w h = ap (laid_each lay (suc k) n) (one k t w (omega arith)) ∙ each_laid (suc k) n (anew k t) (keeps k t w) (omega arith)

-- ---- a list whose places are put anew

abbrev set_each : {A : Type 0} → (ℕ → A → A) → A → ℕ → ℕ → List A → List A
set_each g d k zero l = l
set_each g d k (suc n) l = set_each g d (suc k) n (set l k (g k (get_or l k d)))

-- the places before k are as they shall be; those from k on come
set_each_lem : {A : Type 0} (g : ℕ → A → A) (d : A) (front back : List A) (k n : ℕ) → length front ≡ k → length back ≡ n → set_each g d k n (front ++ back) ≡ front ++ map_from g k back
set_each_lem g d front [] k zero l e = refl
set_each_lem g d front [] k (suc n) l e = absurd (omega arith)
set_each_lem g d front (x ∷ back) k zero l e = absurd (omega arith)
set_each_lem {A} g d front (x ∷ back) k (suc n) l e =
    ap (λ (y : A). set_each g d (suc k) n (set (front ++ (x ∷ back)) k (g k y))) (get_or_at front x back d k l)
    ∙ ap (set_each g d (suc k) n) (set_at front x back (g k x) k l ∙ sym (append_assoc front (g k x ∷ []) back))
    ∙ set_each_lem g d (front ++ (g k x ∷ [])) back (suc k) n (length-append front (g k x ∷ []) ∙ omega arith) (omega arith)
    ∙ append_assoc front (g k x ∷ []) (map_from g (suc k) back)

-- ---- jobs, functions, connections

abbrev pub each_job : (ℕ → Job → Job) → ℕ → Table → Table
each_job g p t = set_job t p (g p (job_at t p))

abbrev pub each_function : (ℕ → Function → Function) → ℕ → Table → Table
each_function g q t = set_function t q (g q (function_at t q))

abbrev pub each_connection : (ℕ → Connection → Connection) → ℕ → Table → Table
each_connection g c t = set_connection t c (g c (connection_at t c))

jobs_each : (g : ℕ → Job → Job) (k n : ℕ) (t : Table) → put_each (each_job g) k n t ≡ with_jobs (set_each g no_job k n t.jobs) t
jobs_each g k zero t = refl
jobs_each g k (suc n) t = jobs_each g (suc k) n (each_job g k t)

pub all_jobs : (g : ℕ → Job → Job) (n : ℕ) (t : Table) → length t.jobs ≡ n → put_each (each_job g) 0 n t ≡ with_jobs (map_from g 0 t.jobs) t
all_jobs g n t e = jobs_each g 0 n t ∙ ap (λ (js : List Job). with_jobs js t) (set_each_lem g no_job [] t.jobs 0 n refl e)

functions_each : (g : ℕ → Function → Function) (k n : ℕ) (t : Table) → put_each (each_function g) k n t ≡ with_functions (set_each g no_function k n t.functions) t
functions_each g k zero t = refl
functions_each g k (suc n) t = functions_each g (suc k) n (each_function g k t)

pub all_functions : (g : ℕ → Function → Function) (n : ℕ) (t : Table) → length t.functions ≡ n → put_each (each_function g) 0 n t ≡ with_functions (map_from g 0 t.functions) t
all_functions g n t e = functions_each g 0 n t ∙ ap (λ (fs : List Function). with_functions fs t) (set_each_lem g no_function [] t.functions 0 n refl e)

connections_each : (g : ℕ → Connection → Connection) (k n : ℕ) (t : Table) → put_each (each_connection g) k n t ≡ with_connections (set_each g closed k n t.connections) t
connections_each g k zero t = refl
connections_each g k (suc n) t = connections_each g (suc k) n (each_connection g k t)

pub all_connections : (g : ℕ → Connection → Connection) (n : ℕ) (t : Table) → length t.connections ≡ n → put_each (each_connection g) 0 n t ≡ with_connections (map_from g 0 t.connections) t
all_connections g n t e = connections_each g 0 n t ∙ ap (λ (cs : List Connection). with_connections cs t) (set_each_lem g closed [] t.connections 0 n refl e)

-- ---- they keep the table's size

pub job_whole : (g : ℕ → Job → Job) (k : ℕ) (t : Table) → Whole t → Whole (each_job g k t)
job_whole g k t w = whole_jobs t w _ (length-set t.jobs k _)

pub function_whole : (g : ℕ → Function → Function) (k : ℕ) (t : Table) → Whole t → Whole (each_function g k t)
function_whole g k t w = whole_functions t w _ (length-set t.functions k _)

pub connection_whole : (g : ℕ → Connection → Connection) (k : ℕ) (t : Table) → Whole t → Whole (each_connection g k t)
connection_whole g k t w = whole_connections t w _ (length-set t.connections k _)

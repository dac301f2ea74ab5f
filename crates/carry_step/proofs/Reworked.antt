-- The workloads after a step that changes one row, or none: that place alone is laid anew, and only if its job is another. Assumes
-- nothing.
use Prim.Native.Nat.{ℕ, zero, suc, ◌+◌, ◌-◌, ◌*◌, ◌<◌, ◌≤◌}
use mathlib.Core.Path.{◌≡◌, refl, sym, ap, ◌∙◌}
use mathlib.Core.Bool.{true, cond}
use mathlib.Core.List.{List, [], map}
use native.Mathlib.Nat.{add-zero, add-suc}
use native.Mathlib.Numerals.{add-one}
use native.Mathlib.Omega.{arith}
use borrow.Author.Tests.{eq-eqb}
use lib.ListN.{length, get_or, set, take, length-set}
use lib.Seq.{get_or-set_same, get_or-set_other}
use lib.Dec.{eqb}
use Rattle.octets.specs.Bytes.{Bytes}
use Rattle.octets.specs.Put.{put}
use Rattle.octets.proofs.Laying.{put_none}
use Rattle.server.specs.declared.JobRow.{JobRow}
use Rattle.lists.specs.Lists.{fit, concat, numbers}
use Rattle.server.specs.Sizes.{workload_size}
use Rattle.server.specs.Table.{no_row}
use Rattle.server.specs.Call.{place_of}
use Rattle.carry_workloads.specs.Reworked.{reworked_rows}
use Rattle.carry_workloads.proofs.Places.{places, rework_more, rework_all}

module _ (n : ℕ) (b : Bytes) (js ks : List JobRow) (s : Bytes) (long : 1024 * n ≤ length b) (before : length js ≡ n) (after' : length ks ≡ n) where
  abbrev ps : List Bytes
  ps = places n b js ks s long before after'

  kept_turn : (o : Bytes) (i : ℕ) → i < n → get_or ks i no_row ≡ get_or js i no_row → o ≡ put 0 (concat (take i ps)) b → o ≡ put 0 (concat (take (suc i) ps)) b
  kept_turn o i h e q =
      let t : eqb (get_or js i no_row).serial (get_or ks i no_row).serial ≡ true = eq-eqb _ _ (ap (λ (r : JobRow). r.serial) (sym e)) in
      rw add-one at (rework_more n b js ks s long before after' o o i h q (rw t))

  -- from place i on, k places are kept
  kept_from : (o : Bytes) (i k : ℕ) → i + k ≤ n → ((x : ℕ) → i ≤ x → x < n → x < i + k → get_or ks x no_row ≡ get_or js x no_row) → o ≡ put 0 (concat (take i ps)) b → o ≡ put 0 (concat (take (i + k) ps)) b
  kept_from o i zero h f q = rw add-zero q
  kept_from o i (suc k) h f q =
      rw add-suc (kept_turn o (i + k) (omega arith) (f (i + k) (omega arith) (omega arith) (omega arith)) (kept_from o i k (omega arith) (λ x l m g. f x l m (omega arith)) q))

pub rows_kept : (n : ℕ) (b : Bytes) (js : List JobRow) (s : Bytes) → 1024 * n ≤ length b → length js ≡ n → b ≡ put 0 (concat (reworked_rows js js s (map (place_of b) (numbers 0 n)))) b
rows_kept n b js s long e =
    let z : 0 + n ≡ n = omega arith in
    rework_all n b js js s long e e b (0 + n) (omega arith) (kept_from n b js js s long e e b 0 n (omega arith) (λ x l m g. refl) (sym (put_none 0 b)))

-- the job at place p had this row, and has another
pub row_changed : (n : ℕ) (b : Bytes) (js : List JobRow) (s : Bytes) (p : ℕ) (was r : JobRow) (o : Bytes) → 1024 * n ≤ length b → length js ≡ n → p < n → was ≡ get_or js p no_row
    → o ≡ cond (eqb was.serial r.serial) b (put (workload_size * p) (fit workload_size (cond (eqb r.serial 0) [] s)) b)
    → o ≡ put 0 (concat (reworked_rows js (set js p r) s (map (place_of b) (numbers 0 n)))) b
row_changed n b js s p was r o long e h is q =
    let f : length (set js p r) ≡ n = length-set js p r ∙ e in
    let other : (x : ℕ) → ¬ (x ≡ p) → get_or (set js p r) x no_row ≡ get_or js x no_row = λ x d. get_or-set_other js p x r no_row d in
    let own : get_or (set js p r) p no_row ≡ r = get_or-set_same js p r no_row (rw e h) in
    let start = kept_from n b js (set js p r) s long e f b 0 p (omega arith) (λ x l m g. other x (λ d. omega arith)) (sym (put_none 0 b)) in
    let z : 0 + p ≡ p = omega arith in
    let turn = rework_more n b js (set js p r) s long e f b o p h (rw z at start) (rw own (rw is at q)) in
    rework_all n b js (set js p r) s long e f o (p + 1 + (n - (p + 1))) (omega arith)
    (kept_from n b js (set js p r) s long e f o (p + 1) (n - (p + 1)) (omega arith) (λ x l m g. other x (λ d. omega arith)) turn)

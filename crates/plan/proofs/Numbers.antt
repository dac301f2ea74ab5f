-- The numbers of a table say what the server's definitions say of the table: the settled numbers, whom settling wakes, which functions
-- are wanted, and where the searches by handle end. Assumes nothing.
use Prim.Native.Nat.{ℕ, suc, ◌^◌, ◌<◌, ◌≤◌}
use mathlib.Core.Path.{◌≡◌, refl, ap, ap₂, sym, ◌∙◌}
use mathlib.Core.Bool.{Bool, true, false, not, cond, ◌&&◌}
use Rattle.std.specs.Prelude.{Option, Some, None}
use mathlib.Core.List.{List, [], ◌∷◌, map}
use native.Mathlib.Nat.{zero-add}
use native.Mathlib.Omega.{arith}
use borrow.Author.Tests.{ltb-true, leb-true, eqb-true, eqb-false}
use lib.ListN.{get_or, get_or-map}
use lib.Dec.{leb, eqb}
use Rattle.octets.specs.Bytes.{Bytes, same}
use Rattle.octets.proofs.Strings.{and_false, and_left, and_right}
use Rattle.handle.specs.Handle.{handle, serial_of}
use Rattle.handle.proofs.Handles.{same_serial, other_serial, no_handle}
use Rattle.sets.specs.Sets.{is_empty}
use Rattle.lists.specs.Lists.{all, up, find, map_from}
use Rattle.lists.proofs.Lists.{number_made}
use Rattle.server.specs.declared.JobRow.{JobRow}
use Rattle.server.specs.Sizes.{function_count}
use Rattle.server.specs.Table.{Function, Job, Table, no_function, no_row, no_job, function_at, rows_of, ables_of, live, held_by, has_handle, wanted, job_of}
use Rattle.server.specs.Rules.{next_small, serials_below}
use Rattle.server.specs.Events.{Send, lost, unless_lost, dropped, woken_in, to_wake_in, to_wake, forgot, settle, holds_handle, held_job_of}
use Rattle.plan.specs.Values.{values_of, serial_row, held_row, with_connection_rows, with_ables, with_rows}
use Rattle.plan.specs.Settling.{dropped_rows, wanted_in, wanted_marks, settled_values}

-- ---- settling

-- the rows of the jobs that are left
pub dropped_rows_lem : (js : List Job) → map (λ (j : Job). j.row) (map unless_lost js) ≡ dropped_rows (map (λ (j : Job). j.row) js)
unfolding dropped_rows
dropped_rows_lem [] = refl
dropped_rows_lem (j ∷ js) = ap₂ ◌∷◌ (go (lost j.row)) (dropped_rows_lem js)
  where
    go : (b : Bool) → (cond b no_job j).row ≡ cond b no_row j.row
    go true = refl
    go false = refl

pub wake_values : (t : Table) → to_wake (dropped t) ≡ to_wake_in (ables_of t) (dropped_rows (rows_of t)) t.connections
unfolding dropped
wake_values t = ap (λ (rs : List JobRow). to_wake_in (ables_of t) rs t.connections) (dropped_rows_lem t.jobs)

-- nobody is able to do a function that is forgotten
forgot_able : (rs : List JobRow) (q : ℕ) (x : Function) → (cond (wanted rs q x.able) x no_function).able ≡ x.able
forgot_able rs q x = go (is_empty x.able) refl
  where
    other : (b : Bool) → is_empty x.able ≡ true → (cond b x no_function).able ≡ x.able
    other true e = refl
    other false e = sym (eqb-true x.able 0 e)

    go : (b : Bool) → is_empty x.able ≡ b → (cond (wanted rs q x.able) x no_function).able ≡ x.able
    go true e = other (wanted rs q x.able) e
    go false e = rw e

forgot_ables : (rs : List JobRow) (q : ℕ) (fs : List Function) → map (λ x. x.able) (map_from (λ k x. cond (wanted rs k x.able) x no_function) q fs) ≡ map (λ x. x.able) fs
forgot_ables rs q [] = refl
forgot_ables rs q (x ∷ fs) = ap₂ ◌∷◌ (forgot_able rs q x) (forgot_ables rs (suc q) fs)

pub settled_values_lem : (ss : List Send) (t : Table) → values_of (settle ss t).table ≡ settled_values (values_of t)
unfolding values_of settled_values settle forgot dropped
settled_values_lem ss t = λ i.
    with_connection_rows (woken_in (ables_of t) (dropped_rows_lem t.jobs i) t.connections)
    (with_ables (forgot_ables (map (λ (j : Job). j.row) (map unless_lost t.jobs)) 0 t.functions i) (with_rows (dropped_rows_lem t.jobs i) (values_of t)))

-- the functions that stay known are the marked
pub wanted_values : (t : Table) (q : ℕ) → q < function_count → wanted (rows_of t) q (function_at t q).able ≡ get_or (wanted_marks (ables_of t) (rows_of t)) q false
unfolding wanted_marks
wanted_values t q h =
    ap (wanted (rows_of t) q) (sym (get_or-map (λ (x : Function). x.able) t.functions q no_function))
    ∙ sym (number_made (wanted_in (ables_of t) (rows_of t)) false 0 function_count q h ∙ ap (wanted_in (ables_of t) (rows_of t)) (zero-add q))

-- ---- jobs by handle: where the definitions compare texts, the numbers compare serials

module _ (hub h : Bytes) (s : ℕ) (e : serial_of hub h ≡ Some s) where
  same_as_serial : (n : ℕ) → 1 ≤ n → n < 2 ^ 32 → same (handle hub n) h ≡ eqb n s
  same_as_serial n l k = go (eqb n s) refl
    where
      go : (b : Bool) → eqb n s ≡ b → same (handle hub n) h ≡ b
      go true q = let p : n ≡ s = eqb-true n s q in rw p (same_serial hub h s e)
      go false q = let p : n ≡ s → ⊥ = eqb-false n s q in other_serial hub h n s l k e (λ z. p (sym z))

  has_serial : (r : JobRow) → r.serial < 2 ^ 32 → has_handle hub h r ≡ live r && eqb r.serial s
  unfolding has_handle
  has_serial r k = go (eqb r.serial 0) refl
    where
      go : (b : Bool) → eqb r.serial 0 ≡ b → not b && same (handle hub r.serial) h ≡ not b && eqb r.serial s
      go true q = refl
      go false q = let p : r.serial ≡ 0 → ⊥ = eqb-false r.serial 0 q in same_as_serial r.serial (omega arith) k

  holds_serial : (c : ℕ) (r : JobRow) → r.serial < 2 ^ 32 → holds_handle hub c h r ≡ held_by c r && eqb r.serial s
  unfolding holds_handle
  holds_serial c r k = ap (λ (b : Bool). held_by c r && b) (has_serial r k) ∙ go (live r) (eqb r.holder (suc c)) (eqb r.serial s)
    where
      go : (a b d : Bool) → (a && b) && (a && d) ≡ (a && b) && d
      go true b d = refl
      go false b d = refl

no_serial_lem : (hub h : Bytes) → serial_of hub h ≡ None → (r : JobRow) → r.serial < 2 ^ 32 → has_handle hub h r ≡ false
unfolding has_handle
no_serial_lem hub h e r k = go (eqb r.serial 0) refl
  where
    go : (b : Bool) → eqb r.serial 0 ≡ b → not b && same (handle hub r.serial) h ≡ false
    go true q = refl
    go false q = let p : r.serial ≡ 0 → ⊥ = eqb-false r.serial 0 q in no_handle hub h r.serial (omega arith) k e

-- tests of rows that say the same where serials are small
module _ (p q : JobRow → Bool) (n : ℕ) (f : (r : JobRow) → r.serial ≤ n → p r ≡ q r) where
  find_same : (js : List Job) → all (λ j. leb j.row.serial n) js ≡ true → find (λ j. p j.row) js ≡ find q (map (λ j. j.row) js)
  find_same [] a = refl
  find_same (j ∷ js) a =
      let h = leb-true j.row.serial n (and_left (leb j.row.serial n) _ a) in
      ap₂ (λ (b : Bool) (o : Option ℕ). cond b (Some 0) (up o)) (f j.row h) (find_same js (and_right (leb j.row.serial n) _ a))

find_nothing : (rs : List JobRow) → find (λ r. false) rs ≡ None
find_nothing [] = refl
find_nothing (r ∷ rs) = ap up (find_nothing rs)

module _ (t : Table) (h : Bytes) (small : next_small t ≡ true) (below : serials_below t ≡ true) where
  fits : (r : JobRow) → r.serial ≤ t.last → r.serial < 2 ^ 32
  fits r l = let k = ltb-true t.last 4294967296 small in omega arith

  pub serial_values : (s : ℕ) → serial_of t.hub h ≡ Some s → job_of t h ≡ serial_row s (rows_of t)
  unfolding serial_row
  serial_values s e = find_same (has_handle t.hub h) (λ r. live r && eqb r.serial s) t.last (λ r l. has_serial t.hub h s e r (fits r l)) t.jobs below

  pub held_values : (c s : ℕ) → serial_of t.hub h ≡ Some s → held_job_of t c h ≡ held_row c s (rows_of t)
  unfolding held_row
  held_values c s e =
      find_same (holds_handle t.hub c h) (λ r. held_by c r && eqb r.serial s) t.last (λ r l. holds_serial t.hub h s e c r (fits r l)) t.jobs below

  module _ (e : serial_of t.hub h ≡ None) where
    pub serial_none : job_of t h ≡ None
    serial_none = find_same (has_handle t.hub h) (λ r. false) t.last (λ r l. no_serial_lem t.hub h e r (fits r l)) t.jobs below ∙ find_nothing (rows_of t)

    pub held_none : (c : ℕ) → held_job_of t c h ≡ None
    unfolding holds_handle
    held_none c =
        find_same (holds_handle t.hub c h) (λ r. false) t.last (λ r l. ap (λ (b : Bool). held_by c r && b) (no_serial_lem t.hub h e r (fits r l)) ∙ and_false (held_by c r)) t.jobs below
        ∙ find_nothing (rows_of t)

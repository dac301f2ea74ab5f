-- The laws of a job's row that go by its fields: a row is what its fields are, a free one is the empty row, a live one's numbers are in
-- range, and stay so in a row with another holder. Others cite these, so that a new field is looked at here. Assumes nothing.
use Prim.Native.Nat.{ℕ, ◌<◌, ◌≤◌}
use mathlib.Core.Path.{◌≡◌}
use mathlib.Core.Bool.{Bool, true, false, not}
use native.Mathlib.Omega.{arith}
use borrow.Author.Tests.{eqb-true, leb-true, ltb-true, le-leb, lt-ltb, not-true, not-false}
use lib.Dec.{leb, ltb, eqb}
use Rattle.octets.proofs.Strings.{and_left, and_right, and_both}
use Rattle.sets.specs.Sets.{is_empty}
use Rattle.server.specs.declared.JobRow.{JobRow}
use Rattle.server.specs.Table.{no_row, fresh_row, with_holder, live}
use Rattle.server.specs.Rules.{numbers_free, numbers_in_range}

-- a row from its fields
pub row_is : (r : JobRow) {s f p l h z : ℕ} {b : Bool} → s ≡ r.serial → f ≡ r.function → p ≡ r.priority → b ≡ r.background → l ≡ r.listeners → h ≡ r.holder → z ≡ r.size
    → ◌≡◌ {A = JobRow} (record { serial = s; function = f; priority = p; background = b; listeners = l; holder = h; size = z }) r
row_is r e1 e2 e3 e4 e5 e6 e7 = rw (e1, e2, e3, e4, e5, e6, e7)

-- a row without a job is zero throughout
pub free_row_lem : (r : JobRow) → live r ≡ false → numbers_free r ≡ true → r ≡ no_row
free_row_lem r l e =
    let e2 = and_right (eqb r.function 0) _ e in
    let e3 = and_right (eqb r.priority 0) _ e2 in
    let e4 = and_right (not r.background) _ e3 in
    let e5 = and_right (is_empty r.listeners) _ e4 in
    let a0 : r.serial ≡ 0 = eqb-true _ 0 (not-false _ l) in
    let a1 : r.function ≡ 0 = eqb-true _ 0 (and_left (eqb r.function 0) _ e) in
    let a2 : r.priority ≡ 0 = eqb-true _ 0 (and_left (eqb r.priority 0) _ e2) in
    let a3 : r.background ≡ false = not-true _ (and_left (not r.background) _ e3) in
    let a4 : r.listeners ≡ 0 = eqb-true _ 0 (and_left (is_empty r.listeners) _ e4) in
    let a5 : r.holder ≡ 0 = eqb-true _ 0 (and_left (eqb r.holder 0) _ e5) in
    let a6 : r.size ≡ 0 = eqb-true _ 0 (and_right (eqb r.holder 0) _ e5) in
    λ i. record { serial = a0 i; function = a1 i; priority = a2 i; background = a3 i; listeners = a4 i; holder = a5 i; size = a6 i }

-- ---- numbers in range

-- what the range of a live row's numbers says, with m functions and n connections
pub record InRange (m n : ℕ) (r : JobRow) : Type 0 where
  pub priority : r.priority ≤ 2
  pub function : r.function < m
  pub holder : r.holder ≤ n

module _ (m n : ℕ) where
  pub in_range : (r : JobRow) → numbers_in_range m n r ≡ true → InRange m n r
  in_range r e =
      let e2 = and_right (leb r.priority 2) _ e in
      record {
        priority = leb-true _ _ (and_left (leb r.priority 2) _ e);
        function = ltb-true _ _ (and_left (ltb r.function m) _ e2);
        holder = leb-true _ _ (and_right (ltb r.function m) _ e2);
      }

  pub range_by : (r : JobRow) → InRange m n r → numbers_in_range m n r ≡ true
  range_by r h =
      and_both (leb r.priority 2) _ (le-leb _ 2 h.priority) (and_both (ltb r.function m) _ (lt-ltb _ m h.function) (le-leb _ n h.holder))

  -- a row with another holder, and the row of a new job
  pub range_holder : (r : JobRow) (h : ℕ) → h ≤ n → numbers_in_range m n r ≡ true → numbers_in_range m n (with_holder h r) ≡ true
  range_holder r h l e = let x = in_range r e in range_by (with_holder h r) (record { priority = x.priority; function = x.function; holder = l })

  pub range_fresh : (s q priority size : ℕ) → priority ≤ 2 → q < m → numbers_in_range m n (fresh_row s q priority size) ≡ true
  range_fresh s q priority size l h = range_by (fresh_row s q priority size) (record { priority = l; function = h; holder = omega arith })

-- ---- numbers that fit their bytes

-- those whose range the row's own rule says
pub record RangeFits (r : JobRow) : Type 0 where
  pub priority : r.priority < 256
  pub function : r.function < 256
  pub holder : r.holder < 65536

pub free_fits : RangeFits no_row
free_fits = record { priority = omega arith; function = omega arith; holder = omega arith }

pub range_fits : (m n : ℕ) → m ≤ 256 → n ≤ 256 → (r : JobRow) → numbers_in_range m n r ≡ true → RangeFits r
range_fits m n l k r e = let x = in_range m n r e in record { priority = omega arith; function = omega arith; holder = omega arith }

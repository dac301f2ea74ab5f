-- How a loop finds whether some entry passes a test, and what is read of the rows when one job is over. Assumes nothing.
use Prim.Native.Nat.{ℕ, ◌+◌, ◌<◌, ◌≤◌}
use mathlib.Core.Path.{◌≡◌, refl, ap, sym, ◌∙◌}
use mathlib.Core.Bool.{Bool, false, cond, ◌&&◌, ◌||◌}
use mathlib.Core.List.{List, ◌∷◌}
use native.Mathlib.Numerals.{add-one}
use native.Mathlib.Omega.{arith}
use lib.ListN.{length, get_or, set, drop, length-set, drop_of_length-le}
use lib.Seq.{drop-cons, get_or-set_same, get_or-set_other, set_out}
use Rattle.octets.specs.Bytes.{Bytes}
use Rattle.sets.specs.Sets.{has}
use Rattle.server.specs.declared.JobRow.{JobRow}
use Rattle.lists.specs.Lists.{any}
use Rattle.server.specs.Sizes.{connection_count}
use Rattle.server.specs.Table.{no_row, queued, names, grabbable}
use Rattle.server.specs.Layout.{table_of}
use Rattle.lists.proofs.Cases.{cond_both}
use Rattle.plan.specs.declared.Values.{Values}
use Rattle.plan.specs.Values.{values_of}
use Rattle.plan.specs.Parts.{row_in}
use Rattle.plan_settle.proofs.Sleepers.{or_assoc, or_none_lem}
use Rattle.plan.proofs.Sizes.{rows_long}

-- ---- some entry: what was found before place i, or some entry from i on

module _ {A : Type 0} (f : A → Bool) (l : List A) (n i : ℕ) (r : Bool) (long : length l ≡ n) (e : any f l ≡ r || any f (drop i l)) where
  pub any_turn : (d : A) (v : Bool) → i < n → v ≡ f (get_or l i d) → any f l ≡ (r || v) || any f (drop (i + 1) l)
  any_turn d v h q =
      let c : drop i l ≡ get_or l i d ∷ drop (i + 1) l = rw add-one (drop-cons l i d (omega arith)) in
      e ∙ ap (λ (x : List A). r || any f x) c ∙ ap (λ (b : Bool). r || (b || any f (drop (i + 1) l))) (sym q) ∙ sym (or_assoc r v (any f (drop (i + 1) l)))

  pub any_end : n ≤ i → r ≡ any f l
  any_end h = sym (e ∙ ap (λ (x : List A). r || any f x) (drop_of_length-le l {i = i} (omega arith)) ∙ or_none_lem r)

-- ---- the rows of a table, with one over

module _ (b : Bytes) where
  pub left_long : (p : ℕ) → length (set (values_of (table_of connection_count b)).rows p no_row) ≡ 32
  left_long p = length-set (values_of (table_of connection_count b)).rows p no_row ∙ rows_long b

  -- place 32 is none
  pub none_over : set (values_of (table_of connection_count b)).rows 32 no_row ≡ (values_of (table_of connection_count b)).rows
  none_over = set_out (values_of (table_of connection_count b)).rows 32 no_row (omega (arith, rows_long b))

module _ (rs : List JobRow) (q over i : ℕ) where
  pub names_none : i < length rs → i ≡ over → false ≡ names q (get_or (set rs over no_row) i no_row)
  names_none h e =
      let g : get_or (set rs over no_row) i no_row ≡ no_row = rw e (get_or-set_same rs over no_row no_row (rw e at h)) in
      sym (ap (names q) g)

  pub names_other : ¬ (i ≡ over) → names q (get_or rs i no_row) ≡ names q (get_or (set rs over no_row) i no_row)
  names_other d = ap (names q) (sym (get_or-set_other rs over i no_row no_row d))

-- ---- a job that can be grabbed, from what was read

pub grab_read : (v : Values) (c i : ℕ) (r : JobRow) (s : ℕ) (b : Bool) → r ≡ row_in v i → s ≡ get_or v.able r.function 0 → b ≡ has s c
    → queued r && b ≡ grabbable v.able c (row_in v i)
grab_read v c i r s b e f g =
    ap (λ (x : Bool). queued r && x) (g ∙ ap (λ (y : ℕ). has y c) f) ∙ ap (grabbable v.able c) e

-- ---- a set that is empty unless a test holds

pub none_to_choose : (b : Bool) (r s : ℕ) → r ≡ s → r ≡ 0 → 0 ≡ cond b s 0
none_to_choose b r s e z = cond_both (λ (x : ℕ). 0 ≡ x) b (sym z ∙ e) refl

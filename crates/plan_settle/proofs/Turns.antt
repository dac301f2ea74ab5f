-- How loops meet their definitions: one that fills an array place by place, and one that joins sets entry by entry; and what the
-- single rows come to. Assumes nothing.
use Prim.Native.Nat.{ℕ, ◌+◌, ◌<◌, ◌≤◌}
use mathlib.Core.Path.{◌≡◌, refl, ap, sym, ◌∙◌}
use mathlib.Core.Bool.{Bool, true, false, not, cond, ◌&&◌, ◌||◌}
use mathlib.Core.List.{List}
use native.Mathlib.Nat.{zero-add}
use native.Mathlib.Numerals.{add-one}
use lib.ListN.{length, get_or, set, take, drop, length-map, get_or-map, drop_of_length-le}
use lib.Seq.{drop-cons, take_all, take-suc, take-suc-set}
use Rattle.sets.specs.Sets.{has, union, is_empty}
use Rattle.server.specs.declared.Connection.{Connection}
use Rattle.server.specs.declared.JobRow.{JobRow}
use Rattle.lists.specs.Lists.{numbers}
use Rattle.server.specs.Table.{no_row, closed, with_asleep}
use Rattle.server.specs.Events.{lost, awake}
use Rattle.lists.proofs.Lists.{length_numbers, number_made}
use Rattle.lists.proofs.Rows.{length_map_from, map_from_at}
use Rattle.plan.specs.Settling.{dropped_rows}
use Rattle.plan.specs.Busy.{unions, woken_by, marked_by}

-- ---- sets joined from the front: the union is that of the entries from i on and what is joined so far

module _ {A : Type 0} (f : ℕ → A → ℕ) (l : List A) (u s i : ℕ) (e : u ≡ unions f s i (drop i l)) where
  pub union_turn : (d : A) (r v : ℕ) → i < length l → r ≡ union s v → v ≡ f i (get_or l i d) → u ≡ unions f r (i + 1) (drop (i + 1) l)
  unfolding unions
  union_turn d r v h p q = e ∙ rw (add-one, drop-cons l i d h, p, q)

  pub union_end : length l ≤ i → s ≡ u
  unfolding unions
  union_end h = let q : unions f s i (drop i l) ≡ s = rw (drop_of_length-le l h) in sym (e ∙ q)

-- ---- the wholes by place

pub length_dropped : (rs : List JobRow) → length (dropped_rows rs) ≡ length rs
unfolding dropped_rows
length_dropped rs = length-map rs (λ r. cond (lost r) no_row r)

pub dropped_at : (rs : List JobRow) (i : ℕ) → get_or (dropped_rows rs) i no_row ≡ cond (lost (get_or rs i no_row)) no_row (get_or rs i no_row)
unfolding dropped_rows
dropped_at rs i = get_or-map (λ r. cond (lost r) no_row r) rs i no_row

pub length_woken : (busy : ℕ) (cs : List Connection) → length (woken_by busy cs) ≡ length cs
unfolding woken_by
length_woken busy cs = length_map_from (λ c x. cond (x.asleep && has busy c) (awake x) x) 0 cs

pub woken_at : (busy : ℕ) (cs : List Connection) (i : ℕ)
    → get_or (woken_by busy cs) i closed ≡ cond ((get_or cs i closed).asleep && has busy i) (awake (get_or cs i closed)) (get_or cs i closed)
unfolding woken_by
woken_at busy cs i = map_from_at (λ c x. cond (x.asleep && has busy c) (awake x) x) closed (λ k. refl) cs i

pub length_marked : (ables : List ℕ) (s : ℕ) → length (marked_by ables s) ≡ 16
unfolding marked_by
length_marked ables s = length-map (numbers 0 16) (λ q. not (is_empty (get_or ables q 0)) || has s q) ∙ length_numbers 0 16

pub marked_at : (ables : List ℕ) (s i : ℕ) → i < 16 → get_or (marked_by ables s) i false ≡ not (is_empty (get_or ables i 0)) || has s i
unfolding marked_by
marked_at ables s i h =
    let wants : ℕ → Bool = λ q. not (is_empty (get_or ables q 0)) || has s q in
    number_made wants false 0 16 i h ∙ ap wants (zero-add i)

-- ---- a row

pub roused_row : (x : Connection) (b : Bool)
    → ◌≡◌ {A = Connection} (with_asleep (x.asleep && not b) x) (cond (x.asleep && b) (awake x) x)
roused_row x b = go x.asleep b refl
  where
    go : (a b : Bool) → x.asleep ≡ a → ◌≡◌ {A = Connection} (with_asleep (a && not b) x) (cond (a && b) (awake x) x)
    go true true e = refl
    go true false e = λ i. with_asleep (sym e i) x
    go false b e = λ i. with_asleep (sym e i) x

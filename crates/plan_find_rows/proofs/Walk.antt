-- The walk for the best row: what a row, or several that are no better, leave of it; what the best so far says; where it ends; and where
-- it need not begin. Assumes nothing.
use Prim.Native.Nat.{ℕ, zero, suc, ◌+◌, ◌*◌, ◌<◌, ◌≤◌}
use Rattle.std.specs.Prelude.{Some, None}
use mathlib.Core.Path.{◌≡◌, refl, sym, ap, ◌∙◌}
use mathlib.Core.Bool.{Bool, true, false, not, true≢false}
use mathlib.Core.List.{List}
use native.Mathlib.Nat.{add-zero}
use native.Mathlib.Omega.{arith}
use borrow.Author.Tests.{ltb-true, ltb-false, not-true, not-false}
use lib.ListN.{length, get_or, take}
use lib.Seq.{take_all, length-take-le, get_or-take}
use lib.Dec.{eqb, ltb}
use Rattle.octets.specs.Bytes.{Bytes}
use Rattle.sets.specs.Sets.{has}
use Rattle.sets.proofs.Laws.{zero_has}
use Rattle.server.specs.declared.JobRow.{JobRow}
use Rattle.lists.specs.Lists.{all, numbers}
use Rattle.server.specs.Sizes.{connection_count, function_count, job_count}
use Rattle.server.specs.Table.{no_row, queued, ables_of, rows_of, rank, best_row}
use Rattle.server.specs.Layout.{little_at, row_in, table_of, serials_at, able_at}
use Rattle.plan.specs.Values.{values_of}
use Rattle.table_rows.proofs.Reading.{row_place, able_inside, able_beyond}
use Rattle.table_passes.specs.Unions.{Joined}
use Rattle.lists.proofs.Rows.{below_at}
use Rattle.table_passes.proofs.Tests.{some_by}
use Rattle.table_passes.proofs.Rows.{free_rows}
use Rattle.plan_find_rows.specs.declared.queue.Best as Q'
use Rattle.plan_find_rows.specs.Queue.{rank_of, stays_behind, BestOf}
use Rattle.plan_find_rows.proofs.Greatest.{top_kept, best_kept, top_rises, best_moves, best_says}
use Rattle.plan_find_rows.proofs.Ranks.{rank_idle, rank_unable, rank_able, rank_most, rank_some, behind}
use Rattle.plan_find_rows.proofs.Rows.{rows_long}

module _ (b : Bytes) (c : ℕ) where
  abbrev rs : List JobRow
  rs = rows_of (table_of connection_count b)

  abbrev ables : List ℕ
  ables = ables_of (table_of connection_count b)

  abbrev rank_here : JobRow → ℕ
  rank_here = rank ables c

  -- ---- rows passed

  module _ (i : ℕ) (v : Q'.Best) (h : i < job_count) (g : BestOf b c i v) where
    here : i < length rs
    here = rw (rows_long b) h

    row_passed : rank_here (row_in connection_count b i) ≤ v.rank → BestOf b c (i + 1) v
    unfolding best_row
    row_passed m =
        let k : rank_here (get_or rs i no_row) ≤ v.rank = rw (row_place b i h) m in
        (top_kept rank_here rs i no_row here v.rank g.0 k, g.1 ∙ sym (best_kept rank_here rs i no_row here v.rank g.0 k))

    row_taken : (k : ℕ) → k ≡ rank_here (row_in connection_count b i) → v.rank < k → BestOf b c (i + 1) (record { place = Some i; rank = k })
    unfolding best_row
    row_taken k e m =
        let q : k ≡ rank_here (get_or rs i no_row) = rw (row_place b i h) e in
        let l : v.rank < rank_here (get_or rs i no_row) = omega arith in
        (q ∙ top_rises rank_here rs i no_row here v.rank g.0 l, sym (best_moves rank_here rs i no_row here v.rank g.0 l))

    -- what the code asks of a row, in its order
    pub row_idle : (q : Bool) → q ≡ queued (row_in connection_count b i) → not q ≡ true → BestOf b c (i + 1) v
    row_idle q e n = row_passed (rw (rank_idle ables c (row_in connection_count b i) (sym e ∙ not-true q n)) (omega arith))

    pub row_worse : (k : ℕ) → k ≡ rank_of (row_in connection_count b i) → k ≤ v.rank → BestOf b c (i + 1) v
    row_worse k e m = row_passed (omega (arith, rank_most ables c (row_in connection_count b i)))

    module _ (a : Bool) (ea : a ≡ has (get_or ables (row_in connection_count b i).function 0) c) where
      pub row_unable : a ≡ false → BestOf b c (i + 1) v
      row_unable n = row_passed (rw (rank_unable ables c (row_in connection_count b i) (sym ea ∙ n)) (omega arith))

      pub row_best : (q : Bool) (k : ℕ) → q ≡ queued (row_in connection_count b i) → not q ≡ false → k ≡ rank_of (row_in connection_count b i) → v.rank < k → a ≡ true
          → BestOf b c (i + 1) (record { place = Some i; rank = k })
      row_best q k eq n ek m t = row_taken k (ek ∙ sym (rank_able ables c (row_in connection_count b i) (sym eq ∙ not-false q n) (sym ea ∙ t))) m

  -- n rows that are no better
  rows_passed : (n i : ℕ) (v : Q'.Best) → i + n ≤ 32 → BestOf b c i v → ((k : ℕ) → k < n → rank_here (row_in connection_count b (i + k)) ≤ v.rank) → BestOf b c (i + n) v
  rows_passed zero i v h g m = rw add-zero g
  rows_passed (suc n) i v h g m =
      let e : i + suc n ≡ i + n + 1 = omega arith in
      rw e (row_passed (i + n) v (omega arith) (rows_passed n i v (omega arith) g (λ k l. m k (omega arith))) (m n (omega arith)))

  -- ---- eight rows passed

  module _ (p : ℕ) (v : Q'.Best) (h : p + 8 ≤ 32) (g : BestOf b c p v) where
    pub free_passed : all (λ k. eqb (get_or b (serials_at + 4 * p + k) 0) 0) (numbers 0 job_count) ≡ true → BestOf b c (p + 8) v
    free_passed z = rows_passed 8 p v h g (λ k l. rw (rank_idle ables c (row_in connection_count b (p + k)) (rw (free_rows b p z k l))) (omega arith))

    -- the best so far
    pub best_there : (i : ℕ) → v.place ≡ Some i → (i < job_count) × (v.rank ≡ rank_of (row_in connection_count b i))
    unfolding best_row
    best_there i e =
        let n : length (take p rs) ≡ p = length-take-le p rs (omega (arith, rows_long b)) in
        let (inside, same, some_rank) = best_says rank_here no_row (take p rs) i (sym g.1 ∙ e) in
        let l : i < p = omega arith in
        let r : get_or (take p rs) i no_row ≡ row_in connection_count b i = get_or-take p rs i no_row l ∙ row_place b i (omega arith) in
        let q : rank_here (row_in connection_count b i) ≡ v.rank = ap rank_here (sym r) ∙ same ∙ sym g.0 in
        (omega arith, sym q ∙ rank_some ables c (row_in connection_count b i) (λ z. some_rank (omega arith)))

    -- none of them goes before it
    pub behind_passed : (i : ℕ) → v.place ≡ Some i → all (λ k. stays_behind (row_in connection_count b i).priority (row_in connection_count b i).serial (row_in connection_count b (p + k))) (numbers 0 8) ≡ true
        → BestOf b c (p + 8) v
    behind_passed i e a =
        rows_passed 8 p v h g
        (λ k l. omega (
          arith,
          rank_most ables c (row_in connection_count b (p + k)),
          (best_there i e).1,
          behind (row_in connection_count b i).priority (row_in connection_count b i).serial (row_in connection_count b (p + k))
              (below_at (λ k. stays_behind (row_in connection_count b i).priority (row_in connection_count b i).serial (row_in connection_count b (p + k))) 8 k a l),
        ))

  -- ---- the walk's start and end

  pub best_start : BestOf b c 0 (record { place = None; rank = 0 })
  unfolding best_row
  best_start = (refl, refl)

  pub best_end : (v : Q'.Best) → BestOf b c 32 v → v.place ≡ best_row ables rs c
  best_end v g = g.1 ∙ ap (λ (l : List JobRow). best_row ables l c) (take_all 32 rs (omega (arith, rows_long b)))

  -- ---- a connection that can do nothing: no function's set has it, so that every row is passed

  module _ (s : ℕ) (j : Joined (λ q. little_at 4 b (able_at + 4 * q)) 16 s) (n : has s c ≡ false) where
    unable : (q : ℕ) → has (get_or ables q 0) c ≡ false
    unfolding values_of
    unable q = go (ltb q 16) refl
      where
        lacks : (t : Bool) → has (little_at 4 b (able_at + 4 * q)) c ≡ t → q < function_count → t ≡ false
        lacks true e h = absurd (true≢false (sym (j c ∙ some_by (λ q. has (little_at 4 b (able_at + 4 * q)) c) 16 q h e) ∙ n))
        lacks false e h = refl

        go : (t : Bool) → ltb q 16 ≡ t → has (get_or ables q 0) c ≡ false
        go true e =
            let h = ltb-true q 16 e in
            ap (λ (x : ℕ). has x c) (sym (able_inside b q _ h refl)) ∙ lacks _ refl h
        go false e = ap (λ (x : ℕ). has x c) (sym (able_beyond b q 0 (ltb-false q 16 e) refl)) ∙ zero_has c

    pub unable_nowhere : None ≡ best_row ables rs c
    unable_nowhere =
        best_end (record { place = None; rank = 0 })
        (rows_passed 32 0 (record { place = None; rank = 0 }) (omega arith) best_start
        (λ k l. rw (rank_unable ables c (row_in connection_count b (0 + k)) (unable (row_in connection_count b (0 + k)).function)) (omega arith)))

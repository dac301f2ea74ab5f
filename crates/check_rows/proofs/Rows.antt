-- The tests of the rows say what the rules say. Assumes nothing.
use Prim.Native.Nat.{ℕ, ◌+◌, ◌*◌, ◌<◌, ◌≤◌}
use mathlib.Core.Path.{◌≡◌, refl, sym, ap, ◌∙◌}
use mathlib.Core.Bool.{Bool, true, false, not, cond, ◌&&◌, ◌||◌}
use mathlib.Core.List.{List, map}
use native.Mathlib.Omega.{arith}
use borrow.Author.Tests.{ltb-true, ltb-false, eqb-true, lt-ltb, le-leb, lt-leb}
use lib.ListN.{length, get_or}
use lib.Dec.{eqb, leb, ltb}
use Rattle.octets.specs.Bytes.{Bytes}
use Rattle.octets.proofs.Strings.{and_left, and_right}
use Rattle.lists.specs.Lists.{all, numbers, implies}
use Rattle.server.specs.Sizes.{connection_count, function_count, job_count}
use Rattle.server.specs.Layout.{little_at, row_in, serials_at, listeners_at, sizes_at, holders_at, backgrounds_at, functions_at, table_size}
use Rattle.table_laws.specs.Tests.{are_flags}
use Rattle.table_laws.proofs.Columns.{places_at}
use Rattle.table_laws.proofs.Same.{and_assoc}
use Rattle.table_passes.proofs.Tests.{iff, and_true, and_same, same_below, all_and}
use Rattle.check_image.proofs.Places.{flag_at}
use Rattle.check_rows.specs.Rows.{numbers_mean, is_awaited, rows_mean, mark_of, Marked, bytes_in_range, holder_in_range, free_or_awaited}

-- a mark is zero exactly if its number is
pub mark_none : (x : ℕ) → eqb (mark_of x) 0 ≡ eqb x 0
mark_none x = go (eqb x 0)
  where
    go : (t : Bool) → eqb (cond t 0 1) 0 ≡ t
    go true = refl
    go false = refl

below_16 : (x : ℕ) → leb x 15 ≡ ltb x 16
below_16 x = go (ltb x 16) refl
  where
    go : (t : Bool) → ltb x 16 ≡ t → leb x 15 ≡ t
    go true e = let h = ltb-true x 16 e in le-leb x 15 (omega arith)
    go false e = let h = ltb-false x 16 e in lt-leb x 15 (omega arith)

-- ---- a row by what of it is zero: holder h, listeners l, size z, priority p, function f; g is the flag

module _ (h l z p f g most within near : Bool) (ep : p ≡ true → most ≡ true) (ef : f ≡ true → within ≡ true) (eh : h ≡ true → near ≡ true) where
  free_means : (most && within) && (near && ((h && (l && not g)) && (z && (p && f)))) ≡ (f && (p && (not g && (l && (h && z))))) && true
  free_means = iff ((most && within) && (near && ((h && (l && not g)) && (z && (p && f))))) ((f && (p && (not g && (l && (h && z))))) && true) to from
    where
      to : (most && within) && (near && ((h && (l && not g)) && (z && (p && f)))) ≡ true → (f && (p && (not g && (l && (h && z))))) && true ≡ true
      to e =
          let e1 = and_right near ((h && (l && not g)) && (z && (p && f))) (and_right (most && within) _ e) in
          let e2 = and_left (h && (l && not g)) (z && (p && f)) e1 in
          let e3 = and_right h (l && not g) e2 in
          let e4 = and_right (h && (l && not g)) (z && (p && f)) e1 in
          let e5 = and_right z (p && f) e4 in
          rw (and_right p f e5, and_left p f e5, and_right l (not g) e3, and_left l (not g) e3, and_left h (l && not g) e2, and_left z (p && f) e4)

      from : (f && (p && (not g && (l && (h && z))))) && true ≡ true → (most && within) && (near && ((h && (l && not g)) && (z && (p && f)))) ≡ true
      from e =
          let e1 = and_left (f && (p && (not g && (l && (h && z))))) true e in
          let e2 = and_right f (p && (not g && (l && (h && z)))) e1 in
          let e3 = and_right p (not g && (l && (h && z))) e2 in
          let e4 = and_right (not g) (l && (h && z)) e3 in
          let e5 = and_right l (h && z) e4 in
          let qf = and_left f (p && (not g && (l && (h && z)))) e1 in
          let qp = and_left p (not g && (l && (h && z))) e2 in
          let qh = and_left h z e5 in
          rw (ep qp, ef qf, eh qh, qf, qp, and_left (not g) (l && (h && z)) e3, and_left l (h && z) e4, qh, and_right h z e5)

  live_means : (most && within) && (near && (not (h && (l && not g)) && true)) ≡ (most && (within && near)) && implies h (g || not l)
  live_means = ap (λ (x : Bool). (most && within) && (near && (x && true))) (awaits h l g) ∙ regroup most within near (implies h (g || not l))
    where
      awaits : (h l g : Bool) → not (h && (l && not g)) ≡ implies h (g || not l)
      awaits false l g = refl
      awaits true false false = refl
      awaits true false true = refl
      awaits true true false = refl
      awaits true true true = refl

      regroup : (a b c d : Bool) → (a && b) && (c && (d && true)) ≡ (a && (b && c)) && d
      regroup true true true d = and_true d
      regroup true true false d = refl
      regroup true false c d = refl
      regroup false b c d = refl

  means : (s : Bool) → (most && within) && (near && ((s || not (h && (l && not g))) && (not s || ((h && (l && not g)) && (z && (p && f))))))
      ≡ cond (not s) (most && (within && near)) (f && (p && (not g && (l && (h && z))))) && implies (not s && h) (g || not l)
  means true = free_means
  means false = live_means

module _ (b : Bytes) (live heard held sized : List ℕ) (el : Marked 4 b serials_at live) (eh : Marked 4 b (listeners_at connection_count) heard) (ed : Marked 2 b holders_at held) (ez : Marked 2 b sizes_at sized)
    (long : table_size connection_count ≤ length b) (flags : are_flags job_count b backgrounds_at ≡ true) where
  row_means_lem : (k : ℕ) → k < job_count → bytes_in_range b k && (holder_in_range b k && free_or_awaited live heard held sized b k) ≡ numbers_mean (row_in connection_count b k) && is_awaited (row_in connection_count b k)
  row_means_lem k g =
      let flag : eqb (get_or b (backgrounds_at + k) 0) 0 ≡ not (eqb (get_or b (backgrounds_at + k) 0) 1) = flag_at 32 b backgrounds_at (omega arith) flags k g in
      rw (
        el k g,
        eh k g,
        ed k g,
        ez k g,
        mark_none (little_at 4 b (serials_at + 4 * k)),
        mark_none (little_at 4 b (listeners_at connection_count + 4 * k)),
        mark_none (little_at 2 b (holders_at + 2 * k)),
        mark_none (little_at 2 b (sizes_at + 2 * k)),
        flag,
        below_16 (get_or b (functions_at + k) 0),
      )
      (means (eqb (row_in connection_count b k).holder 0) (eqb (row_in connection_count b k).listeners 0) (eqb (row_in connection_count b k).size 0) (eqb (row_in connection_count b k).priority 0) (eqb (row_in connection_count b k).function 0)
      (eqb (get_or b (backgrounds_at + k) 0) 1) (leb (row_in connection_count b k).priority 2) (ltb (row_in connection_count b k).function function_count) (leb (row_in connection_count b k).holder connection_count)
      (λ e. let r = eqb-true (row_in connection_count b k).priority 0 e in le-leb (row_in connection_count b k).priority 2 (omega arith))
      (λ e. let r = eqb-true (row_in connection_count b k).function 0 e in lt-ltb (row_in connection_count b k).function function_count (omega arith))
      (λ e. let r = eqb-true (row_in connection_count b k).holder 0 e in le-leb (row_in connection_count b k).holder connection_count (omega arith)) (eqb (row_in connection_count b k).serial 0))

  pub rows_mean_lem : (p q r : Bool) → p ≡ all (bytes_in_range b) (numbers 0 job_count) → q ≡ all (holder_in_range b) (numbers 0 job_count)
      → r ≡ all (free_or_awaited live heard held sized b) (numbers 0 job_count) → p && (q && r) ≡ rows_mean b
  unfolding rows_mean
  rows_mean_lem p q r ep eq er =
      and_same ep (and_same eq er ∙ sym (all_and (holder_in_range b) (free_or_awaited live heard held sized b) (numbers 0 job_count)))
      ∙ sym (all_and (bytes_in_range b) (λ k. holder_in_range b k && free_or_awaited live heard held sized b k) (numbers 0 job_count))
      ∙ same_below (λ k. bytes_in_range b k && (holder_in_range b k && free_or_awaited live heard held sized b k)) (λ k. numbers_mean (row_in connection_count b k) && is_awaited (row_in connection_count b k)) 32 row_means_lem

-- a number out of range is enough
pub out_of_range : (b : Bytes) (live : List ℕ) → Marked 4 b serials_at live → table_size connection_count ≤ length b → are_flags job_count b backgrounds_at ≡ true → (p q : Bool)
    → p ≡ all (bytes_in_range b) (numbers 0 job_count) → q ≡ all (holder_in_range b) (numbers 0 job_count) → p && q ≡ false → false ≡ rows_mean b
out_of_range b live el long flags p q ep eq e =
    ap (λ (x : Bool). x && all (free_or_awaited live heard held sized b) (numbers 0 job_count)) (sym e) ∙ and_assoc p q _
    ∙ rows_mean_lem b live heard held sized el (marks 4 (listeners_at connection_count)) (marks 2 holders_at) (marks 2 sizes_at) long flags p q _ ep eq refl
  where
    column : ℕ → ℕ → List ℕ
    column w at = map (λ k. mark_of (little_at w b (at + w * k))) (numbers 0 job_count)

    heard : List ℕ
    heard = column 4 (listeners_at connection_count)

    held : List ℕ
    held = column 2 holders_at

    sized : List ℕ
    sized = column 2 sizes_at

    marks : (w at : ℕ) → Marked w b at (column w at)
    marks w at k g = places_at (λ k. mark_of (little_at w b (at + w * k))) 0 32 k g

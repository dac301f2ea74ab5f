-- Places of one width laid over a buffer one after the other: a place is kept, or another run of its width is laid over it. Then the
-- loop: after i turns the first i places are laid. Assumes nothing.
use Prim.Native.Nat.{ℕ, zero, suc, ◌+◌, ◌*◌, ◌<◌, ◌≤◌}
use mathlib.Core.Path.{◌≡◌, refl, sym, ap, ◌∙◌}
use mathlib.Core.Bool.{Bool, true, false, cond, not}
use mathlib.Core.List.{List, [], ◌∷◌, ◌++◌, map, append-nil, append_assoc}
use native.Mathlib.Nat.{zero-add}
use native.Mathlib.Numerals.{add-one}
use native.Mathlib.Omega.{arith}
use lib.ListN.{length, get_or, take, replicate}
use lib.Seq.{take-suc, take_all, length-take-le}
use lib.Dec.{eqb}
use Rattle.octets.specs.Bytes.{Bytes}
use Rattle.octets.specs.Put.{over, put}
use Rattle.octets.proofs.Laying.{put_next}
use Rattle.server.specs.declared.JobRow.{JobRow}
use Rattle.lists.specs.Lists.{fit, concat, numbers}
use Rattle.server.specs.Sizes.{workload_size}
use Rattle.server.specs.Table.{no_row}
use Rattle.server.specs.Server.{reworked}
use Rattle.server.specs.Call.{place_of}
use Rattle.lists.proofs.Lists.{fit_none}
use Rattle.lists.proofs.Cases.{All}
use Rattle.table_laws.specs.Tests.{part}
use Rattle.table_laws.proofs.Columns.{length_places, places_at}
use Rattle.table_laws.proofs.Image.{put_own}
use Rattle.server_calls.proofs.Workloads.{length_concat, wide_places}
use Rattle.carry_workloads.specs.Reworked.{reworked_rows}
use Rattle.carry_workloads.proofs.Rows.{length_reworked, whole_reworked, reworked_at}

-- ---- runs

-- a buffer's own bytes, laid right after a run, change nothing
put_kept : (k : ℕ) (s b : Bytes) → put 0 (s ++ part k b (length s)) b ≡ put 0 s b
unfolding put over
put_kept k [] b = put_own k b
put_kept k (x ∷ s) [] = refl
put_kept k (x ∷ s) (y ∷ b) = ap (λ (l : Bytes). x ∷ l) (put_kept k s b)

concat_end : (xs : List Bytes) (y : Bytes) → concat (xs ++ (y ∷ [])) ≡ concat xs ++ y
concat_end [] y = append-nil y
concat_end (x ∷ xs) y = ap (λ (l : Bytes). x ++ l) (concat_end xs y) ∙ sym (append_assoc x (concat xs) y)

all_take : {A : Type 0} {P : A → Type 0} {xs : List A} (n : ℕ) → All P xs → All P (take n xs)
all_take zero h = All.none
all_take (suc n) All.none = All.none
all_take (suc n) (All.more p ps) = All.more p (all_take n ps)

-- ---- places of k bytes

module _ (k : ℕ) where
  -- one turn: o is b with the first i of the places rs, and the next is kept, or laid anew
  module _ (rs : List Bytes) (wide : All (λ (w : Bytes). length w ≡ k) rs) (b o : Bytes) (i : ℕ) (h : i < length rs) (e : o ≡ put 0 (concat (take i rs)) b) where
    length_first : length (concat (take i rs)) ≡ k * i
    length_first = length_concat k (take i rs) (all_take i wide) ∙ ap (λ (n : ℕ). k * n) (length-take-le i rs (omega arith))

    first_next : concat (take (i + 1) rs) ≡ concat (take i rs) ++ get_or rs i []
    first_next = rw (add-one, take-suc rs i [] h) (concat_end (take i rs) (get_or rs i []))

    next_kept : get_or rs i [] ≡ part k b (k * i) → o ≡ put 0 (concat (take (i + 1) rs)) b
    next_kept q = rw (e, first_next, q, ← length_first) (sym (put_kept k (concat (take i rs)) b))

    next_laid : put (k * i) (get_or rs i []) o ≡ put 0 (concat (take (i + 1) rs)) b
    next_laid = rw (e, first_next, ← put_next 0 (concat (take i rs)) (get_or rs i []) b (k * i) length_first, zero-add)

    -- `same`: the place keeps its job; `free`: no job is left there
    place_turn : (same free : Bool) (s p : Bytes) → get_or rs i [] ≡ cond same (part k b (k * i)) (cond (not free) (fit k s) (replicate k 0))
        → p ≡ cond same o (put (k * i) (fit k (cond free [] s)) o) → p ≡ put 0 (concat (take (i + 1) rs)) b
    place_turn true free s p q f = f ∙ next_kept q
    place_turn false true s p q f = f ∙ ap (λ (r : Bytes). put (k * i) r o) (fit_none k ∙ sym q) ∙ next_laid
    place_turn false false s p q f = f ∙ ap (λ (r : Bytes). put (k * i) r o) (sym q) ∙ next_laid

-- ---- the loop over the n places

module _ (n : ℕ) (b : Bytes) (js ks : List JobRow) (s : Bytes) (long : 1024 * n ≤ length b) (before : length js ≡ n) (after' : length ks ≡ n) where
  -- the n places after the event
  abbrev pub places : List Bytes
  places = reworked_rows js ks s (map (place_of b) (numbers 0 n))

  length_after : length places ≡ n
  length_after = length_reworked js ks s (map (place_of b) (numbers 0 n)) ∙ length_places (place_of b) 0 n

  pub rework_more : (o p : Bytes) (i : ℕ) → i < n → o ≡ put 0 (concat (take i places)) b
      → (let x = (get_or js i no_row).serial in let y = (get_or ks i no_row).serial in p ≡ cond (eqb x y) o (put (workload_size * i) (fit workload_size (cond (eqb y 0) [] s)) o))
      → p ≡ put 0 (concat (take (i + 1) places)) b
  rework_more o p i h e f =
      let ws = map (place_of b) (numbers 0 n) in
      let wide = whole_reworked js ks s (wide_places 1024 n b long 0 n (omega arith)) in
      let l : length ws ≡ n = length_places (place_of b) 0 n in
      let at = reworked_at js ks s ws i (omega arith) (omega arith) (omega arith) ∙ ap (reworked (get_or js i no_row) (get_or ks i no_row) s) (places_at (place_of b) [] n i h) in
      place_turn 1024 places wide b o i (rw length_after h) e (eqb (get_or js i no_row).serial (get_or ks i no_row).serial) (eqb (get_or ks i no_row).serial 0) s p at f

  pub rework_all : (o : Bytes) (i : ℕ) → n ≤ i → o ≡ put 0 (concat (take i places)) b → o ≡ put 0 (concat places) b
  rework_all o i h e = e ∙ ap (λ (rs : List Bytes). put 0 (concat rs) b) (take_all i places (rw length_after h))

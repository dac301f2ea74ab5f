-- The workloads from the rows alone are the server's; how many places there are, how wide each is, and what stands at each.
-- Assumes nothing.
use Prim.Native.Nat.{ℕ, zero, suc, ◌<◌}
use mathlib.Core.Path.{◌≡◌, refl, ap}
use mathlib.Core.List.{List, [], ◌∷◌, map}
use native.Mathlib.Nat.{le_of_suc-le-suc, not-suc-le-zero}
use lib.ListN.{length, get_or}
use Rattle.octets.specs.Bytes.{Bytes}
use Rattle.server.specs.declared.JobRow.{JobRow}
use Rattle.server.specs.Table.{Job, no_row}
use Rattle.server.specs.Server.{reworked, rework}
use Rattle.lists.proofs.Cases.{All}
use Rattle.server_laws.proofs.Lengths.{Whole, whole_place}
use Rattle.carry_workloads.specs.Reworked.{reworked_rows}

-- the server's definition, from the rows alone
pub rework_rows : (js ks : List Job) (o : Bytes) (ws : List Bytes) → rework js ks o ws ≡ reworked_rows (map (λ j. j.row) js) (map (λ k. k.row) ks) o ws
unfolding reworked_rows
rework_rows [] ks o ws = refl
rework_rows (j ∷ js) [] o ws = refl
rework_rows (j ∷ js) (k ∷ ks) o [] = refl
rework_rows (j ∷ js) (k ∷ ks) o (w ∷ ws) = ap (λ (r : List Bytes). reworked j.row k.row o w ∷ r) (rework_rows js ks o ws)

pub length_reworked : (js ks : List JobRow) (o : Bytes) (ws : List Bytes) → length (reworked_rows js ks o ws) ≡ length ws
unfolding reworked_rows
length_reworked [] ks o ws = refl
length_reworked (j ∷ js) [] o ws = refl
length_reworked (j ∷ js) (k ∷ ks) o [] = refl
length_reworked (j ∷ js) (k ∷ ks) o (w ∷ ws) = ap suc (length_reworked js ks o ws)

-- places of 1,024 bytes stay so
pub whole_reworked : (js ks : List JobRow) (o : Bytes) {ws : List Bytes} → All Whole ws → All Whole (reworked_rows js ks o ws)
unfolding reworked_rows
whole_reworked [] ks o e = e
whole_reworked (j ∷ js) [] o e = e
whole_reworked (j ∷ js) (k ∷ ks) o All.none = All.none
whole_reworked (j ∷ js) (k ∷ ks) o (All.more e es) = All.more (whole_place j k o _ e) (whole_reworked js ks o es)

pub reworked_at : (js ks : List JobRow) (o : Bytes) (ws : List Bytes) (i : ℕ) → i < length js → i < length ks → i < length ws
    → get_or (reworked_rows js ks o ws) i [] ≡ reworked (get_or js i no_row) (get_or ks i no_row) o (get_or ws i [])
unfolding reworked_rows
reworked_at [] ks o ws i h k l = absurd (not-suc-le-zero h)
reworked_at (j ∷ js) [] o ws i h k l = absurd (not-suc-le-zero k)
reworked_at (j ∷ js) (m ∷ ks) o [] i h k l = absurd (not-suc-le-zero l)
reworked_at (j ∷ js) (m ∷ ks) o (w ∷ ws) zero h k l = refl
reworked_at (j ∷ js) (m ∷ ks) o (w ∷ ws) (suc i) h k l = reworked_at js ks o ws i (le_of_suc-le-suc h) (le_of_suc-le-suc k) (le_of_suc-le-suc l)

-- A row of a table of edges: what a history must answer, and whether it does. Assumes nothing.
use Prim.Native.Nat.{ℕ}
use mathlib.Core.Bool.{Bool, true, false, ◌&&◌}
use mathlib.Core.List.{List, [], ◌∷◌}
use Rattle.octets.specs.Bytes.{Bytes, same}
use Rattle.handle.specs.Handle.{lap}
use Rattle.server.specs.Requests.{Event}
use Rattle.server.proofs.Histories.{numbers_of, packets_of}

-- the name of the hub, a history, the number of each of its events, and the packets that its last event sends
pub record Edge : Type 0 where
  pub hub : Bytes
  pub history : List Event
  pub numbers : List ℕ
  pub packets : List Bytes

abbrev pub edge_at : Bytes → List Event → List ℕ → List Bytes → Edge
edge_at hub h ns ps = record { hub = hub; history = h; numbers = ns; packets = ps }

-- 02: "document 01's cases keep `lap`"
abbrev pub edge : List Event → List ℕ → List Bytes → Edge
edge h ns ps = edge_at lap h ns ps

abbrev pub same_all : List Bytes → List Bytes → Bool
unfolding same
same_all [] [] = true
same_all [] (q ∷ qs) = false
same_all (p ∷ ps) [] = false
same_all (p ∷ ps) (q ∷ qs) = same p q && same_all ps qs

abbrev last_of : List (List Bytes) → List Bytes
last_of [] = []
last_of (x ∷ []) = x
last_of (x ∷ (y ∷ ys)) = last_of (y ∷ ys)

unfoldable pub holds : Edge → Bool
unfolding numbers_of packets_of same
holds e = same (numbers_of e.hub e.history) e.numbers && same_all (last_of (packets_of e.hub e.history)) e.packets

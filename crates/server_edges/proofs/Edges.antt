-- Document 01, "Edges to try": each edge marked (P) is a row of one table, and one theorem says that every row holds. What the right
-- server answers where one makes an error "that looks reasonable" stands beside the definitions, in server/proofs/. Assumes nothing.
use Prim.Native.Nat.{ℕ, zero, suc}
use mathlib.Core.Path.{◌≡◌, refl}
use mathlib.Core.Bool.{Bool, true, ◌&&◌}
use mathlib.Core.List.{List, [], ◌∷◌, ◌++◌, map}
use lib.ListN.{replicate}
use lib.Dec.{T}
use Rattle.octets.specs.Bytes.{Bytes}
use Rattle.server.specs.Table.{id_at}
use Rattle.server.specs.Requests.{Event, opens, closes}
use Rattle.server.proofs.Histories.{request, response, table_after}
use Rattle.server.proofs.Edge.{Edge, edge, holds}

pub all_hold : List Edge → Bool
unfolding holds
all_hold [] = true
all_hold (e ∷ es) = holds e && all_hold es

-- ---- words

-- `f`, `u`, `v`, `w`
abbrev f : Bytes
f = 102 ∷ []

abbrev u : Bytes
u = 117 ∷ []

abbrev v : Bytes
v = 118 ∷ []

abbrev w : Bytes
w = 119 ∷ []

-- so many letters `a`
abbrev letters : ℕ → Bytes
letters n = replicate n 97

-- `H:lap:` and this digit
abbrev handle_of : ℕ → Bytes
handle_of digit = 72 ∷ 58 ∷ 108 ∷ 97 ∷ 112 ∷ 58 ∷ digit ∷ []

-- the ERROR packets that the table needs, as document 01 spells them
abbrev arguments' : Bytes
arguments' = 97 ∷ 114 ∷ 103 ∷ 117 ∷ 109 ∷ 101 ∷ 110 ∷ 116 ∷ 115 ∷ []

abbrev jobs' : Bytes
jobs' = 106 ∷ 111 ∷ 98 ∷ 115 ∷ []

abbrev handle' : Bytes
handle' = 104 ∷ 97 ∷ 110 ∷ 100 ∷ 108 ∷ 101 ∷ []

-- the same event n times
abbrev times : ℕ → Event → List Event
times zero e = []
times (suc n) e = e ∷ times n e

pub edges : List Edge
unfolding request response
edges =
    -- "Function 32 bytes: done; 33 or 0: 10."
    edge (opens 0 ∷ request 0 18 (letters 32 ∷ [] ∷ [] ∷ []) ∷ request 0 18 (letters 33 ∷ [] ∷ [] ∷ []) ∷ request 0 18 ([] ∷ [] ∷ [] ∷ []) ∷ [])
    (0 ∷ 0 ∷ 10 ∷ 10 ∷ [])
    (response 0 19 ((49 ∷ 48 ∷ []) ∷ arguments' ∷ []) ∷ [])
    -- "Unique 64: done; 65: 10."
    ∷ edge (opens 0 ∷ request 0 18 (f ∷ letters 64 ∷ [] ∷ []) ∷ request 0 18 (f ∷ letters 65 ∷ [] ∷ []) ∷ [])
    (0 ∷ 0 ∷ 10 ∷ [])
    (response 0 19 ((49 ∷ 48 ∷ []) ∷ arguments' ∷ []) ∷ [])
    -- "Size 1,024: done; 1,025: 7."
    ∷ edge (opens 0 ∷ request 0 18 (f ∷ [] ∷ letters 1021 ∷ []) ∷ request 0 18 (f ∷ [] ∷ letters 1022 ∷ []) ∷ []) (0 ∷ 0 ∷ 7 ∷ []) []
    -- "Type 5, no data, connection 2: `02005245530000001300000007` + `30390074797065`, number 9."
    ∷ edge (opens 2 ∷ request 2 5 [] ∷ []) (0 ∷ 9 ∷ [])
    ((0x02 ∷ 0x00 ∷ 0x52 ∷ 0x45 ∷ 0x53 ∷ 0x00 ∷ 0x00 ∷ 0x00 ∷ 0x13 ∷ 0x00 ∷ 0x00 ∷ 0x00 ∷ 0x07 ∷ 0x30 ∷ 0x39 ∷ 0x00 ∷ 0x74 ∷ 0x79 ∷ 0x70 ∷ 0x65 ∷ []) ∷ [])
    -- "`H:lap:01` is no handle of job 1: 14."
    ∷ edge (opens 0 ∷ request 0 1 (f ∷ []) ∷ request 0 18 (f ∷ [] ∷ [] ∷ []) ∷ request 0 9 [] ∷ request 0 13 ((72 ∷ 58 ∷ 108 ∷ 97 ∷ 112 ∷ 58 ∷ 48 ∷ 49 ∷ []) ∷ [] ∷ []) ∷ [])
    (0 ∷ 0 ∷ 0 ∷ 0 ∷ 14 ∷ [])
    (response 0 19 ((49 ∷ 52 ∷ []) ∷ handle' ∷ []) ∷ [])
    -- "Empty unique twice: two jobs."
    ∷ edge (opens 0 ∷ request 0 7 (f ∷ [] ∷ w ∷ []) ∷ request 0 7 (f ∷ [] ∷ w ∷ []) ∷ []) (0 ∷ 0 ∷ 0 ∷ []) (response 0 8 (handle_of 50 ∷ []) ∷ [])
    -- "Same unique twice from one connection: one job, one listener."
    ∷ edge (opens 0 ∷ opens 1 ∷ request 1 1 (f ∷ []) ∷ request 0 7 (f ∷ u ∷ w ∷ []) ∷ request 0 7 (f ∷ u ∷ v ∷ []) ∷ request 1 9 [] ∷ request 1 14 (handle_of 49 ∷ []) ∷ [])
    (replicate 7 0)
    (response 0 14 (handle_of 49 ∷ []) ∷ [])
    ∷ edge (opens 0 ∷ opens 1 ∷ request 1 1 (f ∷ []) ∷ request 0 7 (f ∷ u ∷ w ∷ []) ∷ request 0 7 (f ∷ u ∷ v ∷ []) ∷ request 1 9 [] ∷ request 1 9 [] ∷ [])
    (replicate 7 0)
    (response 1 10 [] ∷ [])
    -- "Low serial 1 and high serial 2: 2 is grabbed first."
    ∷ edge (opens 0 ∷ request 0 33 (f ∷ [] ∷ w ∷ []) ∷ request 0 21 (f ∷ [] ∷ v ∷ []) ∷ request 0 1 (f ∷ []) ∷ request 0 9 [] ∷ [])
    (replicate 5 0)
    (response 0 11 (handle_of 50 ∷ f ∷ v ∷ []) ∷ [])
    -- "Holder leaves, listener stays: queued, same handle."
    ∷ edge (opens 0 ∷ opens 1 ∷ opens 2 ∷ request 1 1 (f ∷ []) ∷ request 2 1 (f ∷ []) ∷ request 0 7 (f ∷ u ∷ w ∷ []) ∷ request 1 9 [] ∷ closes 1 ∷ request 2 9 [] ∷ [])
    (replicate 9 0)
    (response 2 11 (handle_of 49 ∷ f ∷ w ∷ []) ∷ [])
    -- "32 jobs done; 33rd new: 12; a join then: done."
    ∷ edge (opens 0 ∷ request 0 7 (f ∷ u ∷ w ∷ []) ∷ (times 31 (request 0 7 (f ∷ [] ∷ w ∷ [])) ++ (request 0 7 (f ∷ v ∷ w ∷ []) ∷ [])))
    (replicate 33 0 ++ (12 ∷ []))
    (response 0 19 ((49 ∷ 50 ∷ []) ∷ jobs' ∷ []) ∷ [])
    ∷ edge (opens 0 ∷ request 0 7 (f ∷ u ∷ w ∷ []) ∷ (times 31 (request 0 7 (f ∷ [] ∷ w ∷ [])) ++ (request 0 7 (f ∷ v ∷ w ∷ []) ∷ request 0 7 (f ∷ u ∷ w ∷ []) ∷ [])))
    (replicate 33 0 ++ (12 ∷ 0 ∷ []))
    (response 0 8 (handle_of 49 ∷ []) ∷ [])
    ∷ []

-- not marked (P). In each edge above a job's serial is its place plus one where it is assigned; here the first place is taken a second
-- time, by the job with serial 2, and given by JOB_ASSIGN and by JOB_ASSIGN_UNIQ
pub second_tenants : List Edge
unfolding request response
second_tenants =
    edge (opens 0 ∷ request 0 1 (f ∷ []) ∷ request 0 7 (f ∷ u ∷ w ∷ []) ∷ request 0 9 [] ∷ request 0 14 (handle_of 49 ∷ []) ∷ request 0 7 (f ∷ u ∷ v ∷ []) ∷ request 0 9 [] ∷ [])
    (replicate 7 0)
    (response 0 11 (handle_of 50 ∷ f ∷ v ∷ []) ∷ [])
    ∷ edge (opens 0 ∷ request 0 1 (f ∷ []) ∷ request 0 7 (f ∷ u ∷ w ∷ []) ∷ request 0 9 [] ∷ request 0 14 (handle_of 49 ∷ []) ∷ request 0 7 (f ∷ u ∷ v ∷ []) ∷ request 0 30 [] ∷ [])
    (replicate 7 0)
    (response 0 31 (handle_of 50 ∷ f ∷ u ∷ v ∷ []) ∷ [])
    ∷ []

pub second_tenants_hold : T (all_hold second_tenants)
unfolding all_hold second_tenants
second_tenants_hold = tt

pub edges_hold : T (all_hold edges)
unfolding all_hold edges
edges_hold = tt

-- ---- 02, ask 1: "SET_CLIENT_ID (type 22, 1 to 64 bytes, no zero byte, else 10) is served; close clears the id"

pub client_ids : List Edge
unfolding request response
client_ids =
    edge (opens 0 ∷ request 0 22 (letters 1 ∷ []) ∷ request 0 22 (letters 64 ∷ []) ∷ request 0 22 (letters 65 ∷ []) ∷ [])
    (0 ∷ 0 ∷ 0 ∷ 10 ∷ [])
    (response 0 19 ((49 ∷ 48 ∷ []) ∷ arguments' ∷ []) ∷ [])
    ∷ edge (opens 0 ∷ request 0 22 [] ∷ request 0 22 (u ∷ v ∷ []) ∷ [])
    (0 ∷ 10 ∷ 10 ∷ [])
    (response 0 19 ((49 ∷ 48 ∷ []) ∷ arguments' ∷ []) ∷ [])
    -- it sends nothing, and a sleeper sleeps on
    ∷ edge (opens 0 ∷ request 0 1 (f ∷ []) ∷ request 0 4 [] ∷ request 0 22 (u ∷ []) ∷ []) (replicate 4 0) []
    ∷ edge (opens 0 ∷ opens 1 ∷ request 1 1 (f ∷ []) ∷ request 1 4 [] ∷ request 1 22 (u ∷ []) ∷ request 0 18 (f ∷ [] ∷ w ∷ []) ∷ [])
    (replicate 6 0)
    (response 0 8 (handle_of 49 ∷ []) ∷ response 1 6 [] ∷ [])
    ∷ []

pub client_ids_hold : T (all_hold client_ids)
unfolding all_hold client_ids
client_ids_hold = tt

-- the id of connection 1: the last one counts, RESET_ABILITIES keeps it, a refused one changes nothing, close clears it
pub client_id_histories : List (List Event)
unfolding request
client_id_histories =
    (opens 1 ∷ request 1 22 (u ∷ []) ∷ request 1 22 (v ∷ []) ∷ [])
    ∷ (opens 1 ∷ request 1 1 (f ∷ []) ∷ request 1 22 (u ∷ []) ∷ request 1 3 [] ∷ [])
    ∷ (opens 1 ∷ request 1 22 (u ∷ []) ∷ request 1 22 (letters 65 ∷ []) ∷ [])
    ∷ (opens 1 ∷ request 1 22 (u ∷ []) ∷ closes 1 ∷ [])
    ∷ (opens 1 ∷ request 1 22 (u ∷ []) ∷ closes 1 ∷ opens 1 ∷ [])
    ∷ []

pub client_ids_kept : map (λ (h : List Event). id_at (table_after h) 1) client_id_histories ≡ v ∷ u ∷ u ∷ [] ∷ [] ∷ []
unfolding table_after client_id_histories
client_ids_kept = refl

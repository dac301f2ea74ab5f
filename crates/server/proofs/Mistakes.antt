-- Document 01, "Errors that look reasonable", and nine more: for each a history in which it would show, with the right answer, and one
-- theorem that the definitions give these answers. The edits in must-fail/ make the errors in the definitions. Assumes nothing.
use Prim.Native.Nat.{ℕ}
use Prim.Native.String.{String}
use mathlib.Core.List.{List, [], ◌∷◌, ◌++◌}
use lib.ListN.{replicate}
use lib.Dec.{T}
use Rattle.octets.specs.Bytes.{Bytes, text}
use Rattle.server.specs.Requests.{Event, opens}
use Rattle.server.proofs.Histories.{request, response}
use Rattle.server.proofs.Edge.{Edge, edge, edge_at, holds}

-- ---- requests

abbrev can_do : ℕ → String → Event
unfolding request
can_do c function = request c 1 (text function ∷ [])

abbrev submits : ℕ → String → String → Bytes → Event
unfolding request
submits c function unique workload = request c 7 (text function ∷ text unique ∷ workload ∷ [])

abbrev grabs : ℕ → Event
unfolding request
grabs c = request c 9 []

abbrev completes : ℕ → String → String → Event
unfolding request
completes c job result = request c 13 (text job ∷ text result ∷ [])

-- ---- "finding a job by its place, so that a late result meets the next tenant"

-- worker 1 ends job 1, takes job 2, which client 2 gave and which has the same place, and sends another result for job 1
abbrev late_result : List Event
unfolding request
late_result =
    opens 0
    ∷ opens 1
    ∷ opens 2
    ∷ can_do 1 "f"
    ∷ submits 0 "f" "" (text "first")
    ∷ grabs 1
    ∷ completes 1 "H:lap:1" "done"
    ∷ submits 2 "f" "" (text "second")
    ∷ grabs 1
    ∷ completes 1 "H:lap:1" "late"
    ∷ []

-- it is refused, and client 2 hears nothing of it
pub late_refused : Edge
unfolding request response
late_refused = edge late_result (replicate 9 0 ++ (14 ∷ [])) (response 1 19 (text "14" ∷ text "handle" ∷ []) ∷ [])

-- job 2 is still there, and held: STATUS_RES says so
pub tenant_stays : Edge
unfolding request response
tenant_stays =
    edge (late_result ++ (request 2 15 (text "H:lap:2" ∷ []) ∷ []))
    (replicate 9 0 ++ (14 ∷ 0 ∷ []))
    (response 2 20 (text "H:lap:2" ∷ text "1" ∷ text "1" ∷ text "0" ∷ text "0" ∷ []) ∷ [])

-- ---- naming a job by its place

-- the second tenant of a place is assigned by its own handle: its serial is 2, and its place the first
pub tenant_named : Edge
unfolding request response
tenant_named =
    edge (opens 0 ∷ opens 1 ∷ can_do 1 "f" ∷ submits 0 "f" "" (text "first") ∷ grabs 1 ∷ completes 1 "H:lap:1" "done" ∷ submits 0 "f" "" (text "second") ∷ grabs 1 ∷ [])
    (replicate 8 0)
    (response 1 11 (text "H:lap:2" ∷ text "f" ∷ text "second" ∷ []) ∷ [])

-- ---- a result for another job's listener

-- worker 1 holds job 1 of client 0 and job 2 of client 2: what it says of job 2 goes to client 2 alone
pub own_listener : Edge
unfolding request response
own_listener =
    edge (opens 0 ∷ opens 1 ∷ opens 2 ∷ can_do 1 "f" ∷ submits 0 "f" "" [] ∷ submits 2 "f" "" [] ∷ grabs 1 ∷ grabs 1 ∷ completes 1 "H:lap:2" "done" ∷ [])
    (replicate 9 0)
    (response 2 13 (text "H:lap:2" ∷ text "done" ∷ []) ∷ [])

-- ---- the status of a job that is not there

-- "otherwise 0, 0, 0, 0 with the handle as asked"
pub unknown_status : Edge
unfolding request response
unknown_status =
    edge (opens 0 ∷ request 0 15 (text "H:lap:7" ∷ []) ∷ [])
    (replicate 2 0)
    (response 0 20 (text "H:lap:7" ∷ text "0" ∷ text "0" ∷ text "0" ∷ text "0" ∷ []) ∷ [])

-- ---- "joining on the unique alone"

-- the same unique under another function makes a second job
pub job_of_its_own : Edge
unfolding request response
job_of_its_own =
    edge (opens 0 ∷ submits 0 "f" "u" [] ∷ submits 0 "g" "u" [] ∷ [])
    (replicate 3 0)
    (response 0 8 (text "H:lap:2" ∷ []) ∷ [])

-- ---- "searching past the second zero byte for more separators"

-- zero, `w`, zero, `x`
abbrev zeros : Bytes
zeros = 0 ∷ 119 ∷ 0 ∷ 120 ∷ []

-- the workload is assigned whole
pub whole_workload : Edge
unfolding request response
whole_workload =
    edge (opens 0 ∷ opens 1 ∷ can_do 1 "f" ∷ submits 0 "f" "u" zeros ∷ grabs 1 ∷ [])
    (replicate 5 0)
    (response 1 11 (text "H:lap:1" ∷ text "f" ∷ zeros ∷ []) ∷ [])

-- ---- "sending a listener two copies after a join"

-- clients 0 and 2 listen to one job, which client 0 submitted twice: each gets one copy
pub one_copy_each : Edge
unfolding request response
one_copy_each =
    edge (opens 0 ∷ opens 1 ∷ opens 2 ∷ can_do 1 "f" ∷ submits 0 "f" "u" [] ∷ submits 2 "f" "u" [] ∷ submits 0 "f" "u" [] ∷ grabs 1 ∷ completes 1 "H:lap:1" "done" ∷ [])
    (replicate 9 0)
    (response 0 13 (text "H:lap:1" ∷ text "done" ∷ []) ∷ response 2 13 (text "H:lap:1" ∷ text "done" ∷ []) ∷ [])

-- ---- a board that hangs after an exception

abbrev catches : ℕ → Event
unfolding request
catches c = request c 26 (text "exceptions" ∷ [])

-- boards 0 to 4 listen to one job of worker 5, which ends it by an exception; boards 0 and 4 set the option before they submit, board 2
-- after it
abbrev boards_told : List Event
unfolding request
boards_told =
    opens 0 ∷ opens 1 ∷ opens 2 ∷ opens 3 ∷ opens 4 ∷ opens 5 ∷ can_do 5 "f" ∷ catches 0 ∷ catches 4
    ∷ submits 0 "f" "u" [] ∷ submits 1 "f" "u" [] ∷ submits 2 "f" "u" [] ∷ submits 3 "f" "u" [] ∷ submits 4 "f" "u" []
    ∷ catches 2 ∷ grabs 5 ∷ request 5 25 (text "H:lap:1" ∷ text "no seats" ∷ []) ∷ []

-- 02, ask 3: each gets one packet, "in one rising order of connection": the exception if it set the option, and otherwise "WORK_FAIL with
-- the handle alone"
pub nobody_hangs : Edge
unfolding request response
nobody_hangs =
    edge boards_told (replicate 17 0)
    (response 0 25 (text "H:lap:1" ∷ text "no seats" ∷ []) ∷ response 1 14 (text "H:lap:1" ∷ []) ∷ response 2 25 (text "H:lap:1" ∷ text "no seats" ∷ [])
    ∷ response 3 14 (text "H:lap:1" ∷ []) ∷ response 4 25 (text "H:lap:1" ∷ text "no seats" ∷ []) ∷ [])

-- the job has ended, whatever they got: the worker's WORK_FAIL for it is refused
pub exception_ends : Edge
unfolding request response
exception_ends =
    edge (boards_told ++ (request 5 14 (text "H:lap:1" ∷ []) ∷ [])) (replicate 17 0 ++ (14 ∷ [])) (response 5 19 (text "14" ∷ text "handle" ∷ []) ∷ [])

-- ---- handles that do not name the hub: 02, ask 5

-- a job of the hub `cup`, submitted by clients 0 and 2, of which 2 set the option, and held by worker 1
abbrev at_cup : List Event
unfolding request
at_cup = opens 0 ∷ opens 1 ∷ opens 2 ∷ can_do 1 "f" ∷ catches 2 ∷ submits 0 "f" "u" (text "w") ∷ submits 2 "f" "u" [] ∷ grabs 1 ∷ []

-- it is created and assigned under the hub's own name
pub created_at_cup : Edge
unfolding request response
created_at_cup = edge_at (text "cup") (opens 0 ∷ submits 0 "f" "" [] ∷ []) (replicate 2 0) (response 0 8 (text "H:cup:1" ∷ []) ∷ [])

pub assigned_at_cup : Edge
unfolding request response
assigned_at_cup = edge_at (text "cup") at_cup (replicate 8 0) (response 1 11 (text "H:cup:1" ∷ text "f" ∷ text "w" ∷ []) ∷ [])

-- its failure too
pub failed_at_cup : Edge
unfolding request response
failed_at_cup =
    edge_at (text "cup") (at_cup ++ (request 1 25 (text "H:cup:1" ∷ text "!" ∷ []) ∷ [])) (replicate 9 0)
    (response 0 14 (text "H:cup:1" ∷ []) ∷ response 2 25 (text "H:cup:1" ∷ text "!" ∷ []) ∷ [])

-- a result that names another hub is refused, and nobody hears it; the status of its handle is unknown
pub stranger_refused : Edge
unfolding request response
stranger_refused = edge_at (text "cup") (at_cup ++ (completes 1 "H:lap:1" "done" ∷ [])) (replicate 8 0 ++ (14 ∷ [])) (response 1 19 (text "14" ∷ text "handle" ∷ []) ∷ [])

pub stranger_unknown : Edge
unfolding request response
stranger_unknown =
    edge_at (text "cup") (at_cup ++ (request 0 15 (text "H:lap:1" ∷ []) ∷ [])) (replicate 9 0)
    (response 0 20 (text "H:lap:1" ∷ text "0" ∷ text "0" ∷ text "0" ∷ text "0" ∷ []) ∷ [])

-- ---- none of them is made

pub no_mistake :
    T (holds late_refused) × T (holds tenant_stays) × T (holds tenant_named) × T (holds own_listener) × T (holds unknown_status) × T (holds job_of_its_own) × T (holds whole_workload) × T (holds one_copy_each) × T (holds nobody_hangs)
    × T (holds exception_ends) × T (holds created_at_cup) × T (holds assigned_at_cup) × T (holds failed_at_cup) × T (holds stranger_refused) × T (holds stranger_unknown)
unfolding holds late_refused tenant_stays tenant_named own_listener unknown_status job_of_its_own whole_workload one_copy_each nobody_hangs exception_ends created_at_cup assigned_at_cup failed_at_cup stranger_refused stranger_unknown
no_mistake = (tt, tt, tt, tt, tt, tt, tt, tt, tt, tt, tt, tt, tt, tt, tt)

-- Document 01's replay, which is document 000's example: all eight events, and all that is sent. Assumes nothing.
use mathlib.Core.Path.{◌≡◌, refl}
use mathlib.Core.List.{List, [], ◌∷◌}
use lib.ListN.{replicate}
use Rattle.octets.specs.Bytes.{Bytes}
use Rattle.handle.specs.Handle.{lap}
use Rattle.server.specs.Requests.{Event, opens}
use Rattle.server.proofs.Histories.{request, response, numbers_of, packets_of}

-- `reverse`, `test`, `tset`, `H:lap:1`
pub reverse' : Bytes
reverse' = 114 ∷ 101 ∷ 118 ∷ 101 ∷ 114 ∷ 115 ∷ 101 ∷ []

pub test' : Bytes
test' = 116 ∷ 101 ∷ 115 ∷ 116 ∷ []

pub tset : Bytes
tset = 116 ∷ 115 ∷ 101 ∷ 116 ∷ []

pub first' : Bytes
first' = 72 ∷ 58 ∷ 108 ∷ 97 ∷ 112 ∷ 58 ∷ 49 ∷ []

-- connection 1 is the worker, connection 0 the client
unfoldable pub replay : List Event
unfolding request reverse' test' tset first'
replay =
    opens 1
    ∷ opens 0
    ∷ request 1 1 (reverse' ∷ [])  -- CAN_DO
    ∷ request 1 9 []  -- GRAB_JOB
    ∷ request 1 4 []  -- PRE_SLEEP
    ∷ request 0 7 (reverse' ∷ [] ∷ test' ∷ [])  -- SUBMIT_JOB
    ∷ request 1 9 []  -- GRAB_JOB
    ∷ request 1 13 (first' ∷ tset ∷ [])  -- WORK_COMPLETE
    ∷ []

pub replay_numbers : numbers_of lap replay ≡ replicate 8 0
unfolding numbers_of replay
replay_numbers = refl

pub replay_packets :
    packets_of lap replay ≡ []
    ∷ []
    ∷ []
    ∷ (response 1 10 [] ∷ [])  -- NO_JOB
    ∷ []
    ∷ (response 0 8 (first' ∷ []) ∷ response 1 6 [] ∷ [])  -- JOB_CREATED, NOOP
    ∷ (response 1 11 (first' ∷ reverse' ∷ test' ∷ []) ∷ [])  -- JOB_ASSIGN
    ∷ (response 0 13 (first' ∷ tset ∷ []) ∷ [])  -- WORK_COMPLETE
    ∷ []
unfolding packets_of replay response reverse' test' tset first'
replay_packets = refl

-- Events, and what a packet asks of the server before it is known whether the server will do it. A packet is read with its opaque
-- bytes set to zero, so that nothing asked can depend on them. Assumes nothing.
use Rattle.std.specs.Prelude.{ℕ, Bool, true, false, [], ◌∷◌, length, get_or}
use Rattle.octets.specs.Bytes.{Bytes}
use Rattle.packet.specs.Layout.{priority_of, background_of}
use Rattle.packet.specs.Packet.{Reading, refused, got, read, requests}
use Rattle.packet.specs.Opaque.{masked}

-- 01: "Events are open, close and one whole packet from a connection."
pub data Event : Type 0 where
  opens closes : (c : ℕ) → Event
  sends : (c : ℕ) (bytes : Bytes) → Event

-- what a worker says of its job: data or a warning; its status; that it is over; that it threw an exception
pub data Work : Type 0 where
  tells reports ends throws : Work

-- what a packet asks; a bad one asks nothing and is refused by its number
pub data Request : Type 0 where
  reset pre_sleep echo : Request
  bad : (number : ℕ) → Request
  can_do cant_do : (function : Bytes) → Request
  identify : (id : Bytes) → Request
  grab : (uniq : Bool) → Request
  submit : (priority : ℕ) (background : Bool) (function unique : Bytes) (size : ℕ) → Request
  work : (how : Work) (kind : ℕ) (job numerator denominator : Bytes) → Request
  get_status : (job : Bytes) → Request
  option : (name : Bytes) → Request

-- what a request of each type asks, from its arguments, by number from 0. Reading has refused every number that is not served.
unfoldable pub requested : ℕ → Bytes → Bytes → Bytes → Request
requested kind a b c =
    get_or
    (bad 9
    ∷ can_do a  -- 1 CAN_DO
    ∷ cant_do a  -- 2 CANT_DO
    ∷ reset  -- 3 RESET_ABILITIES
    ∷ pre_sleep  -- 4 PRE_SLEEP
    ∷ bad 9 ∷ bad 9
    ∷ submit (priority_of kind) (background_of kind) a b (length c)  -- 7 SUBMIT_JOB
    ∷ bad 9
    ∷ grab false  -- 9 GRAB_JOB
    ∷ bad 9 ∷ bad 9
    ∷ work reports kind a b c  -- 12 WORK_STATUS
    ∷ work ends kind a [] []  -- 13 WORK_COMPLETE
    ∷ work ends kind a [] []  -- 14 WORK_FAIL
    ∷ get_status a  -- 15 GET_STATUS
    ∷ echo  -- 16 ECHO_REQ
    ∷ bad 9
    ∷ submit (priority_of kind) (background_of kind) a b (length c)  -- 18 SUBMIT_JOB_BG
    ∷ bad 9 ∷ bad 9
    ∷ submit (priority_of kind) (background_of kind) a b (length c)  -- 21 SUBMIT_JOB_HIGH
    ∷ identify a  -- 22 SET_CLIENT_ID
    ∷ bad 9 ∷ bad 9
    ∷ work throws kind a [] []  -- 25 WORK_EXCEPTION
    ∷ option a  -- 26 OPTION_REQ
    ∷ bad 9
    ∷ work tells kind a [] []  -- 28 WORK_DATA
    ∷ work tells kind a [] []  -- 29 WORK_WARNING
    ∷ grab true  -- 30 GRAB_JOB_UNIQ
    ∷ bad 9
    ∷ submit (priority_of kind) (background_of kind) a b (length c)  -- 32 SUBMIT_JOB_HIGH_BG
    ∷ submit (priority_of kind) (background_of kind) a b (length c)  -- 33 SUBMIT_JOB_LOW
    ∷ submit (priority_of kind) (background_of kind) a b (length c)  -- 34 SUBMIT_JOB_LOW_BG
    ∷ [])
    kind (bad 9)

abbrev pub from_reading : Reading → Request
from_reading (refused n) = bad n
from_reading (got kind as') = requested kind (get_or as' 0 []) (get_or as' 1 []) (get_or as' 2 [])

-- what these bytes ask
unfoldable pub request_in : Bytes → Request
request_in b = from_reading (read requests (masked requests b))

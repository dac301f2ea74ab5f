-- The packet layout of document 01: for each type the arguments of its data, in order, and what each argument may be.
-- Assumes nothing.
use Rattle.std.specs.Prelude.{ℕ, ◌-◌, Bool, true, false, cond, ◌||◌, List, [], ◌∷◌, ◌++◌, length, get_or, take, replicate, eqb}
use Rattle.packet.specs.declared.Kind.{Kind}
use Rattle.packet.specs.declared.Rule.{Rule}
use Rattle.packet.specs.declared.Rule.TheVariants.{Text, Digits, Flag, AnyText, Opaque, Absent}
use Rattle.packet.specs.declared.Shape.{Shape}
use Rattle.packet.specs.declared.Shape.TheVariants.{Foreign, Empty, Function, Submission, WorkStatus, WorkData, Handle, Echo, OptionName, ClientId, Assignment, UniqueAssignment, Error, StatusAnswer}

-- 01, sizes: "function 1 to 32 bytes; unique 0 to 64; handle argument 1 to 63; numerator and denominator each 1 to 10 digits"
abbrev pub function : Rule
function = Text 1 32

abbrev pub unique : Rule
unique = Text 0 64

abbrev pub handle : Rule
handle = Text 1 63

abbrev pub number : Rule
number = Digits 1 10

-- 02, ask 1: "SET_CLIENT_ID (type 22, 1 to 64 bytes, no zero byte, else 10)"
abbrev pub client_id : Rule
client_id = Text 1 64

-- 01: "19 ERROR (two digits, text)"
abbrev pub two_digits : Rule
two_digits = Digits 2 2

-- the arguments of a shape, in order: 01's column "Data", and its list of the sent types
unfoldable pub rules_of : Shape → List Rule
rules_of Foreign = []
rules_of Empty = []
rules_of Function = function ∷ []
rules_of Submission = function ∷ unique ∷ Opaque ∷ []
rules_of WorkStatus = handle ∷ number ∷ number ∷ []
rules_of WorkData = handle ∷ Opaque ∷ []
rules_of Handle = handle ∷ []
rules_of Echo = Opaque ∷ []
rules_of OptionName = AnyText ∷ []
rules_of ClientId = client_id ∷ []
rules_of Assignment = handle ∷ function ∷ Opaque ∷ []
rules_of UniqueAssignment = handle ∷ function ∷ unique ∷ Opaque ∷ []
rules_of Error = two_digits ∷ AnyText ∷ []
rules_of StatusAnswer = handle ∷ Flag ∷ Flag ∷ number ∷ number ∷ []

-- in five places, the rest of them absent: the most arguments that a type has is five
unfoldable pub padded : List Rule → List Rule
padded rs = take 5 (rs ++ replicate 5 Absent)

-- 01's table of requests, and 02's SET_CLIENT_ID, by number from 0; 01: "Every other number is not served."
abbrev pub served : List Shape
served =
    Foreign  -- 0
    ∷ Function  -- 1 CAN_DO
    ∷ Function  -- 2 CANT_DO
    ∷ Empty  -- 3 RESET_ABILITIES
    ∷ Empty  -- 4 PRE_SLEEP
    ∷ Foreign  -- 5 (unused)
    ∷ Foreign  -- 6 NOOP
    ∷ Submission  -- 7 SUBMIT_JOB
    ∷ Foreign  -- 8 JOB_CREATED
    ∷ Empty  -- 9 GRAB_JOB
    ∷ Foreign  -- 10 NO_JOB
    ∷ Foreign  -- 11 JOB_ASSIGN
    ∷ WorkStatus  -- 12 WORK_STATUS
    ∷ WorkData  -- 13 WORK_COMPLETE
    ∷ Handle  -- 14 WORK_FAIL
    ∷ Handle  -- 15 GET_STATUS
    ∷ Echo  -- 16 ECHO_REQ
    ∷ Foreign  -- 17 ECHO_RES
    ∷ Submission  -- 18 SUBMIT_JOB_BG
    ∷ Foreign  -- 19 ERROR
    ∷ Foreign  -- 20 STATUS_RES
    ∷ Submission  -- 21 SUBMIT_JOB_HIGH
    ∷ ClientId  -- 22 SET_CLIENT_ID
    ∷ Foreign  -- 23 CAN_DO_TIMEOUT
    ∷ Foreign  -- 24 ALL_YOURS
    ∷ WorkData  -- 25 WORK_EXCEPTION
    ∷ OptionName  -- 26 OPTION_REQ
    ∷ Foreign  -- 27 OPTION_RES
    ∷ WorkData  -- 28 WORK_DATA
    ∷ WorkData  -- 29 WORK_WARNING
    ∷ Empty  -- 30 GRAB_JOB_UNIQ
    ∷ Foreign  -- 31 JOB_ASSIGN_UNIQ
    ∷ Submission  -- 32 SUBMIT_JOB_HIGH_BG
    ∷ Submission  -- 33 SUBMIT_JOB_LOW
    ∷ Submission  -- 34 SUBMIT_JOB_LOW_BG
    ∷ Foreign  -- 35 SUBMIT_JOB_SCHED
    ∷ Foreign  -- 36 SUBMIT_JOB_EPOCH
    ∷ []

-- 01's list of the sent types, by number from 0
abbrev pub sent : List Shape
sent =
    Foreign  -- 0
    ∷ Foreign  -- 1 CAN_DO
    ∷ Foreign  -- 2 CANT_DO
    ∷ Foreign  -- 3 RESET_ABILITIES
    ∷ Foreign  -- 4 PRE_SLEEP
    ∷ Foreign  -- 5 (unused)
    ∷ Empty  -- 6 NOOP
    ∷ Foreign  -- 7 SUBMIT_JOB
    ∷ Handle  -- 8 JOB_CREATED
    ∷ Foreign  -- 9 GRAB_JOB
    ∷ Empty  -- 10 NO_JOB
    ∷ Assignment  -- 11 JOB_ASSIGN
    ∷ WorkStatus  -- 12 WORK_STATUS
    ∷ WorkData  -- 13 WORK_COMPLETE
    ∷ Handle  -- 14 WORK_FAIL
    ∷ Foreign  -- 15 GET_STATUS
    ∷ Foreign  -- 16 ECHO_REQ
    ∷ Echo  -- 17 ECHO_RES
    ∷ Foreign  -- 18 SUBMIT_JOB_BG
    ∷ Error  -- 19 ERROR
    ∷ StatusAnswer  -- 20 STATUS_RES
    ∷ Foreign  -- 21 SUBMIT_JOB_HIGH
    ∷ Foreign  -- 22 SET_CLIENT_ID
    ∷ Foreign  -- 23 CAN_DO_TIMEOUT
    ∷ Foreign  -- 24 ALL_YOURS
    ∷ WorkData  -- 25 WORK_EXCEPTION
    ∷ Foreign  -- 26 OPTION_REQ
    ∷ OptionName  -- 27 OPTION_RES
    ∷ WorkData  -- 28 WORK_DATA
    ∷ WorkData  -- 29 WORK_WARNING
    ∷ Foreign  -- 30 GRAB_JOB_UNIQ
    ∷ UniqueAssignment  -- 31 JOB_ASSIGN_UNIQ
    ∷ Foreign  -- 32 SUBMIT_JOB_HIGH_BG
    ∷ Foreign  -- 33 SUBMIT_JOB_LOW
    ∷ Foreign  -- 34 SUBMIT_JOB_LOW_BG
    ∷ Foreign  -- 35 SUBMIT_JOB_SCHED
    ∷ Foreign  -- 36 SUBMIT_JOB_EPOCH
    ∷ []

-- the shape of a request's data, and of a response's
unfoldable pub request_shape : ℕ → Shape
request_shape kind = get_or served kind Foreign

unfoldable pub response_shape : ℕ → Shape
response_shape kind = get_or sent kind Foreign

-- the type belongs to the direction whose shape this is
abbrev pub is_own : Shape → Bool
is_own Foreign = false
is_own Empty = true
is_own Function = true
is_own Submission = true
is_own WorkStatus = true
is_own WorkData = true
is_own Handle = true
is_own Echo = true
is_own OptionName = true
is_own ClientId = true
is_own Assignment = true
is_own UniqueAssignment = true
is_own Error = true
is_own StatusAnswer = true

-- 01: "the last separator that its type demands": one between each two arguments
abbrev pub separators_of : Shape → ℕ
separators_of s = length (rules_of s) - 1

-- the number is one of these
abbrev pub one_of : List ℕ → ℕ → Bool
one_of [] kind = false
one_of (k ∷ ks) kind = eqb k kind || one_of ks kind

-- 000: "Jobs submitted with one of the HIGH versions always take precedence, and jobs submitted with the normal versions take
-- precedence over the LOW versions." High is 2, normal 1; low, and what is no submission, 0.
unfoldable pub priority_of : ℕ → ℕ
priority_of kind = cond (one_of (21 ∷ 32 ∷ []) kind) 2 (cond (one_of (7 ∷ 18 ∷ []) kind) 1 0)

-- 01: "7, 18 (BG), 21 (HIGH), 32 (HIGH_BG), 33 (LOW), 34 (LOW_BG) SUBMIT_JOB"
unfoldable pub background_of : ℕ → Bool
background_of kind = one_of (18 ∷ 32 ∷ 34 ∷ []) kind

-- what the constant table says of a number, from the layout
unfoldable pub kind_of : ℕ → Kind
kind_of kind =
    record {
      served = is_own (request_shape kind);
      sent = is_own (response_shape kind);
      separators = cond (is_own (request_shape kind)) (separators_of (request_shape kind)) (separators_of (response_shape kind));
      priority = priority_of kind;
      background = background_of kind;
    }

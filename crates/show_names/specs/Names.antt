-- The words of a line that shows a packet: the protocol's name of each type, the label of each argument, and the reason of each
-- refusal, as byte strings. Assumes nothing.
use Rattle.std.specs.Prelude.{ℕ, cond, List, [], ◌∷◌, ◌++◌, map, get_or, take, replicate}
use Rattle.octets.specs.Bytes.{Bytes, first_zero, within}
use Rattle.packet.specs.declared.Shape.{Shape}
use Rattle.packet.specs.declared.Shape.TheVariants.{Foreign, Empty, Function, Submission, WorkStatus, WorkData, Handle, Echo, OptionName, ClientId, Assignment, UniqueAssignment, Error, StatusAnswer}
use Rattle.handle.specs.Handle.{decimal, padded}

-- between two words
abbrev pub space : Bytes
space = 32 ∷ []

-- the reason of a number that has none
abbrev pub unknown : Bytes
unknown = 63 ∷ []  -- ?

-- 000, "an enumerated packet type": the names by number, from 1 to 36
abbrev pub names : List Bytes
names =
    []  -- 0 is no type
    ∷ (67 ∷ 65 ∷ 78 ∷ 95 ∷ 68 ∷ 79 ∷ [])  -- 1 CAN_DO
    ∷ (67 ∷ 65 ∷ 78 ∷ 84 ∷ 95 ∷ 68 ∷ 79 ∷ [])  -- 2 CANT_DO
    ∷ (82 ∷ 69 ∷ 83 ∷ 69 ∷ 84 ∷ 95 ∷ 65 ∷ 66 ∷ 73 ∷ 76 ∷ 73 ∷ 84 ∷ 73 ∷ 69 ∷ 83 ∷ [])  -- 3 RESET_ABILITIES
    ∷ (80 ∷ 82 ∷ 69 ∷ 95 ∷ 83 ∷ 76 ∷ 69 ∷ 69 ∷ 80 ∷ [])  -- 4 PRE_SLEEP
    ∷ (40 ∷ 117 ∷ 110 ∷ 117 ∷ 115 ∷ 101 ∷ 100 ∷ 41 ∷ [])  -- 5 (unused)
    ∷ (78 ∷ 79 ∷ 79 ∷ 80 ∷ [])  -- 6 NOOP
    ∷ (83 ∷ 85 ∷ 66 ∷ 77 ∷ 73 ∷ 84 ∷ 95 ∷ 74 ∷ 79 ∷ 66 ∷ [])  -- 7 SUBMIT_JOB
    ∷ (74 ∷ 79 ∷ 66 ∷ 95 ∷ 67 ∷ 82 ∷ 69 ∷ 65 ∷ 84 ∷ 69 ∷ 68 ∷ [])  -- 8 JOB_CREATED
    ∷ (71 ∷ 82 ∷ 65 ∷ 66 ∷ 95 ∷ 74 ∷ 79 ∷ 66 ∷ [])  -- 9 GRAB_JOB
    ∷ (78 ∷ 79 ∷ 95 ∷ 74 ∷ 79 ∷ 66 ∷ [])  -- 10 NO_JOB
    ∷ (74 ∷ 79 ∷ 66 ∷ 95 ∷ 65 ∷ 83 ∷ 83 ∷ 73 ∷ 71 ∷ 78 ∷ [])  -- 11 JOB_ASSIGN
    ∷ (87 ∷ 79 ∷ 82 ∷ 75 ∷ 95 ∷ 83 ∷ 84 ∷ 65 ∷ 84 ∷ 85 ∷ 83 ∷ [])  -- 12 WORK_STATUS
    ∷ (87 ∷ 79 ∷ 82 ∷ 75 ∷ 95 ∷ 67 ∷ 79 ∷ 77 ∷ 80 ∷ 76 ∷ 69 ∷ 84 ∷ 69 ∷ [])  -- 13 WORK_COMPLETE
    ∷ (87 ∷ 79 ∷ 82 ∷ 75 ∷ 95 ∷ 70 ∷ 65 ∷ 73 ∷ 76 ∷ [])  -- 14 WORK_FAIL
    ∷ (71 ∷ 69 ∷ 84 ∷ 95 ∷ 83 ∷ 84 ∷ 65 ∷ 84 ∷ 85 ∷ 83 ∷ [])  -- 15 GET_STATUS
    ∷ (69 ∷ 67 ∷ 72 ∷ 79 ∷ 95 ∷ 82 ∷ 69 ∷ 81 ∷ [])  -- 16 ECHO_REQ
    ∷ (69 ∷ 67 ∷ 72 ∷ 79 ∷ 95 ∷ 82 ∷ 69 ∷ 83 ∷ [])  -- 17 ECHO_RES
    ∷ (83 ∷ 85 ∷ 66 ∷ 77 ∷ 73 ∷ 84 ∷ 95 ∷ 74 ∷ 79 ∷ 66 ∷ 95 ∷ 66 ∷ 71 ∷ [])  -- 18 SUBMIT_JOB_BG
    ∷ (69 ∷ 82 ∷ 82 ∷ 79 ∷ 82 ∷ [])  -- 19 ERROR
    ∷ (83 ∷ 84 ∷ 65 ∷ 84 ∷ 85 ∷ 83 ∷ 95 ∷ 82 ∷ 69 ∷ 83 ∷ [])  -- 20 STATUS_RES
    ∷ (83 ∷ 85 ∷ 66 ∷ 77 ∷ 73 ∷ 84 ∷ 95 ∷ 74 ∷ 79 ∷ 66 ∷ 95 ∷ 72 ∷ 73 ∷ 71 ∷ 72 ∷ [])  -- 21 SUBMIT_JOB_HIGH
    ∷ (83 ∷ 69 ∷ 84 ∷ 95 ∷ 67 ∷ 76 ∷ 73 ∷ 69 ∷ 78 ∷ 84 ∷ 95 ∷ 73 ∷ 68 ∷ [])  -- 22 SET_CLIENT_ID
    ∷ (67 ∷ 65 ∷ 78 ∷ 95 ∷ 68 ∷ 79 ∷ 95 ∷ 84 ∷ 73 ∷ 77 ∷ 69 ∷ 79 ∷ 85 ∷ 84 ∷ [])  -- 23 CAN_DO_TIMEOUT
    ∷ (65 ∷ 76 ∷ 76 ∷ 95 ∷ 89 ∷ 79 ∷ 85 ∷ 82 ∷ 83 ∷ [])  -- 24 ALL_YOURS
    ∷ (87 ∷ 79 ∷ 82 ∷ 75 ∷ 95 ∷ 69 ∷ 88 ∷ 67 ∷ 69 ∷ 80 ∷ 84 ∷ 73 ∷ 79 ∷ 78 ∷ [])  -- 25 WORK_EXCEPTION
    ∷ (79 ∷ 80 ∷ 84 ∷ 73 ∷ 79 ∷ 78 ∷ 95 ∷ 82 ∷ 69 ∷ 81 ∷ [])  -- 26 OPTION_REQ
    ∷ (79 ∷ 80 ∷ 84 ∷ 73 ∷ 79 ∷ 78 ∷ 95 ∷ 82 ∷ 69 ∷ 83 ∷ [])  -- 27 OPTION_RES
    ∷ (87 ∷ 79 ∷ 82 ∷ 75 ∷ 95 ∷ 68 ∷ 65 ∷ 84 ∷ 65 ∷ [])  -- 28 WORK_DATA
    ∷ (87 ∷ 79 ∷ 82 ∷ 75 ∷ 95 ∷ 87 ∷ 65 ∷ 82 ∷ 78 ∷ 73 ∷ 78 ∷ 71 ∷ [])  -- 29 WORK_WARNING
    ∷ (71 ∷ 82 ∷ 65 ∷ 66 ∷ 95 ∷ 74 ∷ 79 ∷ 66 ∷ 95 ∷ 85 ∷ 78 ∷ 73 ∷ 81 ∷ [])  -- 30 GRAB_JOB_UNIQ
    ∷ (74 ∷ 79 ∷ 66 ∷ 95 ∷ 65 ∷ 83 ∷ 83 ∷ 73 ∷ 71 ∷ 78 ∷ 95 ∷ 85 ∷ 78 ∷ 73 ∷ 81 ∷ [])  -- 31 JOB_ASSIGN_UNIQ
    ∷ (83 ∷ 85 ∷ 66 ∷ 77 ∷ 73 ∷ 84 ∷ 95 ∷ 74 ∷ 79 ∷ 66 ∷ 95 ∷ 72 ∷ 73 ∷ 71 ∷ 72 ∷ 95 ∷ 66 ∷ 71 ∷ [])  -- 32 SUBMIT_JOB_HIGH_BG
    ∷ (83 ∷ 85 ∷ 66 ∷ 77 ∷ 73 ∷ 84 ∷ 95 ∷ 74 ∷ 79 ∷ 66 ∷ 95 ∷ 76 ∷ 79 ∷ 87 ∷ [])  -- 33 SUBMIT_JOB_LOW
    ∷ (83 ∷ 85 ∷ 66 ∷ 77 ∷ 73 ∷ 84 ∷ 95 ∷ 74 ∷ 79 ∷ 66 ∷ 95 ∷ 76 ∷ 79 ∷ 87 ∷ 95 ∷ 66 ∷ 71 ∷ [])  -- 34 SUBMIT_JOB_LOW_BG
    ∷ (83 ∷ 85 ∷ 66 ∷ 77 ∷ 73 ∷ 84 ∷ 95 ∷ 74 ∷ 79 ∷ 66 ∷ 95 ∷ 83 ∷ 67 ∷ 72 ∷ 69 ∷ 68 ∷ [])  -- 35 SUBMIT_JOB_SCHED
    ∷ (83 ∷ 85 ∷ 66 ∷ 77 ∷ 73 ∷ 84 ∷ 95 ∷ 74 ∷ 79 ∷ 66 ∷ 95 ∷ 69 ∷ 80 ∷ 79 ∷ 67 ∷ 72 ∷ [])  -- 36 SUBMIT_JOB_EPOCH
    ∷ []

abbrev pub type_word : Bytes
type_word = 116 ∷ 121 ∷ 112 ∷ 101 ∷ 32 ∷ []  -- type, and a space

-- the name of a type; one that has none goes by its number: `type 39`
unfoldable pub name_of : ℕ → Bytes
name_of kind = cond (within 1 36 kind) (get_or names kind []) (type_word ++ decimal kind)

-- 01's refusals by number: the ERROR text from 9 to 15, and the words of the row for the others, which have no such text
abbrev pub reasons : List Bytes
reasons =
    (63 ∷ [])  -- 0 ?
    ∷ (98 ∷ 117 ∷ 102 ∷ 102 ∷ 101 ∷ 114 ∷ 32 ∷ 111 ∷ 114 ∷ 32 ∷ 116 ∷ 97 ∷ 98 ∷ 108 ∷ 101 ∷ [])  -- 1 buffer or table
    ∷ (99 ∷ 111 ∷ 110 ∷ 110 ∷ 101 ∷ 99 ∷ 116 ∷ 105 ∷ 111 ∷ 110 ∷ 32 ∷ 97 ∷ 98 ∷ 111 ∷ 118 ∷ 101 ∷ 32 ∷ 49 ∷ 53 ∷ [])  -- 2 connection above 15
    ∷ (99 ∷ 111 ∷ 110 ∷ 110 ∷ 101 ∷ 99 ∷ 116 ∷ 105 ∷ 111 ∷ 110 ∷ 32 ∷ 110 ∷ 111 ∷ 116 ∷ 32 ∷ 111 ∷ 112 ∷ 101 ∷ 110 ∷ [])  -- 3 connection not open
    ∷ (97 ∷ 108 ∷ 114 ∷ 101 ∷ 97 ∷ 100 ∷ 121 ∷ 32 ∷ 111 ∷ 112 ∷ 101 ∷ 110 ∷ [])  -- 4 already open
    ∷ (117 ∷ 110 ∷ 100 ∷ 101 ∷ 114 ∷ 32 ∷ 49 ∷ 50 ∷ 32 ∷ 98 ∷ 121 ∷ 116 ∷ 101 ∷ 115 ∷ [])  -- 5 under 12 bytes
    ∷ (109 ∷ 97 ∷ 103 ∷ 105 ∷ 99 ∷ [])  -- 6 magic
    ∷ (115 ∷ 105 ∷ 122 ∷ 101 ∷ [])  -- 7 size
    ∷ (108 ∷ 101 ∷ 110 ∷ 103 ∷ 116 ∷ 104 ∷ 32 ∷ 105 ∷ 115 ∷ 32 ∷ 110 ∷ 111 ∷ 116 ∷ 32 ∷ 49 ∷ 50 ∷ 32 ∷ 43 ∷ 32 ∷ 115 ∷ 105 ∷ 122 ∷ 101 ∷ [])  -- 8 length is not 12 + size
    ∷ (116 ∷ 121 ∷ 112 ∷ 101 ∷ [])  -- 9 type
    ∷ (97 ∷ 114 ∷ 103 ∷ 117 ∷ 109 ∷ 101 ∷ 110 ∷ 116 ∷ 115 ∷ [])  -- 10 arguments
    ∷ (102 ∷ 117 ∷ 110 ∷ 99 ∷ 116 ∷ 105 ∷ 111 ∷ 110 ∷ 115 ∷ [])  -- 11 functions
    ∷ (106 ∷ 111 ∷ 98 ∷ 115 ∷ [])  -- 12 jobs
    ∷ (115 ∷ 101 ∷ 114 ∷ 105 ∷ 97 ∷ 108 ∷ 115 ∷ [])  -- 13 serials
    ∷ (104 ∷ 97 ∷ 110 ∷ 100 ∷ 108 ∷ 101 ∷ [])  -- 14 handle
    ∷ (111 ∷ 112 ∷ 116 ∷ 105 ∷ 111 ∷ 110 ∷ [])  -- 15 option
    ∷ (108 ∷ 105 ∷ 110 ∷ 101 ∷ 32 ∷ 105 ∷ 115 ∷ 32 ∷ 110 ∷ 111 ∷ 116 ∷ 32 ∷ 97 ∷ 32 ∷ 102 ∷ 114 ∷ 97 ∷ 109 ∷ 101 ∷ [])  -- 16 line is not a frame
    ∷ []

unfoldable pub reason_of : ℕ → Bytes
reason_of number = get_or reasons number unknown

-- ---- labels

abbrev pub function_label : Bytes
function_label = 102 ∷ 117 ∷ 110 ∷ 99 ∷ 116 ∷ 105 ∷ 111 ∷ 110 ∷ []  -- function

abbrev pub unique_label : Bytes
unique_label = 117 ∷ 110 ∷ 105 ∷ 113 ∷ 117 ∷ 101 ∷ []  -- unique

abbrev pub workload_label : Bytes
workload_label = 119 ∷ 111 ∷ 114 ∷ 107 ∷ 108 ∷ 111 ∷ 97 ∷ 100 ∷ []  -- workload

abbrev pub handle_label : Bytes
handle_label = 104 ∷ 97 ∷ 110 ∷ 100 ∷ 108 ∷ 101 ∷ []  -- handle

abbrev pub numerator_label : Bytes
numerator_label = 110 ∷ 117 ∷ 109 ∷ 101 ∷ 114 ∷ 97 ∷ 116 ∷ 111 ∷ 114 ∷ []  -- numerator

abbrev pub denominator_label : Bytes
denominator_label = 100 ∷ 101 ∷ 110 ∷ 111 ∷ 109 ∷ 105 ∷ 110 ∷ 97 ∷ 116 ∷ 111 ∷ 114 ∷ []  -- denominator

abbrev pub data_label : Bytes
data_label = 100 ∷ 97 ∷ 116 ∷ 97 ∷ []  -- data

abbrev pub option_label : Bytes
option_label = 111 ∷ 112 ∷ 116 ∷ 105 ∷ 111 ∷ 110 ∷ []  -- option

abbrev pub id_label : Bytes
id_label = 105 ∷ 100 ∷ []  -- id

abbrev pub known_label : Bytes
known_label = 107 ∷ 110 ∷ 111 ∷ 119 ∷ 110 ∷ []  -- known

abbrev pub running_label : Bytes
running_label = 114 ∷ 117 ∷ 110 ∷ 110 ∷ 105 ∷ 110 ∷ 103 ∷ []  -- running

abbrev pub number_label : Bytes
number_label = 110 ∷ 117 ∷ 109 ∷ 98 ∷ 101 ∷ 114 ∷ []  -- number

abbrev pub text_label : Bytes
text_label = 116 ∷ 101 ∷ 120 ∷ 116 ∷ []  -- text

-- the labels of a shape's arguments, in order: 01's words in the column "Data", and in its list of the sent types
unfoldable pub labels_of : Shape → List Bytes
labels_of Foreign = []
labels_of Empty = []
labels_of Function = function_label ∷ []
labels_of Submission = function_label ∷ unique_label ∷ workload_label ∷ []
labels_of WorkStatus = handle_label ∷ numerator_label ∷ denominator_label ∷ []
labels_of WorkData = handle_label ∷ data_label ∷ []
labels_of Handle = handle_label ∷ []
labels_of Echo = data_label ∷ []
labels_of OptionName = option_label ∷ []
labels_of ClientId = id_label ∷ []
labels_of Assignment = handle_label ∷ function_label ∷ workload_label ∷ []
labels_of UniqueAssignment = handle_label ∷ function_label ∷ unique_label ∷ workload_label ∷ []
labels_of Error = number_label ∷ text_label ∷ []
labels_of StatusAnswer = handle_label ∷ known_label ∷ running_label ∷ numerator_label ∷ denominator_label ∷ []

-- the label of argument i; none, where the shape has no such argument
unfoldable pub label_of : Shape → ℕ → Bytes
label_of shape i = get_or (labels_of shape) i []

-- ---- how the code keeps its words: each in a row of one width, followed by zeros

-- the word of such a row: all before its first zero byte
unfoldable pub word : Bytes → Bytes
word row = take (first_zero row) row

-- a shape's labels in five rows, empty where there is no argument
unfoldable pub label_rows : Shape → List Bytes
label_rows shape = map (padded 11) (take 5 (labels_of shape ++ replicate 5 []))

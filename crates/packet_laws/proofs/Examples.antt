-- Packets computed by the definitions: those of document 000, "Binary Protocol Example", and the edges of the sizes in documents 01
-- and 02. Assumes nothing.
use Prim.Native.Nat.{ℕ}
use mathlib.Core.Path.{◌≡◌, refl}
use mathlib.Core.List.{[], ◌∷◌, ◌++◌}
use lib.ListN.{replicate}
use Rattle.octets.specs.Bytes.{Bytes, same, starts_with, first_zero, every}
use Rattle.octets.specs.Put.{put, over}
use Rattle.std.specs.Prelude.{Ok}
use Rattle.packet.specs.Layout.{rules_of, request_shape, response_shape}
use Rattle.packet.specs.Arguments.{fits, fit_all, join, split, ends_of}
use Rattle.packet.specs.Packet.{Direction, requests, responses, Reading, refused, got, header, body, read, packet, write_refusal}
use Rattle.packet.specs.Opaque.{has_zeros, past, hides, seen, visible, opaque, masked}
use Rattle.packet.specs.Answers.{answer_of, between, argument_at, writing}
use Rattle.packet_laws.proofs.RoundTrip.{written}

-- one name that opens all that reading, writing and masking use
unfoldable compute : Direction → Bytes → Reading
unfolding read header body split fits fit_all join rules_of request_shape response_shape starts_with first_zero every same packet has_zeros past hides seen visible opaque masked write_refusal writing put over ends_of argument_at between answer_of
compute w s = read w s

-- ---- document 000's packets

abbrev reverse : Bytes
reverse = 114 ∷ 101 ∷ 118 ∷ 101 ∷ 114 ∷ 115 ∷ 101 ∷ []

abbrev test : Bytes
test = 116 ∷ 101 ∷ 115 ∷ 116 ∷ []

abbrev tset : Bytes
tset = 116 ∷ 115 ∷ 101 ∷ 116 ∷ []

-- H:lap:1
abbrev lap1 : Bytes
lap1 = 72 ∷ 58 ∷ 108 ∷ 97 ∷ 112 ∷ 58 ∷ 49 ∷ []

-- the bytes of a header, and data: \0REQ or \0RES, type, size
abbrev req : ℕ → ℕ → Bytes → Bytes
req kind size d = 0 ∷ 82 ∷ 69 ∷ 81 ∷ 0 ∷ 0 ∷ 0 ∷ kind ∷ 0 ∷ 0 ∷ 0 ∷ size ∷ d

abbrev res : ℕ → ℕ → Bytes → Bytes
res kind size d = 0 ∷ 82 ∷ 69 ∷ 83 ∷ 0 ∷ 0 ∷ 0 ∷ kind ∷ 0 ∷ 0 ∷ 0 ∷ size ∷ d

can_do_lem : read requests (req 1 7 reverse) ≡ got 1 (reverse ∷ [])
unfolding compute
can_do_lem = refl

grab_job : read requests (req 9 0 []) ≡ got 9 []
unfolding compute
grab_job = refl

no_job_lem : read responses (res 10 0 []) ≡ got 10 []
unfolding compute
no_job_lem = refl

pre_sleep_lem : read requests (req 4 0 []) ≡ got 4 []
unfolding compute
pre_sleep_lem = refl

abbrev submission : Bytes
submission = req 7 13 (reverse ++ (0 ∷ 0 ∷ test))

submit_job : read requests submission ≡ got 7 (reverse ∷ [] ∷ test ∷ [])
unfolding compute
submit_job = refl

job_created_lem : read responses (res 8 7 lap1) ≡ got 8 (lap1 ∷ [])
unfolding compute
job_created_lem = refl

noop : read responses (res 6 0 []) ≡ got 6 []
unfolding compute
noop = refl

job_assign : read responses (res 11 20 (lap1 ++ (0 ∷ (reverse ++ (0 ∷ test))))) ≡ got 11 (lap1 ∷ reverse ∷ test ∷ [])
unfolding compute
job_assign = refl

abbrev completion : Bytes
completion = req 13 12 (lap1 ++ (0 ∷ tset))

work_complete : read requests completion ≡ got 13 (lap1 ∷ tset ∷ [])
unfolding compute
work_complete = refl

work_complete_sent : read responses (res 13 12 (lap1 ++ (0 ∷ tset))) ≡ got 13 (lap1 ∷ tset ∷ [])
unfolding compute
work_complete_sent = refl

-- written into twenty bytes: nineteen are the packet's, and the last stays as it was
job_created_written : written responses (replicate 20 7) 8 (lap1 ∷ []) ≡ record { answer = Ok 19; output = res 8 7 lap1 ++ (7 ∷ []) }
unfolding compute
job_created_written = refl

-- the second argument of the completion, by the ends that reading answers
completed_with : argument_at completion (ends_of 12 (lap1 ∷ tset ∷ [])) 1 ≡ tset
unfolding compute
completed_with = refl

-- ---- refusals

short : read requests (0 ∷ 82 ∷ 69 ∷ 81 ∷ []) ≡ refused 5
unfolding compute
short = refl

response_asked : read requests (res 10 0 []) ≡ refused 6
unfolding compute
response_asked = refl

too_long : read requests (req 9 0 (0 ∷ [])) ≡ refused 8
unfolding compute
too_long = refl

not_served_lem : read requests (req 10 0 []) ≡ refused 9
unfolding compute
not_served_lem = refl

-- ---- the edges of the sizes

-- a request of n function bytes; a submission with n unique bytes; a client id of n bytes; an echo of n bytes
abbrev function_of : ℕ → Bytes
function_of n = req 1 n (replicate n 102)

abbrev unique_of : ℕ → Bytes
unique_of n = packet requests.magic 7 (reverse ++ (0 ∷ (replicate n 117 ++ (0 ∷ test))))

abbrev client_id_of : ℕ → Bytes
client_id_of n = req 22 n (replicate n 105)

abbrev echo_of : ℕ → Bytes
echo_of n = packet requests.magic 16 (replicate n 0)

function_0 : read requests (function_of 0) ≡ refused 10
unfolding compute
function_0 = refl

function_32 : read requests (function_of 32) ≡ got 1 (replicate 32 102 ∷ [])
unfolding compute
function_32 = refl

function_33 : read requests (function_of 33) ≡ refused 10
unfolding compute
function_33 = refl

unique_64 : read requests (unique_of 64) ≡ got 7 (reverse ∷ replicate 64 117 ∷ test ∷ [])
unfolding compute
unique_64 = refl

unique_65 : read requests (unique_of 65) ≡ refused 10
unfolding compute
unique_65 = refl

-- 02, ask 1: "SET_CLIENT_ID (type 22, 1 to 64 bytes, no zero byte, else 10)"
client_id_0 : read requests (client_id_of 0) ≡ refused 10
unfolding compute
client_id_0 = refl

client_id_1 : read requests (client_id_of 1) ≡ got 22 ((105 ∷ []) ∷ [])
unfolding compute
client_id_1 = refl

client_id_64 : read requests (client_id_of 64) ≡ got 22 (replicate 64 105 ∷ [])
unfolding compute
client_id_64 = refl

client_id_65 : read requests (client_id_of 65) ≡ refused 10
unfolding compute
client_id_65 = refl

client_id_zero : read requests (req 22 3 (105 ∷ 0 ∷ 100 ∷ [])) ≡ refused 10
unfolding compute
client_id_zero = refl

size_1024 : read requests (echo_of 1024) ≡ got 16 (replicate 1024 0 ∷ [])
unfolding compute
size_1024 = refl

size_1025 : read requests (echo_of 1025) ≡ refused 7
unfolding compute
size_1025 = refl

response_1088 : read responses (packet responses.magic 17 (replicate 1088 0)) ≡ got 17 (replicate 1088 0 ∷ [])
unfolding compute
response_1088 = refl

response_1089 : read responses (packet responses.magic 17 (replicate 1089 0)) ≡ refused 7
unfolding compute
response_1089 = refl

-- ---- opaque parts

-- zero bytes in a workload are no separators
workload_zeros : read requests (req 7 13 (reverse ++ (0 ∷ 0 ∷ 0 ∷ 1 ∷ 0 ∷ 0 ∷ []))) ≡ got 7 (reverse ∷ [] ∷ (0 ∷ 1 ∷ 0 ∷ 0 ∷ []) ∷ [])
unfolding compute
workload_zeros = refl

submission_opaque : opaque requests submission ≡ test
unfolding compute
submission_opaque = refl

submission_visible : visible requests submission ≡ req 7 13 (reverse ++ (0 ∷ 0 ∷ []))
unfolding compute
submission_visible = refl

completion_opaque : opaque requests completion ≡ tset
unfolding compute
completion_opaque = refl

completion_masked : masked requests completion ≡ req 13 12 (lap1 ++ (0 ∷ 0 ∷ 0 ∷ 0 ∷ 0 ∷ []))
unfolding compute
completion_masked = refl

echo_opaque : opaque requests (req 16 4 test) ≡ test
unfolding compute
echo_opaque = refl

-- with too few zero bytes, and with a bad header, there is none
unseparated_opaque : opaque requests (req 7 7 reverse) ≡ []
unfolding compute
unseparated_opaque = refl

too_long_opaque : opaque requests (req 16 3 test) ≡ []
unfolding compute
too_long_opaque = refl

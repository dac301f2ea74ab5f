-- Lines computed by the definitions, one for each kind of line that docs/SHOW.md shows. Assumes nothing.
use Prim.Native.Nat.{ℕ}
use mathlib.Core.Path.{◌≡◌, refl}
use mathlib.Core.List.{[], ◌∷◌}
use Rattle.octets.specs.Bytes.{Bytes, same, starts_with, first_zero, every, text}
use Rattle.packet.specs.Layout.{rules_of, request_shape, response_shape}
use Rattle.packet.specs.Arguments.{fits, split}
use Rattle.packet.specs.Packet.{header, body, read}
use Rattle.handle.specs.Handle.{decimal, decimal_in}
use Rattle.show_names.specs.Names.{label_of, labels_of, name_of, reason_of}
use Rattle.prints.specs.Pieces.{pieces}
use Rattle.prints.specs.Printed.{printed, printed_or}
use Rattle.show_packet.specs.Lines.{argument_text, argument_texts, label_before, packet_text, read_text, refusal_text, refused_text, request_line, response_line, saying, sized, unreadable_text, value_of}

-- one name that opens all that a line uses
unfoldable compute : ℕ → Bytes → Bytes
unfolding request_line response_line saying read_text packet_text refused_text unreadable_text refusal_text argument_texts argument_text pieces label_before value_of sized printed_or printed name_of reason_of label_of labels_of decimal decimal_in read header body split fits rules_of request_shape response_shape starts_with first_zero every same
compute c s = request_line c s

can_do_lem : request_line 1 (0 ∷ 82 ∷ 69 ∷ 81 ∷ 0 ∷ 0 ∷ 0 ∷ 1 ∷ 0 ∷ 0 ∷ 0 ∷ 7 ∷ 114 ∷ 101 ∷ 118 ∷ 101 ∷ 114 ∷ 115 ∷ 101 ∷ [])
    ≡ text "1 -> CAN_DO reverse"
unfolding compute
can_do_lem = refl

submit_job : request_line 0 (0 ∷ 82 ∷ 69 ∷ 81 ∷ 0 ∷ 0 ∷ 0 ∷ 7 ∷ 0 ∷ 0 ∷ 0 ∷ 13 ∷ 114 ∷ 101 ∷ 118 ∷ 101 ∷ 114 ∷ 115 ∷ 101 ∷ 0 ∷ 0 ∷ 116 ∷ 101 ∷ 115 ∷ 116 ∷ [])
    ≡ text "0 -> SUBMIT_JOB function reverse unique \"\" workload 4 bytes"
unfolding compute
submit_job = refl

job_created_lem : response_line 0 (0 ∷ 82 ∷ 69 ∷ 83 ∷ 0 ∷ 0 ∷ 0 ∷ 8 ∷ 0 ∷ 0 ∷ 0 ∷ 7 ∷ 72 ∷ 58 ∷ 108 ∷ 97 ∷ 112 ∷ 58 ∷ 49 ∷ [])
    ≡ text "0 <- JOB_CREATED H:lap:1"
unfolding compute
job_created_lem = refl

job_assign : response_line 1 (0 ∷ 82 ∷ 69 ∷ 83 ∷ 0 ∷ 0 ∷ 0 ∷ 11 ∷ 0 ∷ 0 ∷ 0 ∷ 20 ∷ 72 ∷ 58 ∷ 108 ∷ 97 ∷ 112 ∷ 58 ∷ 49 ∷ 0 ∷ 114 ∷ 101 ∷ 118 ∷ 101 ∷ 114 ∷ 115 ∷ 101 ∷ 0 ∷ 116 ∷ 101 ∷ 115 ∷ 116 ∷ [])
    ≡ text "1 <- JOB_ASSIGN handle H:lap:1 function reverse workload 4 bytes"
unfolding compute
job_assign = refl

work_complete : request_line 1 (0 ∷ 82 ∷ 69 ∷ 81 ∷ 0 ∷ 0 ∷ 0 ∷ 13 ∷ 0 ∷ 0 ∷ 0 ∷ 12 ∷ 72 ∷ 58 ∷ 108 ∷ 97 ∷ 112 ∷ 58 ∷ 49 ∷ 0 ∷ 116 ∷ 115 ∷ 101 ∷ 116 ∷ [])
    ≡ text "1 -> WORK_COMPLETE handle H:lap:1 data 4 bytes"
unfolding compute
work_complete = refl

status_answer : response_line 0 (0 ∷ 82 ∷ 69 ∷ 83 ∷ 0 ∷ 0 ∷ 0 ∷ 20 ∷ 0 ∷ 0 ∷ 0 ∷ 15 ∷ 72 ∷ 58 ∷ 108 ∷ 97 ∷ 112 ∷ 58 ∷ 49 ∷ 0 ∷ 49 ∷ 0 ∷ 48 ∷ 0 ∷ 48 ∷ 0 ∷ 48 ∷ [])
    ≡ text "0 <- STATUS_RES handle H:lap:1 known 1 running 0 numerator 0 denominator 0"
unfolding compute
status_answer = refl

error : response_line 2 (0 ∷ 82 ∷ 69 ∷ 83 ∷ 0 ∷ 0 ∷ 0 ∷ 19 ∷ 0 ∷ 0 ∷ 0 ∷ 7 ∷ 48 ∷ 57 ∷ 0 ∷ 116 ∷ 121 ∷ 112 ∷ 101 ∷ [])
    ≡ text "2 <- ERROR number 09 text type"
unfolding compute
error = refl

echo : request_line 15 (0 ∷ 82 ∷ 69 ∷ 81 ∷ 0 ∷ 0 ∷ 0 ∷ 16 ∷ 0 ∷ 0 ∷ 0 ∷ 6 ∷ 104 ∷ 101 ∷ 108 ∷ 108 ∷ 111 ∷ 33 ∷ [])
    ≡ text "15 -> ECHO_REQ 6 bytes"
unfolding compute
echo = refl

unseen_bytes : request_line 3 (0 ∷ 82 ∷ 69 ∷ 81 ∷ 0 ∷ 0 ∷ 0 ∷ 1 ∷ 0 ∷ 0 ∷ 0 ∷ 4 ∷ 97 ∷ 32 ∷ 98 ∷ 255 ∷ [])
    ≡ text "3 -> CAN_DO a?b?"
unfolding compute
unseen_bytes = refl

set_client_id : request_line 2 (0 ∷ 82 ∷ 69 ∷ 81 ∷ 0 ∷ 0 ∷ 0 ∷ 22 ∷ 0 ∷ 0 ∷ 0 ∷ 7 ∷ 98 ∷ 111 ∷ 97 ∷ 114 ∷ 100 ∷ 45 ∷ 55 ∷ [])
    ≡ text "2 -> SET_CLIENT_ID board-7"
unfolding compute
set_client_id = refl

not_served_lem : request_line 2 (0 ∷ 82 ∷ 69 ∷ 81 ∷ 0 ∷ 0 ∷ 0 ∷ 24 ∷ 0 ∷ 0 ∷ 0 ∷ 0 ∷ []) ≡ text "2 -> ALL_YOURS (unreadable: type)"
unfolding compute
not_served_lem = refl

no_type : request_line 1 (0 ∷ 82 ∷ 69 ∷ 81 ∷ 0 ∷ 0 ∷ 0 ∷ 39 ∷ 0 ∷ 0 ∷ 0 ∷ 0 ∷ []) ≡ text "1 -> type 39 (unreadable: type)"
unfolding compute
no_type = refl

type_zero : request_line 1 (0 ∷ 82 ∷ 69 ∷ 81 ∷ 0 ∷ 0 ∷ 0 ∷ 0 ∷ 0 ∷ 0 ∷ 0 ∷ 0 ∷ []) ≡ text "1 -> type 0 (unreadable: type)"
unfolding compute
type_zero = refl

bad_arguments_lem : request_line 2 (0 ∷ 82 ∷ 69 ∷ 81 ∷ 0 ∷ 0 ∷ 0 ∷ 1 ∷ 0 ∷ 0 ∷ 0 ∷ 0 ∷ []) ≡ text "2 -> CAN_DO (unreadable: arguments)"
unfolding compute
bad_arguments_lem = refl

bad_header : request_line 2 (0 ∷ []) ≡ text "2 -> (unreadable: under 12 bytes)"
unfolding compute
bad_header = refl

one_byte : request_line 2 (0 ∷ 82 ∷ 69 ∷ 81 ∷ 0 ∷ 0 ∷ 0 ∷ 16 ∷ 0 ∷ 0 ∷ 0 ∷ 1 ∷ 104 ∷ []) ≡ text "2 -> ECHO_REQ 1 byte"
unfolding compute
one_byte = refl

refusal : refusal_text 14 ≡ text "refused 14 handle"
unfolding compute
refusal = refl

-- What `show` prints for a line, computed by the definitions: a submission, a result, a late one under a handle that no job has any
-- more, one under another hub's handle, a close that drops a job, and a line that is no frame. The first is docs/SHOW.md's. Assumes nothing.
use Prim.Native.Nat.{ℕ}
use Prim.Native.String.{String}
use mathlib.Core.Path.{◌≡◌, refl}
use Rattle.std.specs.Prelude.{Option, Some, None}
use mathlib.Core.List.{List, [], ◌∷◌}
use Rattle.octets.specs.Bytes.{Bytes, same, starts_with, first_zero, every, text}
use Rattle.sets.specs.Sets.{has}
use Rattle.hexadecimal.specs.Hex.{unhex, hex}
use Rattle.packet.specs.Layout.{rules_of, request_shape, response_shape}
use Rattle.packet.specs.Arguments.{fits, split}
use Rattle.packet.specs.Packet.{header, body, read}
use Rattle.handle.specs.Handle.{decimal, decimal_in, handle, lap, serial_of, value}
use Rattle.show_names.specs.Names.{label_of, labels_of, name_of, reason_of}
use Rattle.prints.specs.Pieces.{pieces}
use Rattle.prints.specs.Printed.{printed, printed_or}
use Rattle.server.specs.Sizes.{connection_count}
use Rattle.server.specs.Table.{Table, fresh, set_job, fresh_row, unstarted, with_holder, with_listeners}
use Rattle.server.specs.Replay.{frame}
use Rattle.plan.specs.Values.{serial_row}
use Rattle.capture.specs.Packets.{packet_lines}
use Rattle.show_packet.specs.Lines.{argument_text, argument_texts, label_before, packet_text, read_text, refusal_text, refused_text, request_line, response_line, saying, sized, unreadable_text, value_of}
use Rattle.show_table.specs.Standing.{absent_text, connections_text, each, found_text, gone_one, gone_text, handle_line, holder_text, job_text, jobs_text, marks_text, or_none, serial_text, sleepers_text, unfound_text}
use Rattle.show_job.specs.Concerned.{concerned, handle_in, job_named, named_by}
use Rattle.show_parts.specs.Parts.{answer_text, close_jobs, digits_text, event_text, header_seen, heading_text, jobs_after, number_text, packet_jobs, sent_text, table_text}
use Rattle.show_line.specs.Shown.{line_text, line_with}

-- the bytes that digits spell
abbrev bytes_in : Option Bytes → Bytes
bytes_in None = []
bytes_in (Some b) = b

-- line k of a capture: its digits, the packets sent in digits, the number, and the tables before and after it
unfoldable words : ℕ → Bytes → List Bytes → ℕ → Table → Table → Bytes
unfolding line_with heading_text digits_text header_seen event_text answer_text packet_lines sent_text number_text table_text jobs_after packet_jobs close_jobs concerned job_named named_by handle_in serial_of value handle frame unhex hex request_line response_line saying read_text packet_text refused_text unreadable_text refusal_text argument_texts argument_text pieces label_before value_of sized printed_or printed name_of reason_of label_of labels_of decimal decimal_in read header body split fits rules_of request_shape response_shape starts_with first_zero every same sleepers_text connections_text each or_none serial_text found_text absent_text unfound_text gone_text gone_one serial_row job_text handle_line marks_text jobs_text holder_text has fresh
words k line sent n u t = line_text k (frame line) sent n u t

abbrev spelled : String → Bytes
unfolding unhex
spelled s = bytes_in (unhex (text s))

-- one job, with this serial, this holder and these listeners
abbrev one_job : ℕ → ℕ → ℕ → Table
unfolding fresh
one_job serial holder listeners = set_job (fresh connection_count lap) 0 (unstarted (with_holder holder (with_listeners listeners (fresh_row serial 0 1 4))) [])

submission : words 6 (text "030000524551000000070000000d72657665727365000074657374")
    (spelled "00005245530000000800000007483a6c61703a31" ∷ spelled "01005245530000000600000000" ∷ []) 0 (fresh connection_count lap) (one_job 1 0 1)
    ≡ text "line 6 030000524551000000070000000d\n    0 -> SUBMIT_JOB function reverse unique \"\" workload 4 bytes\n    0 <- JOB_CREATED H:lap:1\n    1 <- NOOP\n    done\n    asleep none\n    job H:lap:1 holder none listeners 0\n"
unfolding words
submission = refl

late_result_lem : words 16 (text "0301005245510000000d0000000c483a6c61703a310070707070")
    (spelled "0100524553000000130000000931340068616e646c65" ∷ []) 14 (one_job 2 2 12) (one_job 2 2 12)
    ≡ text "line 16 0301005245510000000d0000000c\n    1 -> WORK_COMPLETE handle H:lap:1 data 4 bytes\n    1 <- ERROR number 14 text handle\n    refused 14 handle\n    asleep none\n    no job H:lap:1\n"
unfolding words
late_result_lem = refl

-- H:cup:2 is no handle at the hub lap, and concerns no job of it
foreign_result : words 16 (text "0301005245510000000d0000000c483a6375703a320070707070")
    (spelled "0100524553000000130000000931340068616e646c65" ∷ []) 14 (one_job 2 2 12) (one_job 2 2 12)
    ≡ text "line 16 0301005245510000000d0000000c\n    1 -> WORK_COMPLETE handle H:cup:2 data 4 bytes\n    1 <- ERROR number 14 text handle\n    refused 14 handle\n    asleep none\n"
unfolding words
foreign_result = refl

result : words 7 (text "0301005245510000000d0000000c483a6c61703a310070707070")
    (spelled "00005245530000000d0000000c483a6c61703a310070707070" ∷ []) 0 (one_job 1 2 1) (fresh connection_count lap)
    ≡ text "line 7 0301005245510000000d0000000c\n    1 -> WORK_COMPLETE handle H:lap:1 data 4 bytes\n    0 <- WORK_COMPLETE handle H:lap:1 data 4 bytes\n    done\n    asleep none\n    ended H:lap:1\n"
unfolding words
result = refl

close : words 9 (text "0203") [] 0 (one_job 2 0 8) (fresh connection_count lap) ≡ text "line 9 0203\n    3 closes\n    done\n    asleep none\n    dropped H:lap:2\n"
unfolding words
close = refl

-- a job that another connection hears of is left
close_kept : words 9 (text "0203") [] 0 (one_job 2 2 12) (one_job 2 2 4) ≡ text "line 9 0203\n    3 closes\n    done\n    asleep none\n    job H:lap:2 holder 1 listeners 2\n"
unfolding words
close_kept = refl

not_a_frame : words 3 (text "0A00") [] 16 (one_job 2 2 4) (one_job 2 2 4) ≡ text "line 3\n    refused 16 line is not a frame\n"
unfolding words
not_a_frame = refl

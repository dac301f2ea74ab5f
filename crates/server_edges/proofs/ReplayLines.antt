-- The replay from text to text: document 01's eight lines and its whole output, and the edges of the line format. Computed from
-- `server/Replay: replay_of`. Assumes nothing.
use mathlib.Core.Path.{◌≡◌, refl}
use mathlib.Core.List.{[], ◌∷◌, ◌++◌}
use lib.ListN.{replicate}
use Rattle.octets.specs.Bytes.{Bytes, text}
use Rattle.hexadecimal.specs.Hex.{unhex, hex}
use Rattle.lines.specs.Text.{lines_from}
use Rattle.packet.specs.Packet.{packet}
use Rattle.handle.specs.Handle.{lap}
use Rattle.server.specs.Sizes.{connection_count}
use Rattle.server.specs.Server.{start}
use Rattle.server.specs.Replay.{frame, answer_lines, replay_from, replay_of}
use Rattle.server.proofs.Histories.{answered}

-- what has to be unfolded to compute a replay
unfoldable computed : Bytes → Bytes
unfolding replay_of replay_from lines_from frame unhex hex answer_lines answered packet
computed t = replay_of t

-- ---- document 01's example

abbrev eight_lines : Bytes
eight_lines =
    text "0101\n"
    ++ text "0100\n"
    ++ text "030100524551000000010000000772657665727365\n"
    ++ text "0301005245510000000900000000\n"
    ++ text "0301005245510000000400000000\n"
    ++ text "030000524551000000070000000d72657665727365000074657374\n"
    ++ text "0301005245510000000900000000\n"
    ++ text "0301005245510000000d0000000c483a6c61703a310074736574\n"

abbrev whole_output : Bytes
whole_output =
    text "00\n"
    ++ text "00\n"
    ++ text "00\n"
    ++ text "01005245530000000a00000000\n"
    ++ text "00\n"
    ++ text "00\n"
    ++ text "00005245530000000800000007483a6c61703a31\n"
    ++ text "01005245530000000600000000\n"
    ++ text "00\n"
    ++ text "01005245530000000b00000014483a6c61703a3100726576657273650074657374\n"
    ++ text "00\n"
    ++ text "00005245530000000d0000000c483a6c61703a310074736574\n"
    ++ text "00\n"

pub replay_lines : replay_of eight_lines ≡ whole_output
unfolding computed
replay_lines = refl

-- ---- edges of the line format

-- "empty input writes nothing"; "an empty line is 16"
pub no_input : replay_of [] ≡ []
unfolding computed
no_input = refl

pub empty_line : replay_of (text "\n") ≡ text "10\n"
unfolding computed
empty_line = refl

-- "A last line without a line end counts"; with one there is no line behind it
pub last_line : replay_of (text "0101\n0101") ≡ text "00\n04\n"
unfolding computed
last_line = refl

pub last_line_ended : replay_of (text "0101\n0101\n") ≡ text "00\n04\n"
unfolding computed
last_line_ended = refl

-- an odd number of digits; an uppercase digit, beside the same frame in lowercase; a digit that is none
pub bad_digits : replay_of (text "010\n010A\n010a\n010g\n") ≡ text "10\n10\n00\n10\n"
unfolding computed
bad_digits = refl

-- a kind byte alone; kinds 00 and 04; "for 03 alone the packet's bytes"
pub bad_kinds : replay_of (text "01\n0000\n0400\n01ff00\n020000\n") ≡ text "10\n10\n10\n10\n10\n"
unfolding computed
bad_kinds = refl

-- "none or more": a packet of no bytes, from connection 204, is a frame
pub no_packet_bytes : replay_of (text "03cc\n") ≡ text "02\n"
unfolding computed
no_packet_bytes = refl

-- "At most 2,080 digits": a packet of 1,038 bytes on a connection that isn't open; then one digit more, and two
pub longest_line_lem : replay_from (start connection_count lap) ((text "0300" ++ replicate 2076 48) ∷ (text "0300" ++ replicate 2077 48) ∷ (text "0300" ++ replicate 2078 48) ∷ []) ≡ text "03\n10\n10\n"
unfolding computed
longest_line_lem = refl

-- What the replay program says, in digits. 01, "Replay program". Assumes nothing.
use Rattle.std.specs.Prelude.{ℕ, ◌+◌, ◌*◌, List, [], ◌∷◌, ◌++◌}
use Rattle.octets.specs.Bytes.{Bytes}
use Rattle.hexadecimal.specs.Hex.{hex}
use Rattle.server.specs.Sizes.{connection_count, output_size}
use Rattle.server.specs.Replay.{answer_lines}
use Rattle.capture.specs.Spoken.{Speech, Told, told, said}

-- one addressed packet, or the number, in digits
abbrev pub line_of : Bytes → Bytes
line_of p = hex p ++ (10 ∷ [])

-- the lines of the answer; the number of what isn't a frame is 16
abbrev pub in_digits : Speech
in_digits f ps n u t = answer_lines ps n

-- room for what any line says: two digits for each byte of the longest output, less than one line end for each of them, and the
-- number's line
abbrev pub text_size : ℕ
text_size = 3 * output_size connection_count + 3

-- one line on the lent bytes: table, workloads, output, text
unfoldable pub replayed : Bytes → Bytes → Bytes → Bytes → Bytes → Told
replayed line t w o x = told text_size in_digits line t w o x

-- one line after the other on the lent bytes; `server/Replay: replay_of` is what a whole text of the hub `lap` must come to
abbrev pub replayed_text : List Bytes → Bytes → Bytes → Bytes → Bytes → Bytes
replayed_text lines t w o x = said text_size (λ k. in_digits) 1 lines t w o x

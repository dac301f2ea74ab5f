-- What `show` prints for one line of a capture, and for a whole one. docs/SHOW.md has the layout. Assumes nothing.
use Rattle.std.specs.Prelude.{ℕ, ◌+◌, ◌*◌, List, [], ◌∷◌, ◌++◌, Option}
use Rattle.octets.specs.Bytes.{Bytes}
use Rattle.server.specs.declared.JobRow.{JobRow}
use Rattle.server.specs.Sizes.{connection_count, output_size}
use Rattle.server.specs.Table.{Table, rows_of}
use Rattle.server.specs.Requests.{Event}
use Rattle.server.specs.Server.{Server}
use Rattle.capture.specs.Spoken.{Speech, Told, told, said, spoken, spoken_text}
use Rattle.show_table.specs.Standing.{sleepers_room, jobs_room, gone_room}
use Rattle.show_parts.specs.Parts.{answer_text, heading_text, table_text}

abbrev pub line_end : Bytes
line_end = 10 ∷ []

-- line k, from the jobs' rows before it and the table after it
unfoldable pub line_with : ℕ → Option Event → List Bytes → ℕ → List JobRow → Table → Bytes
line_with k f ps n before t = heading_text k f ++ (answer_text ps n ++ (table_text f ps n before t ++ line_end))

abbrev pub line_text : ℕ → Speech
line_text k f ps n u t = line_with k f ps n (rows_of u) t

-- room for what any line says: fourteen bytes for each of the longest output, 1,314 for the heading, 47 for the number, the table's,
-- and the line end
abbrev pub text_size : ℕ
text_size = 14 * output_size connection_count + 1314 + 47 + (sleepers_room + gone_room + jobs_room) + 1

-- one line on the lent bytes: table, workloads, output, text
unfoldable pub shown : ℕ → Bytes → Bytes → Bytes → Bytes → Bytes → Told
shown k line t w o x = told text_size (line_text k) line t w o x

-- a whole text from line 1, on the lent bytes and by the server
abbrev pub shown_text : List Bytes → Bytes → Bytes → Bytes → Bytes → Bytes
shown_text lines t w o x = said text_size line_text 1 lines t w o x

abbrev pub answered_text : List Bytes → Server → Bytes
answered_text lines s = spoken line_text 1 lines s

-- a capture of the hub of this name, from its first byte to its last, shown
abbrev pub show_of : Bytes → Bytes → Bytes
show_of hub text = spoken_text line_text hub text

-- What each text command is answered, from the table alone. 02, ask 1. Assumes nothing.
use Rattle.std.specs.Prelude.{ℕ, Bool, not, cond, ◌&&◌, ◌||◌, List, [], ◌∷◌, ◌++◌, map, length, eqb}
use Rattle.octets.specs.Bytes.{Bytes, same, text}
use Rattle.handle.specs.Handle.{decimal}
use Rattle.prints.specs.Printed.{printed, printed_or}
use Rattle.sets.specs.Sets.{has, members}
use Rattle.lists.specs.Lists.{filter, numbers, concat}
use Rattle.server.specs.declared.JobRow.{JobRow}
use Rattle.server.specs.Table.{Table, id_at, function_at, rows_of, names}
use Rattle.server.specs.Rules.{is_open}
use Rattle.command.specs.Order.{in_order}

-- ---- bytes

abbrev pub tab : Bytes
tab = 9 ∷ []

-- 02: "Answer lines end with a line feed."
abbrev pub line_feed : Bytes
line_feed = 10 ∷ []

-- 02: "then a line with a period"
abbrev pub period_line : Bytes
period_line = text "." ++ line_feed

-- ---- status

-- the unfinished jobs of the function at place q, and those of them that are held
abbrev pub is_held : ℕ → JobRow → Bool
is_held q r = names q r && not (eqb r.holder 0)

unfoldable pub jobs_of : Table → ℕ → ℕ
jobs_of t q = length (filter (names q) (rows_of t))

unfoldable pub held_of : Table → ℕ → ℕ
held_of t q = length (filter (is_held q) (rows_of t))

-- how many connections are able to do it
unfoldable pub able_of : Table → ℕ → ℕ
able_of t q = length (members (length t.connections) (function_at t q).able)

-- 02: "name, unfinished jobs (queued and held together), held jobs, and the number of connections able to do it, with tabs"
unfoldable pub status_line : Table → ℕ → Bytes
status_line t q =
    printed (function_at t q).name ++ (tab ++ (decimal (jobs_of t q) ++ (tab ++ (decimal (held_of t q) ++ (tab ++ (decimal (able_of t q) ++ line_feed))))))

-- 02: "`status` gives a line a known function in rising byte order of name [..]; then a line with a period"
unfoldable pub status_text : Table → Bytes
status_text t = concat (map (status_line t) (in_order t.functions)) ++ period_line

-- ---- workers

-- 02: "one space between each two"
abbrev pub spaced : List Bytes → Bytes
spaced [] = []
spaced (w ∷ []) = w
spaced (w ∷ (v ∷ vs)) = w ++ (32 ∷ spaced (v ∷ vs))

-- the functions that connection c is able to do, "in byte order"
unfoldable pub functions_of : Table → ℕ → List ℕ
functions_of t c = filter (λ q. has (function_at t q).able c) (in_order t.functions)

-- 02: "its number, `-` for the address, client id or `-`, a colon and its functions in byte order, one space between each two"
unfoldable pub workers_line : Table → ℕ → Bytes
workers_line t c =
    spaced (decimal c ∷ text "-" ∷ printed_or (text "-") (id_at t c) ∷ text ":" ∷ map (λ q. printed (function_at t q).name) (functions_of t c)) ++ line_feed

-- 02: "`workers` prints for each open connection, rising: [..]; then a period line"
unfoldable pub workers_text : Table → Bytes
workers_text t = concat (map (workers_line t) (filter (is_open t) (numbers 0 (length t.connections)))) ++ period_line

-- ---- lines

-- the line is this command. 02: "ended by a line feed"; "A carriage return before the line feed is dropped."
unfoldable pub says : Bytes → Bytes → Bool
says command line = same line (command ++ line_feed) || same line (command ++ (13 ∷ line_feed))

-- 02: "`version` answers `lap 1`"; "Any other input, empty, longer or with no line feed included, answers `ERR unknown`."
unfoldable pub text_for : Bytes → Table → Bytes
text_for line t =
    cond (says (text "status") line) (status_text t)
    (cond (says (text "workers") line) (workers_text t)
    (cond (says (text "version") line) (text "lap 1" ++ line_feed)
    (text "ERR unknown" ++ line_feed)))

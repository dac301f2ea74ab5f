-- How the table stands after an event, in words: who is asleep, the jobs that are gone, and a job with its marks, its holder and its
-- listeners. A job is named by its handle at the hub. A line begins with a line end and four spaces, and has no line end after it.
-- Assumes nothing.
use Rattle.std.specs.Prelude.{ℕ, zero, suc, ◌+◌, ◌*◌, Bool, cond, List, [], ◌∷◌, ◌++◌, get_or, eqb, Option, Some, None}
use Rattle.octets.specs.Bytes.{Bytes}
use Rattle.sets.specs.Sets.{has}
use Rattle.handle.specs.Handle.{decimal, handle, handle_most}
use Rattle.server.specs.declared.Connection.{Connection}
use Rattle.server.specs.declared.JobRow.{JobRow}
use Rattle.server.specs.Sizes.{connection_count, job_count}
use Rattle.server.specs.Table.{closed, live, no_row}
use Rattle.plan.specs.Values.{serial_row}
use Rattle.show_names.specs.Names.{space}
use Rattle.prints.specs.Pieces.{pieces}

-- ---- the fixed words

-- a line end, and four spaces
abbrev pub below : Bytes
below = 10 ∷ 32 ∷ 32 ∷ 32 ∷ 32 ∷ []

abbrev pub asleep_word : Bytes
asleep_word = 97 ∷ 115 ∷ 108 ∷ 101 ∷ 101 ∷ 112 ∷ []  -- asleep

abbrev pub job_word : Bytes
job_word = 106 ∷ 111 ∷ 98 ∷ 32 ∷ []  -- job, and a space

abbrev pub no_job_word : Bytes
no_job_word = 110 ∷ 111 ∷ 32 ∷ 106 ∷ 111 ∷ 98 ∷ 32 ∷ []  -- no job, and a space

-- marks of a job, each after a space
abbrev pub low_word : Bytes
low_word = 32 ∷ 108 ∷ 111 ∷ 119 ∷ []  -- low

abbrev pub high_word : Bytes
high_word = 32 ∷ 104 ∷ 105 ∷ 103 ∷ 104 ∷ []  -- high

abbrev pub background_word : Bytes
background_word = 32 ∷ 98 ∷ 97 ∷ 99 ∷ 107 ∷ 103 ∷ 114 ∷ 111 ∷ 117 ∷ 110 ∷ 100 ∷ []  -- background

abbrev pub holder_word : Bytes
holder_word = 32 ∷ 104 ∷ 111 ∷ 108 ∷ 100 ∷ 101 ∷ 114 ∷ []  -- holder, after a space

abbrev pub listeners_word : Bytes
listeners_word = 32 ∷ 108 ∷ 105 ∷ 115 ∷ 116 ∷ 101 ∷ 110 ∷ 101 ∷ 114 ∷ 115 ∷ []  -- listeners, after a space

abbrev pub none_word : Bytes
none_word = 32 ∷ 110 ∷ 111 ∷ 110 ∷ 101 ∷ []  -- none, after a space

-- ---- connections

-- of the connections below n those of which f holds, in rising order, each after a space
unfoldable pub each : (ℕ → Bool) → ℕ → Bytes
each f n = pieces (λ c. cond (f c) (space ++ decimal c) []) n

-- ` none` for none
unfoldable pub or_none : Bytes → Bytes
or_none [] = none_word
or_none (x ∷ s) = x ∷ s

unfoldable pub connections_text : (ℕ → Bool) → ℕ → Bytes
connections_text f n = or_none (each f n)

-- `asleep 1 4`: the sleepers among n connections
unfoldable pub sleepers_text : ℕ → List Connection → Bytes
sleepers_text n cs = below ++ (asleep_word ++ connections_text (λ c. (get_or cs c closed).asleep) n)

-- ---- one job

-- `dropped H:lap:3`: a word with a space after it, and the handle at the hub of this name
unfoldable pub handle_line : Bytes → Bytes → ℕ → Bytes
handle_line hub word serial = below ++ (word ++ handle hub serial)

-- ` low`, ` high`, ` background`; of a normal priority and of the foreground nothing is said
unfoldable pub marks_text : JobRow → Bytes
marks_text r = cond (eqb r.priority 0) low_word [] ++ (cond (eqb r.priority 2) high_word [] ++ cond r.background background_word [])

-- a row's holder: 0 for none, else one more than its number
unfoldable pub holder_text : ℕ → Bytes
holder_text zero = none_word
holder_text (suc c) = space ++ decimal c

-- `job H:lap:1 high background holder 1 listeners 0 2`
unfoldable pub job_text : Bytes → ℕ → JobRow → Bytes
job_text hub n r =
    handle_line hub job_word r.serial ++ (marks_text r ++ ((holder_word ++ holder_text r.holder) ++ (listeners_word ++ connections_text (has r.listeners) n)))

-- a line for a serial that no unfinished job of the rows has
unfoldable pub unfound_text : Bytes → Bytes → ℕ → Option ℕ → Bytes
unfound_text hub word serial (Some p) = []
unfound_text hub word serial None = handle_line hub word serial

unfoldable pub absent_text : Bytes → Bytes → ℕ → List JobRow → Bytes
absent_text hub word serial rs = unfound_text hub word serial (serial_row serial rs)

-- the job at the place where a serial was found after the event; `no job H:lap:7`, if none had it before the event either: one that had
-- it is gone, and is named as such
unfoldable pub found_text : Bytes → ℕ → ℕ → List JobRow → List JobRow → Option ℕ → Bytes
found_text hub n serial before after (Some p) = job_text hub n (get_or after p no_row)
found_text hub n serial before after None = absent_text hub no_job_word serial before

-- the unfinished job of a serial, from the rows before the event and after it
unfoldable pub serial_text : Bytes → ℕ → ℕ → List JobRow → List JobRow → Bytes
serial_text hub n serial before after = found_text hub n serial before after (serial_row serial after)

-- ---- all jobs

-- every unfinished job, in the order of the places
unfoldable pub jobs_text : Bytes → ℕ → List JobRow → Bytes
jobs_text hub n rs = pieces (λ p. cond (live (get_or rs p no_row)) (job_text hub n (get_or rs p no_row)) []) job_count

-- a row's job, if none of the rows after the event has its serial
unfoldable pub gone_one : Bytes → Bytes → List JobRow → JobRow → Bytes
gone_one hub word after r = cond (live r) (absent_text hub word r.serial after) []

-- every job that stood in the table before the event and is gone after it, in the order of the places: `dropped H:lap:3`
unfoldable pub gone_text : Bytes → Bytes → List JobRow → List JobRow → Bytes
gone_text hub word before after = pieces (λ p. gone_one hub word after (get_or before p no_row)) job_count

-- ---- room for them

-- a space and two digits for each connection
abbrev pub connections_room : ℕ
connections_room = 3 * connection_count

abbrev pub sleepers_room : ℕ
sleepers_room = connections_room + 11

-- `job` 9, the marks 20, the holder 18, `listeners` 10, and the handle
abbrev pub job_room : ℕ
job_room = connections_room + 57 + handle_most

abbrev pub jobs_room : ℕ
jobs_room = job_room * job_count

-- `dropped` 13, and the handle
abbrev pub gone_one_room : ℕ
gone_one_room = 13 + handle_most

abbrev pub gone_room : ℕ
gone_room = gone_one_room * job_count

-- Document 01's table of refusal numbers, row by row: when each number is given, in its order. "Checked in number order; 0 means done."
-- A call's number is the first whose condition holds. Assumes nothing.
use Rattle.std.specs.Prelude.{ℕ, ◌+◌, Bool, true, false, not, cond, ◌&&◌, ◌||◌, List, [], ◌∷◌, length, get_or, drop, ltb, eqb}
use Rattle.octets.specs.Bytes.{Bytes, same, starts_with, number_at}
use Rattle.packet.specs.Layout.{is_own, request_shape, rules_of, one_of}
use Rattle.packet.specs.Arguments.{Parts, bad, parts, split}
use Rattle.packet.specs.Packet.{requests}
use Rattle.lists.specs.Lists.{any, all}
use Rattle.server.specs.Table.{Table, live, joins}
use Rattle.server.specs.Rules.{is_open, is_known}
use Rattle.server.specs.Requests.{Event, opens, closes, sends}
use Rattle.server.specs.Events.{holds_handle, exceptions_name}
use Rattle.server.specs.Layout.{table_of}
use Rattle.server.specs.Call.{too_short, is_sound}
use Rattle.demands.specs.Handles.{is_work}

-- a row: its number, and whether its condition holds
pub record Row : Type 0 where
  pub number : ℕ
  pub holds : Bool

abbrev row : ℕ → Bool → Row
row n b = record { number = n; holds = b }

-- the number of the first row that holds; 0 where none does
unfoldable pub first : List Row → ℕ
first [] = 0
first (r ∷ rs) = cond r.holds r.number (first rs)

-- ---- 1 to 4

-- "a lent buffer is too short, or the table breaks a table rule"
abbrev pub bad_memory : ℕ → Bytes → Bytes → Bytes → Bool
bad_memory n t w o = too_short n t w o || not (is_sound n t)

-- "connection above 15", for n connections
abbrev pub connection_above : ℕ → Event → Bool
connection_above n (opens c) = not (ltb c n)
connection_above n (closes c) = not (ltb c n)
connection_above n (sends c b) = not (ltb c n)

-- "packet or close, connection not open"
abbrev pub not_open : Table → Event → Bool
not_open t (opens c) = false
not_open t (closes c) = not (is_open t c)
not_open t (sends c b) = not (is_open t c)

-- "open, already open"
abbrev pub already_open : Table → Event → Bool
already_open t (opens c) = is_open t c
already_open t (closes c) = false
already_open t (sends c b) = false

-- ---- 5 to 10: packets

-- "packet under 12 bytes"
abbrev pub under_twelve : Bytes → Bool
under_twelve b = ltb (length b) 12

-- "magic is not the request's"
abbrev pub other_magic : Bytes → Bool
other_magic b = not (starts_with b requests.magic)

-- "size above 1,024"
abbrev pub size_above : Bytes → Bool
size_above b = ltb 1024 (number_at b 8)

-- "packet length is not 12 + size"
abbrev pub other_length : Bytes → Bool
other_length b = not (eqb (length b) (12 + number_at b 8))

abbrev pub type_of : Bytes → ℕ
type_of b = number_at b 4

-- "type not served"
abbrev pub not_served : Bytes → Bool
not_served b = not (is_own (request_shape (type_of b)))

-- "data doesn't split as the type asks, or breaks a size above"
abbrev pub splits : Bytes → Parts
splits b = split (rules_of (request_shape (type_of b))) (drop 12 b)

abbrev pub unsplit : Parts → Bool
unsplit bad = true
unsplit (parts as') = false

abbrev pub bad_arguments : Bytes → Bool
bad_arguments b = unsplit (splits b)

-- ---- 11 to 15: what is asked

abbrev pub argument_in : Parts → ℕ → Bytes
argument_in bad i = []
argument_in (parts as') i = get_or as' i []

-- argument i of the packet
abbrev pub argument : Bytes → ℕ → Bytes
argument b i = argument_in (splits b) i

-- "7, 18 (BG), 21 (HIGH), 32 (HIGH_BG), 33 (LOW), 34 (LOW_BG) SUBMIT_JOB"
abbrev pub is_submission : ℕ → Bool
is_submission kind = one_of (7 ∷ 18 ∷ 21 ∷ 32 ∷ 33 ∷ 34 ∷ []) kind

-- a submission that joins no unfinished job
abbrev pub is_new_job : Table → ℕ → Bytes → Bytes → Bool
is_new_job t kind f u = is_submission kind && not (any (joins t.functions f u) t.jobs)

-- "CAN_DO or a new job names an unknown function while 16 are known"
abbrev pub functions_full : Table → ℕ → Bytes → Bytes → Bool
functions_full t kind f u = (eqb kind 1 || is_new_job t kind f u) && (not (any (λ x. same x.name f) t.functions) && all is_known t.functions)

-- "new job, 32 unfinished"
abbrev pub jobs_full : Table → ℕ → Bytes → Bytes → Bool
jobs_full t kind f u = is_new_job t kind f u && all (λ j. live j.row) t.jobs

-- "new job, serials used up"
abbrev pub serials_used_up : Table → ℕ → Bytes → Bytes → Bool
serials_used_up t kind f u = is_new_job t kind f u && not (ltb t.last 4294967295)

-- "types 12, 13, 14, 25, 28, 29: handle isn't a job held by this connection"
abbrev pub not_held : Table → ℕ → ℕ → Bytes → Bool
not_held t c kind h = is_work kind && not (any (λ j. holds_handle t.hub c h j.row) t.jobs)

-- "option isn't `exceptions`"
abbrev pub other_option : ℕ → Bytes → Bool
other_option kind name = eqb kind 26 && not (same name exceptions_name)

-- ---- the table

-- the rows of what is asked by a packet of connection c, from its type and its first two arguments
abbrev pub asked_rows : Table → ℕ → ℕ → Bytes → Bytes → List Row
asked_rows t c kind a b =
    row 11 (functions_full t kind a b) ∷ row 12 (jobs_full t kind a b) ∷ row 13 (serials_used_up t kind a b) ∷ row 14 (not_held t c kind a) ∷ row 15 (other_option kind a) ∷ []

abbrev pub packet_rows : Table → Event → List Row
packet_rows t (opens c) = []
packet_rows t (closes c) = []
packet_rows t (sends c b) =
    row 5 (under_twelve b) ∷ row 6 (other_magic b) ∷ row 7 (size_above b) ∷ row 8 (other_length b) ∷ row 9 (not_served b) ∷ row 10 (bad_arguments b)
    ∷ asked_rows t c (type_of b) (argument b 0) (argument b 1)

unfoldable pub conditions : ℕ → Event → Bytes → Bytes → Bytes → List Row
conditions n e t w o =
    let u = table_of n t in
    row 1 (bad_memory n t w o) ∷ row 2 (connection_above n e) ∷ row 3 (not_open u e) ∷ row 4 (already_open u e) ∷ packet_rows u e

-- a technician's line. 02: "Refusals 1 to 3 hold here too."
unfoldable pub line_conditions : ℕ → ℕ → Bytes → Bytes → Bytes → List Row
line_conditions n c t w o = row 1 (bad_memory n t w o) ∷ row 2 (not (ltb c n)) ∷ row 3 (not (is_open (table_of n t) c)) ∷ []

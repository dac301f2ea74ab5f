-- The numbers that an event is answered by: one row for each. 01, "Refusal numbers". Assumes nothing.
use Rattle.std.specs.Prelude.{ℕ, Bool, not, List, [], ◌∷◌, get_or}
use Rattle.octets.specs.Bytes.{Bytes, same, text}

-- 01's column "ERROR text", by number: empty where nothing is written
abbrev pub refusal_texts : List Bytes
refusal_texts =
    []  -- 0 done
    ∷ []  -- 1 a lent buffer is too short, or the table breaks a table rule
    ∷ []  -- 2 connection above 15
    ∷ []  -- 3 packet or close, connection not open
    ∷ []  -- 4 open, already open
    ∷ []  -- 5 packet under 12 bytes
    ∷ []  -- 6 magic isn't the request's
    ∷ []  -- 7 size above 1,024
    ∷ []  -- 8 packet length isn't 12 + size
    ∷ text "type"  -- 9 type not served
    ∷ text "arguments"  -- 10 data doesn't split as the type asks, or breaks a size
    ∷ text "functions"  -- 11 CAN_DO or a new job names an unknown function while 16 are known
    ∷ text "jobs"  -- 12 new job, 32 unfinished
    ∷ text "serials"  -- 13 new job, serials used up
    ∷ text "handle"  -- 14 handle isn't a job held by this connection
    ∷ text "option"  -- 15 option isn't `exceptions`
    ∷ []

-- the number of the last row
abbrev pub last_number : ℕ
last_number = 15

abbrev pub error_text : ℕ → Bytes
error_text n = get_or refusal_texts n []

-- 01: "1 to 8 write nothing [..]. 9 to 15 write one ERROR packet": a refusal is told exactly if it has a text
unfoldable pub is_told : ℕ → Bool
is_told n = not (same (error_text n) [])

-- Refusals 1 to 4, which an event meets before it is looked at. Assumes nothing.
use Rattle.std.specs.Prelude.{ℕ, Bool, not, cond, ◌||◌, get_or, ltb, Result, Ok, Err}
use Rattle.call_admit.specs.declared.Refusal.{Refusal}
use Rattle.call_admit.specs.declared.Refusal.TheVariants as RV
use Rattle.octets.specs.Bytes.{Bytes}
use Rattle.server.specs.Sizes.{connection_count}
use Rattle.server.specs.Table.{closed}
use Rattle.server.specs.Layout.{table_of}
use Rattle.server.specs.Call.{too_short, is_sound}

-- 01's number of a refusal
abbrev pub refusal_number : Refusal → ℕ
refusal_number RV.Lent = 1
refusal_number RV.Connection = 2
refusal_number RV.NotOpen = 3
refusal_number RV.Open = 4

-- 01's number of an answer: 0 where the event is admitted
abbrev pub answer_number : Result Unit Refusal → ℕ
answer_number (Ok u) = 0
answer_number (Err r) = refusal_number r

-- 01, rows 3 and 4: "packet or close, connection not open", "open, already open": by whether it is open and whether it is to be opened
unfoldable pub state_refusal : Bool → Bool → ℕ
state_refusal is_open to_open = cond is_open (cond to_open 4 0) (cond to_open 0 3)

-- 01: "Checked in number order"; 0 where none is given
unfoldable pub admission : Bool → ℕ → Bytes → Bytes → Bytes → ℕ
admission to_open c t w o =
    cond (too_short connection_count t w o || not (is_sound connection_count t)) 1
    (cond (not (ltb c connection_count)) 2
    (state_refusal (get_or (table_of connection_count t).connections c closed).opened to_open))

-- The rules of numbers that belong together, and the tests that show them. Assumes nothing.
use Rattle.std.specs.Prelude.{ℕ, ◌+◌, ◌*◌, Bool, not, cond, ◌&&◌, ◌||◌, get_or, eqb, leb}
use Rattle.octets.specs.Bytes.{Bytes}
use Rattle.sets.specs.Sets.{has}
use Rattle.lists.specs.Lists.{all, numbers}
use Rattle.server.specs.Sizes.{connection_count, job_count, name_size}
use Rattle.server.specs.Layout.{function_in, row_in, table_of, names_at, opened_at, asleep_at, exceptions_at}
use Rattle.server.specs.Rules.{serials_below, serials_distinct, functions_as_defined, abilities_open, listeners_open, holders_open, closed_clear, sleepers_idle}
use Rattle.check_survey.specs.Surveyed.{free_or_job}

-- ---- the rules

unfoldable pub connection_rules : Bytes → Bool
connection_rules b =
    let t = table_of connection_count b in
    abilities_open t && (listeners_open t && (holders_open t && (closed_clear t && sleepers_idle t)))

-- free rows have no unique, and the rules of serials, connections and functions
unfoldable pub number_rules : Bytes → Bool
number_rules b =
    let t = table_of connection_count b in
    all (free_or_job b) (numbers 0 job_count) && ((serials_below t && serials_distinct t) && (connection_rules b && functions_as_defined t))

-- ---- serials

abbrev pub serial_in : Bytes → ℕ → ℕ
serial_in b k = (row_in connection_count b k).serial

abbrev pub serial_below : Bytes → ℕ → ℕ → Bool
serial_below b last k = leb (serial_in b k) last

-- ---- sets

abbrev pub able_if : Bytes → ℕ → ℕ → ℕ
able_if b queued q = cond (has queued q) (function_in connection_count b q).able 0

-- connection c is open, or it is not used, awake and without the option; and it is awake or has nothing to do
abbrev pub connection_holds : Bytes → ℕ → ℕ → ℕ → Bool
connection_holds b used busy c =
    (not (eqb (get_or b (opened_at connection_count + c) 0) 0) || ((eqb (get_or b (asleep_at connection_count + c) 0) 0 && eqb (get_or b (exceptions_at connection_count + c) 0) 0) && not (has used c)))
    && (eqb (get_or b (asleep_at connection_count + c) 0) 0 || not (has busy c))

abbrev pub agrees : Bool → Bool → Bool
agrees x y = (x && y) || (not x && not y)

abbrev pub is_defined : Bytes → ℕ → ℕ → Bool
is_defined b named q = agrees (not (eqb (get_or b (names_at + name_size * q) 0) 0)) (not (eqb (function_in connection_count b q).able 0) || has named q)

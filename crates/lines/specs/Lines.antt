-- A line gathered byte by byte in a lent buffer. 01, "Replay program": "A last line without a line end counts; an empty line is
-- 16; empty input writes nothing." Assumes nothing.
use Rattle.std.specs.Prelude.{ℕ, ◌+◌, Bool, true, false, cond, ◌||◌, length, set, ltb, eqb}
use Rattle.octets.specs.Bytes.{Bytes}
use Rattle.lines.specs.declared.Line.{Line}

-- nothing has come
abbrev pub fresh : Line
fresh = record { length = 0; overlong = false; ended = false }

-- after a line feed the next line begins
unfoldable pub begun : Line → Line
begun l = cond l.ended fresh l

-- a line so far, and the buffer in which it stands
pub record Held : Type 0 where
  pub line : Line
  pub buffer : Bytes

-- its line feed has come
abbrev pub ending : Line → Bytes → Held
ending l b = record { line = record { length = l.length; overlong = l.overlong; ended = true }; buffer = b }

-- one byte more, and the same where there is no room for it
abbrev pub longer : Line → Bytes → ℕ → Held
longer l b x = record { line = record { length = l.length + 1; overlong = l.overlong; ended = false }; buffer = set b l.length x }

abbrev pub overflowing : Line → Bytes → Held
overflowing l b = record { line = record { length = l.length; overlong = true; ended = false }; buffer = b }

unfoldable pub added : Line → Bytes → ℕ → Held
added l b x = cond (eqb x 10) (ending l b) (cond (ltb l.length (length b)) (longer l b x) (overflowing l b))

unfoldable pub fed : Line → Bytes → ℕ → Held
fed l b x = added (begun l) b x

-- once the text has ended: some of a line has come, and its line feed has not
unfoldable pub is_open : Line → Bool
is_open l = ltb 0 (begun l).length || (begun l).overlong

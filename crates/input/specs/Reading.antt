-- Where reading the standard input stands. What is read is known to no contract. Assumes nothing.
use Rattle.std.specs.Prelude.{Bool, false, cond}
use Rattle.lines.specs.Lines.{fresh, is_open}
use Rattle.input.specs.declared.Input.{Input}

-- nothing is read yet
abbrev pub start : Input
start = record { line = fresh; at = 0; end = 0; over = false; failed = false }

-- a line has come: its line feed, or some of it where the input is over; what came of a line before reading failed is none
unfoldable pub has_line : Input → Bool
has_line s = cond s.failed false (cond s.over (is_open s.line) s.line.ended)

-- `capture::read_frame` meets its contract: too many digits, digits that spell no bytes, or the frame of those that they spell.
-- Assumes nothing.
use mathlib.Core.Path.{◌∙◌}
use Rattle.capture.proofs.Framing.{long_line, bad_line, line_fits, line_short, line_frame}
use borrow.Author.Rules.{rules}
use Rattle.capture.proofs.read_frame.Goals as goal

pub returns-then-line-gt-LONGEST_LINE : goal.returns-then-line-gt-LONGEST_LINE
returns-then-line-gt-LONGEST_LINE c = search (rules, long_line)

pub framed-requires : goal.framed-requires
framed-requires c = search (rules, line_fits, line_short)

pub returns-in-None : goal.returns-in-None
returns-in-None c = search (rules, bad_line)

pub returns-in-Some : goal.returns-in-Some
returns-in-Some c =
    (c.framed.ensures.0 ∙ line_frame _ _ _ _ c.read_hex.ensures c.if-line-gt-LONGEST_LINE.false _ c.in-Some.is, c.framed.ensures.1)

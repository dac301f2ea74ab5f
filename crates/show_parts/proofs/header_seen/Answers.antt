-- `show_parts::header_seen` meets its contract: nothing after 5 to 8, or the first twelve bytes. Assumes nothing.
use Prim.Native.Nat.{◌<◌, ◌≤◌}
use Rattle.show_parts.proofs.Laid.{bad_header, header_read, header_refused}
use Rattle.show_parts.proofs.header_seen.Goals as goal

pub returns-then-number-lt9 : goal.returns-then-number-lt9
returns-then-number-lt9 c = bad_header _ _ c.in-Err.ensures _ c.number.ensures c.if-number-lt9.true _ c.front.ensures

pub returns-else-number-lt9 : goal.returns-else-number-lt9
returns-else-number-lt9 c = header_refused _ _ c.in-Err.ensures _ c.number.ensures c.if-number-lt9.false _ c.front-in-Err.ensures

pub returns-in-Ok : goal.returns-in-Ok
returns-in-Ok c = header_read _ _ c.in-Ok.ensures _ c.front-in-Ok.ensures

-- `carry_several::send_if` meets its contract: a connection that is no member gets nothing; a member that hears gets the packet, and
-- another WORK_FAIL. Assumes nothing.
use Rattle.octets.proofs.Runs.{laid_as, room_as}
use Rattle.carry_several.proofs.Several.{stranger_place, stranger_laid, heard_is, failed_is}
use mathlib.Core.Path.{sym}
use Rattle.std.proofs.Common.{ap, not}
use Rattle.carry_several.proofs.send_if.Goals as goal

pub returns-then-not-has : goal.returns-then-not-has
returns-then-not-has c = (stranger_place _ _ _ _ _ _ _ c.has.ensures (ap not c.if-not-has.true) _, stranger_laid _ _ _ _ _ _ _ c.has.ensures (ap not c.if-not-has.true) _ _)

pub send-requires : goal.send-requires
send-requires c =
    (c.requires.1, room_as _ _ (sym (heard_is _ _ _ _ _ _ _ c.has.ensures (ap not c.if-not-has.false) _ c.has-else-not-has.ensures c.if-has.true)) _ _ c.requires.3)

pub returns-then-has : goal.returns-then-has
returns-then-has c =
    laid_as _ _ (sym (heard_is _ _ _ _ _ _ _ c.has.ensures (ap not c.if-not-has.false) _ c.has-else-not-has.ensures c.if-has.true)) _ _ _ _ c.send.ensures

pub send-requires-else-has : goal.send-requires-else-has
send-requires-else-has c =
    (c.requires.2, room_as _ _ (sym (failed_is _ _ _ _ _ _ _ c.has.ensures (ap not c.if-not-has.false) _ c.has-else-not-has.ensures c.if-has.false)) _ _ c.requires.3)

pub returns-else-has : goal.returns-else-has
returns-else-has c =
    laid_as _ _ (sym (failed_is _ _ _ _ _ _ _ c.has.ensures (ap not c.if-not-has.false) _ c.has-else-not-has.ensures c.if-has.false)) _ _ _ _ c.send-else-has.ensures

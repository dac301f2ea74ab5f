-- `packet_read::read_body` meets its contract: a foreign type is 9, data that does not split is 10, and else the arguments' ends are
-- the answer. Assumes nothing.
use mathlib.Core.Path.{ap, sym, ◌∙◌}
use mathlib.Core.Bool.{not}
use borrow.Author.Rules.{rules}
use Rattle.std.proofs.lemmas.Result.{err_from_is_err_and}
use Rattle.std.specs.Prelude.{Some}
use Rattle.packet_read.proofs.Reading.{body_foreign, body_own, body_unsplit}
use Rattle.packet_read.proofs.read_body.Goals as goal

pub returns-then-not-is_own : goal.returns-then-not-is_own
returns-then-not-is_own c = search (rules, body_foreign)

pub returns-in_err-ends : goal.returns-in_err-ends
returns-in_err-ends c =
    let p = err_from_is_err_and c.from_residual.result c.from_residual.ensures.1 in
    rw (p.1, p.2) (body_unsplit _ _ _ _ c.is_own.ensures (ap not c.if-not-is_own.false) _ _ c.in_err-ends.ensures.value c.in_err-ends.ensures.ok_part c.split.ensures)

pub returns : goal.returns
returns c = body_own _ _ _ _ c.is_own.ensures (ap not c.if-not-is_own.false) (Some c.in_ok-ends.ends) (sym c.in_ok-ends.ensures.ok_part ∙ c.split.ensures)

-- `prints::put_printed_or` meets its contract: what stands for the empty text, else the text as it is printed. Assumes nothing.
use mathlib.Core.Path.{sym, ◌∙◌}
use borrow.Author.Tests.{eqb-true, eqb-false}
use Rattle.octets.proofs.Runs.{laid_as, room_as}
use Rattle.prints.proofs.Printed.{printed_none, printed_some}
use Rattle.prints.proofs.put_printed_or.Goals as goal

pub put-requires : goal.put-requires
put-requires c = room_as _ _ (printed_none _ _ (eqb-true _ 0 (sym c.is_empty.ensures ∙ c.if-is_empty.true))) _ _ c.requires

pub returns-then-is_empty : goal.returns-then-is_empty
returns-then-is_empty c = laid_as _ _ (printed_none _ _ (eqb-true _ 0 (sym c.is_empty.ensures ∙ c.if-is_empty.true))) _ _ _ _ c.put.ensures

pub put_printed-requires : goal.put_printed-requires
put_printed-requires c = room_as _ _ (printed_some _ _ (eqb-false _ 0 (sym c.is_empty.ensures ∙ c.if-is_empty.false))) _ _ c.requires

pub returns : goal.returns
returns c = laid_as _ _ (printed_some _ _ (eqb-false _ 0 (sym c.is_empty.ensures ∙ c.if-is_empty.false))) _ _ _ _ c.put_printed.ensures

-- `handle::serial_of` meets its contract: each test refuses what no serial's handle is, and a text that passes all of them is the
-- handle of its number. Assumes nothing.
use Rattle.handle.proofs.Reading.{serial_short, serial_long, serial_elsewhere, serial_leading, serial_letter, serial_high, serial_found, narrowed}
use mathlib.Core.Path.{◌∙◌}
use native.Mathlib.Omega.{arith}
use borrow.Author.Rules.{rules}
use Rattle.handle.proofs.serial_of.Goals as goal

pub returns-then-text-digits : goal.returns-then-text-digits
returns-then-text-digits c = search (rules, serial_short)

pub returns-then-digits-text : goal.returns-then-digits-text
returns-then-digits-text c = search (rules, serial_long)

pub returns-then-not-names_hub : goal.returns-then-not-names_hub
returns-then-not-names_hub c = search (rules, serial_elsewhere)

pub returns-then-text-digits-eq48 : goal.returns-then-text-digits-eq48
returns-then-text-digits-eq48 c = search (rules, serial_leading)

pub returns-in_err-number : goal.returns-in_err-number
returns-in_err-number c = c.from_residual.ensures ∙ serial_letter c.args.hub.now c.args.text.now _ c.number_of.ensures c.in_err-number.was

pub returns : goal.returns
returns c =
    let hub = c.args.hub.now in
    let text = c.args.text.now in
    let n = c.in_ok-number.was in
    c.ok.ensures.value
    ∙ narrowed _ _ _ c.try_from.ensures
    (serial_high hub text _ c.number_of.ensures _ n)
    (serial_found hub text _ c.number_of.ensures _ n _ c.names_hub.ensures c.if-not-names_hub.false (omega arith) (omega arith) c.if-text-digits-eq48.false)

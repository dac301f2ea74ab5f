-- `check_texts::all_digits` meets its contract. Numbers of one digit pass; else both columns are asked. Assumes nothing.
use Rattle.std.proofs.Common.{sym, ◌∙◌}
use Rattle.check_texts.proofs.Numbers.{one_digit_each}
use Rattle.check_texts.proofs.all_digits.Goals as goal

pub returns-then-one_digit_each : goal.returns-then-one_digit_each
returns-then-one_digit_each c =
    one_digit_each c.args.table.now c.requires.1.0 c.requires.1.1 (sym c.one_digit_each.ensures ∙ c.if-one_digit_each.true)

-- `hexadecimal::read_hex` meets its contract, one law for each return. Assumes nothing.
use Rattle.hexadecimal.proofs.Reading.{spelling_odd, spelling_bad, spelling_long, spelling_good}
use borrow.Author.Rules.{rules}
use Rattle.hexadecimal.proofs.read_hex.Goals as goal

pub returns-then-digits-ne0 : goal.returns-then-digits-ne0
returns-then-digits-ne0 c = search (rules, spelling_odd)

pub returns-then-not-all_digits : goal.returns-then-not-all_digits
returns-then-not-all_digits c = search (rules, spelling_bad)

pub returns-then-out-count : goal.returns-then-out-count
returns-then-out-count c = search (rules, spelling_long)

pub returns : goal.returns
returns c = search (rules, spelling_good)

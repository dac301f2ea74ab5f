use borrow.Author.Rules.{rules}
use Rattle.octets.proofs.Strings.{every_low, every_high, every_on, every_end}
use Rattle.octets.proofs.all_within.Goals as goal

pub returns-then-x-low : goal.returns-then-x-low
returns-then-x-low c = search (rules, every_low)

pub returns-then-high-x : goal.returns-then-high-x
returns-then-high-x c = search (rules, every_high)

pub loop-byte-preserved : goal.loop-byte-preserved
loop-byte-preserved c = search (rules, every_on)

pub returns : goal.returns
returns c = search (rules, every_end)

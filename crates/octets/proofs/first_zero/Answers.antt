use borrow.Author.Rules.{rules}
use Rattle.octets.proofs.Strings.{scan_found, scan_on, scan_end}
use Rattle.octets.proofs.first_zero.Goals as goal

pub returns-then-s-i-eq0 : goal.returns-then-s-i-eq0
returns-then-s-i-eq0 c = search (rules, scan_found)

pub loop-i-preserved : goal.loop-i-preserved
loop-i-preserved c = search (rules, scan_on)

pub returns : goal.returns
returns c = search (rules, scan_end)

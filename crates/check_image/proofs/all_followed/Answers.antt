use mathlib.Core.Path.{refl}
use borrow.Author.Rules.{rules}
use Rattle.table_passes.proofs.Tests.{each_on, each_end}
use Rattle.check_image.proofs.all_followed.Goals as goal

pub loop-i-init : goal.loop-i-init
loop-i-init c = refl

pub loop-i-preserved : goal.loop-i-preserved
loop-i-preserved c = search (rules, each_on)

pub returns : goal.returns
returns c = search (rules, each_end)

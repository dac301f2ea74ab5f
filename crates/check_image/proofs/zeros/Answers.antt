use mathlib.Core.Path.{refl}
use Rattle.table_passes.proofs.Tests.{none_on, each_end}
use borrow.Author.Rules.{rules}
use Rattle.check_image.proofs.zeros.Goals as goal

pub loop-k-init : goal.loop-k-init
loop-k-init c = refl

pub loop-k-preserved : goal.loop-k-preserved
loop-k-preserved c = search (rules, none_on)

pub returns : goal.returns
returns c = search (rules, each_end)

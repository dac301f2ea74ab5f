use Rattle.std.proofs.Common.{rules, get_or}
use Rattle.table_passes.proofs.Tests.{each_on, each_end}
use Rattle.check_texts.specs.Stored.{begins_with}
use Rattle.check_texts.proofs.begun.Goals as goal

pub loop-i-preserved : goal.loop-i-preserved
loop-i-preserved c =
    each_on (λ k. begins_with (get_or c.args.live.now k 0) (get_or c.args.first.now k 0)) 32 c.loop-i.i c.loop-i.ok _ c.loop-i.invariant (rw c.is_ascii_digit.ensures.value)

pub returns : goal.returns
returns c = search (rules, each_end)

use Rattle.std.proofs.Common.{rules}
use Rattle.table_passes.proofs.Tests.{each_on, each_end}
use Rattle.check_texts.specs.Stored.{digit_padded}
use Rattle.check_texts.proofs.digits_padded.Goals as goal

pub loop-k-preserved : goal.loop-k-preserved
loop-k-preserved c =
    each_on (digit_padded c.args.last.now c.args.table.now c.args.at) 320 c.loop-k.k c.loop-k.ok _ c.loop-k.invariant (rw c.is_ascii_digit.ensures.value)

pub returns : goal.returns
returns c = search (rules, each_end)

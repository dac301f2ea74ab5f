use Rattle.std.proofs.Common.{arith, refl, ◌∙◌, ◌+◌, ◌*◌, get_or}
use Rattle.std.proofs.Math.ListN.{length-set}
use Rattle.table_passes.proofs.Arrays.{put_next}
use Rattle.check_texts.proofs.first_bytes.Goals as goal

pub loop-i-preserved : goal.loop-i-preserved
loop-i-preserved c =
    (length-set c.loop-i.m c.loop-i.i _ ∙ c.loop-i.invariant.0, put_next (λ k. get_or c.args.table.now (c.args.at + 10 * k) 0) c.loop-i.m c.loop-i.i _ (omega arith) refl c.loop-i.invariant.1)

pub returns : goal.returns
returns c = λ k h. c.loop-i.invariant.1 k (omega arith)

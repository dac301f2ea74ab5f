use Prim.Native.Nat.{◌+◌}
use mathlib.Core.Path.{refl}
use native.Mathlib.Omega.{arith}
use lib.ListN.{get_or}
use lib.Dec.{eqb}
use Rattle.table_passes.proofs.Tests.{none_on, each_end}
use Rattle.check_image.specs.Padded.{last_or_followed}
use Rattle.check_image.proofs.Places.{no_slack}
use Rattle.check_image.proofs.followed.Goals as goal

pub loop-k-init : goal.loop-k-init
loop-k-init c = refl

pub loop-k-preserved : goal.loop-k-preserved
loop-k-preserved c =
    none_on (last_or_followed c.args.last.now c.args.table.now c.args.at) c.loop-k.k c.loop-k.slack c.after_end-slack.result c.loop-k.invariant
    (no_slack (get_or c.args.last.now c.loop-k.k 0) (get_or c.args.table.now (c.args.at + c.loop-k.k) 0) (get_or c.args.table.now (c.args.at + c.loop-k.k + 1) 0) c.after_end-slack.result c.after_end-slack.ensures)

pub returns : goal.returns
returns c =
    each_end (last_or_followed c.args.last.now c.args.table.now c.args.at) 64 c.loop-k.k (eqb c.loop-k.slack 0) c.loop-k.invariant (omega arith) (omega arith)

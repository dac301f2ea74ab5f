-- `carry_packet::assign` meets its contract: three arguments with a zero byte between each two. Assumes nothing.
use mathlib.Core.Path.{sym}
use mathlib.Core.List.{[], ◌∷◌}
use native.Mathlib.Omega.{arith}
use Rattle.packet.specs.Arguments.{join}
use Rattle.carry_packet.proofs.Laid.{data_laid, message_room, rest_laid, three_long}
use Rattle.carry_packet.proofs.assign.Goals as goal

pub put_heading-start-requires : goal.put_heading-start-requires
put_heading-start-requires c = (omega arith, omega (arith, message_room c.args.at c.args.to 11 _ _ _ (three_long c.args.job.now c.args.function.now c.args.workload.now) c.requires.1))

pub put_argument-name-requires : goal.put_argument-name-requires
put_argument-name-requires c = omega (arith, message_room c.args.at c.args.to 11 _ _ _ (three_long c.args.job.now c.args.function.now c.args.workload.now) c.requires.1)

pub put_argument-load-requires : goal.put_argument-load-requires
put_argument-load-requires c = omega (arith, message_room c.args.at c.args.to 11 _ _ _ (three_long c.args.job.now c.args.function.now c.args.workload.now) c.requires.1)

pub put-requires : goal.put-requires
put-requires c = omega (arith, message_room c.args.at c.args.to 11 _ _ _ (three_long c.args.job.now c.args.function.now c.args.workload.now) c.requires.1)

pub returns : goal.returns
unfolding join
returns c =
    data_laid c.args.at c.args.to 11 _ _ c.args.out.now (sym (three_long c.args.job.now c.args.function.now c.args.workload.now)) _ _ c.put_heading-start.ensures _ _
    (rest_laid c.args.job.now c.args.function.now (c.args.workload.now ∷ []) _ _ _ _ c.put_argument-name.ensures _ _
    (rest_laid c.args.function.now c.args.workload.now [] _ _ _ _ c.put_argument-load.ensures _ _ c.put.ensures))

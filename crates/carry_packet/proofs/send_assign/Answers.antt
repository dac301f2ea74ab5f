-- `carry_packet::send_assign` meets its contract: with the unique there are four arguments, and without it three. Assumes nothing.
use mathlib.Core.Path.{sym}
use native.Mathlib.Omega.{arith}
use lib.Seq.{length-take-le}
use Rattle.octets.proofs.Runs.{laid_as, room_as}
use Rattle.handle.proofs.Printing.{printed_fits}
use Rattle.carry_packet.proofs.Answers.{assign_message, printed_short, uniq_message}
use Rattle.carry_packet.proofs.send_assign.Goals as goal

pub slice_bounds-text-end : goal.slice_bounds-text-end
slice_bounds-text-end c = printed_fits _ c.requires.0 _ _ c.handle_of-handle.ensures

pub slice_bounds-job-end : goal.slice_bounds-job-end
slice_bounds-job-end c = sym (length-take-le _ _ (printed_fits _ c.requires.0 _ _ c.handle_of-handle.ensures))

pub assign_uniq-requires : goal.assign_uniq-requires
assign_uniq-requires c = (omega (arith, printed_short _ c.requires.0 _ _ c.handle_of-handle.ensures, c.requires.3), room_as _ _ (uniq_message _ c.requires.0 _ c.args.serial c.handle_of-handle.ensures c.args.to c.args.uniq c.args.function.now c.args.unique.now c.args.workload.now c.if-uniq.true) c.args.at _ c.requires.4)

pub returns-then-uniq : goal.returns-then-uniq
returns-then-uniq c = laid_as _ _ (uniq_message _ c.requires.0 _ c.args.serial c.handle_of-handle.ensures c.args.to c.args.uniq c.args.function.now c.args.unique.now c.args.workload.now c.if-uniq.true) c.args.at _ _ c.args.out.now c.assign_uniq.ensures

pub assign-requires : goal.assign-requires
assign-requires c = (omega (arith, printed_short _ c.requires.0 _ _ c.handle_of-handle.ensures, c.requires.3), room_as _ _ (assign_message _ c.requires.0 _ c.args.serial c.handle_of-handle.ensures c.args.to c.args.uniq c.args.function.now c.args.unique.now c.args.workload.now c.if-uniq.false) c.args.at _ c.requires.4)

pub returns-else-uniq : goal.returns-else-uniq
returns-else-uniq c = laid_as _ _ (assign_message _ c.requires.0 _ c.args.serial c.handle_of-handle.ensures c.args.to c.args.uniq c.args.function.now c.args.unique.now c.args.workload.now c.if-uniq.false) c.args.at _ _ c.args.out.now c.assign.ensures

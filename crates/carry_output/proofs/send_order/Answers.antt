-- `carry_output::send_order` meets its contract, by the cases of the order and the bytes of each. Assumes nothing.
use Rattle.carry_packet.proofs.Answers.{no_job_sendable, zero_fits}
use Rattle.carry_packet.proofs.Forwarding.{forward_limited, forward_long}
use Rattle.carry_output.proofs.Jobs.{hub_good}
use Rattle.carry_output.proofs.Orders.{room_as, laid_as, fit_as, same_as, nothing_laid, created_order, no_job_order, unknown_order, optioned_order, copies_order, told_order, echo_order, assign_order, status_order}
use Rattle.carry_output.proofs.send_order.Goals as goal

pub send_created-requires : goal.send_created-requires
send_created-requires c =
    (rw c.hub_of.ensures (hub_good _ c.requires.0), room_as _ _ _ (created_order _ _ _ _ _ _ _ _ c.hub_of.ensures _ c.in-Created.is) c.requires.4)

pub send_empty-requires : goal.send_empty-requires
send_empty-requires c =
    (no_job_sendable, room_as _ _ _ (no_job_order _ _ _ _ _ _ _ c.in-NoJob.is) c.requires.4)

pub send_job-requires : goal.send_job-requires
send_job-requires c =
    let o = rw c.in-Assign.is at c.requires.3 in
    (c.requires.0, c.requires.1, c.requires.2, o.0, o.1, fit_as _ _ _ (assign_order _ _ _ _ _ _ _ _ _ c.in-Assign.is) c.requires.4)

pub data-requires : goal.data-requires
data-requires c = let o = rw c.in-Copies.is at c.requires.3 in forward_long _ _ _ o

pub data-requires-in-Told : goal.data-requires-in-Told
data-requires-in-Told c = let o = rw c.in-Told.is at c.requires.3 in forward_long _ _ _ o

pub forward_all-requires : goal.forward_all-requires
forward_all-requires c =
    let o = rw c.in-Copies.is at c.requires.3 in
    (rw c.data.ensures (forward_limited _ _ _ o), rw c.data.ensures (room_as _ _ _ (copies_order _ _ _ _ _ _ _ _ (forward_long _ _ _ o) c.in-Copies.is) c.requires.4))

pub tell_all-requires : goal.tell_all-requires
tell_all-requires c =
    let o = rw c.in-Told.is at c.requires.3 in
    (rw c.hub_of-hub.ensures (hub_good _ c.requires.0), rw c.data-in-Told.ensures (forward_limited _ _ _ o), rw c.data-in-Told.ensures (room_as _ _ _ (told_order _ _ _ _ _ _ _ _ c.hub_of-hub.ensures _ _ _ (forward_long _ _ _ o) c.in-Told.is) c.requires.4))

pub forward-requires : goal.forward-requires
forward-requires c =
    let o = rw c.in-Echo.is at c.requires.3 in
    (o, room_as _ _ _ (echo_order _ _ _ _ _ _ _ (forward_long _ _ _ o) c.in-Echo.is) c.requires.4)

pub send_progress-requires : goal.send_progress-requires
send_progress-requires c =
    let o = rw c.in-Status.is at c.requires.3 in
    (c.requires.0, c.requires.1, o.0, o.1, o.2, fit_as _ _ _ (status_order _ _ _ _ _ _ _ _ c.in-Status.is) c.requires.4)

pub send_status-requires : goal.send_status-requires
send_status-requires c =
    let o = rw c.in-Unknown.is at c.requires.3 in
    (o, zero_fits, zero_fits, room_as _ _ _ (unknown_order _ _ _ _ _ _ _ c.in-Unknown.is) c.requires.4)

pub send_option-requires : goal.send_option-requires
send_option-requires c =
    room_as _ _ _ (optioned_order _ _ _ _ _ _ _ c.in-Optioned.is) c.requires.4

pub returns-in-Nothing : goal.returns-in-Nothing
returns-in-Nothing c =
    nothing_laid _ _ _ _ _ _ _ c.in-Nothing.is _

pub returns-in-Created : goal.returns-in-Created
returns-in-Created c =
    laid_as _ _ _ _ _ (created_order _ _ _ _ _ _ _ _ c.hub_of.ensures _ c.in-Created.is) c.send_created.ensures

pub returns-in-NoJob : goal.returns-in-NoJob
returns-in-NoJob c =
    laid_as _ _ _ _ _ (no_job_order _ _ _ _ _ _ _ c.in-NoJob.is) c.send_empty.ensures

pub returns-in-Assign : goal.returns-in-Assign
returns-in-Assign c =
    same_as _ _ _ _ _ (assign_order _ _ _ _ _ _ _ _ _ c.in-Assign.is) c.send_job.ensures

pub returns-in-Copies : goal.returns-in-Copies
returns-in-Copies c =
    let o = rw c.in-Copies.is at c.requires.3 in
    laid_as _ _ _ _ _ (copies_order _ _ _ _ _ _ _ _ (forward_long _ _ _ o) c.in-Copies.is) (rw c.data.ensures at c.forward_all.ensures)

pub returns-in-Told : goal.returns-in-Told
returns-in-Told c =
    let o = rw c.in-Told.is at c.requires.3 in
    laid_as _ _ _ _ _ (told_order _ _ _ _ _ _ _ _ c.hub_of-hub.ensures _ _ _ (forward_long _ _ _ o) c.in-Told.is) (rw c.data-in-Told.ensures at c.tell_all.ensures)

pub returns-in-Echo : goal.returns-in-Echo
returns-in-Echo c =
    let o = rw c.in-Echo.is at c.requires.3 in
    laid_as _ _ _ _ _ (echo_order _ _ _ _ _ _ _ (forward_long _ _ _ o) c.in-Echo.is) c.forward.ensures

pub returns-in-Status : goal.returns-in-Status
returns-in-Status c =
    same_as _ _ _ _ _ (status_order _ _ _ _ _ _ _ _ c.in-Status.is) c.send_progress.ensures

pub returns-in-Unknown : goal.returns-in-Unknown
returns-in-Unknown c =
    laid_as _ _ _ _ _ (unknown_order _ _ _ _ _ _ _ c.in-Unknown.is) c.send_status.ensures

pub returns-in-Optioned : goal.returns-in-Optioned
returns-in-Optioned c =
    laid_as _ _ _ _ _ (optioned_order _ _ _ _ _ _ _ c.in-Optioned.is) c.send_option.ensures

-- `carry_event::perform_lean` meets its contract: the order's packets and the NOOPs of the ending, from the table and the workloads before
-- the event; then the workloads and the table that the step leaves. Assumes nothing.
use Rattle.server.specs.Sizes.{connection_count}
use Rattle.server.specs.Layout.{table_of}
use Rattle.plan.specs.Values.{values_of}
use Rattle.plan.specs.declared.Values.{Values}
use Rattle.plan.specs.Steps.{stepped}
use Rattle.carry_output.proofs.Orders.{order_room, noop_room, answered}
use Rattle.carry_event.proofs.Steps.{done_concluded, lean_wakes, lean_workloads}
use Rattle.carry_event.proofs.perform_lean.Goals as goal

pub send_order-at-requires : goal.send_order-at-requires
send_order-at-requires c =
    let v : Values = stepped c.args.plan.step (values_of (table_of connection_count c.args.table.now)) in
    (c.requires.0, c.requires.1, c.requires.2, rw c.argument-first.ensures c.requires.4.orderly, rw c.argument-first.ensures (order_room _ _ _ _ _ _ _ v _ c.requires.4.room))

pub wake-length-requires : goal.wake-length-requires
wake-length-requires c =
    let v : Values = stepped c.args.plan.step (values_of (table_of connection_count c.args.table.now)) in
    let sent = rw c.argument-first.ensures at c.send_order-at.ensures in
    noop_room _ _ _ _ _ _ _ v _ (lean_wakes c.args.plan c.args.table.now c.args.workloads.now c.args.request.bytes.now c.args.c c.args.request.kind c.args.request.ends c.requires.7 _ c.of_step-ending.ensures) _ _ _ sent.0 sent.1 c.requires.4.room

pub rework-requires : goal.rework-requires
rework-requires c =
    (c.requires.2, c.requires.1, rw c.opaque_in-opaque.ensures c.requires.4.small, c.requires.5, c.requires.6)

pub carry-requires : goal.carry-requires
carry-requires c =
    (c.requires.0, c.requires.1, rw (c.argument-first.ensures, c.argument-second.ensures, c.argument-third.ensures) c.requires.4.fitting, c.requires.5, c.of_step-ending.ensures, rw (c.argument-first.ensures, c.argument-second.ensures, c.argument-third.ensures) c.requires.7)

pub returns : goal.returns
returns c =
    let v : Values = stepped c.args.plan.step (values_of (table_of connection_count c.args.table.now)) in
    let sent = rw c.argument-first.ensures at c.send_order-at.ensures in
    let woken = lean_wakes c.args.plan c.args.table.now c.args.workloads.now c.args.request.bytes.now c.args.c c.args.request.kind c.args.request.ends c.requires.7 _ c.of_step-ending.ensures in
    let whole = answered _ _ _ _ _ _ _ v _ woken _ _ _ _ _ sent.0 sent.1 c.wake-length.ensures in
    let work = lean_workloads c.args.plan c.args.table.now c.args.workloads.now c.args.request.bytes.now c.args.c c.args.request.kind c.args.request.ends c.requires.7 _ c.opaque_in-opaque.ensures in
    done_concluded _ _ _ _ _ _ _ _ _ _ _ _ c.requires.3 (whole.0, whole.1, rw (c.argument-first.ensures, c.argument-second.ensures, c.argument-third.ensures) at c.carry.ensures, rw work at c.rework.ensures)

-- `carry_event::perform_whole` meets its contract: each part is laid from the table and the workloads before the event. Assumes nothing.
use Rattle.carry_event.proofs.Steps.{done_concluded, rows_are}
use Rattle.carry_event.proofs.perform_whole.Goals as goal

pub answer-length-requires : goal.answer-length-requires
answer-length-requires c =
    (c.requires.0, c.requires.1, c.requires.2, rw c.argument-first.ensures c.requires.4.orderly, rw (c.argument-first.ensures, c.stepped-v.ensures, c.read_values-before.ensures) c.requires.4.room)

pub rework-requires : goal.rework-requires
rework-requires c =
    (c.requires.2, rw c.opaque_in-opaque.ensures c.requires.4.small)

pub carry-requires : goal.carry-requires
carry-requires c =
    (c.requires.0, c.requires.1, rw (c.argument-first.ensures, c.argument-second.ensures, c.argument-third.ensures) c.requires.4.fitting, rw (c.stepped-v.ensures, c.read_values-before.ensures) c.requires.4.sized)

pub returns : goal.returns
returns c =
    let sent = rw (c.argument-first.ensures, c.stepped-v.ensures, c.read_values-before.ensures) at c.answer-length.ensures in
    done_concluded _ _ _ _ _ _ _ _ _ _ _ _ c.requires.3
    (sent.0, sent.1, rw (c.argument-first.ensures, c.argument-second.ensures, c.argument-third.ensures, c.stepped-v.ensures, c.read_values-before.ensures) at c.carry.ensures, rw (c.opaque_in-opaque.ensures, c.dropped.ensures, rows_are _ _ c.read_values-before.ensures, c.stepped-v.ensures, c.read_values-before.ensures) at c.rework.ensures)

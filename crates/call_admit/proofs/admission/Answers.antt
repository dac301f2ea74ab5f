-- `call_admit::admission` meets its contract: 1, then 2, then the connection's state. Assumes nothing.
use Rattle.call_admit.proofs.Refusals.{usable_bytes, refused_1, refused_2, refused_state}
use Rattle.std.proofs.Common.{ap, not}
use Rattle.call_admit.proofs.admission.Goals as goal

pub returns-then-not-is_usable : goal.returns-then-not-is_usable
returns-then-not-is_usable c = refused_1 _ _ _ _ _ _ c.is_usable.ensures (ap not c.if-not-is_usable.true)

pub returns-then-connection-ge-BEYOND : goal.returns-then-connection-ge-BEYOND
returns-then-connection-ge-BEYOND c = refused_2 _ _ _ _ _ _ c.is_usable.ensures (ap not c.if-not-is_usable.false) c.if-connection-ge-BEYOND.true

pub is_open-requires : goal.is_open-requires
is_open-requires c = ((usable_bytes _ _ _ _ c.is_usable.ensures (ap not c.if-not-is_usable.false)).long_table, c.if-connection-ge-BEYOND.false)

pub returns : goal.returns
returns c = refused_state _ _ _ _ _ _ c.is_usable.ensures _ _ (ap not c.if-not-is_usable.false) c.if-connection-ge-BEYOND.false c.is_open.ensures c.state_refusal.ensures

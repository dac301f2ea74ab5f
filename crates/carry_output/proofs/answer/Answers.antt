-- `carry_output::answer` meets its contract: the order's packets, and the NOOPs after them. Assumes nothing.
use Rattle.carry_output.proofs.Orders.{order_room, noop_room, answered}
use Rattle.carry_output.proofs.answer.Goals as goal

pub send_order-at-requires : goal.send_order-at-requires
send_order-at-requires c =
    (c.requires.0, c.requires.1, c.requires.2, c.requires.3, order_room _ _ _ _ _ _ _ _ _ c.requires.4)

pub wake_all-requires : goal.wake_all-requires
wake_all-requires c =
    noop_room _ _ _ _ _ _ _ _ _ c.waking.ensures _ _ _ c.send_order-at.ensures.0 c.send_order-at.ensures.1 c.requires.4

pub returns : goal.returns
returns c =
    answered _ _ _ _ _ _ _ _ _ c.waking.ensures _ _ _ _ _ c.send_order-at.ensures.0 c.send_order-at.ensures.1 c.wake_all.ensures

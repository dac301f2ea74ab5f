-- `carry_output::waking` meets its contract: the sleepers among those that can do some job that is left. Assumes nothing.
use Rattle.carry_output.proofs.Orders.{wake_set}
use borrow.Author.Rules.{rules}
use Rattle.carry_output.proofs.waking.Goals as goal

pub returns : goal.returns
returns c = wake_set _ _ _ _ _ _ (search rules) c.dropped-rows.ensures c.busy.ensures c.to_wake.ensures

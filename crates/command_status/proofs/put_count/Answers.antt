-- `command_status::put_count` meets its contract: a tab, and the count. Assumes nothing.
use Rattle.octets.proofs.Runs.{laid_then}
use Rattle.handle.specs.Handle.{decimal}
use Rattle.command.specs.Texts.{tab}
use Rattle.command_status.proofs.put_count.Goals as goal

pub returns : goal.returns
returns c = laid_then _ tab (decimal c.args.count) _ _ _ c.put-place.ensures _ _ c.put_number.ensures

-- `show_job::handle_in` meets its contract: the serial of the first argument, where the shape begins with a handle. Assumes nothing.
use Rattle.show_job.proofs.Named.{handle_first, handle_none}
use borrow.Author.Rules.{rules}
use Rattle.show_job.proofs.handle_in.Goals as goal

pub returns-then-not-names_job : goal.returns-then-not-names_job
returns-then-not-names_job c = search (rules, handle_none)

pub returns : goal.returns
returns c = search (rules, handle_first)

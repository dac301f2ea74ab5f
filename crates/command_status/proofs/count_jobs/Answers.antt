-- `command_status::count_jobs` meets its contract: the rows that pass the test are counted. Assumes nothing.
use Rattle.std.proofs.Common.{rules, ◌≡◌, ◌∙◌}
use Rattle.std.specs.Prelude.{count_by}
use Rattle.command_status.specs.Counts.{counted}
use Rattle.command_status.proofs.Counting.{filter_counted}
use Rattle.command_status.proofs.count_jobs.Goals as goal

pub returns : goal.returns
returns c =
    let e : c.count.result ≡ count_by (counted c.args.held c.args.q) c.args.rows = search rules in
    e ∙ filter_counted (counted c.args.held c.args.q) c.args.rows

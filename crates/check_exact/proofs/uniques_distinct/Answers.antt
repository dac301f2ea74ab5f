-- `check_exact::uniques_distinct` meets its contract: each two are asked. Assumes nothing.
use Rattle.std.proofs.Common.{rules, sym, ◌∙◌}
use Rattle.server.specs.Sizes.{connection_count}
use Rattle.server.specs.Layout.{job_in}
use Rattle.server.specs.Rules.{uniques_apart}
use Rattle.table_passes.proofs.Rows.{jobs_pairs}
use Rattle.check_exact.proofs.uniques_distinct.Goals as goal

pub returns : goal.returns
returns c =
    c.each_two.ensures (λ i k. uniques_apart (job_in connection_count c.args.table.now i) (job_in connection_count c.args.table.now k)) (λ i k r h l e. search rules)
    ∙ sym (jobs_pairs connection_count c.args.table.now uniques_apart)

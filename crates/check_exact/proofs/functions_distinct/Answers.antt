-- `check_exact::functions_distinct` meets its contract: each two are asked. Assumes nothing.
use Rattle.std.proofs.Common.{rules, sym, ◌∙◌}
use Rattle.server.specs.Sizes.{connection_count}
use Rattle.server.specs.Layout.{function_in}
use Rattle.server.specs.Rules.{names_apart}
use Rattle.table_passes.proofs.Rows.{functions_pairs}
use Rattle.check_exact.proofs.functions_distinct.Goals as goal

pub returns : goal.returns
returns c =
    c.each_two.ensures (λ i k. names_apart (function_in connection_count c.args.table.now i) (function_in connection_count c.args.table.now k)) (λ i k r h l e. search rules)
    ∙ sym (functions_pairs connection_count c.args.table.now names_apart)

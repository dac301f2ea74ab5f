use mathlib.Core.Path.{sym, ◌∙◌}
use native.Mathlib.Omega.{arith}
use lib.Dec.{leb}
use Rattle.server.specs.Sizes.{connection_count}
use Rattle.server.specs.Layout.{job_in, table_of}
use Rattle.server.specs.Rules.{together}
use Rattle.table_passes.proofs.Tests.{each_on, each_end}
use Rattle.table_passes.proofs.Rows.{jobs_all}
use Rattle.check_exact.proofs.sizes_within.Goals as goal

pub loop-p-preserved : goal.loop-p-preserved
loop-p-preserved c =
    each_on (λ k. leb (together (table_of connection_count c.args.table.now) (job_in connection_count c.args.table.now k)) 1022) 32 c.loop-p.p c.loop-p.ok _ c.loop-p.invariant c.size_within-ok.ensures

pub returns : goal.returns
returns c =
    each_end (λ k. leb (together (table_of connection_count c.args.table.now) (job_in connection_count c.args.table.now k)) 1022) 32 c.loop-p.p c.loop-p.ok c.loop-p.invariant (omega arith) (omega arith)
    ∙ sym (jobs_all connection_count c.args.table.now (λ j. leb (together (table_of connection_count c.args.table.now) j) 1022))

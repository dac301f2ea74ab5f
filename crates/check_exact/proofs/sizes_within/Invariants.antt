-- `check_exact::sizes_within` meets its contract. The invariant: the flag says what the jobs passed say. Assumes nothing.
use mathlib.Core.Path.{◌≡◌}
use lib.Dec.{leb}
use Rattle.lists.specs.Lists.{all, numbers}
use Rattle.server.specs.Sizes.{connection_count}
use Rattle.server.specs.Layout.{job_in, table_of}
use Rattle.server.specs.Rules.{together}
use Rattle.check_exact.proofs.sizes_within.Given as goal

abbrev pub invariant-loop-p : goal.invariant-loop-p
invariant-loop-p l = l.ok ≡ all (λ k. leb (together (table_of connection_count l.table) (job_in connection_count l.table k)) 1022) (numbers 0 l.p)

-- `check_image::runs_padded` meets its contract. The invariant: the flag says what the runs passed say. Assumes nothing.
use Prim.Native.Nat.{◌+◌, ◌*◌, ◌/◌}
use mathlib.Core.Path.{◌≡◌}
use Rattle.lists.specs.Lists.{all, numbers}
use Rattle.table_laws.specs.Tests.{are_padded}
use Rattle.check_image.proofs.runs_padded.Given as goal

abbrev pub invariant-loop-i : goal.invariant-loop-i
invariant-loop-i g l = l.ok ≡ all (λ k. are_padded g.row.W (64 / g.row.W * g.row.B) l.table (l.at + 64 * g.row.B * k)) (numbers 0 l.i)

-- `carry_workloads::rework` meets its contract. The invariant: the first i places are laid over the bytes at entry. Assumes nothing.
use mathlib.Core.Path.{◌≡◌}
use mathlib.Core.List.{map}
use lib.ListN.{take}
use Rattle.octets.specs.Put.{put}
use Rattle.lists.specs.Lists.{concat, numbers}
use Rattle.server.specs.Sizes.{job_count}
use Rattle.server.specs.Call.{place_of}
use Rattle.carry_workloads.specs.Reworked.{reworked_rows}
use Rattle.carry_workloads.proofs.rework.Given as goal

abbrev pub invariant-loop-i : goal.invariant-loop-i
invariant-loop-i l = l.workloads ≡ put 0 (concat (take l.i (reworked_rows l.fn.before l.fn.after l.opaque (map (place_of l.initial.workloads) (numbers 0 job_count))))) l.initial.workloads

-- `packet_join::fit_all` meets its contract: what is left of the arguments fits what is left of the rules exactly if all fit, since those
-- before them do. Assumes nothing.
use mathlib.Core.List.{map}
use mathlib.Core.Path.{◌≡◌}
use lib.ListN.{drop}
use Rattle.packet.specs.Arguments.{fit_all}
use Rattle.packet.specs.Layout.{rules_of}
use Rattle.packet_join.proofs.fit_all.Given as goal

abbrev pub invariant-loop-i : goal.invariant-loop-i
invariant-loop-i l =
    fit_all (rules_of l.shape) (map (λ a. a.now) l.arguments) ≡ fit_all (drop l.i (rules_of l.shape)) (drop l.i (map (λ a. a.now) l.arguments))

-- An argument is no longer than its packet. Assumes nothing.
use Prim.Native.Nat.{ℕ, ◌+◌, ◌-◌, ◌≤◌}
use mathlib.Core.Bool.{Bool, true, false, cond, ◌&&◌}
use mathlib.Core.List.{[]}
use native.Mathlib.Omega.{arith}
use lib.Dec.{leb, ltb}
use lib.ListN.{length, get_or, take, drop, length-drop, length-take}
use Rattle.octets.specs.Bytes.{Bytes}
use Rattle.packet.specs.declared.Ends.{Ends}
use Rattle.packet.specs.Answers.{argument_at, between, places}

between_short : (s : Bytes) (before end : ℕ) → length (between s before end) ≤ length s
unfolding between
between_short s before end = at_most (ltb before end && leb end (length s))
  where
    at_most : (b : Bool) → length (cond b (take (end - (before + 1)) (drop (before + 1) s)) []) ≤ length s
    at_most true = omega (arith, length-take (end - (before + 1)) (drop (before + 1) s), length-drop (before + 1) s)
    at_most false = omega arith

pub argument_short : (s : Bytes) (ends : Ends) (i : ℕ) → length (argument_at s ends i) ≤ length s
unfolding argument_at
argument_short s ends i = between_short s (get_or (places ends) i 0) (get_or (places ends) (i + 1) 0)

-- `packet_join::joined_length` meets its contract. The invariant: what is counted is the length of the arguments passed, each with one byte
-- behind it, or 65,537 if that is less. Assumes nothing.
use Prim.Native.Nat.{min}
use mathlib.Core.Path.{◌≡◌}
use lib.ListN.{take}
use Rattle.packet_join.proofs.Joins.{texts, ended}
use Rattle.packet_join.proofs.joined_length.Given as goal

abbrev pub invariant-loop-argument : goal.invariant-loop-argument
invariant-loop-argument l = l.ended ≡ min 65537 (ended (take l.argument-index (texts l.arguments)))

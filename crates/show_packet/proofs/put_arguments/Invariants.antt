-- `show_packet::put_arguments` meets its contract. The invariant: the first i arguments lie over the text, whose length stays.
-- Assumes nothing.
use Prim.Native.Nat.{ℕ, ◌-◌, ◌≤◌}
use mathlib.Core.Path.{◌≡◌}
use lib.ListN.{length}
use Rattle.octets.specs.Bytes.{Bytes}
use Rattle.packet.specs.declared.Ends.{Ends}
use Rattle.packet.specs.declared.Shape.{Shape}
use Rattle.packet.specs.Answers.{argument_at}
use Rattle.prints.proofs.Pieces.{Laid}
use Rattle.show_packet.specs.Lines.{argument_text}
use Rattle.show_packet.proofs.put_arguments.Given as goal

-- the text of argument i
abbrev pub piece : Shape → Bytes → Ends → ℕ → Bytes
piece shape packet ends i = argument_text shape i (argument_at packet ends i)

abbrev pub invariant-loop-i : goal.invariant-loop-i
invariant-loop-i l = (l.i ≤ l.count) × (length l.out ≡ length l.initial.out) × Laid (piece l.shape l.packet l.ends) l.at l.initial.out l.i l.place l.out

-- The packet layer's refusals by document 01's numbers. 01: "When an answer is an enum, a definition gives this paper's number and values
-- for each of its cases." Assumes nothing.
use Rattle.std.specs.Prelude.{ℕ, cond, eqb}
use Rattle.packet.specs.declared.Refusal.{Refusal}
use Rattle.packet.specs.declared.Refusal.TheVariants.{LittleRoom, Short, Magic, Size, Length, ForeignType, Arguments}

-- a refusal's number
abbrev pub number_of : Refusal → ℕ
number_of LittleRoom = 1
number_of Short = 5
number_of Magic = 6
number_of Size = 7
number_of Length = 8
number_of ForeignType = 9
number_of Arguments = 10

-- the refusal of a number. The layer gives no other numbers than 1 and 5 to 10
abbrev pub refusal_of : ℕ → Refusal
refusal_of n =
    cond (eqb n 1) LittleRoom
    (cond (eqb n 5) Short
    (cond (eqb n 6) Magic
    (cond (eqb n 7) Size
    (cond (eqb n 8) Length
    (cond (eqb n 9) ForeignType Arguments)))))

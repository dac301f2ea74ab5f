-- The reading that an answer of the packet reader stands for: a refusal's number, or a type and where its arguments end. And the number of
-- a reading's refusal is that of a refusal of this layer. Assumes nothing.
use Prim.Native.Nat.{ℕ, ◌+◌}
use mathlib.Core.Path.{◌≡◌, refl, sym, ap, ◌∙◌}
use mathlib.Core.Bool.{Bool, true, false, not, cond}
use mathlib.Core.List.{List}
use native.Mathlib.Omega.{arith}
use lib.ListN.{length}
use lib.Dec.{ltb, eqb}
use Rattle.std.specs.Prelude.{Err}
use Rattle.octets.specs.Bytes.{Bytes, starts_with, number_at}
use Rattle.packet.specs.declared.Ends.{Ends}
use Rattle.packet.specs.declared.Packet.{Packet}
use Rattle.packet.specs.declared.Refusal.{Refusal}
use Rattle.packet.specs.declared.Refusal.TheVariants.{LittleRoom, Short, Magic, Size, Length, ForeignType, Arguments}
use Rattle.packet.specs.Arguments.{Parts, bad, parts, ends_of}
use Rattle.packet.specs.Layout.{is_own}
use Rattle.packet.specs.Packet.{Direction, Reading, refused, got, header, argued, body, after_header, read}
use Rattle.packet.specs.Refusals.{number_of, refusal_of}
use Rattle.packet.specs.Answers.{answer_of, found}

-- no refusal has number 0, which means done
pub number_some : (e : Refusal) → number_of e ≡ 0 → ⊥
number_some LittleRoom z = omega arith
number_some Short z = omega arith
number_some Magic z = omega arith
number_some Size z = omega arith
number_some Length z = omega arith
number_some ForeignType z = omega arith
number_some Arguments z = omega arith

-- the number of a refused reading is the number of the refusal that the code answers
abbrev pub Numbered : Reading → Type 0
Numbered (refused n) = number_of (refusal_of n) ≡ n
Numbered (got k as') = Unit {0}

argued_numbered : (kind : ℕ) (p : Parts) → Numbered (argued kind p)
argued_numbered kind bad = refl
argued_numbered kind (parts as') = tt

own_numbered : (b : Bool) (r : Reading) → Numbered r → Numbered (cond b r (refused 9))
own_numbered true r n = n
own_numbered false r n = refl

header_numbered : (b5 b6 b7 b8 : Bool) (r : Reading) → Numbered r → Numbered (after_header (cond b5 5 (cond b6 6 (cond b7 7 (cond b8 0 8)))) r)
header_numbered true b6 b7 b8 r n = refl
header_numbered false true b7 b8 r n = refl
header_numbered false false true b8 r n = refl
header_numbered false false false true r n = n
header_numbered false false false false r n = refl

pub read_numbered : (w : Direction) (s : Bytes) → Numbered (read w s)
unfolding read body header
read_numbered w s =
    header_numbered (ltb (length s) 12) (not (starts_with s w.magic)) (ltb w.most (number_at s 8)) (eqb (length s) (12 + number_at s 8)) _
    (own_numbered (is_own (w.shape (number_at s 4))) _ (argued_numbered (number_at s 4) _))

refused_as : (r : Reading) (e : Refusal) → Numbered r → answer_of r ≡ Err e → r ≡ refused (number_of e)
unfolding answer_of
refused_as (refused m) e n h = let q : refusal_of m ≡ e = cc in ap refused (sym n ∙ ap number_of q)
refused_as (got k as') e n h = let z : ◌≡◌ {A = ℕ} 0 1 = cc in absurd (omega arith)

pub refused_answer : (w : Direction) (s : Bytes) (e : Refusal) → answer_of (read w s) ≡ Err e → read w s ≡ refused (number_of e)
refused_answer w s e h = refused_as (read w s) e (read_numbered w s) h

pub read_answer : (r : Reading) (k : ℕ) (ends : Ends) → answer_of r ≡ found k ends → (as' : List Bytes) × (r ≡ got k as') × (ends ≡ ends_of 12 as')
unfolding answer_of
read_answer (refused n) k ends e = let z : ◌≡◌ {A = ℕ} 0 1 = cc in absurd (omega arith)
read_answer (got j as') k ends e =
    let same : ◌≡◌ {A = Packet} (record { kind = j; ends = ends_of 12 as' }) (record { kind = k; ends = ends }) = cc in
    (as', ap (λ (p : Packet). got p.kind as') same, sym (ap (λ (p : Packet). p.ends) same))

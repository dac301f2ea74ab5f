-- The opaque part of a packet. 01: "A served packet's opaque part is all data after the last separator that its type demands
-- [..]; all data for an echo. With too few zero bytes, or with refusals 5 to 8, there is none." Assumes nothing.
use Rattle.std.specs.Prelude.{ℕ, zero, suc, ◌+◌, Bool, true, false, cond, ◌&&◌, List, [], ◌∷◌, ◌++◌, length, take, drop, replicate, ltb, eqb}
use Rattle.octets.specs.Bytes.{Bytes, first_zero, number_at}
use Rattle.packet.specs.declared.Rule.{Rule}
use Rattle.packet.specs.declared.Rule.TheVariants.{Text, Digits, Flag, AnyText, Opaque, Absent}
use Rattle.packet.specs.Layout.{rules_of, separators_of}
use Rattle.packet.specs.Packet.{Direction, Reading, refused, got, header}

-- the last argument is opaque
abbrev pub is_opaque : Rule → Bool
is_opaque (Text least most) = false
is_opaque (Digits least most) = false
is_opaque Flag = false
is_opaque AnyText = false
is_opaque Opaque = true
is_opaque Absent = false

abbrev pub ends_opaque : List Rule → Bool
ends_opaque [] = false
ends_opaque (r ∷ []) = is_opaque r
ends_opaque (r ∷ (q ∷ rs)) = ends_opaque (q ∷ rs)

-- the data has at least n zero bytes
unfoldable pub has_zeros : ℕ → Bytes → Bool
has_zeros zero d = true
has_zeros (suc n) d = ltb (first_zero d) (length d) && has_zeros n (drop (first_zero d + 1) d)

-- how many bytes the first n zero bytes and all before them are
unfoldable pub past : ℕ → Bytes → ℕ
past zero d = 0
past (suc n) d = first_zero d + 1 + past n (drop (first_zero d + 1) d)

-- the packet of this direction has an opaque part
unfoldable pub hides : Direction → Bytes → Bool
hides w s =
    eqb (header w.magic w.most s) 0
    && (ends_opaque (rules_of (w.shape (number_at s 4))) && has_zeros (separators_of (w.shape (number_at s 4))) (drop 12 s))

-- how many of its bytes are visible: all but the opaque part
unfoldable pub seen : Direction → Bytes → ℕ
seen w s = cond (hides w s) (12 + past (separators_of (w.shape (number_at s 4))) (drop 12 s)) (length s)

unfoldable pub visible : Direction → Bytes → Bytes
visible w s = take (seen w s) s

unfoldable pub opaque : Direction → Bytes → Bytes
opaque w s = drop (seen w s) s

-- the packet with each opaque byte set to zero: all that may decide anything
unfoldable pub masked : Direction → Bytes → Bytes
masked w s = visible w s ++ replicate (length (opaque w s)) 0

-- the last of the arguments replaced
abbrev pub with_last : Bytes → List Bytes → List Bytes
with_last o [] = []
with_last o (a ∷ []) = o ∷ []
with_last o (a ∷ (b ∷ bs)) = a ∷ with_last o (b ∷ bs)

-- a reading with other opaque bytes
unfoldable pub with_opaque : Direction → Bytes → Reading → Reading
with_opaque w o (refused n) = refused n
with_opaque w o (got kind as') = got kind (cond (ends_opaque (rules_of (w.shape kind))) (with_last o as') as')

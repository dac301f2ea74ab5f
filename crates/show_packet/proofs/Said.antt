-- What the answer of the packet reader says of the text: a refusal's, or that of the type with the arguments where they lie.
-- Assumes nothing.
use Prim.Native.Nat.{ℕ, ◌<◌, ◌≤◌, ◌^◌}
use mathlib.Core.Path.{◌≡◌, refl, ap, ◌∙◌, sym}
use mathlib.Core.Bool.{Bool, true, false}
use mathlib.Core.List.{[], ◌++◌}
use native.Mathlib.Omega.{arith}
use borrow.Author.Tests.{ltb-false}
use lib.Dec.{ltb}
use lib.ListN.{length, get_or}
use Rattle.octets.specs.Bytes.{Bytes, number_at}
use Rattle.packet.specs.declared.Ends.{Ends}
use Rattle.packet.specs.declared.Shape.{Shape}
use Rattle.packet.specs.declared.Refusal.{Refusal}
use Rattle.packet.specs.Refusals.{number_of}
use Rattle.std.specs.Prelude.{Err}
use Rattle.packet.specs.Layout.{rules_of}
use Rattle.packet.specs.Packet.{Direction, refused, header, read}
use Rattle.packet.specs.Answers.{answer_of, argument_at, found}
use Rattle.packet_laws.proofs.Answers.{read_answer, refused_answer}
use Rattle.packet_laws.proofs.Packets.{Headed, header_good, read_got}
use Rattle.packet_laws.proofs.Places.{argument_read}
use Rattle.packet_kinds.proofs.Shapes.{at_most_five}
use Rattle.show_names.specs.Names.{name_of}
use Rattle.prints.proofs.Pieces.{same_pieces}
use Rattle.show_packet.specs.Lines.{argument_text, argument_texts, packet_text, read_text, refused_text, saying}

-- ---- the texts

-- the arguments count by their texts, one by one
pub texts_same : (shape : Shape) (f g : ℕ → Bytes) (n : ℕ) → ((i : ℕ) → i < n → argument_text shape i (f i) ≡ argument_text shape i (g i))
    → argument_texts shape f n ≡ argument_texts shape g n
unfolding argument_texts
texts_same shape f g n h = same_pieces (λ i. argument_text shape i (f i)) (λ i. argument_text shape i (g i)) n h

module _ (w : Direction) (s : Bytes) where
  module _ (r : Refusal) (e : Err r ≡ answer_of (read w s)) (n : ℕ) (en : n ≡ number_of r) where
    pub said_refused : refused_text (number_at s 4) n ≡ saying w s
    unfolding saying read_text
    said_refused = rw (en, refused_answer w s r (sym e))

    -- a header under 12 bytes is refused by 5
    pub refused_long : 9 ≤ n → 8 ≤ length s
    unfolding read header
    refused_long h = by_length (ltb (length s) 12) refl
      where
        by_length : (b : Bool) → ltb (length s) 12 ≡ b → 8 ≤ length s
        by_length true q =
            let f : refused 5 ≡ refused (number_of r) = rw q at (refused_answer w s r (sym e)) in
            let z : 5 ≡ number_of r = cc in absurd (omega arith)
        by_length false q = omega (arith, ltb-false (length s) 12 q)

  module _ (k : ℕ) (ends : Ends) (e : found k ends ≡ answer_of (read w s)) where
    pub said_packet : (shape : Shape) → shape ≡ w.shape k → packet_text k shape (argument_at s ends) ≡ saying w s
    unfolding saying read_text packet_text
    said_packet shape q =
        let r = read_answer (read w s) k ends (sym e) in
        let g : (i : ℕ) → i < length (rules_of (w.shape k)) → argument_at s ends i ≡ get_or r.0 i [] =
        λ i l. ap (λ (x : Ends). argument_at s x i) r.2 ∙ argument_read w s k r.0 r.1 i (omega (arith, at_most_five (w.shape k))) in
        let t : packet_text k (w.shape k) (argument_at s ends) ≡ packet_text k (w.shape k) (λ i. get_or r.0 i []) =
        ap (λ (t : Bytes). name_of k ++ t) (texts_same (w.shape k) (argument_at s ends) (λ i. get_or r.0 i []) (length (rules_of (w.shape k))) (λ i l. ap (argument_text (w.shape k) i) (g i l))) in
        let u : saying w s ≡ packet_text k (w.shape k) (λ i. get_or r.0 i []) = ap (read_text w.shape (number_at s 4)) r.1 in
        rw q (t ∙ sym u)

    pub packet_short : w.most ≤ 1088 → length s < 2 ^ 32
    packet_short m =
        let r = read_answer (read w s) k ends (sym e) in
        let h : Headed w.magic w.most s = header_good _ _ s (read_got w s k r.0 r.1).headed in
        omega (arith, h.limited, h.whole, m)

-- No opaque byte is shown: two packets with the same visible bytes and as many opaque ones make the same line. Assumes nothing.
use Prim.Native.Nat.{ℕ, zero, suc}
use mathlib.Core.Path.{◌≡◌, refl, ap, ◌∙◌, sym}
use mathlib.Core.Bool.{Bool, true, false, cond}
use mathlib.Core.List.{List, [], ◌∷◌, ◌++◌, append_assoc}
use native.Mathlib.Omega.{arith}
use lib.ListN.{length, get_or, take, drop}
use lib.Seq.{take_at}
use Rattle.octets.specs.Bytes.{Bytes, number_at}
use Rattle.packet.specs.declared.Rule.{Rule}
use Rattle.packet.specs.declared.Rule.TheVariants.{Absent}
use Rattle.packet.specs.declared.Shape.{Shape}
use Rattle.packet.specs.Layout.{rules_of}
use Rattle.packet.specs.Opaque.{ends_opaque, hides, is_opaque, masked, opaque, visible, with_last, with_opaque}
use Rattle.packet.specs.Packet.{Direction, Reading, refused, got, read, requests, responses}
use Rattle.packet_laws.proofs.Splitting.{fit_length, split_join}
use Rattle.packet_laws.proofs.Packets.{Got, read_got, Well, requests_well, responses_well}
use Rattle.packet_laws.proofs.Blindness.{Hidden, hides_parts, number_front, parted_visible, read_alike, read_masked, unhidden_opaque, visible_opaque}
use Rattle.show_names.specs.Names.{name_of, space}
use Rattle.show_packet.proofs.Said.{texts_same}
use Rattle.show_packet.specs.Lines.{argument_text, from_server, label_before, packet_text, read_text, request_line, response_line, saying, to_server, value_of}
use Rattle.handle.specs.Handle.{decimal}

-- ---- arguments that differ in the last one

module _ (x y : Bytes) (l : length x ≡ length y) where
  -- an opaque argument is shown by its length
  value_alike : (r : Rule) → is_opaque r ≡ true → value_of r x ≡ value_of r y
  unfolding value_of
  value_alike r e = rw (e, l)

  values_alike : (rs : List Rule) (args : List Bytes) → ends_opaque rs ≡ true → length args ≡ length rs → (i : ℕ)
      → value_of (get_or rs i Absent) (get_or (with_last x args) i []) ≡ value_of (get_or rs i Absent) (get_or (with_last y args) i [])
  values_alike [] args e n i = let z : ◌≡◌ {A = ℕ} 0 1 = cc in absurd (omega arith)
  values_alike (r ∷ []) [] e n i = absurd (omega arith)
  values_alike (r ∷ []) (a ∷ []) e n zero = value_alike r e
  values_alike (r ∷ []) (a ∷ []) e n (suc i) = refl
  values_alike (r ∷ []) (a ∷ (b ∷ bs)) e n i = absurd (omega arith)
  values_alike (r ∷ (q ∷ rs)) [] e n i = absurd (omega arith)
  values_alike (r ∷ (q ∷ rs)) (a ∷ []) e n i = absurd (omega arith)
  values_alike (r ∷ (q ∷ rs)) (a ∷ (b ∷ bs)) e n zero = refl
  values_alike (r ∷ (q ∷ rs)) (a ∷ (b ∷ bs)) e n (suc i) = values_alike (q ∷ rs) (b ∷ bs) e (omega arith) i

  packet_alike : (k : ℕ) (shape : Shape) (args : List Bytes) → ends_opaque (rules_of shape) ≡ true → length args ≡ length (rules_of shape)
      → packet_text k shape (λ i. get_or (with_last x args) i []) ≡ packet_text k shape (λ i. get_or (with_last y args) i [])
  unfolding packet_text argument_text
  packet_alike k shape args e n =
      ap (λ (t : Bytes). name_of k ++ t)
      (texts_same shape (λ i. get_or (with_last x args) i []) (λ i. get_or (with_last y args) i []) (length (rules_of shape))
      (λ i h. ap (λ (v : Bytes). space ++ (label_before shape i ++ v)) (values_alike (rules_of shape) args e n i)))

  -- a reading with the one or the other opaque part
  module _ (w : Direction) (s : Bytes) (kind : ℕ) where
    read_text_alike : (r : Reading) → read w s ≡ r → read_text w.shape kind (with_opaque w x r) ≡ read_text w.shape kind (with_opaque w y r)
    unfolding read_text with_opaque
    read_text_alike (refused n) e = refl
    read_text_alike (got k args) e = either (ends_opaque (rules_of (w.shape k))) refl
      where
        either : (b : Bool) → ends_opaque (rules_of (w.shape k)) ≡ b
            → packet_text k (w.shape k) (λ i. get_or (cond b (with_last x args) args) i []) ≡ packet_text k (w.shape k) (λ i. get_or (cond b (with_last y args) args) i [])
        either true q =
            let g : Got w s k args = read_got w s k args e in
            packet_alike k (w.shape k) args q (fit_length _ args (split_join _ (drop 12 s) args g.splits).1)
        either false q = refl

-- ---- packets that look alike

module _ (w : Direction) (well : Well w) (s t : Bytes) (v : visible w s ≡ visible w t) (l : length (opaque w s) ≡ length (opaque w t)) where
  -- with an opaque part, the header and what else is visible stand before it in both
  module _ (e : hides w s ≡ true) where
    hidden : Hidden w s
    hidden = hides_parts w s e

    beside : t ≡ hidden.f ++ (hidden.v ++ opaque w t)
    beside =
        let q : visible w t ≡ hidden.f ++ hidden.v = sym v ∙ ap (visible w) hidden.is ∙ parted_visible w hidden.f hidden.v hidden.x hidden.parted hidden.good in
        sym (visible_opaque w t) ∙ ap (λ (b : Bytes). b ++ opaque w t) q ∙ append_assoc hidden.f hidden.v (opaque w t)

    pub same_header : take 12 s ≡ take 12 t
    same_header =
        ap (take 12) hidden.is ∙ take_at hidden.f (hidden.v ++ hidden.x) 12 hidden.parted.head
        ∙ sym (ap (take 12) beside ∙ take_at hidden.f (hidden.v ++ opaque w t) 12 hidden.parted.head)

    same_kind : number_at s 4 ≡ number_at t 4
    same_kind =
        ap (λ (b : Bytes). number_at b 4) hidden.is
        ∙ number_front hidden.f (hidden.v ++ hidden.x) 4 (omega (arith, hidden.parted.head))
        ∙ sym (ap (λ (b : Bytes). number_at b 4) beside ∙ number_front hidden.f (hidden.v ++ opaque w t) 4 (omega (arith, hidden.parted.head)))

  none_left : (b : Bytes) → length b ≡ 0 → b ≡ []
  none_left [] e = refl
  none_left (x ∷ b) e = absurd (omega arith)

  -- without one, they are the same packet
  pub same_packet : hides w s ≡ false → s ≡ t
  same_packet e =
      let o : opaque w s ≡ [] = unhidden_opaque w s e in
      let p : opaque w t ≡ [] = none_left (opaque w t) (sym l ∙ ap length o) in
      let q : visible w s ++ opaque w s ≡ visible w t ++ opaque w t = rw (v, o, p) in
      sym (visible_opaque w s) ∙ q ∙ visible_opaque w t

  saying_alike : saying w s ≡ saying w t
  unfolding saying
  saying_alike = either (hides w s) refl
    where
      either : (b : Bool) → hides w s ≡ b → read_text w.shape (number_at s 4) (read w s) ≡ read_text w.shape (number_at t 4) (read w t)
      either false e = ap (λ (p : Bytes). read_text w.shape (number_at p 4) (read w p)) (same_packet e)
      either true e =
          let m : Reading = read w (masked w s) in
          ap (read_text w.shape (number_at s 4)) (read_masked w well s)
          ∙ read_text_alike (opaque w s) (opaque w t) l w (masked w s) (number_at s 4) m refl
          ∙ ap (λ (k : ℕ). read_text w.shape k (with_opaque w (opaque w t) m)) (same_kind e)
          ∙ ap (read_text w.shape (number_at t 4)) (sym (read_alike w well s t v l))

-- ---- the lines

pub request_line_alike : (c : ℕ) (s t : Bytes) → visible requests s ≡ visible requests t → length (opaque requests s) ≡ length (opaque requests t)
    → request_line c s ≡ request_line c t
unfolding request_line
request_line_alike c s t v l = ap (λ (b : Bytes). decimal c ++ (to_server ++ b)) (saying_alike requests requests_well s t v l)

pub response_line_alike : (c : ℕ) (s t : Bytes) → visible responses s ≡ visible responses t → length (opaque responses s) ≡ length (opaque responses t)
    → response_line c s ≡ response_line c t
unfolding response_line
response_line_alike c s t v l = ap (λ (b : Bytes). decimal c ++ (from_server ++ b)) (saying_alike responses responses_well s t v l)

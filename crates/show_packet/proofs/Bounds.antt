-- How long a line is at the most: 1,265 bytes, and not much longer than its packet. A text with that much room after `at` has room
-- for any packet's line. Assumes nothing.
use Prim.Native.Nat.{ℕ, zero, suc, ◌+◌, ◌-◌, ◌*◌, ◌≤◌}
use mathlib.Core.Path.{◌≡◌, refl, ap, ◌∙◌}
use mathlib.Core.Bool.{Bool, true, false, cond}
use mathlib.Core.List.{List, [], ◌∷◌, ◌++◌}
use native.Mathlib.Omega.{arith}
use lib.Dec.{eqb, ltb}
use lib.ListN.{length, get_or, drop, length-append, length-drop}
use Rattle.octets.specs.Bytes.{Bytes, number_at}
use Rattle.packet.specs.declared.Rule.{Rule}
use Rattle.packet.specs.declared.Rule.TheVariants.{Absent}
use Rattle.packet.specs.declared.Shape.{Shape}
use Rattle.packet.specs.Layout.{rules_of}
use Rattle.packet.specs.Opaque.{is_opaque}
use Rattle.packet.specs.Arguments.{join}
use Rattle.packet.specs.Packet.{Direction, Reading, refused, got, read, requests, responses}
use Rattle.packet_laws.proofs.Splitting.{fit_length, split_join}
use Rattle.packet_laws.proofs.Packets.{Headed, header_good, Got, read_got}
use Rattle.packet_kinds.proofs.Shapes.{at_most_five}
use Rattle.handle.specs.Handle.{decimal}
use Rattle.handle.proofs.Decimal.{decimal_most}
use Rattle.show_names.specs.Names.{label_of, name_of, reason_of, space}
use Rattle.prints.specs.Pieces.{pieces}
use Rattle.prints.proofs.Pieces.{more_long}
use Rattle.prints.specs.Printed.{printed_or}
use Rattle.prints.proofs.Printed.{printed_or_short}
use Rattle.show_names.proofs.Words.{label_short, name_short, reason_short}
use Rattle.show_packet.specs.Lines.{argument_text, argument_texts, byte_word, bytes_word, closing, from_server, label_before, packet_text, quotes, read_text, refusal_text, refused_text, request_line, response_line, saying, sized, to_server, unreadable_text, value_of}

-- ---- one argument

size_short : (n : ℕ) → length (sized n) ≤ 16
unfolding sized
size_short n = either (eqb n 1)
  where
    either : (b : Bool) → length (decimal n ++ cond b byte_word bytes_word) ≤ 16
    either true = omega (arith, length-append (decimal n) byte_word, decimal_most n)
    either false = omega (arith, length-append (decimal n) bytes_word, decimal_most n)

value_short : (rule : Rule) (a : Bytes) → length (value_of rule a) ≤ length a + 16
unfolding value_of
value_short rule a = either (is_opaque rule)
  where
    either : (b : Bool) → length (cond b (sized (length a)) (printed_or quotes a)) ≤ length a + 16
    either true = omega (arith, size_short (length a))
    either false = omega (arith, printed_or_short quotes a)

label_before_short : (shape : Shape) (i : ℕ) → length (label_before shape i) ≤ 12
unfolding label_before
label_before_short shape i = either (eqb (length (rules_of shape)) 1)
  where
    either : (b : Bool) → length (cond b [] (label_of shape i ++ space)) ≤ 12
    either true = omega arith
    either false = omega (arith, length-append (label_of shape i) space, label_short shape i)

argument_text_short : (shape : Shape) (i : ℕ) (a : Bytes) → length (argument_text shape i a) ≤ length a + 29
unfolding argument_text
argument_text_short shape i a =
    let rule : Rule = get_or (rules_of shape) i Absent in
    omega (arith, length-append (label_before shape i) (value_of rule a), label_before_short shape i, value_short rule a)

-- ---- all arguments of a packet

-- the bytes of the first n arguments together
total : (ℕ → Bytes) → ℕ → ℕ
total f zero = 0
total f (suc n) = total f n + length (f n)

texts_short : (shape : Shape) (f : ℕ → Bytes) (n : ℕ) → length (argument_texts shape f n) ≤ n * 29 + total f n
unfolding argument_texts pieces total
texts_short shape f zero = omega arith
texts_short shape f (suc n) =
    omega (arith, more_long (λ i. argument_text shape i (f i)) n, texts_short shape f n, argument_text_short shape n (f n))

total_first : (a : Bytes) (args : List Bytes) (n : ℕ) → total (λ i. get_or (a ∷ args) i []) (suc n) ≡ length a + total (λ i. get_or args i []) n
unfolding total
total_first a args zero = omega arith
total_first a args (suc n) = omega (arith, total_first a args n)

total_joined : (args : List Bytes) → total (λ i. get_or args i []) (length args) ≤ length (join args)
unfolding total join
total_joined [] = omega arith
total_joined (a ∷ []) = omega arith
total_joined (a ∷ (b ∷ bs)) =
    omega (arith, total_first a (b ∷ bs) (suc (length bs)), total_joined (b ∷ bs), length-append a (0 ∷ join (b ∷ bs)))

-- ---- one packet

pub refusal_short : (n : ℕ) → length (refusal_text n) ≤ 42
unfolding refusal_text
refusal_short n = omega (arith, length-append (decimal n) (space ++ reason_of n), decimal_most n, reason_short n)

unreadable_short : (n : ℕ) → length (unreadable_text n) ≤ 37
unfolding unreadable_text
unreadable_short n = omega (arith, length-append (reason_of n) closing, reason_short n)

refused_short : (kind n : ℕ) → length (refused_text kind n) ≤ 56
unfolding refused_text
refused_short kind n = either (ltb n 9)
  where
    either : (b : Bool) → length (cond b (unreadable_text n) (name_of kind ++ (space ++ unreadable_text n))) ≤ 56
    either true = omega (arith, unreadable_short n)
    either false = omega (arith, length-append (name_of kind) (space ++ unreadable_text n), name_short kind, unreadable_short n)

module _ (w : Direction) (most : w.most ≤ 1088) (s : Bytes) where
  -- at most 1,251 bytes, and at most 151 more than the packet has
  read_short : (r : Reading) → read w s ≡ r → (length (read_text w.shape (number_at s 4) r) ≤ 1251) × (length (read_text w.shape (number_at s 4) r) ≤ length s + 151)
  unfolding read_text packet_text
  read_short (refused n) e = (omega (arith, refused_short (number_at s 4) n), omega (arith, refused_short (number_at s 4) n))
  read_short (got k args) e =
      let g : Got w s k args = read_got w s k args e in
      let h : Headed w.magic w.most s = header_good _ _ s g.headed in
      let j = split_join _ (drop 12 s) args g.splits in
      let l : length (join args) ≡ length s - 12 = ap length j.0 ∙ length-drop 12 s in
      let n : length args ≡ length (rules_of (w.shape k)) = fit_length _ args j.1 in
      let t : total (λ i. get_or args i []) (length (rules_of (w.shape k))) ≤ length (join args) = rw (← n) (total_joined args) in
      let f : ℕ → Bytes = λ i. get_or args i [] in
      let a : Bytes = argument_texts (w.shape k) f (length (rules_of (w.shape k))) in
      let m : length (name_of k ++ a) ≤ length s + 151 =
      omega (arith, length-append (name_of k) a, name_short k, texts_short (w.shape k) f (length (rules_of (w.shape k))), at_most_five (w.shape k), t, l, h.whole) in
      (omega (arith, m, h.limited, h.whole, most), m)

  saying_short : (length (saying w s) ≤ 1251) × (length (saying w s) ≤ length s + 151)
  unfolding saying
  saying_short = read_short (read w s) refl

-- ---- one line

pub request_line_short : (c : ℕ) (s : Bytes) → length (request_line c s) ≤ 1265
unfolding request_line
request_line_short c s = omega (arith, length-append (decimal c) (to_server ++ saying requests s), decimal_most c, (saying_short requests (omega arith) s).0)

module _ (c : ℕ) (s : Bytes) where
  pub response_line_short : length (response_line c s) ≤ 1265
  unfolding response_line
  response_line_short = omega (arith, length-append (decimal c) (from_server ++ saying responses s), decimal_most c, (saying_short responses (omega arith) s).0)

  -- not much longer than the packet
  pub response_line_near : length (response_line c s) ≤ length s + 165
  unfolding response_line
  response_line_near = omega (arith, length-append (decimal c) (from_server ++ saying responses s), decimal_most c, (saying_short responses (omega arith) s).1)

-- A packet that was read as a request and goes out as a response: its arguments, passed one by one, are those that were read; they
-- may be sent, and their data is the packet's as it came. Assumes nothing.
use Prim.Native.Nat.{ℕ, ◌<◌, ◌≤◌, zero-le}
use mathlib.Core.Path.{◌≡◌, refl, ap, ◌∙◌, sym, subst}
use mathlib.Core.Bool.{Bool, true, false, ◌&&◌}
use mathlib.Core.List.{List, [], ◌∷◌}
use native.Mathlib.Omega.{arith}
use borrow.Author.Tests.{eqb-true, ltb-true, ltb-false}
use lib.Dec.{T, eqb, ltb}
use lib.ListN.{length, get_or, drop, length-drop, get_or-eq_default}
use Rattle.octets.specs.Bytes.{Bytes}
use Rattle.packet.specs.declared.Ends.{Ends}
use Rattle.packet.specs.declared.Shape.{Shape}
use Rattle.packet.specs.declared.Shape.TheVariants.{Foreign}
use Rattle.packet.specs.Layout.{is_own, request_shape, response_shape, rules_of, served}
use Rattle.octets.proofs.Strings.{and_left, and_right}
use Rattle.packet.specs.Arguments.{fit_all, join}
use Rattle.packet.specs.Packet.{given, read, requests}
use Rattle.packet.specs.Answers.{answer_of, argument_at, found}
use Rattle.packet_laws.proofs.Splitting.{split_join, fit_length}
use Rattle.packet_laws.proofs.Packets.{Headed, header_good, Got, read_got}
use Rattle.packet_laws.proofs.Answers.{read_answer}
use Rattle.packet_laws.proofs.Places.{argument_read}
use Rattle.packet_kinds.proofs.Tests.{bools, range_arm}
use Rattle.packet_kinds.proofs.Shapes.{at_most_five, shapes}
use Rattle.server.specs.Requests.{Work, Request, reset, pre_sleep, echo, bad, can_do, cant_do, identify, grab, submit, work, get_status, option, requested}
use Rattle.carry_packet.specs.Messages.{Sendable, Forwards}

-- ---- which packets may be forwarded

pub read_forwards : (p : Bytes) (ends : Ends) (k kind : ℕ) → answer_of (read requests p) ≡ found k ends → response_shape kind ≡ request_shape k → Forwards p ends kind
read_forwards p ends k kind e a =
    let r = read_answer (read requests p) k ends e in
    record { from = k; arguments = r.0; reads = r.1; marked = r.2; alike = a }

-- a type that is served is below 37
below_served : (k : ℕ) (low : Bool) → ltb k 37 ≡ low → is_own (request_shape k) ≡ true → k < 37
unfolding request_shape
below_served k true e o = ltb-true k 37 e
below_served k false e o = let z : ◌≡◌ {A = ℕ} 0 1 = cc (get_or-eq_default served Foreign (ltb-false k 37 e)) in absurd (omega arith)

pub served_below : (p : Bytes) (ends : Ends) (k : ℕ) → answer_of (read requests p) ≡ found k ends → k < 37
served_below p ends k e =
    let r = read_answer (read requests p) k ends e in
    below_served k (ltb k 37) refl (read_got requests p k r.0 r.1).own

-- what a worker says of its job goes out by the type by which it came
told : ℕ → Request → Bool
told k reset = true
told k pre_sleep = true
told k echo = true
told k (bad n) = true
told k (can_do f) = true
told k (cant_do f) = true
told k (identify i) = true
told k (grab uniq) = true
told k (submit priority background f u size) = true
told k (work how kind h n d) = eqb kind k && shapes.same (response_shape k) (request_shape k)
told k (get_status h) = true
told k (option name) = true

module _ (a b c : Bytes) where
  told_row : ℕ → Bool
  told_row k = told k (requested k a b c)

  told_all : (k : ℕ) → k < 37 → told_row k ≡ true
  unfolding told told_row requested response_shape request_shape
  told_all k h = sym (range_arm bools told_row [] 0 37 tt k tt zero-le h)

  pub work_forwards : (p : Bytes) (ends : Ends) (k kind : ℕ) (how : Work) (h n d : Bytes) → answer_of (read requests p) ≡ found k ends
      → requested k a b c ≡ work how kind h n d → Forwards p ends kind
  unfolding told told_row
  work_forwards p ends k kind how h n d e w =
      let l : k < 37 = served_below p ends k e in
      let same_shape : Bool = shapes.same (response_shape k) (request_shape k) in
      let t : eqb kind k && same_shape ≡ true = rw w at (told_all k l) in
      let q : kind ≡ k = eqb-true kind k (and_left (eqb kind k) same_shape t) in
      let r : response_shape k ≡ request_shape k = shapes.tells _ _ (subst T (sym (and_right (eqb kind k) same_shape t)) tt) in
      read_forwards p ends k kind e (rw q r)

-- ---- its arguments and its data

-- up to five arguments, one by one
given_each : (as' : List Bytes) → length as' ≤ 5 → given (length as') (get_or as' 0 []) (get_or as' 1 []) (get_or as' 2 []) (get_or as' 3 []) (get_or as' 4 []) ≡ as'
unfolding given
given_each [] h = refl
given_each (a ∷ []) h = refl
given_each (a ∷ b ∷ []) h = refl
given_each (a ∷ b ∷ c ∷ []) h = refl
given_each (a ∷ b ∷ c ∷ d ∷ []) h = refl
given_each (a ∷ b ∷ c ∷ d ∷ e ∷ []) h = refl
given_each (a ∷ b ∷ c ∷ d ∷ e ∷ f ∷ as') h = absurd (omega arith)

module _ (p : Bytes) (ends : Ends) (kind : ℕ) (f : Forwards p ends kind) where
  got_it : Got requests p f.from f.arguments
  got_it = read_got requests p f.from f.arguments f.reads

  forward_fit : fit_all (rules_of (response_shape kind)) f.arguments ≡ true
  forward_fit = rw f.alike (split_join _ (drop 12 p) f.arguments got_it.splits).1

  -- the data is the packet's
  forward_data : join f.arguments ≡ drop 12 p
  forward_data = (split_join _ (drop 12 p) f.arguments got_it.splits).0

  pub forward_long : 12 ≤ length p
  forward_long = (header_good _ _ p got_it.headed).long

  pub forward_short : length (drop 12 p) ≤ 1088
  forward_short =
      let h : Headed requests.magic requests.most p = header_good _ _ p got_it.headed in
      rw length-drop (omega (arith, h.limited, h.whole))

  -- its length can be said in a header
  pub forward_limited : length (drop 12 p) < 4294967296
  forward_limited = omega (arith, forward_short)

  pub forward_sendable : Sendable kind f.arguments
  forward_sendable = record { own = rw f.alike got_it.own; fit = forward_fit; limited = rw forward_data forward_short }

  forward_argument : (i : ℕ) → i < 5 → argument_at p ends i ≡ get_or f.arguments i []
  forward_argument i h = rw f.marked (argument_read requests p f.from f.arguments f.reads i h)

  pub forward_given : (shape : Shape) (count : ℕ) (a b c d e : Bytes) → shape ≡ response_shape kind → count ≡ length (rules_of shape)
      → a ≡ argument_at p ends 0 → b ≡ argument_at p ends 1 → c ≡ argument_at p ends 2 → d ≡ argument_at p ends 3 → e ≡ argument_at p ends 4
      → given count a b c d e ≡ f.arguments
  forward_given shape count a b c d e es ec ea eb ecc ed ee =
      let n : length f.arguments ≡ length (rules_of (response_shape kind)) = fit_length _ f.arguments forward_fit in
      let m : count ≡ length f.arguments = ec ∙ ap (λ (s : Shape). length (rules_of s)) es ∙ sym n in
      let g : (i : ℕ) → i < 5 → argument_at p ends i ≡ get_or f.arguments i [] = forward_argument in
      rw (m, ea, eb, ecc, ed, ee, g 0 (omega arith), g 1 (omega arith), g 2 (omega arith), g 3 (omega arith), g 4 (omega arith))
      (given_each f.arguments (omega (arith, n, at_most_five (response_shape kind))))

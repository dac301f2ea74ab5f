-- Which job a packet names, from the answer of the packet reader, and which the first of the packets that were sent. Assumes nothing.
use Prim.Native.Nat.{ℕ, ◌+◌, ◌-◌, ◌≤◌}
use mathlib.Core.Path.{◌≡◌, refl, ap, ◌∙◌, sym}
use mathlib.Core.Bool.{Bool, true, false, not}
use mathlib.Core.List.{List, [], ◌∷◌, ◌++◌}
use native.Mathlib.Omega.{arith}
use borrow.Author.Tests.{not-true, not-false}
use lib.Dec.{lit≤}
use lib.ListN.{length, get_or, take, drop, length-append}
use lib.Seq.{take_at}
use Rattle.octets.specs.Bytes.{Bytes}
use Rattle.packet.specs.declared.Ends.{Ends}
use Rattle.packet.specs.declared.Shape.{Shape}
use Rattle.packet.specs.declared.Refusal.{Refusal}
use Rattle.std.specs.Prelude.{Err, Option, Some, None}
use Rattle.packet.specs.Packet.{Direction, header, read, requests, responses}
use Rattle.packet.specs.Answers.{answer_of, argument_at, found}
use Rattle.packet_laws.proofs.Answers.{read_answer, refused_answer}
use Rattle.packet_laws.proofs.Places.{argument_read}
use Rattle.handle.specs.Handle.{serial_of}
use Rattle.lists.specs.Lists.{concat}
use Rattle.capture.specs.Packets.{packet_length, Addressed, Packed, packets_in, cut}
use Rattle.capture.proofs.Cutting.{first_length, packets_in_lem}
use Rattle.show_job.specs.Concerned.{concerned, first_sent, handle_in, job_named, named_by, names_job}

-- ---- a handle by its shape

module _ (hub : Bytes) (shape : Shape) (a : Bytes) (names : Bool) (e : names ≡ names_job shape) where
  pub handle_none : not names ≡ true → None ≡ handle_in hub shape a
  unfolding handle_in
  handle_none h = rw (sym e ∙ not-true names h)

  pub handle_first : not names ≡ false → (b : Bytes) → b ≡ a → (r : Option ℕ) → r ≡ serial_of hub b → r ≡ handle_in hub shape a
  unfolding handle_in
  handle_first h b q r f = rw (sym e ∙ not-false names h, ← q) f

-- ---- the job that a packet names

module _ (hub : Bytes) (w : Direction) (s : Bytes) where
  pub named_none : (r : Refusal) → Err r ≡ answer_of (read w s) → None ≡ job_named hub w s
  unfolding job_named named_by
  named_none r e = rw (refused_answer w s r (sym e))

  pub named_first : (k : ℕ) (ends : Ends) → found k ends ≡ answer_of (read w s) → (shape : Shape) → shape ≡ w.shape k
      → handle_in hub shape (argument_at s ends 0) ≡ job_named hub w s
  unfolding job_named named_by
  named_first k ends e shape q =
      let r = read_answer (read w s) k ends (sym e) in
      let a : argument_at s ends 0 ≡ get_or r.0 0 [] = ap (λ (x : Ends). argument_at s x 0) r.2 ∙ argument_read w s k r.0 r.1 0 (lit≤ tt) in
      rw (q, a) (sym (ap (named_by hub w.shape) r.1))

-- ---- the first packet that was sent

pub first_none : (hub b : Bytes) → length b ≡ 0 → None ≡ job_named hub responses (first_sent (packets_in b))
unfolding packets_in cut job_named named_by read header
first_none hub [] h = refl
first_none hub (x ∷ b) h = absurd (omega arith)

-- it stands at the start of what was sent, after its connection
record First (b : Bytes) : Type 0 where
  long : 13 ≤ length b
  inside : packet_length b ≤ length b
  is : take (packet_length b - 1) (drop 1 b) ≡ first_sent (packets_in b)

without_connection : (p r : Bytes) → 13 ≤ length p → take (length p - 1) (drop 1 (p ++ r)) ≡ drop 1 p
without_connection [] r h = absurd (omega arith)
without_connection (x ∷ p) r h = take_at p r (length (x ∷ p) - 1) (omega arith)

first_of : (b : Bytes) → (length b ≡ 0 → ⊥) → (ps : List Bytes) → Addressed ps → b ≡ concat ps → First b
first_of b h [] f e = absurd (h (ap length e))
first_of b h (p ∷ ps) f e =
    let n : packet_length b ≡ length p = rw e (first_length p (concat ps) f.0) in
    let l : length b ≡ length p + length (concat ps) = ap length e ∙ length-append p (concat ps) in
    let q : packets_in b ≡ p ∷ ps = packets_in_lem b (p ∷ ps) f e in
    record {
      long = omega (arith, f.0);
      inside = omega arith;
      is = rw (n, q, e) (without_connection p (concat ps) (omega (arith, f.0)));
    }

module _ (b : Bytes) (k : Packed b) (h : length b ≡ 0 → ⊥) where
  first : First b
  first = first_of b h k.packets k.formed k.whole

  pub first_long : 13 ≤ length b
  first_long = first.long

  module _ (n : ℕ) (e : n ≡ packet_length b) where
    pub first_inside : n ≤ length b
    first_inside = rw e first.inside

    pub first_named : (hub : Bytes) (r : Option ℕ) → r ≡ job_named hub responses (take (n - 1) (drop 1 b)) → r ≡ job_named hub responses (first_sent (packets_in b))
    first_named hub r f = f ∙ rw e (ap (job_named hub responses) first.is)

-- ---- the job that is concerned

module _ (hub s : Bytes) (ps : List Bytes) where
  pub concerned_own : (n : ℕ) → Some n ≡ job_named hub requests s → Some n ≡ concerned hub s ps
  unfolding concerned
  concerned_own n e = rw (← e)

  pub concerned_sent : None ≡ job_named hub requests s → (r : Option ℕ) → r ≡ job_named hub responses (first_sent ps) → r ≡ concerned hub s ps
  unfolding concerned
  concerned_sent e r f = rw (← e) f

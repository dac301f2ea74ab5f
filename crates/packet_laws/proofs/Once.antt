-- No second outcome: two results that meet a public call's contract on the same input are equal, so number, length, output and
-- argument are determined to the byte. And the numbers say what happened: 0 where, and only where, it was done. Assumes nothing.
use Prim.Native.Nat.{ℕ, zero, suc, ◌+◌}
use mathlib.Core.Path.{◌≡◌, refl, ap, ◌∙◌, sym}
use mathlib.Core.Bool.{Bool, true, false, not, cond}
use mathlib.Core.List.{List}
use native.Mathlib.Omega.{arith}
use lib.ListN.{length, drop}
use lib.Dec.{ltb}
use Rattle.octets.specs.Bytes.{Bytes, number_at}
use Rattle.octets.specs.Put.{put}
use Rattle.packet.specs.declared.Ends.{Ends}
use Rattle.packet.specs.declared.Shape.{Shape}
use Rattle.packet.specs.Layout.{is_own, rules_of}
use Rattle.packet.specs.Arguments.{Parts, bad, parts, split, fit_all, join}
use Rattle.packet.specs.Packet.{Direction, refused, got, header, argued, body, after_header, read, packet, write_refusal}
use Rattle.packet.specs.Answers.{Read, answer_of, read_number, argument_at, Written, write_number, write_length, Writing, finished, writing}
use Rattle.packet.specs.Refusals.{refusal_of}
use Rattle.std.specs.Prelude.{Ok}
use Rattle.packet_laws.proofs.Answers.{number_some}
use Rattle.packet_laws.proofs.RoundTrip.{written}

module _ {A : Type 0} where
  once : (x a b : A) → a ≡ x → b ≡ x → a ≡ b
  once x a b p q = p ∙ sym q

-- ---- reading

-- the answer, and so its number
pub read_once : (w : Direction) (s : Bytes) (r q : Read) → r ≡ answer_of (read w s) → q ≡ answer_of (read w s)
    → (r ≡ q) × (read_number r ≡ read_number q)
read_once w s r q e f = let o : r ≡ q = once _ r q e f in (o, ap read_number o)

-- an argument
pub argument_once : (s : Bytes) (ends : Ends) (i : ℕ) (a b : Bytes) → a ≡ argument_at s ends i → b ≡ argument_at s ends i → a ≡ b
argument_once s ends i a b e f = once _ a b e f

-- ---- writing

-- the answer, and so its number and its length; and the output
pub write_once : (w : Direction) (out : Bytes) (kind : ℕ) (args : List Bytes) (r q : Written) (o p : Bytes)
    → record { answer = r; output = o } ≡ written w out kind args → record { answer = q; output = p } ≡ written w out kind args
    → (r ≡ q) × (write_number r ≡ write_number q) × (write_length r ≡ write_length q) × (o ≡ p)
write_once w out kind args r q o p e f =
    let a : r ≡ q = once _ r q (ap (λ (x : Writing). x.answer) e) (ap (λ (x : Writing). x.answer) f) in
    (a, ap write_number a, ap write_length a, once _ o p (ap (λ (x : Writing). x.output) e) (ap (λ (x : Writing). x.output) f))

-- ---- number 0 means done

argued_zero : (kind : ℕ) (p : Parts) → read_number (answer_of (argued kind p)) ≡ 0 → (args : List Bytes) × (argued kind p ≡ got kind args)
unfolding answer_of
argued_zero kind bad e = absurd (omega arith)
argued_zero kind (parts args) e = (args, refl)

own_zero : (b : Bool) (kind : ℕ) (p : Parts) → read_number (answer_of (cond b (argued kind p) (refused 9))) ≡ 0
    → (args : List Bytes) × (cond b (argued kind p) (refused 9) ≡ got kind args)
unfolding answer_of
own_zero true kind p e = argued_zero kind p e
own_zero false kind p e = absurd (omega arith)

after_zero : (n : ℕ) (shape : Shape) (kind : ℕ) (d : Bytes) → read_number (answer_of (after_header n (body shape kind d))) ≡ 0
    → (args : List Bytes) × (after_header n (body shape kind d) ≡ got kind args)
unfolding answer_of body
after_zero zero shape kind d e = own_zero (is_own shape) kind (split (rules_of shape) d) e
after_zero (suc n) shape kind d e = absurd (number_some (refusal_of (suc n)) e)

-- with number 0, the packet's type and arguments were read
pub read_done : (w : Direction) (s : Bytes) → read_number (answer_of (read w s)) ≡ 0 → (args : List Bytes) × (read w s ≡ got (number_at s 4) args)
unfolding read
read_done w s e = after_zero (header w.magic w.most s) (w.shape (number_at s 4)) (number_at s 4) (drop 12 s) e

finished_zero : (n : ℕ) (p out : Bytes) → write_number (finished n p out).answer ≡ 0 → finished n p out ≡ record { answer = Ok (length p); output = put 0 p out }
finished_zero zero p out e = refl
finished_zero (suc n) p out e = absurd (number_some (refusal_of (suc n)) e)

finished_other : (n : ℕ) (p out : Bytes) → (write_number (finished n p out).answer ≡ 0 → ⊥) → (write_length (finished n p out).answer ≡ 0) × ((finished n p out).output ≡ out)
finished_other zero p out e = absurd (e refl)
finished_other (suc n) p out e = (refl, refl)

-- the number of what is finished is the first of 9, 10, 7 and 1 that a test gives, and 0 where none does
finished_number : (own fits much room : Bool) (p out : Bytes)
    → write_number (finished (cond own 9 (cond fits 10 (cond much 7 (cond room 1 0)))) p out).answer ≡ cond own 9 (cond fits 10 (cond much 7 (cond room 1 0)))
finished_number true fits much room p out = refl
finished_number false true much room p out = refl
finished_number false false true room p out = refl
finished_number false false false true p out = refl
finished_number false false false false p out = refl

module _ (w : Direction) (out : Bytes) (kind : ℕ) (args : List Bytes) where
  -- the answer's number is the refusal that writing meets
  pub write_numbered : write_number (written w out kind args).answer ≡ write_refusal w.most (length out) (w.shape kind) args
  unfolding writing write_refusal
  write_numbered =
      finished_number (not (is_own (w.shape kind))) (not (fit_all (rules_of (w.shape kind)) args)) (ltb w.most (length (join args))) (ltb (length out) (12 + length (join args)))
      (packet w.magic kind (join args)) out

  -- with number 0, the whole packet was laid over the output, and its length is reported
  pub write_done : write_number (written w out kind args).answer ≡ 0
      → written w out kind args ≡ record { answer = Ok (length (packet w.magic kind (join args))); output = put 0 (packet w.magic kind (join args)) out }
  unfolding writing
  write_done e = finished_zero (write_refusal w.most (length out) (w.shape kind) args) _ out e

  -- with any other number nothing was written, and the length is 0
  pub write_refused : (write_number (written w out kind args).answer ≡ 0 → ⊥) → (write_length (written w out kind args).answer ≡ 0) × ((written w out kind args).output ≡ out)
  unfolding writing
  write_refused e = finished_other (write_refusal w.most (length out) (w.shape kind) args) (packet w.magic kind (join args)) out e

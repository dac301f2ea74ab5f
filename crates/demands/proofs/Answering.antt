-- Every call answers: it is done, or it refuses and changes nothing but for one ERROR packet. Assumes nothing.
use Prim.Native.Nat.{ℕ, ◌≤◌}
use mathlib.Core.Path.{◌≡◌, refl, ap, ap₂, sym, ◌∙◌}
use mathlib.Core.Bool.{Bool, true, false, not, ◌&&◌}
use mathlib.Core.List.{[], ◌∷◌, ◌++◌, map, append-nil}
use native.Mathlib.Decide.{ℕ_discrete}
use native.Mathlib.Omega.{arith}
use borrow.Author.Tests.{ltb-true}
use lib.ListN.{length, take, drop}
use lib.Seq.{take-append_seam}
use lib.Dec.{ltb}
use Rattle.octets.specs.Bytes.{Bytes, same}
use Rattle.octets.proofs.Strings.{and_left, and_right}
use Rattle.packet.specs.Arguments.{join}
use Rattle.packet.specs.Packet.{packet, got, responses}
use Rattle.lists.specs.Lists.{implies}
use Rattle.lists.proofs.Cases.{All}
use Rattle.lists.proofs.Rows.{implies_use, below_at}
use Rattle.server.specs.Refusals.{is_told}
use Rattle.server.specs.Requests.{Event, sends}
use Rattle.server.specs.Events.{error}
use Rattle.server.specs.Server.{addressed, render, start}
use Rattle.server.specs.Call.{Result, sent_bytes, call}
use Rattle.server_laws.proofs.Refusals.{error_packet}
use Rattle.server_calls.proofs.Refusals.{Refused, call_refused}
use Rattle.demands.specs.Messages.{message_in, packets_in, told, message_of}
use Rattle.demands.specs.Answered.{error_arguments, error_bytes, Answered, done, silent, tells}
use Rattle.demands.proofs.ReadsBack.{reads_error}
use Rattle.demands.proofs.Told.{messages_read}

-- 9 to 15 have a text, 1 to 8 none
told_nine : (k : ℕ) → k ≤ 15 → (is_told k ≡ true → 9 ≤ k) × (is_told k ≡ false → k ≤ 8)
unfolding is_told same
told_nine k h =
    let z : implies (is_told k) (ltb 8 k) && implies (not (is_told k)) (ltb k 9) ≡ true = below_at (λ i. implies (is_told i) (ltb 8 i) && implies (not (is_told i)) (ltb i 9)) 16 k refl (omega arith) in (
      (λ e. let l = ltb-true 8 k (implies_use (is_told k) _ (and_left (implies (is_told k) (ltb 8 k)) _ z) e) in omega arith),
      (λ e. let l = ltb-true k 9 (implies_use (not (is_told k)) _ (and_right (implies (is_told k) (ltb 8 k)) _ z) (rw e)) in omega arith),
    )

-- the ERROR packet, as it is sent and as it is read
error_bytes_lem : (c n : ℕ) → addressed (error_packet c n) ≡ error_bytes c n
unfolding join
error_bytes_lem c n = ap (λ (d : Bytes). c ∷ packet responses.magic 19 d) (append-nil (join (error_arguments n)))

error_reads : (c n : ℕ) → is_told n ≡ true → map message_in (packets_in (addressed (error_packet c n))) ≡ record { to = c; says = got 19 (error_arguments n) } ∷ []
unfolding sent_bytes render message_of join
error_reads c n h = ap (λ (b : Bytes). map message_in (packets_in b)) (sym (append-nil (addressed (error_packet c n)))) ∙ messages_read (sends c []) (start 0 []) (error c n ∷ []) (All.more (reads_error (sends c []) (start 0 []) c n h) All.none)

-- a result whose output begins with it tells it
tells_error : (r : Result) (o : Bytes) (c : ℕ) → r.length' ≡ length (error_bytes c r.number) → r.output ≡ error_bytes c r.number ++ drop (length (error_bytes c r.number)) o
    → is_told r.number ≡ true → told r ≡ record { to = c; says = got 19 (error_arguments r.number) } ∷ []
unfolding told
tells_error r o c l p q =
    ap₂ (λ (k : ℕ) (b : Bytes). map message_in (packets_in (take k b))) l p
    ∙ ap (λ (b : Bytes). map message_in (packets_in b)) (take-append_seam (error_bytes c r.number) _ ∙ sym (error_bytes_lem c r.number))
    ∙ error_reads c r.number q

module _ (n : ℕ) (e : Event) (t w o : Bytes) where
  answered_refused : (r : Result) → ¬ (r.number ≡ 0) → Refused e t w o r → Answered e t w o r
  answered_refused r z f = by (is_told r.number) refl
    where
      by : (b : Bool) → is_told r.number ≡ b → Answered e t w o r
      by false q =
          let (l, p) = f.silent q in
          silent (omega arith) ((told_nine r.number f.most).1 q) (λ i. record { number = r.number; length' = l i; output = p i; table = f.table i; workloads = f.workloads i })
      by true q =
          let u = f.tells q in
          let x = error_bytes_lem u.sender r.number in
          let l : r.length' ≡ length (error_bytes u.sender r.number) = u.length' ∙ ap length x in
          let p : r.output ≡ error_bytes u.sender r.number ++ drop (length (error_bytes u.sender r.number)) o = u.output ∙ ap (λ (b : Bytes). b ++ drop (length b) o) x in
          tells ((told_nine r.number f.most).0 q) f.most u.sender u.bytes u.is
          (λ i. record { number = r.number; length' = l i; output = p i; table = f.table i; workloads = f.workloads i })
          (tells_error r o u.sender l p q)

  pub call_answered : Answered e t w o (call n e t w o)
  call_answered = by (ℕ_discrete (call n e t w o).number 0)
    where
      by : Dec ((call n e t w o).number ≡ 0) → Answered e t w o (call n e t w o)
      by (yes z) = done z
      by (no z) = answered_refused (call n e t w o) z (call_refused n e t w o z)

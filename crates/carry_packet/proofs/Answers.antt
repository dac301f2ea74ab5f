-- The packets that the server makes itself: what the code lays is made of the defined arguments, and they are short.
-- Assumes nothing.
use Prim.Native.Nat.{ℕ, zero, suc, ◌+◌, ◌/◌, ◌%◌, ◌<◌, ◌≤◌}
use mathlib.Core.Path.{◌≡◌, refl, ap, sym, ◌∙◌}
use mathlib.Core.Bool.{Bool, true, false, not, cond}
use mathlib.Core.List.{List, [], ◌∷◌, map}
use native.Mathlib.Nat.{le_of_suc-le-suc, not-suc-le-zero}
use native.Mathlib.Omega.{arith}
use borrow.Author.Tests.{leb-true}
use lib.ListN.{length, get_or, take}
use lib.Seq.{length-take-le}
use lib.Dec.{T, eqb, leb}
use Rattle.octets.specs.Bytes.{Bytes, same, first_zero, every, within}
use Rattle.octets.proofs.Strings.{and_left, and_right, same_is}
use Rattle.octets.proofs.Runs.{room_as}
use Rattle.packet.specs.declared.Rule.TheVariants.{Digits}
use Rattle.packet.specs.Layout as L
use Rattle.packet.specs.Layout.{response_shape, rules_of}
use Rattle.packet.specs.Arguments.{digits, fits, fit_all, join}
use Rattle.handle.specs.Handle.{handle, handle_most, is_hub_name, padded, printed}
use Rattle.handle.specs.declared.Handle.{Handle}
use Rattle.handle.proofs.Handles.{handle_bounded}
use Rattle.handle.proofs.Printing.{printed_front}
use Rattle.packet_kinds.proofs.Tests.{at_place}
use Rattle.server.specs.Refusals.{refusal_texts, last_number, error_text, is_told}
use Rattle.server.specs.Events.{flag}
use Rattle.carry_packet.specs.Messages.{Sendable, error_arguments, handle_arguments, message, status_arguments, assign_arguments}
use Rattle.carry_packet.proofs.Laid.{five_long, message_room, two_long}

-- ---- no data: 10 NO_JOB

pub no_job_sendable : Sendable 10 []
unfolding response_shape rules_of fit_all join
no_job_sendable = record { own = refl; fit = refl; limited = omega arith }

-- ---- 19 ERROR

-- a text in nine bytes is read back up to its first zero byte
readable : Bytes → Bool
readable t = same (take (first_zero (padded 9 t)) (padded 9 t)) t

passed : (b : Bool) → T b → b ≡ true
passed true t = refl
passed false t = absurd t

texts_readable : (n : ℕ) → readable (error_text n) ≡ true
unfolding readable same first_zero
texts_readable n = passed _ (at_place readable refusal_texts [] tt tt n)

row_at : (l : List Bytes) (i : ℕ) → i < length l → get_or (map (padded 9) l) i [] ≡ padded 9 (get_or l i [])
row_at [] i h = absurd (not-suc-le-zero h)
row_at (x ∷ l) zero h = refl
row_at (x ∷ l) (suc i) h = row_at l i (le_of_suc-le-suc h)

-- a row of the texts, each in nine bytes
pub text_at : (rows : List Bytes) → map (padded 9) refusal_texts ≡ rows → (n : ℕ) → n ≤ last_number → get_or rows n [] ≡ padded 9 (error_text n)
text_at rows e n h = rw (← e) (row_at refusal_texts n (omega arith))

-- a refusal is told exactly if its row does not begin with a zero byte: one test that computes, over all rows
alike : Bool → Bool → Bool
alike true b = b
alike false b = not b

alike_same : (a b : Bool) → alike a b ≡ true → a ≡ b
unfolding alike
alike_same true b e = sym e
alike_same false true e = e
alike_same false false e = refl

shows : Bytes → Bool
shows t = alike (not (eqb (get_or (padded 9 t) 0 0) 0)) (not (same t []))

pub told_at : (t : Bytes) (n : ℕ) → t ≡ padded 9 (error_text n) → not (eqb (get_or t 0 0) 0) ≡ is_told n
unfolding is_told shows same alike
told_at t n e = rw e (alike_same _ _ (passed _ (at_place shows refusal_texts [] tt tt n)))

-- the digits and the text, as long as it says, are the refusal's
module _ (to n : ℕ) (t : Bytes) (size : ℕ) (et : t ≡ padded 9 (error_text n)) (es : size ≡ first_zero t) where
  pub error_message : message to 19 (join (((n / 10 + 48) ∷ (n % 10 + 48) ∷ []) ∷ take size t ∷ [])) ≡ message to 19 (join (error_arguments n))
  unfolding error_arguments readable
  error_message =
      let text = error_text n in
      let r : take (first_zero (padded 9 text)) (padded 9 text) ≡ text = same_is _ _ (texts_readable n) in
      rw (es, et, r)

  pub error_room : (at m : ℕ) → size ≤ length t → at + length (message to 19 (join (error_arguments n))) ≤ m → at + 13 + (3 + size) ≤ m
  error_room at m l h = message_room at to 19 _ (3 + size) m (two_long _ (take size t) ∙ rw (length-take-le size t l) (omega arith)) (room_as _ _ error_message at m h)

-- ---- handles: the front of the printed text, as long as it says

pub handle_short : (hub : Bytes) → is_hub_name hub ≡ true → (n : ℕ) → length (join (handle_arguments hub n)) ≤ handle_most
unfolding join handle_arguments
handle_short hub good n = handle_bounded hub good n

module _ (hub : Bytes) (good : is_hub_name hub ≡ true) (w : Handle) (n : ℕ) (e : w ≡ printed (handle hub n)) where
  pub printed_data : take w.length w.text ≡ join (handle_arguments hub n)
  unfolding join handle_arguments
  printed_data = printed_front hub good w n e

  pub created_message : (to : ℕ) → message to 8 (take w.length w.text) ≡ message to 8 (join (handle_arguments hub n))
  created_message to = ap (message to 8) printed_data

  pub printed_short : length (take w.length w.text) ≤ handle_most
  printed_short = rw (printed_front hub good w n e) (handle_bounded hub good n)

  module _ (to : ℕ) (uniq : Bool) (f u j : Bytes) where
    pub assign_message : uniq ≡ false → message to 11 (join (take w.length w.text ∷ f ∷ j ∷ [])) ≡ message to (cond uniq 31 11) (join (assign_arguments hub uniq n f u j))
    unfolding assign_arguments
    assign_message z = rw (printed_front hub good w n e, z)

    pub uniq_message : uniq ≡ true → message to 31 (join (take w.length w.text ∷ f ∷ u ∷ j ∷ [])) ≡ message to (cond uniq 31 11) (join (assign_arguments hub uniq n f u j))
    unfolding assign_arguments
    uniq_message z = rw (printed_front hub good w n e, z)

-- ---- 20 STATUS_RES

pub status_message : (to : ℕ) (h n d : Bytes) (known running : Bool) (k r : ℕ) → k ≡ cond known 49 48 → r ≡ cond running 49 48
    → message to 20 (join (h ∷ (k ∷ []) ∷ (r ∷ []) ∷ n ∷ d ∷ [])) ≡ message to 20 (join (status_arguments h known running n d))
unfolding status_arguments
status_message to h n d known running k r ek er = rw (ek, er)

pub status_room_lem : (to : ℕ) (h n d : Bytes) (known running : Bool) (at m : ℕ) → at + length (message to 20 (join (status_arguments h known running n d))) ≤ m
    → at + 13 + (length h + length n + length d + 6) ≤ m
unfolding status_arguments
status_room_lem to h n d known running at m room =
    message_room at to 20 _ _ m (five_long h (flag known) (flag running) n d ∙ omega arith) room

-- the numbers of a job that is not known
pub zero_fits : fits L.number (48 ∷ []) ≡ true
unfolding fits every
zero_fits = refl

-- what fits is short
pub digits_short : (least most : ℕ) (a : Bytes) → fits (Digits least most) a ≡ true → length a ≤ most
unfolding fits
digits_short least most a e =
    leb-true (length a) most (and_right (leb least (length a)) (leb (length a) most) (and_left (within least most (length a)) (digits a) e))

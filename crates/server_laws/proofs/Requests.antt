-- What reading a packet gives: whatever an event asks has its function, unique, texts and sizes as document 01 demands.
-- Assumes nothing.
use Prim.Native.Nat.{ℕ, zero, suc, ◌+◌, ◌<◌, ◌≤◌}
use mathlib.Core.Path.{◌≡◌, refl, ap}
use mathlib.Core.Bool.{true, false, ◌&&◌}
use mathlib.Core.List.{List, [], ◌∷◌, ◌++◌}
use native.Mathlib.Nat.{le_of_suc-le-suc, not-suc-le-zero}
use native.Mathlib.Omega.{arith}
use lib.ListN.{length, get_or, drop, length-append, length-drop}
use Rattle.octets.specs.Bytes.{Bytes}
use Rattle.octets.proofs.Strings.{and_left, and_right}
use Rattle.packet.specs.declared.Rule.{Rule}
use Rattle.packet.specs.declared.Rule.TheVariants.{Opaque, Absent}
use Rattle.packet.specs.declared.Shape.{Shape}
use Rattle.packet.specs.declared.Shape.TheVariants.{Foreign, Function, Submission, WorkStatus, ClientId}
use Rattle.packet.specs.Layout.{function, unique, number, client_id, rules_of, request_shape, one_of, priority_of, background_of}
use Rattle.packet.specs.Arguments.{fits, fit_all, join}
use Rattle.packet.specs.Packet.{Reading, refused, got, read, requests}
use Rattle.packet.specs.Opaque.{masked}
use Rattle.packet_laws.proofs.Packets.{Headed, header_good, Got, read_got}
use Rattle.packet_laws.proofs.Splitting.{split_join}
use Rattle.server.specs.Requests.{Work, tells, reports, ends, throws, Request, reset, pre_sleep, echo, bad, can_do, cant_do, identify, grab, submit, work, get_status, option, requested, from_reading, request_in}
use Rattle.lists.proofs.Cases.{cond_both}
use Rattle.lists.proofs.Rows.{clash}

-- what a submission brings
pub record Submitted (priority : ℕ) (f u : Bytes) (size : ℕ) : Type 0 where
  pub low : priority ≤ 2
  pub function : fits function f ≡ true
  pub unique : fits unique u ≡ true
  pub together : length f + length u + size ≤ 1022

pub record Reported (n d : Bytes) : Type 0 where
  pub numerator : fits number n ≡ true
  pub denominator : fits number d ≡ true

-- what a status brings; other worker packets bring nothing that is stored
abbrev pub Told : Work → Bytes → Bytes → Type 0
Told tells n d = Unit {0}
Told reports n d = Reported n d
Told ends n d = Unit {0}
Told throws n d = Unit {0}

-- what is asked is within 01's sizes
abbrev pub Good : Request → Type 0
Good reset = Unit {0}
Good pre_sleep = Unit {0}
Good echo = Unit {0}
Good (bad n) = Unit {0}
Good (can_do f) = fits function f ≡ true
Good (cant_do f) = Unit {0}
Good (identify i) = fits client_id i ≡ true
Good (grab uniq) = Unit {0}
Good (submit priority background f u size) = Submitted priority f u size
Good (work how kind h n d) = Told how n d
Good (get_status h) = Unit {0}
Good (option name) = Unit {0}

-- ---- arguments that fit the rules

-- argument i fits rule i
fits_at_lem : (rs : List Rule) (args : List Bytes) (i : ℕ) → fit_all rs args ≡ true → i < length rs → fits (get_or rs i Absent) (get_or args i []) ≡ true
unfolding fit_all
fits_at_lem [] args i e h = absurd (not-suc-le-zero h)
fits_at_lem (r ∷ rs) [] i e h = clash e refl
fits_at_lem (r ∷ rs) (a ∷ args) zero e h = and_left (fits r a) _ e
fits_at_lem (r ∷ rs) (a ∷ args) (suc i) e h = fits_at_lem rs args i (and_right (fits r a) _ e) (le_of_suc-le-suc h)

-- three arguments and the two separators between them
three_together : (q r s : Rule) (args : List Bytes) → fit_all (q ∷ r ∷ s ∷ []) args ≡ true → length (join args) ≤ 1024
    → length (get_or args 0 []) + length (get_or args 1 []) + length (get_or args 2 []) ≤ 1022
unfolding fit_all join
three_together q r s [] e h = omega arith
three_together q r s (a ∷ []) e h = clash (and_right (fits q a) false e) refl
three_together q r s (a ∷ (b ∷ [])) e h = clash (and_right (fits r b) false (and_right (fits q a) (fits r b && false) e)) refl
three_together q r s (a ∷ (b ∷ (c ∷ []))) e h = omega (arith, length-append a (0 ∷ (b ++ (0 ∷ c))), length-append b (0 ∷ c))
three_together q r s (a ∷ (b ∷ (c ∷ (d ∷ args)))) e h =
    clash (and_right (fits s c) false (and_right (fits r b) (fits s c && false) (and_right (fits q a) (fits r b && (fits s c && false)) e))) refl

priority_low : (kind : ℕ) → priority_of kind ≤ 2
unfolding priority_of
priority_low kind =
    cond_both (λ (n : ℕ). n ≤ 2) (one_of (21 ∷ 32 ∷ []) kind) (omega arith) (cond_both (λ (n : ℕ). n ≤ 2) (one_of (7 ∷ 18 ∷ []) kind) (omega arith) (omega arith))

-- ---- what is asked, by the type's number

-- the table of shapes beside the table of what is asked; beyond the second table nothing is asked
data Beside (R : Shape → Request → Type 0) : List Shape → List Request → Type 0 where
  beyond : {shapes : List Shape} → Beside R shapes []
  line : {s : Shape} {a : Request} {shapes : List Shape} {asks : List Request} → R s a → Beside R shapes asks → Beside R (s ∷ shapes) (a ∷ asks)

beside_at : {R : Shape → Request → Type 0} {shapes : List Shape} {asks : List Request} → ((s : Shape) → R s (bad 9)) → Beside R shapes asks → (i : ℕ) → R (get_or shapes i Foreign) (get_or asks i (bad 9))
beside_at f beyond i = f _
beside_at f (line r rs) zero = r
beside_at f (line r rs) (suc i) = beside_at f rs i

module _ (kind : ℕ) (args : List Bytes) (small : length (join args) ≤ 1024) where
  -- a request of this shape asks something good
  abbrev Asks : Shape → Request → Type 0
  Asks shape a = fit_all (rules_of shape) args ≡ true → Good a

  submission : Asks Submission (submit (priority_of kind) (background_of kind) (get_or args 0 []) (get_or args 1 []) (length (get_or args 2 [])))
  unfolding rules_of
  submission e =
      record {
        low = priority_low kind;
        function = fits_at_lem (function ∷ unique ∷ Opaque ∷ []) args 0 e (omega arith);
        unique = fits_at_lem (function ∷ unique ∷ Opaque ∷ []) args 1 e (omega arith);
        together = three_together function unique Opaque args e small;
      }

  ability : Asks Function (can_do (get_or args 0 []))
  unfolding rules_of
  ability e = fits_at_lem (function ∷ []) args 0 e (omega arith)

  identity : Asks ClientId (identify (get_or args 0 []))
  unfolding rules_of
  identity e = fits_at_lem (client_id ∷ []) args 0 e (omega arith)

  report : Asks WorkStatus (work reports kind (get_or args 0 []) (get_or args 1 []) (get_or args 2 []))
  unfolding rules_of
  report e = record { numerator = fits_at_lem (rules_of WorkStatus) args 1 e (omega arith); denominator = fits_at_lem (rules_of WorkStatus) args 2 e (omega arith) }

  pub good_requested : fit_all (rules_of (request_shape kind)) args ≡ true → Good (requested kind (get_or args 0 []) (get_or args 1 []) (get_or args 2 []))
  unfolding requested request_shape
  good_requested =
      beside_at {R = Asks} (λ s e. tt)
      (line (λ e. tt) (line ability (line (λ e. tt) (line (λ e. tt) (line (λ e. tt) (line (λ e. tt) (line (λ e. tt)  -- 0 to 6
      (line submission (line (λ e. tt) (line (λ e. tt) (line (λ e. tt) (line (λ e. tt)  -- 7 to 11
      (line report (line (λ e. tt) (line (λ e. tt) (line (λ e. tt) (line (λ e. tt) (line (λ e. tt)  -- 12 to 17
      (line submission (line (λ e. tt) (line (λ e. tt)  -- 18 to 20
      (line submission (line identity (line (λ e. tt) (line (λ e. tt) (line (λ e. tt) (line (λ e. tt)  -- 21 to 26
      (line (λ e. tt) (line (λ e. tt) (line (λ e. tt) (line (λ e. tt) (line (λ e. tt)  -- 27 to 31
      (line submission (line submission (line {shapes = Foreign ∷ Foreign ∷ []} submission beyond)))))))))))))))))))))))))))))))))))
      kind

-- ---- what a packet asks

pub good_reading : (s : Bytes) (r : Reading) → read requests s ≡ r → Good (from_reading r)
good_reading s (refused n) e = tt
good_reading s (got kind args) e =
    let g : Got requests s kind args = read_got requests s kind args e in
    let j = split_join (rules_of (request_shape kind)) (drop 12 s) args g.splits in
    let h : Headed requests.magic 1024 s = header_good requests.magic 1024 s g.headed in
    good_requested kind args (omega (arith, ap length j.0, length-drop 12 s, h.whole, h.limited)) j.1

pub good_request : (b : Bytes) → Good (request_in b)
unfolding request_in
good_request b = good_reading (masked requests b) _ refl

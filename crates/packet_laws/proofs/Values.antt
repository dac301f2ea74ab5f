-- What a reader answers has document 01's number and values: `values_of` of the answer is the reading itself, with every argument.
-- Assumes nothing.
use Prim.Native.Nat.{ℕ, suc, ◌+◌, ◌<◌, ◌≤◌, suc-le-suc}
use mathlib.Core.Path.{◌≡◌, refl, sym, ap, ap₂, subst, ◌∙◌}
use mathlib.Core.List.{List, [], ◌∷◌}
use native.Mathlib.Nat.{zero-add, add-zero}
use native.Mathlib.Omega.{arith}
use lib.ListN.{length, get_or, drop}
use Rattle.octets.specs.Bytes.{Bytes}
use Rattle.packet.specs.declared.Ends.{Ends}
use Rattle.packet.specs.declared.Shape.{Shape}
use Rattle.packet.specs.declared.Shape.TheVariants.{Foreign, Empty, Function, Submission, WorkStatus, WorkData, Handle, Echo, OptionName, ClientId, Assignment, UniqueAssignment, Error, StatusAnswer}
use Rattle.packet.specs.Layout.{rules_of}
use Rattle.packet.specs.Arguments.{ends_of}
use Rattle.packet.specs.Packet.{Direction, Reading, refused, got, read}
use Rattle.packet.specs.Answers.{Read, answer_of, argument_at, arguments_from, values_of}
use Rattle.packet_laws.proofs.Answers.{Numbered, read_numbered}
use Rattle.packet_laws.proofs.Splitting.{split_join, fit_length}
use Rattle.packet_laws.proofs.Packets.{Got, read_got}
use Rattle.packet_laws.proofs.Places.{argument_read}

-- at most five arguments
rules_few : (shape : Shape) → length (rules_of shape) ≤ 5
unfolding rules_of
rules_few Foreign = omega arith
rules_few Empty = omega arith
rules_few Function = omega arith
rules_few Submission = omega arith
rules_few WorkStatus = omega arith
rules_few WorkData = omega arith
rules_few Handle = omega arith
rules_few Echo = omega arith
rules_few OptionName = omega arith
rules_few ClientId = omega arith
rules_few Assignment = omega arith
rules_few UniqueAssignment = omega arith
rules_few Error = omega arith
rules_few StatusAnswer = omega arith

-- arguments that are those of a list are the list
listed : (s : Bytes) (ends : Ends) (args : List Bytes) (i : ℕ) → ((k : ℕ) → k < length args → argument_at s ends (i + k) ≡ get_or args k []) → arguments_from s ends i (length args) ≡ args
listed s ends [] i h = refl
listed s ends (a ∷ as') i h =
    ap₂ ◌∷◌ (ap (argument_at s ends) (sym (add-zero i)) ∙ h 0 (omega arith))
    (listed s ends as' (suc i) (λ k l. let q : suc i + k ≡ i + suc k = omega arith in ap (argument_at s ends) q ∙ h (suc k) (suc-le-suc l)))

values_got : (w : Direction) (s : Bytes) (kind : ℕ) (args : List Bytes) → read w s ≡ got kind args → arguments_from s (ends_of 12 args) 0 (length (rules_of (w.shape kind))) ≡ args
values_got w s kind args e =
    let g : Got w s kind args = read_got w s kind args e in
    let n : length args ≡ length (rules_of (w.shape kind)) = fit_length (rules_of (w.shape kind)) args (split_join _ (drop 12 s) args g.splits).1 in
    let few : length (rules_of (w.shape kind)) ≤ 5 = rules_few (w.shape kind) in
    ap (arguments_from s (ends_of 12 args) 0) (sym n) ∙ listed s (ends_of 12 args) args 0 (λ k l. ap (argument_at s (ends_of 12 args)) (zero-add k) ∙ argument_read w s kind args e k (omega arith))

values_of_lem : (w : Direction) (s : Bytes) (r : Reading) → read w s ≡ r → values_of w s (answer_of r) ≡ r
unfolding values_of answer_of
values_of_lem w s (refused n) e = ap refused (subst Numbered e (read_numbered w s))
values_of_lem w s (got kind args) e = ap (got kind) (values_got w s kind args e)

-- of an answer as the readers' contracts fix it
pub read_values : (w : Direction) (s : Bytes) (r : Read) → r ≡ answer_of (read w s) → values_of w s r ≡ read w s
read_values w s r e = ap (values_of w s) e ∙ values_of_lem w s (read w s) refl

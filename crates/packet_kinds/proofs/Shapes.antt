-- Shapes by their numbers: when two are equal, and how many arguments each has.
-- Assumes nothing.
use Prim.Native.Nat.{ℕ, ◌≤◌}
use mathlib.Core.Path.{◌≡◌, refl, sym, ap, ◌∙◌, subst}
use mathlib.Core.List.{List, [], ◌∷◌}
use denote.Enum.Declared.{tag_of}
use lib.Dec.{T, eqb, eqb→eq, leb, leb→le}
use lib.ListN.{length, get_or}
use types.Run.{OneOf}
use Rattle.packet.specs.Layout.{rules_of}
use Rattle.packet.specs.declared.Shape.{Shape}
use Rattle.packet.specs.declared.Shape.TheVariants.{Foreign, Empty, Function, Submission, WorkStatus, WorkData, Handle, Echo, OptionName, ClientId, Assignment, UniqueAssignment, Error, StatusAnswer}
use Rattle.packet.specs.contracts.Shape.{the_type}
use Rattle.packet_kinds.proofs.Tests.{Equality, numbers, each, gives, key_arm, at_place}

-- a shape's number is the tag by which a `match` tells it: its place in the order of src/
abbrev pub number : Shape → ℕ
number s = tag_of the_type s

abbrev variants : List Shape
variants =
    Foreign
    ∷ Empty
    ∷ Function
    ∷ Submission
    ∷ WorkStatus
    ∷ WorkData
    ∷ Handle
    ∷ Echo
    ∷ OptionName
    ∷ ClientId
    ∷ Assignment
    ∷ UniqueAssignment
    ∷ Error
    ∷ StatusAnswer
    ∷ []

abbrev pub numbered : ℕ → Shape
numbered k = get_or variants k Foreign

pub numbered_back : (s : Shape) → numbered (number s) ≡ s
numbered_back Foreign = refl
numbered_back Empty = refl
numbered_back Function = refl
numbered_back Submission = refl
numbered_back WorkStatus = refl
numbered_back WorkData = refl
numbered_back Handle = refl
numbered_back Echo = refl
numbered_back OptionName = refl
numbered_back ClientId = refl
numbered_back Assignment = refl
numbered_back UniqueAssignment = refl
numbered_back Error = refl
numbered_back StatusAnswer = refl

-- shapes are equal where their numbers are
abbrev pub shapes : Equality Shape
shapes =
    record {
      same = λ a b. eqb (number a) (number b);
      tells = λ a b t. sym (numbered_back a) ∙ ap numbered (eqb→eq (number a) (number b) t) ∙ numbered_back b;
    }

-- an arm of a `match` on a shape: f gives a at each of the shapes with the numbers ks
pub shape_arm : {A : Type 0} (eq : Equality A) (f : Shape → A) (s : Shape) {a : A} (ks : List ℕ) → T (each (gives eq (λ k. f (numbered k)) a) ks) → OneOf ks (number s) → a ≡ f s
shape_arm eq f s ks t o = key_arm eq (λ k. f (numbered k)) ks t (number s) o ∙ ap f (numbered_back s)

-- each of the arm's shapes has n arguments
pub count_arm : (s : Shape) {n : ℕ} (ks : List ℕ) → T (each (gives numbers (λ k. length (rules_of (numbered k))) n) ks) → OneOf ks (number s) → n ≡ length (rules_of s)
count_arm = shape_arm numbers (λ s. length (rules_of s))

pub at_most_five : (s : Shape) → length (rules_of s) ≤ 5
unfolding rules_of
at_most_five s =
    leb→le (length (rules_of s)) 5
    (subst (λ (x : Shape). T (leb (length (rules_of x)) 5)) (numbered_back s)
    (at_place (λ x. leb (length (rules_of x)) 5) variants Foreign tt tt (number s)))

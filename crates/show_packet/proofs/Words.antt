-- What the tests of the code say of an argument, of its label and size, and of a packet that cannot be read. Assumes nothing.
use Prim.Native.Nat.{ℕ, ◌<◌, ◌≤◌}
use mathlib.Core.Path.{◌≡◌, refl, ◌∙◌, sym}
use mathlib.Core.List.{[], ◌++◌}
use borrow.Author.Tests.{lt-ltb, le-ltb, eq-eqb, ne_eqb}
use lib.ListN.{length}
use Rattle.octets.specs.Bytes.{Bytes}
use Rattle.packet.specs.declared.Rule.{Rule}
use Rattle.packet.specs.declared.Rule.TheVariants.{Text, Digits, Flag, AnyText, Opaque, Absent}
use Rattle.packet.specs.declared.Shape.{Shape}
use Rattle.packet.specs.Layout.{rules_of}
use Rattle.handle.specs.Handle.{decimal}
use Rattle.show_names.specs.Names.{label_of, name_of, space}
use Rattle.prints.specs.Printed.{printed_or}
use Rattle.show_packet.specs.Lines.{byte_word, bytes_word, label_before, quotes, refused_text, sized, unreadable_text, value_of}

-- ---- an argument by its rule

pub value_opaque : (r : Rule) (a : Bytes) → r ≡ Opaque → sized (length a) ≡ value_of r a
unfolding value_of
value_opaque r a e = rw e

pub value_visible : (r : Rule) (a : Bytes) → (r ≡ Opaque → ⊥) → printed_or quotes a ≡ value_of r a
unfolding value_of
value_visible (Text least most) a n = refl
value_visible (Digits least most) a n = refl
value_visible Flag a n = refl
value_visible AnyText a n = refl
value_visible Opaque a n = absurd (n refl)
value_visible Absent a n = refl

-- ---- a label, for the only argument and for one of several

module _ (shape : Shape) (i count : ℕ) (e : count ≡ length (rules_of shape)) where
  pub label_none : count ≡ 1 → [] ≡ label_before shape i
  unfolding label_before
  label_none h = rw (eq-eqb (length (rules_of shape)) 1 (sym e ∙ h))

  pub label_some : (count ≡ 1 → ⊥) → label_of shape i ++ space ≡ label_before shape i
  unfolding label_before
  label_some h = let n : length (rules_of shape) ≡ 1 → ⊥ = λ q. h (e ∙ q) in rw (ne_eqb (length (rules_of shape)) 1 n)

-- ---- a refusal of the header, and one of a packet whose type is known

module _ (kind n : ℕ) where
  pub refused_header : n < 9 → unreadable_text n ≡ refused_text kind n
  unfolding refused_text
  refused_header h = rw (lt-ltb n 9 h)

  pub refused_packet : (k : ℕ) → k ≡ kind → 9 ≤ n → name_of k ++ (space ++ unreadable_text n) ≡ refused_text kind n
  unfolding refused_text
  refused_packet k e h = rw (e, le-ltb n 9 h)

-- ---- how many bytes

pub size_one : (n : ℕ) → n ≡ 1 → decimal n ++ byte_word ≡ sized n
unfolding sized
size_one n e = rw (eq-eqb n 1 e)

pub size_many : (n : ℕ) → (n ≡ 1 → ⊥) → decimal n ++ bytes_word ≡ sized n
unfolding sized
size_many n e = rw (ne_eqb n 1 e)

-- The words as the code keeps them: a row of zeros after each, and the word read back from its row. Assumes nothing.
use Prim.Native.Nat.{ℕ, zero, suc, ◌+◌, ◌<◌, ◌≤◌}
use mathlib.Core.Path.{◌≡◌, refl, sym, ap, ◌∙◌}
use mathlib.Core.Bool.{Bool, true, false, cond, ◌&&◌}
use mathlib.Core.List.{List, [], ◌∷◌, ◌++◌, map}
use native.Mathlib.Nat.{le_of_suc-le-suc, not-suc-le-zero}
use native.Mathlib.Omega.{arith}
use borrow.Author.Tests.{le-leb, lt-leb}
use lib.Dec.{T, eqb, eqb→eq}
use lib.ListN.{length, get_or, take, replicate, get_or-eq_default, length-append, length-replicate, length-take}
use lib.Seq.{length-take-le}
use mir.Facts.{and_yes}
use Rattle.octets.specs.Bytes.{Bytes, same, first_zero, within}
use Rattle.octets.proofs.Strings.{same_is}
use Rattle.packet.specs.declared.Shape.{Shape}
use Rattle.packet.specs.declared.Shape.TheVariants.{Foreign, Empty, Function, Submission, WorkStatus, WorkData, Handle, Echo, OptionName, ClientId, Assignment, UniqueAssignment, Error, StatusAnswer}
use Rattle.handle.specs.Handle.{decimal, padded}
use Rattle.handle.proofs.Decimal.{decimal_most}
use Rattle.packet.specs.Layout.{rules_of}
use Rattle.packet_kinds.proofs.Shapes.{at_most_five}
use Rattle.packet_kinds.proofs.Tests.{at_place, each}
use Rattle.show_names.specs.Names.{label_of, label_rows, labels_of, name_of, names, reason_of, reasons, type_word, unknown, word}

-- a word in a row of this width is read back from it: a test that antt computes for each word of a list
readable : ℕ → Bytes → Bool
readable width t = same (word (padded width t)) t

told : (b : Bool) → T b → b ≡ true
told true t = refl
told false t = absurd t

words_readable : (width : ℕ) (l : List Bytes) (d : Bytes) → T (readable width d) → T (each (readable width) l) → (i : ℕ) → word (padded width (get_or l i d)) ≡ get_or l i d
unfolding readable
words_readable width l d t ts i = same_is _ _ (told _ (at_place (readable width) l d t ts i))

pub name_word : (kind : ℕ) → word (padded 18 (get_or names kind [])) ≡ get_or names kind []
unfolding readable word same first_zero
name_word kind = words_readable 18 names [] tt tt kind

-- by the tests of the code
module _ (kind : ℕ) where
  pub type_low : kind < 1 → type_word ++ decimal kind ≡ name_of kind
  unfolding name_of
  type_low h = rw (lt-leb 1 kind h)

  pub type_high : 36 < kind → type_word ++ decimal kind ≡ name_of kind
  unfolding name_of
  type_high h = rw (le-leb 1 kind (omega arith), lt-leb kind 36 h)

  pub type_named : 1 ≤ kind → kind ≤ 36 → get_or names kind [] ≡ name_of kind
  unfolding name_of
  type_named l h = rw (le-leb 1 kind l, le-leb kind 36 h)

pub reason_word : (number : ℕ) → word (padded 23 (reason_of number)) ≡ reason_of number
unfolding reason_of readable word same first_zero
reason_word number = words_readable 23 reasons unknown tt tt number

-- each argument of a shape has a label, which is read back from its row
labels_pass : (shape : Shape) → T (eqb (length (labels_of shape)) (length (rules_of shape)) && each (readable 11) (labels_of shape))
unfolding labels_of rules_of readable word same first_zero
labels_pass Foreign = tt
labels_pass Empty = tt
labels_pass Function = tt
labels_pass Submission = tt
labels_pass WorkStatus = tt
labels_pass WorkData = tt
labels_pass Handle = tt
labels_pass Echo = tt
labels_pass OptionName = tt
labels_pass ClientId = tt
labels_pass Assignment = tt
labels_pass UniqueAssignment = tt
labels_pass Error = tt
labels_pass StatusAnswer = tt

labels_pass_both : (shape : Shape) → T (eqb (length (labels_of shape)) (length (rules_of shape))) × T (each (readable 11) (labels_of shape))
labels_pass_both shape = and_yes (eqb (length (labels_of shape)) (length (rules_of shape))) (each (readable 11) (labels_of shape)) (labels_pass shape)

pub labels_counted : (shape : Shape) → length (labels_of shape) ≡ length (rules_of shape)
labels_counted shape = eqb→eq _ _ (labels_pass_both shape).0

none_readable : T (readable 11 [])
unfolding readable word same first_zero
none_readable = tt

-- the rows of a list of words, followed by k empty ones: row i is that of word i
row_at : (width : ℕ) (l : List Bytes) (n k i : ℕ) → n ≤ k → i < n → get_or (map (padded width) (take n (l ++ replicate k []))) i [] ≡ padded width (get_or l i [])
row_at width l zero k i g h = absurd (not-suc-le-zero h)
row_at width [] (suc n) zero i g h = absurd (not-suc-le-zero g)
row_at width [] (suc n) (suc k) zero g h = refl
row_at width [] (suc n) (suc k) (suc i) g h = row_at width [] n k i (le_of_suc-le-suc g) (le_of_suc-le-suc h)
row_at width (x ∷ l) (suc n) k zero g h = refl
row_at width (x ∷ l) (suc n) k (suc i) g h = row_at width l n k i (omega arith) (le_of_suc-le-suc h)

-- the label that stands in row i of a shape's labels
module _ (shape : Shape) (rows : List Bytes) (i : ℕ) (e : rows ≡ label_rows shape) (h : i < 5) where
  label_row : get_or rows i [] ≡ padded 11 (label_of shape i)
  unfolding label_of label_rows
  label_row = rw (e, row_at 11 (labels_of shape) 5 5 i (omega arith) h)

  pub label_word : word (get_or rows i []) ≡ label_of shape i
  unfolding label_of
  label_word = ap word label_row ∙ words_readable 11 (labels_of shape) [] none_readable (labels_pass_both shape).1 i

  pub label_width : 11 ≡ length (get_or rows i [])
  label_width = rw (label_row, length-take-le 11 (label_of shape i ++ replicate 11 0) (rw length-append (omega (arith, length-replicate {A = ℕ} 11 0))))

-- ---- the part of a row or of a buffer that the code lays

pub word_part : (row : Bytes) (size : ℕ) → size ≡ first_zero row → take size row ≡ word row
unfolding word
word_part row size e = rw e

-- no shape has a sixth argument
pub no_label : (shape : Shape) (i : ℕ) → 5 ≤ i → [] ≡ label_of shape i
unfolding label_of
no_label shape i h = sym (get_or-eq_default (labels_of shape) [] (omega (arith, labels_counted shape, at_most_five shape)))

-- ---- how long a word is at the most

word_short : (width : ℕ) (t : Bytes) → word (padded width t) ≡ t → length t ≤ width
unfolding word
word_short width t e =
    omega (arith, ap length e, length-take (first_zero (padded width t)) (padded width t), length-take width (t ++ replicate width 0))

pub name_short : (kind : ℕ) → length (name_of kind) ≤ 18
unfolding name_of
name_short kind = either (within 1 36 kind)
  where
    either : (b : Bool) → length (cond b (get_or names kind []) (type_word ++ decimal kind)) ≤ 18
    either true = word_short 18 (get_or names kind []) (name_word kind)
    either false = omega (arith, decimal_most kind)

pub reason_short : (number : ℕ) → length (reason_of number) ≤ 23
reason_short number = word_short 23 (reason_of number) (reason_word number)

pub label_short : (shape : Shape) (i : ℕ) → length (label_of shape i) ≤ 11
unfolding label_of
label_short shape i = word_short 11 (get_or (labels_of shape) i []) (words_readable 11 (labels_of shape) [] none_readable (labels_pass_both shape).1 i)

-- The tests of the stored numbers are the rule on them, and numbers of one digit pass where only the first bytes of their places are not
-- zero. Assumes nothing.
use Prim.Native.Nat.{ℕ, ◌+◌, ◌*◌, ◌/◌, ◌%◌, ◌<◌, ◌≤◌}
use mathlib.Core.Path.{◌≡◌, refl, sym, ap, ◌∙◌}
use mathlib.Core.Bool.{Bool, true, false, not, cond, ◌&&◌, ◌||◌}
use mathlib.Core.List.{List, []}
use native.Mathlib.Nat.{add_assoc}
use native.Mathlib.Omega.{arith}
use borrow.Author.Tests.{eqb-true, eqb-false, ne_eqb}
use lib.ListN.{length, get_or}
use lib.Bits.{bit_or}
use lib.Dec.{eqb}
use Rattle.octets.specs.Bytes.{Bytes, same, every}
use Rattle.octets.proofs.Strings.{and_left, and_right, and_both}
use Rattle.lists.specs.Lists.{all, numbers}
use Rattle.lists.proofs.Rows.{and_swap, below_at, below_by}
use Rattle.server.specs.Sizes.{connection_count, job_count, number_size}
use Rattle.server.specs.Table.{live}
use Rattle.server.specs.Layout.{text_at, row_in, serials_at, numerators_at, denominators_at, table_size}
use Rattle.server.specs.Rules.{stored_number}
use Rattle.table_laws.specs.Tests.{part, is_padded, are_padded}
use Rattle.table_passes.proofs.Tests.{or_none_lem, or_left, or_right, or_not, and_same, same_below, all_and, runs}
use Rattle.check_image.specs.Padded.{after_end, last_or_followed}
use Rattle.check_image.proofs.Places.{every_each, insides_padded}
use Rattle.check_rows.proofs.Rows.{mark_none}
use Rattle.check_rows.specs.Rows.{Marked}
use Rattle.check_texts.specs.Stored.{stored_at, stored_rules, is_digit, digit_or_zero, begins_with, begins_at, Begun, first_alone, digit_padded, firsts_of10, lasts_of10}
use Rattle.check_texts.proofs.Digits.{stored_place}

-- ---- one column

-- what the bytes of place k say, whatever its row is
abbrev clean_at : Bytes → ℕ → ℕ → Bool
clean_at b at k = every digit_or_zero (part 10 b (at + 10 * k)) && is_padded number_size b (at + 10 * k)

module _ (b : Bytes) (at : ℕ) (h : at + 320 ≤ length b) where
  -- zeros and digits, byte by byte and place by place
  digits_each : all (λ k. digit_or_zero (get_or b (at + k) 0)) (numbers 0 320) ≡ all (λ k. every digit_or_zero (part 10 b (at + 10 * k))) (numbers 0 job_count)
  digits_each =
      runs (λ k. digit_or_zero (get_or b (at + k) 0)) 10 32
      ∙ same_below (λ k. all (λ j. digit_or_zero (get_or b (at + (10 * k + j)) 0)) (numbers 0 10)) (λ k. every digit_or_zero (part 10 b (at + 10 * k))) 32
      (λ k g.
      same_below (λ j. digit_or_zero (get_or b (at + (10 * k + j)) 0)) (λ j. digit_or_zero (get_or b (at + 10 * k + j) 0)) 10
      (λ j _. ap (λ (x : ℕ). digit_or_zero (get_or b x 0)) (sym (add_assoc at (10 * k) j)))
      ∙ sym (every_each digit_or_zero 10 b (at + 10 * k) (omega arith)))

  -- padded, byte by byte and place by place
  followed_each : all (last_or_followed lasts_of10 b at) (numbers 0 320) ≡ all (λ k. is_padded number_size b (at + 10 * k)) (numbers 0 job_count)
  followed_each = insides_padded 9 b at 0 32 (omega arith)

  -- both
  clean_each : all (digit_padded lasts_of10 b at) (numbers 0 320) ≡ all (clean_at b at) (numbers 0 job_count)
  clean_each =
      all_and (last_or_followed lasts_of10 b at) (λ k. digit_or_zero (get_or b (at + k) 0)) (numbers 0 320)
      ∙ and_same followed_each digits_each
      ∙ and_swap (all (λ k. is_padded number_size b (at + 10 * k)) (numbers 0 job_count)) (all (λ k. every digit_or_zero (part 10 b (at + 10 * k))) (numbers 0 job_count))
      ∙ sym (all_and (λ k. every digit_or_zero (part 10 b (at + 10 * k))) (λ k. is_padded number_size b (at + 10 * k)) (numbers 0 job_count))

-- the text of place k is what its row asks for
abbrev kept_at : Bytes → ℕ → ℕ → Bool
kept_at b at k = cond (live (row_in connection_count b k)) (stored_number (text_at number_size b (at + 10 * k))) (same (text_at number_size b (at + 10 * k)) [])

module _ (b : Bytes) (marks : List ℕ) (marked : Marked 4 b serials_at marks) (at : ℕ) (h : at + 320 ≤ length b) where
  -- one place by its row
  place_kept : (k : ℕ) → k < job_count → begins_at marks b at k && clean_at b at k ≡ kept_at b at k && is_padded number_size b (at + 10 * k)
  place_kept k g =
      let x = get_or b (at + 10 * k) 0 in
      ap (λ (t : Bool). ((not t && is_digit x) || (t && eqb x 0)) && clean_at b at k) (ap (λ (m : ℕ). eqb m 0) (marked k g) ∙ mark_none (row_in connection_count b k).serial)
      ∙ sym (stored_place (eqb (row_in connection_count b k).serial 0) b (at + 10 * k) (omega arith))

  -- all places of the column
  column_kept : all (begins_at marks b at) (numbers 0 job_count) && all (digit_padded lasts_of10 b at) (numbers 0 320) ≡ all (kept_at b at) (numbers 0 job_count) && are_padded number_size job_count b at
  unfolding are_padded
  column_kept =
      ap (λ (x : Bool). all (begins_at marks b at) (numbers 0 job_count) && x) (clean_each b at h)
      ∙ sym (all_and (begins_at marks b at) (clean_at b at) (numbers 0 job_count))
      ∙ same_below (λ k. begins_at marks b at k && clean_at b at k) (λ k. kept_at b at k && is_padded number_size b (at + 10 * k)) 32 place_kept
      ∙ all_and (kept_at b at) (λ k. is_padded number_size b (at + 10 * k)) (numbers 0 job_count)

-- ---- both columns

cond_and : (t a b c d : Bool) → cond t (a && b) (c && d) ≡ cond t a c && cond t b d
cond_and true a b c d = refl
cond_and false a b c d = refl

-- the rule on texts, column by column
kept_both : (b : Bytes) → all (stored_at b) (numbers 0 job_count) ≡ all (kept_at b numerators_at) (numbers 0 job_count) && all (kept_at b denominators_at) (numbers 0 job_count)
kept_both b =
    same_below (stored_at b) (λ k. kept_at b numerators_at k && kept_at b denominators_at k) 32
    (λ k _. cond_and (live (row_in connection_count b k)) (stored_number (text_at number_size b (numerators_at + number_size * k))) (stored_number (text_at number_size b (denominators_at + number_size * k)))
    (same (text_at number_size b (numerators_at + number_size * k)) []) (same (text_at number_size b (denominators_at + number_size * k)) []))
    ∙ all_and (kept_at b numerators_at) (kept_at b denominators_at) (numbers 0 job_count)

pair_up : (a b c d : Bool) → a && (b && (c && d)) ≡ (a && c) && (b && d)
pair_up true true c d = refl
pair_up true false true d = refl
pair_up true false false d = refl
pair_up false b c d = refl

pair_off : (a b c d : Bool) → (a && b) && (c && d) ≡ (b && d) && (a && c)
pair_off true true true d = and_swap true d
pair_off true true false d = and_swap false d
pair_off true false c d = refl
pair_off false true true d = and_swap false d
pair_off false true false d = and_swap false d
pair_off false false c d = refl

-- first bytes of both columns, and then all bytes
pub stored_hold : (b : Bytes) (marks : List ℕ) → Marked 4 b serials_at marks → table_size connection_count ≤ length b → (p q r : Bool)
    → p ≡ all (begins_at marks b numerators_at) (numbers 0 job_count) → q ≡ all (begins_at marks b denominators_at) (numbers 0 job_count)
    → r ≡ all (digit_padded lasts_of10 b numerators_at) (numbers 0 320) && all (digit_padded lasts_of10 b denominators_at) (numbers 0 320) → p && (q && r) ≡ stored_rules b
unfolding stored_rules
stored_hold b marks marked long p q r ep eq er =
    let p' = all (begins_at marks b numerators_at) (numbers 0 job_count) in
    let q' = all (begins_at marks b denominators_at) (numbers 0 job_count) in
    let r' = all (digit_padded lasts_of10 b numerators_at) (numbers 0 320) in
    let s' = all (digit_padded lasts_of10 b denominators_at) (numbers 0 320) in
    and_same ep (and_same eq er) ∙ pair_up p' q' r' s'
    ∙ and_same (column_kept b marks marked numerators_at (omega arith)) (column_kept b marks marked denominators_at (omega arith))
    ∙ pair_off (all (kept_at b numerators_at) (numbers 0 job_count)) (are_padded number_size job_count b numerators_at) (all (kept_at b denominators_at) (numbers 0 job_count)) (are_padded number_size job_count b denominators_at)
    ∙ ap (λ (x : Bool). (are_padded number_size job_count b numerators_at && are_padded number_size job_count b denominators_at) && x) (sym (kept_both b))

-- ---- numbers of one digit

-- a first byte as its row says is a digit or a zero
begins_right : (m x : ℕ) → begins_with m x ≡ true → digit_or_zero x ≡ true
begins_right m x e = go (eqb m 0) e
  where
    go : (t : Bool) → (not t && is_digit x) || (t && eqb x 0) ≡ true → digit_or_zero x ≡ true
    go true f = or_left (eqb x 0) (is_digit x) f
    go false f = or_right (eqb x 0) (is_digit x) (last (is_digit x) f)
      where
        last : (d : Bool) → d || false ≡ true → d ≡ true
        last true g = refl
        last false g = g

-- places that begin as their rows say
pub begun : (b : Bytes) (marks : List ℕ) (at : ℕ) → all (begins_at marks b at) (numbers 0 job_count) ≡ true → Begun b at
begun b marks at e k g = begins_right (get_or marks k 0) (get_or b (at + 10 * k) 0) (below_at (begins_at marks b at) 32 k e g)

-- the masks, by computation: a byte that is not marked as the first is not; the tenth is marked as the last
first_mask : (k : ℕ) → k < 320 → eqb (k % 10) 0 || eqb (get_or firsts_of10 k 0) 0 ≡ true
first_mask k g = below_at (λ k. eqb (k % 10) 0 || eqb (get_or firsts_of10 k 0) 0) 320 k refl g

last_mask : (k : ℕ) → k < 320 → not (eqb (k % 10) 9) || not (eqb (get_or lasts_of10 k 0) 0) ≡ true
last_mask k g = below_at (λ k. not (eqb (k % 10) 9) || not (eqb (get_or lasts_of10 k 0) 0)) 320 k refl g

-- a column whose places begin with a digit or a zero and go on with zeros
module _ (b : Bytes) (at : ℕ) (first : Begun b at) (zero : (k : ℕ) → k < 320 → eqb (k % 10) 0 ≡ false → eqb (get_or b (at + k) 0) 0 ≡ true) where
  -- each byte is a digit or a zero
  right_at : (k : ℕ) → k < 320 → digit_or_zero (get_or b (at + k) 0) ≡ true
  right_at k g = go (eqb (k % 10) 0) refl
    where
      go : (t : Bool) → eqb (k % 10) 0 ≡ t → digit_or_zero (get_or b (at + k) 0) ≡ true
      go true e =
          let z : k % 10 ≡ 0 = eqb-true (k % 10) 0 e in
          let r : 10 * (k / 10) ≡ k = omega arith in
          ap (λ (x : ℕ). digit_or_zero (get_or b (at + x) 0)) (sym r) ∙ first (k / 10) (omega arith)
      go false e = or_left (eqb (get_or b (at + k) 0) 0) (is_digit (get_or b (at + k) 0)) (zero k g e)

  -- each byte but the last of its place is followed by a zero
  followed_at : (k : ℕ) → k < 320 → last_or_followed lasts_of10 b at k ≡ true
  followed_at k g = go (eqb (k % 10) 9) refl
    where
      go : (t : Bool) → eqb (k % 10) 9 ≡ t → last_or_followed lasts_of10 b at k ≡ true
      go true e = or_left (not (eqb (get_or lasts_of10 k 0) 0)) (not (eqb (get_or b (at + k) 0) 0) || eqb (get_or b (at + k + 1) 0) 0)
          (or_not (not (eqb (k % 10) 9)) (not (eqb (get_or lasts_of10 k 0) 0)) (last_mask k g) (ap not e))
      go false e =
          let n : k % 10 ≡ 9 → ⊥ = eqb-false (k % 10) 9 e in
          let r : at + (k + 1) ≡ at + k + 1 = omega arith in
          let z : eqb (get_or b (at + k + 1) 0) 0 ≡ true =
          ap (λ (x : ℕ). eqb (get_or b x 0) 0) (sym r) ∙ zero (k + 1) (omega arith) (ne_eqb ((k + 1) % 10) 0 (λ m. n (omega arith))) in
          or_right (not (eqb (get_or lasts_of10 k 0) 0)) (not (eqb (get_or b (at + k) 0) 0) || eqb (get_or b (at + k + 1) 0) 0)
          (or_right (not (eqb (get_or b (at + k) 0) 0)) (eqb (get_or b (at + k + 1) 0) 0) z)

  -- so the column passes
  alone_column : all (digit_padded lasts_of10 b at) (numbers 0 320) ≡ true
  alone_column = below_by (digit_padded lasts_of10 b at) 320 (λ k g. and_both (last_or_followed lasts_of10 b at k) (digit_or_zero (get_or b (at + k) 0)) (followed_at k g) (right_at k g))

-- a byte of either column that is not the first of its place
pub not_first : (f x y s : ℕ) → s ≡ after_end f (bit_or x y) → eqb s 0 ≡ not (eqb f 0) || (eqb x 0 && eqb y 0)
not_first f x y s e = rw e (go (eqb f 0))
  where
    go : (t : Bool) → eqb (cond t (bit_or x y) 0) 0 ≡ not t || (eqb x 0 && eqb y 0)
    go true = or_none_lem x y
    go false = refl

-- only first bytes are not zero
pub one_digit_each : (b : Bytes) → Begun b numerators_at → Begun b denominators_at → all (first_alone firsts_of10 b) (numbers 0 320) ≡ true
    → true ≡ all (digit_padded lasts_of10 b numerators_at) (numbers 0 320) && all (digit_padded lasts_of10 b denominators_at) (numbers 0 320)
one_digit_each b f g e =
    sym (and_both (all (digit_padded lasts_of10 b numerators_at) (numbers 0 320)) (all (digit_padded lasts_of10 b denominators_at) (numbers 0 320))
    (alone_column b numerators_at f (λ k h n. and_left (eqb (get_or b (numerators_at + k) 0) 0) (eqb (get_or b (denominators_at + k) 0) 0) (both k h n)))
    (alone_column b denominators_at g (λ k h n. and_right (eqb (get_or b (numerators_at + k) 0) 0) (eqb (get_or b (denominators_at + k) 0) 0) (both k h n))))
  where
    both : (k : ℕ) → k < 320 → eqb (k % 10) 0 ≡ false → eqb (get_or b (numerators_at + k) 0) 0 && eqb (get_or b (denominators_at + k) 0) 0 ≡ true
    both k h n =
        or_not (not (eqb (get_or firsts_of10 k 0) 0)) (eqb (get_or b (numerators_at + k) 0) 0 && eqb (get_or b (denominators_at + k) 0) 0) (below_at (first_alone firsts_of10 b) 320 k e h)
        (ap not (or_not (eqb (k % 10) 0) (eqb (get_or firsts_of10 k 0) 0) (first_mask k h) n))

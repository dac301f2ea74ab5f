-- The two rules, from empty places and from distinct keys. Assumes nothing.
use Prim.Native.Nat.{ℕ, ◌+◌, ◌-◌, ◌*◌, ◌%◌, ◌<◌, ◌≤◌}
use mathlib.Core.Path.{◌≡◌, refl, sym, ap, ap₂, ◌∙◌}
use mathlib.Core.Bool.{Bool, true, false, not, ◌&&◌, ◌||◌, true≢false}
use mathlib.Core.List.{List, []}
use native.Mathlib.Nat.{add-zero}
use native.Mathlib.Omega.{arith}
use borrow.Author.Tests.{eqb-true}
use lib.ListN.{length, get_or}
use lib.Bits.{bit_xor}
use lib.Dec.{eqb}
use Rattle.octets.specs.Bytes.{Bytes, same}
use Rattle.octets.proofs.Strings.{same_is}
use Rattle.lists.specs.Lists.{all, numbers}
use Rattle.server.specs.Sizes.{connection_count, function_count, job_count, name_size, unique_size}
use Rattle.server.specs.Table.{live}
use Rattle.server.specs.Layout.{text_at, function_in, row_in, job_in, table_of, functions_at, names_at, uniques_at, table_size}
use Rattle.server.specs.Rules.{names_apart, functions_distinct, uniques_apart, uniques_distinct}
use Rattle.table_laws.specs.Tests.{part, are_padded}
use Rattle.lists.proofs.Rows.{below_at}
use Rattle.table_passes.proofs.Rows.{functions_pairs, jobs_pairs}
use Rattle.table_passes.proofs.Pairs.{pairs_by, apart_all}
use Rattle.check_image.specs.Padded.{empty_at}
use Rattle.check_image.proofs.Places.{empty_text}
use Rattle.check_rings.specs.Rings.{apart_at}
use Rattle.check_keys.specs.Keys.{folded, folded_unique, name_key, unique_key, words_at}
use Rattle.table_passes.specs.Arrays.{Twice}
use Rattle.check_keys.proofs.Places.{words_same, texts_differ}

module _ (b : Bytes) (long : table_size connection_count ≤ length b) where
  -- ---- names

  names_pairs : ((i k : ℕ) → i < k → k < 16 → same (text_at name_size b (names_at + name_size * i)) [] ≡ false → same (text_at name_size b (names_at + name_size * i)) (text_at name_size b (names_at + name_size * k)) ≡ true → ⊥)
      → functions_distinct (table_of connection_count b) ≡ true
  names_pairs f =
      functions_pairs connection_count b names_apart
      ∙ pairs_by (λ i k. names_apart (function_in connection_count b i) (function_in connection_count b k)) 16
      (λ i k g m. go i k g m (same (text_at name_size b (names_at + name_size * i)) []) (same (text_at name_size b (names_at + name_size * i)) (text_at name_size b (names_at + name_size * k))) refl refl)
    where
      go : (i k : ℕ) → i < k → k < 16 → (x y : Bool) → same (text_at name_size b (names_at + name_size * i)) [] ≡ x → same (text_at name_size b (names_at + name_size * i)) (text_at name_size b (names_at + name_size * k)) ≡ y
          → not (not x) || not y ≡ true
      go i k g m true y p q = refl
      go i k g m false true p q = absurd (f i k g m p q)
      go i k g m false false p q = refl

  -- a known name is not that of an empty place
  pub one_name_holds : all (empty_at b (names_at + name_size) 32) (numbers 0 15) ≡ true → functions_distinct (table_of connection_count b) ≡ true
  one_name_holds e =
      names_pairs
      (λ i k g m full equal.
      let at : (names_at + name_size) + 32 * (k - 1) ≡ names_at + name_size * k = omega arith in
      let empty : same (text_at name_size b (names_at + name_size * k)) [] ≡ true =
      empty_text 31 b (names_at + name_size * k) (omega arith) ∙ ap (λ (x : ℕ). eqb (get_or b x 0) 0) (sym at) ∙ below_at (empty_at b (names_at + name_size) 32) 15 (k - 1) e (omega arith) in
      let text : text_at name_size b (names_at + name_size * i) ≡ text_at name_size b (names_at + name_size * k) = same_is (text_at name_size b (names_at + name_size * i)) (text_at name_size b (names_at + name_size * k)) equal in
      true≢false (sym empty ∙ ap (λ (x : Bytes). same x []) (sym text) ∙ full))

  pub name_keys_hold : are_padded name_size function_count b names_at ≡ true → (w : List ℕ) → Twice 16 (name_key b) w → all (λ d. all (apart_at (λ x. false) w (d + 1)) (numbers 0 16)) (numbers 0 8) ≡ true
      → functions_distinct (table_of connection_count b) ≡ true
  unfolding name_key
  name_keys_hold padded w t e =
      names_pairs
      (λ i k g m. texts_differ 31 16 b names_at (λ k h. omega arith) padded (λ k. folded (words_at b (names_at + name_size * k)))
      (λ i k g m. apart_all (λ x. false) 8 16 w (name_key b) refl t.0 t.1 e i k g m refl) i k g m
      (λ p. ap folded (words i k p)))
    where
      words : (i k : ℕ) → part 32 b (names_at + name_size * i) ≡ part 32 b (names_at + name_size * k) → words_at b (names_at + name_size * i) ≡ words_at b (names_at + name_size * k)
      words i k p =
          ap (words_at b) (sym (add-zero (names_at + name_size * i))) ∙ words_same 32 b (names_at + name_size * i) (names_at + name_size * k) 0 (omega arith) p ∙ ap (words_at b) (add-zero (names_at + name_size * k))

  -- ---- uniques

  uniques_pairs : ((i k : ℕ) → i < k → k < job_count → get_or b (functions_at + i) 0 ≡ get_or b (functions_at + k) 0
      → same (text_at unique_size b (uniques_at + unique_size * i)) [] ≡ false → same (text_at unique_size b (uniques_at + unique_size * i)) (text_at unique_size b (uniques_at + unique_size * k)) ≡ true → ⊥)
      → uniques_distinct (table_of connection_count b) ≡ true
  uniques_pairs f =
      jobs_pairs connection_count b uniques_apart
      ∙ pairs_by (λ i k. uniques_apart (job_in connection_count b i) (job_in connection_count b k)) 32
      (λ i k g m. go i k g m (live (row_in connection_count b i)) (live (row_in connection_count b k)) (same (text_at unique_size b (uniques_at + unique_size * i)) []) (eqb (get_or b (functions_at + i) 0) (get_or b (functions_at + k) 0))
      (same (text_at unique_size b (uniques_at + unique_size * i)) (text_at unique_size b (uniques_at + unique_size * k))) refl refl refl)
    where
      go : (i k : ℕ) → i < k → k < job_count → (u v x z y : Bool) → same (text_at unique_size b (uniques_at + unique_size * i)) [] ≡ x → eqb (get_or b (functions_at + i) 0) (get_or b (functions_at + k) 0) ≡ z
          → same (text_at unique_size b (uniques_at + unique_size * i)) (text_at unique_size b (uniques_at + unique_size * k)) ≡ y → not (u && (v && (not x && (z && y)))) ≡ true
      go i k g m false v x z y p q r = refl
      go i k g m true false x z y p q r = refl
      go i k g m true true true z y p q r = refl
      go i k g m true true false false y p q r = refl
      go i k g m true true false true false p q r = refl
      go i k g m true true false true true p q r = absurd (f i k g m (eqb-true (get_or b (functions_at + i) 0) (get_or b (functions_at + k) 0) q) p r)

  -- a job with a unique does not share it with one that has none
  pub one_unique_holds : all (empty_at b (uniques_at + unique_size) 64) (numbers 0 31) ≡ true → uniques_distinct (table_of connection_count b) ≡ true
  one_unique_holds e =
      uniques_pairs
      (λ i k g m function full equal.
      let at : (uniques_at + unique_size) + 64 * (k - 1) ≡ uniques_at + unique_size * k = omega arith in
      let empty : same (text_at unique_size b (uniques_at + unique_size * k)) [] ≡ true =
      empty_text 63 b (uniques_at + unique_size * k) (omega arith) ∙ ap (λ (x : ℕ). eqb (get_or b x 0) 0) (sym at) ∙ below_at (empty_at b (uniques_at + unique_size) 64) 31 (k - 1) e (omega arith) in
      let text : text_at unique_size b (uniques_at + unique_size * i) ≡ text_at unique_size b (uniques_at + unique_size * k) = same_is (text_at unique_size b (uniques_at + unique_size * i)) (text_at unique_size b (uniques_at + unique_size * k)) equal in
      true≢false (sym empty ∙ ap (λ (x : Bytes). same x []) (sym text) ∙ full))

  pub unique_keys_hold : are_padded unique_size job_count b uniques_at ≡ true → (w : List ℕ) → Twice 32 (unique_key b) w → all (λ d. all (apart_at (λ x. false) w (d + 1)) (numbers 0 job_count)) (numbers 0 16) ≡ true
      → uniques_distinct (table_of connection_count b) ≡ true
  unfolding unique_key folded_unique
  unique_keys_hold padded w t e =
      uniques_pairs
      (λ i k g m function. texts_differ 63 32 b uniques_at (λ k h. omega arith) padded (folded_unique b)
      (λ i k g m. apart_all (λ x. false) 16 32 w (unique_key b) refl t.0 t.1 e i k g m refl) i k g m
      (λ p. ap₂ bit_xor (ap folded (ap₂ bit_xor (first i k p) (second i k p))) (ap (λ (x : ℕ). x % 16 * 268435456) function)))
    where
      first : (i k : ℕ) → part 64 b (uniques_at + unique_size * i) ≡ part 64 b (uniques_at + unique_size * k) → words_at b (uniques_at + unique_size * i) ≡ words_at b (uniques_at + unique_size * k)
      first i k p =
          ap (words_at b) (sym (add-zero (uniques_at + unique_size * i))) ∙ words_same 64 b (uniques_at + unique_size * i) (uniques_at + unique_size * k) 0 (omega arith) p ∙ ap (words_at b) (add-zero (uniques_at + unique_size * k))

      second : (i k : ℕ) → part 64 b (uniques_at + unique_size * i) ≡ part 64 b (uniques_at + unique_size * k) → words_at b (uniques_at + 32 + unique_size * i) ≡ words_at b (uniques_at + 32 + unique_size * k)
      second i k p =
          let x : uniques_at + 32 + unique_size * i ≡ uniques_at + unique_size * i + 32 = omega arith in
          let y : uniques_at + unique_size * k + 32 ≡ uniques_at + 32 + unique_size * k = omega arith in
          ap (words_at b) x ∙ words_same 64 b (uniques_at + unique_size * i) (uniques_at + unique_size * k) 32 (omega arith) p ∙ ap (words_at b) y

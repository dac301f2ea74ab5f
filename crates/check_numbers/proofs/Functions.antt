-- Functions in a survey: those that jobs name, and the connections able to do what is queued. Assumes nothing.
use Prim.Native.Nat.{ℕ, ◌+◌, ◌*◌, ◌%◌, ◌<◌, ◌≤◌}
use mathlib.Core.Path.{◌≡◌, refl, sym, ap, ap₂, ◌∙◌}
use mathlib.Core.Bool.{beq, Bool, true, false, not, cond, ◌&&◌, ◌||◌}
use native.Mathlib.Omega.{arith}
use borrow.Author.Tests.{eqb-true, eq-eqb}
use lib.ListN.{length}
use lib.Dec.{eqb}
use Rattle.octets.specs.Bytes.{Bytes}
use Rattle.octets.proofs.Strings.{and_left, and_right, and_both}
use Rattle.sets.specs.Sets.{has, union}
use Rattle.sets.proofs.Laws.{has_union}
use Rattle.lists.specs.Lists.{any, all, numbers}
use Rattle.server.specs.declared.JobRow.{JobRow}
use Rattle.server.specs.Sizes.{connection_count, function_count, job_count, name_size}
use Rattle.server.specs.Table.{rows_of, ables_of, live, queued, names, wanted, grabbable}
use Rattle.server.specs.Layout.{function_in, row_in, table_of, names_at, table_size}
use Rattle.server.specs.Rules.{is_known, functions_as_defined}
use Rattle.server.proofs.Rows.{InRange, in_range, free_row_lem}
use Rattle.lists.proofs.Rows.{below_at}
use Rattle.table_passes.proofs.Tests.{iff, some_at, some_by, same_below, any_below, any_or}
use Rattle.table_passes.proofs.Rows.{rows_any, able_at_lem, defined_all}
use Rattle.table_passes.proofs.Unions.{has_if}
use Rattle.check_image.proofs.Places.{empty_text}
use Rattle.check_rows.specs.Rows.{numbers_mean, is_awaited, rows_mean}
use Rattle.check_survey.specs.declared.Survey as S
use Rattle.check_survey.specs.Surveyed.{queued_for, grabbed_for, Surveyed}
use Rattle.table_passes.specs.Unions.{Joined}
use Rattle.check_numbers.specs.Numbers.{able_if, agrees, is_defined}

-- both hold or neither
pub equal_agree : (x y : Bool) → beq x y ≡ agrees x y
equal_agree true true = refl
equal_agree true false = refl
equal_agree false true = refl
equal_agree false false = refl

module _ (b : Bytes) (rows : rows_mean b ≡ true) where
  -- ---- what each row says by itself

  mean_at : (k : ℕ) → k < job_count → numbers_mean (row_in connection_count b k) ≡ true
  unfolding rows_mean
  mean_at k h = and_left (numbers_mean (row_in connection_count b k)) (is_awaited (row_in connection_count b k)) (below_at (λ k. numbers_mean (row_in connection_count b k) && is_awaited (row_in connection_count b k)) 32 k rows h)

  live_at : (k : ℕ) → k < job_count → live (row_in connection_count b k) ≡ true → InRange function_count connection_count (row_in connection_count b k)
  live_at k h l = in_range function_count connection_count (row_in connection_count b k) (rw l at (mean_at k h))

  pub function_small : (k : ℕ) → k < job_count → live (row_in connection_count b k) ≡ true → (row_in connection_count b k).function < function_count
  function_small k h l = (live_at k h l).function

  pub holder_small : (k : ℕ) → k < job_count → live (row_in connection_count b k) ≡ true → (row_in connection_count b k).holder ≤ connection_count
  holder_small k h l = (live_at k h l).holder

  -- a free row has no holder
  pub held_live : (k : ℕ) → k < job_count → ((row_in connection_count b k).holder ≡ 0 → ⊥) → live (row_in connection_count b k) ≡ true
  held_live k h n = go (live (row_in connection_count b k)) refl
    where
      go : (t : Bool) → live (row_in connection_count b k) ≡ t → t ≡ true
      go true q = refl
      go false q = absurd (n (ap (λ (r : JobRow). r.holder) (free_row_lem (row_in connection_count b k) q (rw q at (mean_at k h)))))

  -- ---- functions that jobs name

  names_one : (l h f g : Bool) → (l ≡ true → g ≡ f) → ((l && h) && g) || ((l && not h) && g) ≡ l && f
  names_one true true f true e = e refl
  names_one true true f false e = e refl
  names_one true false f g e = e refl
  names_one false h f g e = refl

  module _ (v : S.Survey) (s : Surveyed b 32 v) where
    pub named_is : (q : ℕ) → has (union v.queued v.grabbed) q ≡ any (names q) (rows_of (table_of connection_count b))
    named_is q =
        has_union v.queued v.grabbed q ∙ ap₂ ◌||◌ (s.queued q) (s.grabbed q) ∙ any_or (queued_for b q) (grabbed_for b q) (numbers 0 job_count)
        ∙ any_below (λ k. queued_for b q k || grabbed_for b q k) (λ k. names q (row_in connection_count b k)) 32
        (λ k h. names_one (live (row_in connection_count b k)) (eqb (row_in connection_count b k).holder 0) (eqb (row_in connection_count b k).function q) (eqb ((row_in connection_count b k).function % 32) q)
        (λ l. let f = function_small k h l in let m : (row_in connection_count b k).function % 32 ≡ (row_in connection_count b k).function = omega arith in ap (λ (x : ℕ). eqb x q) m))
        ∙ sym (rows_any connection_count b (names q))

    -- ---- connections able to do what is queued

    module _ (busy : ℕ) (jb : Joined (able_if b v.queued) function_count busy) (c : ℕ) where
      can_grab : (k : ℕ) → k < job_count → live (row_in connection_count b k) ≡ true → grabbable (ables_of (table_of connection_count b)) c (row_in connection_count b k) ≡ queued (row_in connection_count b k) && has (function_in connection_count b (row_in connection_count b k).function).able c
      can_grab k h l = ap (λ (x : ℕ). queued (row_in connection_count b k) && has x c) (able_at_lem connection_count b (row_in connection_count b k).function (function_small k h l))

      to_busy : any (λ k. grabbable (ables_of (table_of connection_count b)) c (row_in connection_count b k)) (numbers 0 job_count) ≡ true → has busy c ≡ true
      to_busy e = some_at (λ k. grabbable (ables_of (table_of connection_count b)) c (row_in connection_count b k)) 32 e (λ k h q. found k h q)
        where
          found : (k : ℕ) → k < job_count → grabbable (ables_of (table_of connection_count b)) c (row_in connection_count b k) ≡ true → has busy c ≡ true
          found k h q =
              let wait : queued (row_in connection_count b k) ≡ true = and_left (queued (row_in connection_count b k)) _ q in
              let l : live (row_in connection_count b k) ≡ true = and_left (live (row_in connection_count b k)) (eqb (row_in connection_count b k).holder 0) wait in
              let f = function_small k h l in
              let m : (row_in connection_count b k).function % 32 ≡ (row_in connection_count b k).function = omega arith in
              let can : has (function_in connection_count b (row_in connection_count b k).function).able c ≡ true = and_right (queued (row_in connection_count b k)) _ (sym (can_grab k h l) ∙ q) in
              let there : has v.queued (row_in connection_count b k).function ≡ true =
              s.queued (row_in connection_count b k).function ∙ some_by (queued_for b (row_in connection_count b k).function) 32 k h (and_both _ _ wait (eq-eqb ((row_in connection_count b k).function % 32) (row_in connection_count b k).function m)) in
              jb c ∙ some_by (λ q. has (able_if b v.queued q) c) function_count (row_in connection_count b k).function f
              (has_if (has v.queued (row_in connection_count b k).function) (function_in connection_count b (row_in connection_count b k).function).able c ∙ and_both _ _ there can)

      from_busy : has busy c ≡ true → any (λ k. grabbable (ables_of (table_of connection_count b)) c (row_in connection_count b k)) (numbers 0 job_count) ≡ true
      from_busy e = some_at (λ q. has (able_if b v.queued q) c) function_count (sym (jb c) ∙ e) (λ q h r. able q h (sym (has_if (has v.queued q) (function_in connection_count b q).able c) ∙ r))
        where
          row : (q k : ℕ) → k < job_count → has (function_in connection_count b q).able c ≡ true → queued_for b q k ≡ true → any (λ k. grabbable (ables_of (table_of connection_count b)) c (row_in connection_count b k)) (numbers 0 job_count) ≡ true
          row q k h can r =
              let wait : queued (row_in connection_count b k) ≡ true = and_left (queued (row_in connection_count b k)) (eqb ((row_in connection_count b k).function % 32) q) r in
              let l : live (row_in connection_count b k) ≡ true = and_left (live (row_in connection_count b k)) (eqb (row_in connection_count b k).holder 0) wait in
              let f = function_small k h l in
              let e : (row_in connection_count b k).function % 32 ≡ q = eqb-true ((row_in connection_count b k).function % 32) q (and_right (queued (row_in connection_count b k)) (eqb ((row_in connection_count b k).function % 32) q) r) in
              let m : (row_in connection_count b k).function ≡ q = omega arith in
              some_by (λ k. grabbable (ables_of (table_of connection_count b)) c (row_in connection_count b k)) 32 k h (can_grab k h l ∙ and_both _ _ wait (ap (λ (x : ℕ). has (function_in connection_count b x).able c) m ∙ can))

          able : (q : ℕ) → q < function_count → has v.queued q && has (function_in connection_count b q).able c ≡ true → any (λ k. grabbable (ables_of (table_of connection_count b)) c (row_in connection_count b k)) (numbers 0 job_count) ≡ true
          able q h r =
              some_at (queued_for b q) 32 (sym (s.queued q) ∙ and_left (has v.queued q) (has (function_in connection_count b q).able c) r)
              (λ k g t. row q k g (and_right (has v.queued q) (has (function_in connection_count b q).able c) r) t)

      pub busy_is : any (grabbable (ables_of (table_of connection_count b)) c) (rows_of (table_of connection_count b)) ≡ has busy c
      busy_is =
          rows_any connection_count b (grabbable (ables_of (table_of connection_count b)) c)
          ∙ iff (any (λ k. grabbable (ables_of (table_of connection_count b)) c (row_in connection_count b k)) (numbers 0 job_count)) (has busy c) to_busy from_busy

    -- ---- functions as defined

    agrees_is : (x y : Bool) → agrees x y ≡ cond x y (not y)
    agrees_is true true = refl
    agrees_is true false = refl
    agrees_is false y = refl

    pub defined_is : table_size connection_count ≤ length b → (n : ℕ) → n ≡ union v.queued v.grabbed → all (is_defined b n) (numbers 0 function_count) ≡ functions_as_defined (table_of connection_count b)
    defined_is long n e =
        same_below (is_defined b n) (λ q. cond (is_known (function_in connection_count b q)) (wanted (rows_of (table_of connection_count b)) q (function_in connection_count b q).able) (not (wanted (rows_of (table_of connection_count b)) q (function_in connection_count b q).able))) function_count
        (λ q h. rw (e, named_is q, ← empty_text 31 b (names_at + name_size * q) (omega arith)) (agrees_is (is_known (function_in connection_count b q)) (wanted (rows_of (table_of connection_count b)) q (function_in connection_count b q).able)))
        ∙ sym (defined_all connection_count b)

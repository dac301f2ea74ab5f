-- Jobs counted row by row, and what the counts are in a table that obeys the rules. Assumes nothing.
use Prim.Native.Nat.{ℕ, ◌+◌}
use mathlib.Core.Path.{◌≡◌, refl, ap, sym, ◌∙◌}
use mathlib.Core.Bool.{Bool, true, false, cond, ◌&&◌}
use mathlib.Core.List.{List, ◌∷◌}
use lib.ListN.{length}
use Rattle.std.specs.Prelude.{count_by}
use Rattle.std.proofs.lemmas.List.Recursion.{is_count_by}
use native.Mathlib.Omega.{arith}
use Rattle.lists.specs.Lists.{filter}
use Rattle.server.specs.declared.JobRow.{JobRow}
use Rattle.server.specs.Table.{Table, names, rows_of}
use Rattle.command.specs.Texts.{held_of, is_held, jobs_of}
use Rattle.command_status.specs.Counts.{counted}

-- ---- the library's count of those that pass a test

pub filter_counted : {A : Type 0} (f : A → Bool) (l : List A) → count_by f l ≡ length (filter f l)
filter_counted {A} f l = sym (is_count_by (λ r. length (filter f r)) f refl more l)
  where
    more : (x : A) (r : List A) → length (filter f (x ∷ r)) ≡ cond (f x) (1 + length (filter f r)) (length (filter f r))
    more x r = go (f x)
      where
        go : (b : Bool) → length (cond b (x ∷ filter f r) (filter f r)) ≡ cond b (1 + length (filter f r)) (length (filter f r))
        go true = omega arith
        go false = refl

-- ---- what is counted

and_true : (b : Bool) → b && true ≡ b
and_true true = refl
and_true false = refl

module _ (t : Table) (q : ℕ) (rows : List JobRow) (e : rows ≡ rows_of t) (n : ℕ) where
  pub jobs_found : n ≡ length (filter (counted false q) rows) → n ≡ jobs_of t q
  unfolding jobs_of
  jobs_found h = h ∙ ap (λ (r : List JobRow). length (filter (counted false q) r)) e ∙ (λ i. length (filter (λ r. and_true (names q r) i) (rows_of t)))

  pub held_found : n ≡ length (filter (counted true q) rows) → n ≡ held_of t q
  unfolding held_of
  held_found h = h ∙ ap (λ (r : List JobRow). length (filter (is_held q) r)) e

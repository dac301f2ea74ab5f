-- What one walk over the rows gathers. Assumes nothing.
use Rattle.std.specs.Prelude.{ℕ, ◌+◌, ◌-◌, ◌*◌, ◌%◌, ◌<◌, ◌≤◌, ◌≡◌, Bool, true, not, cond, ◌&&◌, ◌||◌, get_or, eqb}
use Rattle.octets.specs.Bytes.{Bytes}
use Rattle.sets.specs.Sets.{has, insert, union}
use Rattle.lists.specs.Lists.{any, all, numbers}
use Rattle.server.specs.Sizes.{unique_size, connection_count}
use Rattle.server.specs.Table.{live, queued}
use Rattle.server.specs.Layout.{row_in, uniques_at}
use Rattle.check_survey.specs.declared.Survey as S

-- ---- the survey with one row more

unfoldable pub with_job : S.Survey → ℕ → ℕ → ℕ → S.Survey
with_job v serial function holder =
    record {
      residues = union v.residues (insert 0 (serial % 32));
      sum = v.sum + insert 0 (serial % 32);
      queued = cond (eqb holder 0) (union v.queued (insert 0 (function % 32))) v.queued;
      grabbed = cond (eqb holder 0) v.grabbed (union v.grabbed (insert 0 (function % 32)));
      holding = cond (eqb holder 0) v.holding (union v.holding (insert 0 ((holder - 1) % 32)));
      clear = v.clear;
    }

abbrev pub with_free : S.Survey → Bool → S.Survey
with_free v clear =
    record { residues = v.residues; sum = v.sum; queued = v.queued; grabbed = v.grabbed; holding = v.holding; clear = v.clear && clear }

-- ---- what each row adds

abbrev pub has_residue : Bytes → ℕ → ℕ → Bool
has_residue b r k = live (row_in connection_count b k) && eqb ((row_in connection_count b k).serial % 32) r

abbrev pub queued_for : Bytes → ℕ → ℕ → Bool
queued_for b q k = queued (row_in connection_count b k) && eqb ((row_in connection_count b k).function % 32) q

abbrev pub is_held : Bytes → ℕ → Bool
is_held b k = live (row_in connection_count b k) && not (eqb (row_in connection_count b k).holder 0)

abbrev pub grabbed_for : Bytes → ℕ → ℕ → Bool
grabbed_for b q k = is_held b k && eqb ((row_in connection_count b k).function % 32) q

abbrev pub held_by : Bytes → ℕ → ℕ → Bool
held_by b c k = is_held b k && eqb (((row_in connection_count b k).holder - 1) % 32) c

abbrev pub free_or_job : Bytes → ℕ → Bool
free_or_job b k = live (row_in connection_count b k) || eqb (get_or b (uniques_at + unique_size * k) 0) 0

-- what the rows before place i say. Residues that are their own sum are distinct, and so are the serials.
pub record Surveyed (b : Bytes) (i : ℕ) (v : S.Survey) : Type 0 where
  pub residues : (r : ℕ) → has v.residues r ≡ any (has_residue b r) (numbers 0 i)
  pub least : v.residues ≤ v.sum
  pub fits : v.sum ≤ i * 4294967295
  pub distinct : v.residues ≡ v.sum → (x y : ℕ) → x < y → y < i → live (row_in connection_count b x) ≡ true → (row_in connection_count b x).serial ≡ (row_in connection_count b y).serial → ⊥
  pub queued : (q : ℕ) → has v.queued q ≡ any (queued_for b q) (numbers 0 i)
  pub grabbed : (q : ℕ) → has v.grabbed q ≡ any (grabbed_for b q) (numbers 0 i)
  pub holding : (c : ℕ) → has v.holding c ≡ any (held_by b c) (numbers 0 i)
  pub clear : v.clear ≡ all (free_or_job b) (numbers 0 i)

-- A job that stands in the table after the event is not named as gone: of rows that an event left as they were, none is. A refused event
-- leaves them so (`server_laws/Refusals: refusal`). Assumes nothing.
use Prim.Native.Nat.{ℕ, zero, suc, ◌<◌}
use mathlib.Core.Path.{◌≡◌, refl}
use mathlib.Core.Bool.{Bool, true, false, not, cond, ◌&&◌}
use Rattle.std.specs.Prelude.{Option, Some, None}
use mathlib.Core.List.{List, []}
use native.Mathlib.Omega.{arith}
use borrow.Author.Tests.{eq-eqb, ltb-false, ltb-true}
use lib.Dec.{eqb, ltb}
use lib.ListN.{length, get_or, get_or-eq_default}
use Rattle.octets.specs.Bytes.{Bytes}
use Rattle.lists.proofs.Rows.{all_at}
use Rattle.lists.proofs.Searches.{found}
use Rattle.server.specs.declared.JobRow.{JobRow}
use Rattle.server.specs.Sizes.{job_count}
use Rattle.server.specs.Table.{live, no_row}
use Rattle.plan.specs.Values.{serial_row}
use Rattle.prints.specs.Pieces.{pieces}
use Rattle.show_table.specs.Standing.{absent_text, gone_one, gone_text, unfound_text}
use Rattle.show_table.proofs.Jobs.{gone}

nothing_laid : (g : ℕ → Bytes) (n : ℕ) → ((i : ℕ) → g i ≡ []) → pieces g n ≡ []
unfolding pieces
nothing_laid g zero h = refl
nothing_laid g (suc n) h = rw (nothing_laid g n h, h n)

module _ (hub word : Bytes) (rs : List JobRow) where
  -- the search for a serial finds a job that has it
  finds : (s p : ℕ) → p < length rs → live (get_or rs p no_row) && eqb (get_or rs p no_row).serial s ≡ true → absent_text hub word s rs ≡ []
  unfolding absent_text unfound_text serial_row
  finds s p h e = go (serial_row s rs) refl
    where
      go : (o : Option ℕ) → serial_row s rs ≡ o → unfound_text hub word s o ≡ []
      go (Some i) q = refl
      go None q =
          let n : not (live (get_or rs p no_row) && eqb (get_or rs p no_row).serial s) ≡ true = all_at _ rs p no_row (found _ no_row rs None q) h in
          let z : false ≡ true = rw e at n in
          let y : ◌≡◌ {A = ℕ} 0 1 = cc in absurd (omega arith)

  -- a live row is one of them
  inside : (p : ℕ) → live (get_or rs p no_row) ≡ true → p < length rs
  inside p e = go (ltb p (length rs)) refl
    where
      go : (b : Bool) → ltb p (length rs) ≡ b → p < length rs
      go true h = ltb-true p (length rs) h
      go false h =
          let n : get_or rs p no_row ≡ no_row = get_or-eq_default rs no_row {n = p} (ltb-false p (length rs) h) in
          let z : false ≡ true = rw n at e in
          let y : ◌≡◌ {A = ℕ} 0 1 = cc in absurd (omega arith)

  stays : (p : ℕ) → gone hub word rs rs p ≡ []
  unfolding gone_one
  stays p = go (live (get_or rs p no_row)) refl
    where
      go : (b : Bool) → live (get_or rs p no_row) ≡ b → cond b (absent_text hub word (get_or rs p no_row).serial rs) [] ≡ []
      go true e = finds (get_or rs p no_row).serial p (inside p e) (rw (e, eq-eqb _ _ refl))
      go false e = refl

  pub kept_unnamed : gone_text hub word rs rs ≡ []
  unfolding gone_text
  kept_unnamed = nothing_laid (gone hub word rs rs) job_count stays

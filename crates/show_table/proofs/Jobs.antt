-- What the tests and the search of the code say of a row's holder, of the job of a serial, and of one that is gone. Assumes nothing.
use Prim.Native.Nat.{ℕ, zero, suc, ◌-◌}
use Rattle.std.specs.Prelude.{Some, None}
use mathlib.Core.Path.{◌≡◌, refl, ap, ◌∙◌}
use mathlib.Core.Bool.{cond}
use mathlib.Core.List.{List, [], ◌++◌}
use native.Mathlib.Omega.{arith}
use lib.ListN.{get_or}
use Rattle.octets.specs.Bytes.{Bytes}
use Rattle.handle.specs.Handle.{decimal}
use Rattle.server.specs.declared.JobRow.{JobRow}
use Rattle.server.specs.Sizes.{connection_count}
use Rattle.server.specs.Table.{live, no_row}
use Rattle.plan.specs.Values.{serial_row}
use Rattle.show_names.specs.Names.{space}
use Rattle.show_table.specs.Standing.{absent_text, found_text, gone_one, handle_line, holder_text, holder_word, job_text, no_job_word, none_word, serial_text, unfound_text}

-- the piece of place p
abbrev pub unfinished : Bytes → List JobRow → ℕ → Bytes
unfinished hub rs p = cond (live (get_or rs p no_row)) (job_text hub connection_count (get_or rs p no_row)) []

-- what is said of place p, if its job is gone
abbrev pub gone : Bytes → Bytes → List JobRow → List JobRow → ℕ → Bytes
gone hub word before after p = gone_one hub word after (get_or before p no_row)

-- ---- a holder, from the number in the row

pub holder_none : (h : ℕ) → h ≡ 0 → holder_word ++ none_word ≡ holder_word ++ holder_text h
unfolding holder_text
holder_none h e = rw e

pub holder_some : (h : ℕ) → (h ≡ 0 → ⊥) → (holder_word ++ space) ++ decimal (h - 1) ≡ holder_word ++ holder_text h
unfolding holder_text
holder_some zero n = absurd (n refl)
holder_some (suc c) n = let e : suc c - 1 ≡ c = omega arith in rw e

-- ---- the job of a serial, from the answer of the search

module _ (hub : Bytes) (n serial : ℕ) (before after : List JobRow) where
  pub serial_found : (p : ℕ) (r : JobRow) → Some p ≡ serial_row serial after → r ≡ get_or after p no_row → job_text hub n r ≡ serial_text hub n serial before after
  unfolding serial_text found_text
  serial_found p r e q = ap (job_text hub n) q ∙ ap (found_text hub n serial before after) e

  pub serial_unfound : None ≡ serial_row serial after → absent_text hub no_job_word serial before ≡ serial_text hub n serial before after
  unfolding serial_text found_text
  serial_unfound e = ap (found_text hub n serial before after) e

module _ (hub word : Bytes) (serial : ℕ) (rs : List JobRow) where
  pub not_absent : (p : ℕ) → Some p ≡ serial_row serial rs → [] ≡ absent_text hub word serial rs
  unfolding absent_text unfound_text
  not_absent p e = ap (unfound_text hub word serial) e

  pub absent : None ≡ serial_row serial rs → handle_line hub word serial ≡ absent_text hub word serial rs
  unfolding absent_text unfound_text
  absent e = ap (unfound_text hub word serial) e

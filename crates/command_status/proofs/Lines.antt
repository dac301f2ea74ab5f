-- A status line from the parts that the code lays, and the lines of the functions that are listed. Assumes nothing.
use Prim.Native.Nat.{ℕ}
use mathlib.Core.Path.{◌≡◌, ap, ◌∙◌}
use mathlib.Core.Bool.{true, false}
use mathlib.Core.List.{List, ◌++◌, map}
use lib.Count.{ones}
use native.Mathlib.Omega.{arith}
use lib.Seq.{take_all}
use lib.ListN.{length, get_or, get_or-map}
use Rattle.octets.specs.Bytes.{Bytes}
use Rattle.lists.specs.Lists.{concat, filter}
use Rattle.lists.proofs.Maps.{filter_all}
use Rattle.server.specs.declared.JobRow.{JobRow}
use Rattle.server.specs.Table.{Function, Table, no_function, function_at, rows_of}
use Rattle.plan.specs.Values.{values_of}
use Rattle.prints.specs.Pieces.{pieces}
use Rattle.prints.specs.Printed.{printed}
use Rattle.prints.proofs.Chosen.{chosen_pieces}
use Rattle.command.specs.Order.{in_order}
use Rattle.command.specs.Texts.{period_line, status_line, status_text}
use Rattle.command_laws.proofs.Rules.{Printable}
use Rattle.command_laws.proofs.Counts.{able_counted}
use Rattle.command_status.specs.Counts.{counted, counts_text}
use Rattle.command_status.proofs.Counting.{held_found, jobs_found}

-- the set of able connections, read where it lies
module _ (t : Table) (p : Printable t) (q : ℕ) where
  pub line_is : (rows : List JobRow) (name : Bytes) (jobs held able : ℕ) → rows ≡ rows_of t → name ≡ (function_at t q).name
      → jobs ≡ length (filter (counted false q) rows) → held ≡ length (filter (counted true q) rows) → able ≡ get_or (values_of t).able q 0
      → printed name ++ counts_text jobs held (ones able) ≡ status_line t q
  unfolding status_line counts_text values_of
  line_is rows name jobs held able er en ej eh ea =
      let s : able ≡ (function_at t q).able = ea ∙ get_or-map (λ (x : Function). x.able) t.functions q no_function in
      rw (en, jobs_found t q rows er jobs ej, held_found t q rows er held eh, s, able_counted t p q)

-- ---- the lines

abbrev pub line_at : Table → List ℕ → ℕ → Bytes
line_at t places i = status_line t (get_or places i 0)

pub lines_are : (t : Table) (l m : List ℕ) → l ≡ m → pieces (line_at t l) (length l) ≡ concat (map (status_line t) m)
lines_are t l m e =
    chosen_pieces (λ q. true) (status_line t) l (length l) (omega arith) ∙ ap (λ (x : List ℕ). concat (map (status_line t) x)) (rw (take_all (length l) l (omega arith), filter_all l) e)

pub status_is : (t : Table) (l : List ℕ) → l ≡ in_order t.functions → concat (map (status_line t) l) ++ period_line ≡ status_text t
unfolding status_text
status_is t l e = rw e

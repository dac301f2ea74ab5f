-- `show_names::reason_row` meets its contract: the table of src/ computes to the rows of the defined words, and beyond it each number has
-- the word of row 0. Assumes nothing.
use mathlib.Core.Path.{ap, sym}
use mathlib.Core.List.{[]}
use native.Mathlib.Omega.{arith}
use lib.ListN.{get_or-eq_default}
use Rattle.handle.specs.Handle.{padded}
use Rattle.packet_kinds.proofs.Tests.{entry}
use Rattle.show_names.specs.Names.{reason_of, reasons, unknown}
use Rattle.show_names.proofs.reason_row.Goals as goal

pub returns-then-number-gt16 : goal.returns-then-number-gt16
unfolding reason_of
returns-then-number-gt16 c = ap (padded 23) (sym (get_or-eq_default reasons unknown {n = c.args.number} c.if-number-gt16.true))

pub returns : goal.returns
unfolding reason_of
returns c = entry (λ k. padded 23 (reason_of k)) 17 c.args.number [] (omega arith)

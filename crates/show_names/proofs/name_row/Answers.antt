-- `show_names::name_row` meets its contract: the table of src/ computes to the rows of the defined names. Assumes nothing.
use mathlib.Core.List.{[]}
use native.Mathlib.Omega.{arith}
use lib.ListN.{get_or}
use Rattle.handle.specs.Handle.{padded}
use Rattle.packet_kinds.proofs.Tests.{entry}
use Rattle.show_names.specs.Names.{names}
use Rattle.show_names.proofs.name_row.Goals as goal

pub returns : goal.returns
returns c = entry (λ k. padded 18 (get_or names k [])) 37 c.args.kind [] (omega arith)

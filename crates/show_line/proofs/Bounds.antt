-- What is said of a line fits into the text, where the table's hub has a name or nothing is said of the table. Assumes nothing.
use Prim.Native.Nat.{ℕ, ◌+◌, ◌≤◌}
use mathlib.Core.Path.{◌≡◌}
use mathlib.Core.Bool.{true}
use mathlib.Core.List.{List, ◌++◌}
use Rattle.std.specs.Prelude.{Option}
use native.Mathlib.Omega.{arith}
use lib.ListN.{length, length-append}
use Rattle.octets.specs.Bytes.{Bytes}
use Rattle.lists.specs.Lists.{concat}
use Rattle.server.specs.declared.JobRow.{JobRow}
use Rattle.server.specs.Sizes.{connection_count, output_size}
use Rattle.server.specs.Table.{Table, rows_of}
use Rattle.server.specs.Rules.{hub_named}
use Rattle.server.specs.Requests.{Event}
use Rattle.capture.specs.Packets.{Addressed}
use Rattle.capture.proofs.Texts.{Fits}
use Rattle.show_parts.specs.Parts.{answer_text, heading_text, table_text}
use Rattle.show_parts.proofs.Bounds.{answer_short, heading_short, table_short}
use Rattle.show_line.specs.Shown.{line_end, line_text, line_with, text_size}

pub line_short : (k : ℕ) (f : Option Event) (ps : List Bytes) (n : ℕ) (before : List JobRow) (t : Table) → ((n ≡ 1 → ⊥) → (n ≡ 16 → ⊥) → hub_named t ≡ true)
    → Addressed ps → length (concat ps) ≤ output_size connection_count → length (line_with k f ps n before t) ≤ text_size
unfolding line_with
line_short k f ps n before t good a h =
    omega (
      arith,
      length-append (heading_text k f) (answer_text ps n ++ (table_text f ps n before t ++ line_end)),
      length-append (answer_text ps n) (table_text f ps n before t ++ line_end),
      length-append (table_text f ps n before t) line_end,
      heading_short k f,
      answer_short ps n a,
      table_short f ps n before t good,
    )

pub line_fits : (k : ℕ) → Fits text_size (line_text k)
line_fits k f ps n u t good a h = line_short k f ps n (rows_of u) t (λ p q. good) a h

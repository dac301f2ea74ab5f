-- The parts of a status line that functions of the code lay or count. Assumes nothing.
use Rattle.std.specs.Prelude.{ℕ, Bool, not, ◌&&◌, ◌||◌, ◌++◌, eqb}
use Rattle.octets.specs.Bytes.{Bytes}
use Rattle.handle.specs.Handle.{decimal}
use Rattle.server.specs.declared.JobRow.{JobRow}
use Rattle.server.specs.Table.{names}
use Rattle.command.specs.Texts.{line_feed, tab}

-- the row is a job of the function at place q; a held one, if only held ones are asked for
abbrev pub counted : Bool → ℕ → JobRow → Bool
counted held q r = names q r && (not held || not (eqb r.holder 0))

-- what follows the name in a status line: three counts and the line's end
unfoldable pub counts_text : ℕ → ℕ → ℕ → Bytes
counts_text jobs held able = (tab ++ decimal jobs) ++ ((tab ++ decimal held) ++ ((tab ++ decimal able) ++ line_feed))

-- `show_table::put_marks` meets its contract: each mark that the row has. Assumes nothing.
use mathlib.Core.Bool.{cond}
use mathlib.Core.List.{[], ◌++◌}
use lib.Dec.{eqb}
use Rattle.octets.specs.Bytes.{Bytes}
use Rattle.server.specs.declared.JobRow.{JobRow}
use Rattle.octets.proofs.Runs.{laid_third, room_first, room_second, room_third}
use Rattle.show_table.specs.Standing.{background_word, high_word, low_word, marks_text}
use Rattle.show_table.proofs.put_marks.Goals as goal

-- the three runs
abbrev low : JobRow → Bytes
low r = cond (eqb r.priority 0) low_word []

abbrev high : JobRow → Bytes
high r = cond (eqb r.priority 2) high_word []

abbrev background : JobRow → Bytes
background r = cond r.background background_word []

pub put_if-high-requires : goal.put_if-high-requires
unfolding marks_text
put_if-high-requires c =
    room_first _ (low c.args.row) ((high c.args.row) ++ (background c.args.row)) _ c.requires

pub put_if-background-requires : goal.put_if-background-requires
unfolding marks_text
put_if-background-requires c =
    room_second _ (low c.args.row) (high c.args.row) (background c.args.row) _ _ _ c.put_if-high.ensures c.requires

pub put_if-requires : goal.put_if-requires
unfolding marks_text
put_if-requires c =
    room_third _ (low c.args.row) (high c.args.row) (background c.args.row) _ _ _ c.put_if-high.ensures _ _ c.put_if-background.ensures c.requires

pub returns : goal.returns
unfolding marks_text
returns c =
    laid_third _ (low c.args.row) (high c.args.row) (background c.args.row) _ _ _ c.put_if-high.ensures _ _ c.put_if-background.ensures _ _ c.put_if.ensures

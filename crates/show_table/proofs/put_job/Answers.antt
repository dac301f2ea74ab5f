-- `show_table::put_job` meets its contract: the handle's line, the marks, the holder and the listeners. Assumes nothing.
use mathlib.Core.List.{◌++◌}
use Rattle.octets.specs.Bytes.{Bytes}
use Rattle.sets.specs.Sets.{has}
use Rattle.server.specs.declared.JobRow.{JobRow}
use Rattle.octets.proofs.Runs.{laid_then, laid_third, room_first, room_second, room_then, room_third}
use Rattle.show_table.specs.Standing.{connections_text, handle_line, holder_text, holder_word, job_text, job_word, listeners_word, marks_text}
use Rattle.show_table.proofs.put_job.Goals as goal

-- the runs beside the marks
abbrev named : Bytes → JobRow → Bytes
named hub r = handle_line hub job_word r.serial

abbrev held : JobRow → Bytes
held r = holder_word ++ holder_text r.holder

abbrev heard : JobRow → Bytes
heard r = listeners_word ++ connections_text (has r.listeners) 16

pub put_handle_line-marks-requires : goal.put_handle_line-marks-requires
unfolding job_text
put_handle_line-marks-requires c =
    (c.requires.0, room_first _ (named c.args.hub.now c.args.row) (marks_text c.args.row ++ (held c.args.row ++ heard c.args.row)) _ c.requires.1)

pub put_marks-holder-requires : goal.put_marks-holder-requires
unfolding job_text
put_marks-holder-requires c =
    room_second _ (named c.args.hub.now c.args.row) (marks_text c.args.row) (held c.args.row ++ heard c.args.row) _ _ _ c.put_handle_line-marks.ensures c.requires.1

pub put_holder-listeners-requires : goal.put_holder-listeners-requires
unfolding job_text
put_holder-listeners-requires c =
    room_first _ (held c.args.row) (heard c.args.row) _ (room_third _ (named c.args.hub.now c.args.row) (marks_text c.args.row) (held c.args.row ++ heard c.args.row) _ _ _ c.put_handle_line-marks.ensures _ _ c.put_marks-holder.ensures c.requires.1)

pub put_listeners-requires : goal.put_listeners-requires
unfolding job_text
put_listeners-requires c =
    room_then _ (held c.args.row) (heard c.args.row) _ _ _ c.put_holder-listeners.ensures (room_third _ (named c.args.hub.now c.args.row) (marks_text c.args.row) (held c.args.row ++ heard c.args.row) _ _ _ c.put_handle_line-marks.ensures _ _ c.put_marks-holder.ensures c.requires.1)

pub returns : goal.returns
unfolding job_text
returns c =
    laid_third _ (named c.args.hub.now c.args.row) (marks_text c.args.row) (held c.args.row ++ heard c.args.row) _ _ _ c.put_handle_line-marks.ensures _ _ c.put_marks-holder.ensures _ _ (laid_then _ (held c.args.row) (heard c.args.row) _ _ _ c.put_holder-listeners.ensures _ _ c.put_listeners.ensures)

-- `command_status::put_line` meets its contract: the name as it is printed, and the counts. Assumes nothing.
use lib.Count.{ones}
use Rattle.octets.proofs.Runs.{laid_as, laid_then, room_as, room_first, room_then}
use Rattle.server.specs.Sizes.{connection_count}
use Rattle.server.specs.Layout.{table_of}
use Rattle.prints.specs.Printed.{printed}
use Rattle.command_laws.proofs.Rules.{sound_prints}
use Rattle.command_status.specs.Counts.{counts_text}
use Rattle.command_status.proofs.Lines.{line_is}
use Rattle.command_status.proofs.put_line.Goals as goal

pub put_printed-place-requires : goal.put_printed-place-requires
put_printed-place-requires c =
    let e = line_is (table_of connection_count c.args.table.now) (sound_prints connection_count _ c.requires.1) c.args.q _ _ _ _ _ c.read_rows-rows.ensures c.name_at.ensures c.count_jobs-jobs.ensures c.count_jobs-held.ensures c.able_at-able.ensures in
    room_first _ (printed c.name_at.result.now) (counts_text c.count_jobs-jobs.result c.count_jobs-held.result (ones c.able_at-able.result)) _ (room_as _ _ e _ _ c.requires.2)

pub put_counts-requires : goal.put_counts-requires
put_counts-requires c =
    let e = line_is (table_of connection_count c.args.table.now) (sound_prints connection_count _ c.requires.1) c.args.q _ _ _ _ _ c.read_rows-rows.ensures c.name_at.ensures c.count_jobs-jobs.ensures c.count_jobs-held.ensures c.able_at-able.ensures in
    room_then _ _ _ _ _ _ c.put_printed-place.ensures (room_as _ _ e _ _ c.requires.2)

pub returns : goal.returns
returns c =
    let e = line_is (table_of connection_count c.args.table.now) (sound_prints connection_count _ c.requires.1) c.args.q _ _ _ _ _ c.read_rows-rows.ensures c.name_at.ensures c.count_jobs-jobs.ensures c.count_jobs-held.ensures c.able_at-able.ensures in
    laid_as _ _ e _ _ _ _ (laid_then _ _ _ _ _ _ c.put_printed-place.ensures _ _ c.put_counts.ensures)

-- `command_workers::put_name` meets its contract: a space and the name as it is printed, or nothing. Assumes nothing.
use mathlib.Core.Path.{refl}
use Rattle.octets.specs.Bytes.{text}
use Rattle.octets.proofs.Runs.{laid_as, laid_none, laid_then, room_as, room_first, room_then}
use Rattle.prints.specs.Printed.{printed}
use Rattle.server.specs.Sizes.{connection_count}
use Rattle.server.specs.Table.{function_at}
use Rattle.server.specs.Layout.{table_of}
use Rattle.command_workers.proofs.Lines.{name_is, name_none}
use Rattle.command_workers.proofs.put_name.Goals as goal

pub put-place-requires : goal.put-place-requires
put-place-requires c =
    let e = name_is (table_of connection_count c.args.table.now) c.args.c c.args.q _ _ c.able_at.ensures c.has.ensures _ refl c.if-has.true in
    room_first _ (text " ") (printed (function_at (table_of connection_count c.args.table.now) c.args.q).name) _ (room_as _ _ e _ _ c.requires.2)

pub put_printed-requires : goal.put_printed-requires
put_printed-requires c =
    let e = name_is (table_of connection_count c.args.table.now) c.args.c c.args.q _ _ c.able_at.ensures c.has.ensures _ c.name_at.ensures c.if-has.true in
    room_then _ (text " ") (printed c.name_at.result.now) _ _ _ c.put-place.ensures (room_as _ _ e _ _ c.requires.2)

pub returns-then-has : goal.returns-then-has
returns-then-has c =
    let e = name_is (table_of connection_count c.args.table.now) c.args.c c.args.q _ _ c.able_at.ensures c.has.ensures _ c.name_at.ensures c.if-has.true in
    laid_as _ _ e _ _ _ _ (laid_then _ (text " ") _ _ _ _ c.put-place.ensures _ _ c.put_printed.ensures)

pub returns-else-has : goal.returns-else-has
returns-else-has c =
    laid_as _ _ (name_none (table_of connection_count c.args.table.now) c.args.c c.args.q _ _ c.able_at.ensures c.has.ensures c.if-has.false) _ _ _ _ (laid_none _ _)

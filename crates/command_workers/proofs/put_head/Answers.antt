-- `command_workers::put_head` meets its contract: the number, `-`, the id and a colon, with a space between each two. Assumes nothing.
use mathlib.Core.Path.{refl}
use mathlib.Core.List.{◌++◌}
use Rattle.octets.specs.Bytes.{text}
use Rattle.octets.proofs.Runs.{laid_as, laid_then, laid_third, room_as, room_first, room_second, room_then, room_third}
use Rattle.handle.specs.Handle.{decimal}
use Rattle.prints.specs.Printed.{printed_or}
use Rattle.server.specs.Sizes.{connection_count}
use Rattle.server.specs.Table.{id_at}
use Rattle.server.specs.Layout.{table_of}
use Rattle.command_workers.proofs.Lines.{head_is}
use Rattle.command_workers.proofs.put_head.Goals as goal

pub put_number-address-requires : goal.put_number-address-requires
put_number-address-requires c =
    let z = printed_or (text "-") (id_at (table_of connection_count c.args.table.now) c.args.c) in
    let e = head_is (table_of connection_count c.args.table.now) c.args.c (id_at (table_of connection_count c.args.table.now) c.args.c) refl in
    room_first _ (decimal c.args.c) ((text " - ") ++ (z ++ (text " :"))) _ (room_as _ _ e _ _ c.requires.2)

pub put-id-requires : goal.put-id-requires
put-id-requires c =
    let z = printed_or (text "-") (id_at (table_of connection_count c.args.table.now) c.args.c) in
    let e = head_is (table_of connection_count c.args.table.now) c.args.c (id_at (table_of connection_count c.args.table.now) c.args.c) refl in
    room_second _ (decimal c.args.c) (text " - ") (z ++ (text " :")) _ _ _ c.put_number-address.ensures (room_as _ _ e _ _ c.requires.2)

pub put_printed_or-colon-requires : goal.put_printed_or-colon-requires
put_printed_or-colon-requires c =
    let z = printed_or (text "-") c.id_at.result.now in
    let e = head_is (table_of connection_count c.args.table.now) c.args.c c.id_at.result.now c.id_at.ensures in
    room_first _ z (text " :") _ (room_third _ (decimal c.args.c) (text " - ") (z ++ (text " :")) _ _ _ c.put_number-address.ensures _ _ c.put-id.ensures (room_as _ _ e _ _ c.requires.2))

pub put-requires : goal.put-requires
put-requires c =
    let z = printed_or (text "-") c.id_at.result.now in
    let e = head_is (table_of connection_count c.args.table.now) c.args.c c.id_at.result.now c.id_at.ensures in
    room_then _ z (text " :") _ _ _ c.put_printed_or-colon.ensures (room_third _ (decimal c.args.c) (text " - ") (z ++ (text " :")) _ _ _ c.put_number-address.ensures _ _ c.put-id.ensures (room_as _ _ e _ _ c.requires.2))

pub returns : goal.returns
returns c =
    let z = printed_or (text "-") c.id_at.result.now in
    let e = head_is (table_of connection_count c.args.table.now) c.args.c c.id_at.result.now c.id_at.ensures in
    laid_as _ _ e _ _ _ _ (laid_third _ (decimal c.args.c) (text " - ") (z ++ (text " :")) _ _ _ c.put_number-address.ensures _ _ c.put-id.ensures _ _ (laid_then _ z (text " :") _ _ _ c.put_printed_or-colon.ensures _ _ c.put.ensures))

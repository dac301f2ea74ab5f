-- `command_text::put_text` meets its contract: each command has its answer, and every other line `ERR unknown`. Assumes nothing.
use Rattle.octets.proofs.Runs.{laid_as, room_as}
use Rattle.server.specs.Sizes.{connection_count}
use Rattle.server.specs.Layout.{table_of}
use Rattle.command_text.proofs.Answers.{status_here, unknown_here, version_here, workers_here}
use Rattle.command_text.proofs.put_text.Goals as goal

pub put_status-requires : goal.put_status-requires
put_status-requires c =
    let e = status_here c.args.line.now (table_of connection_count c.args.table.now) _ c.is_command.ensures c.if-is_command.true in
    (c.requires.0, c.requires.1, room_as _ _ e _ _ c.requires.2)

pub returns-then-is_command : goal.returns-then-is_command
returns-then-is_command c =
    let e = status_here c.args.line.now (table_of connection_count c.args.table.now) _ c.is_command.ensures c.if-is_command.true in
    laid_as _ _ e _ _ _ _ c.put_status.ensures

pub put_workers-requires : goal.put_workers-requires
put_workers-requires c =
    let e = workers_here c.args.line.now (table_of connection_count c.args.table.now) _ c.is_command.ensures c.if-is_command.false _ c.is_command-2.ensures c.if-is_command-2.true in
    (c.requires.0, room_as _ _ e _ _ c.requires.2)

pub returns-then-is_command-2 : goal.returns-then-is_command-2
returns-then-is_command-2 c =
    let e = workers_here c.args.line.now (table_of connection_count c.args.table.now) _ c.is_command.ensures c.if-is_command.false _ c.is_command-2.ensures c.if-is_command-2.true in
    laid_as _ _ e _ _ _ _ c.put_workers.ensures

pub put-requires : goal.put-requires
put-requires c =
    let e = version_here c.args.line.now (table_of connection_count c.args.table.now) _ c.is_command.ensures c.if-is_command.false _ c.is_command-2.ensures c.if-is_command-2.false _ c.is_command-3.ensures c.if-is_command-3.true in
    room_as _ _ e _ _ c.requires.2

pub returns-then-is_command-3 : goal.returns-then-is_command-3
returns-then-is_command-3 c =
    let e = version_here c.args.line.now (table_of connection_count c.args.table.now) _ c.is_command.ensures c.if-is_command.false _ c.is_command-2.ensures c.if-is_command-2.false _ c.is_command-3.ensures c.if-is_command-3.true in
    laid_as _ _ e _ _ _ _ c.put.ensures

pub put-requires-2 : goal.put-requires-2
put-requires-2 c =
    let e = unknown_here c.args.line.now (table_of connection_count c.args.table.now) _ c.is_command.ensures c.if-is_command.false _ c.is_command-2.ensures c.if-is_command-2.false _ c.is_command-3.ensures c.if-is_command-3.false in
    room_as _ _ e _ _ c.requires.2

pub returns : goal.returns
returns c =
    let e = unknown_here c.args.line.now (table_of connection_count c.args.table.now) _ c.is_command.ensures c.if-is_command.false _ c.is_command-2.ensures c.if-is_command-2.false _ c.is_command-3.ensures c.if-is_command-3.false in
    laid_as _ _ e _ _ _ _ c.put-2.ensures

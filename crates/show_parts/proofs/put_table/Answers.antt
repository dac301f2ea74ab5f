-- `show_parts::put_table` meets its contract: nothing after 1 and 16, or the sleepers and the jobs concerned. Assumes nothing.
use Rattle.capture.specs.Frames.{event_of}
use Rattle.capture.specs.Packets.{packets_in}
use Rattle.show_parts.specs.Parts.{jobs_after}
use Rattle.show_table.specs.Standing.{sleepers_text}
use Rattle.octets.proofs.Runs.{laid_as, laid_none, laid_then, room_as, room_first, room_then}
use Rattle.show_parts.proofs.Laid.{no_table, table_stands, unseen}
use Rattle.server.specs.Sizes.{connection_count}
use Rattle.show_parts.proofs.put_table.Goals as goal

pub returns-then-number-eq1 : goal.returns-then-number-eq1
returns-then-number-eq1 c = laid_as _ _ (no_table _ _ _ _ _ c.if-number-eq1.true) _ _ _ _ (laid_none _ _)

pub returns-then-number-eq16 : goal.returns-then-number-eq16
returns-then-number-eq16 c = laid_as _ _ (unseen _ _ _ _ _ c.if-number-eq16.true) _ _ _ _ (laid_none _ _)

pub hub_of-hub-requires : goal.hub_of-hub-requires
hub_of-hub-requires c = (c.requires.2 c.if-number-eq1.false c.if-number-eq16.false).0

pub read_values-values-requires : goal.read_values-values-requires
read_values-values-requires c = (c.requires.2 c.if-number-eq1.false c.if-number-eq16.false).0

pub put_sleepers-place-requires : goal.put_sleepers-place-requires
put_sleepers-place-requires c =
    room_first _ (sleepers_text connection_count c.read_values-values.result.connections) (jobs_after c.hub_of-hub.result.now (event_of c.args.frame c.args.bytes.now) (packets_in c.args.sent.now) c.args.number c.args.before c.read_values-values.result.rows) _ (room_as _ _ (table_stands _ _ _ _ _ c.if-number-eq1.false c.if-number-eq16.false _ c.hub_of-hub.ensures _ c.read_values-values.ensures) _ _ c.requires.3)

pub put_jobs-requires : goal.put_jobs-requires
put_jobs-requires c =
    let room = room_as _ _ (table_stands _ _ _ _ _ c.if-number-eq1.false c.if-number-eq16.false _ c.hub_of-hub.ensures _ c.read_values-values.ensures) _ _ c.requires.3 in
    (c.requires.0, c.requires.1, rw c.hub_of-hub.ensures (c.requires.2 c.if-number-eq1.false c.if-number-eq16.false).1, room_then _ _ (jobs_after c.hub_of-hub.result.now (event_of c.args.frame c.args.bytes.now) (packets_in c.args.sent.now) c.args.number c.args.before c.read_values-values.result.rows) _ _ _ c.put_sleepers-place.ensures room)

pub returns : goal.returns
returns c = laid_as _ _ (table_stands _ _ _ _ _ c.if-number-eq1.false c.if-number-eq16.false _ c.hub_of-hub.ensures _ c.read_values-values.ensures) _ _ _ _ (laid_then _ _ _ _ _ _ c.put_sleepers-place.ensures _ _ c.put_jobs.ensures)

-- `packet_read::read_side` meets its contract: the header's refusal, or what the body of a packet of its type says. Assumes nothing.
use Rattle.std.proofs.lemmas.Result.{err_from_is_err_and}
use Rattle.packet.specs.Packet.{direction_of}
use Rattle.packet.proofs.Sides.{side_most}
use Rattle.packet_read.proofs.Reading.{good_length, data_short, read_refused, read_good}
use Rattle.packet_read.proofs.read_side.Goals as goal

pub returns-in_err-kind : goal.returns-in_err-kind
returns-in_err-kind c =
    let p = err_from_is_err_and c.from_residual.result c.from_residual.ensures.1 in
    rw (p.1, p.2) (read_refused (direction_of c.args.side) _ _ c.in_err-kind.ensures)

pub slice_bounds-read_body-count : goal.slice_bounds-read_body-count
slice_bounds-read_body-count c = (good_length _ _ _ _ c.in_ok-kind.ensures).0

pub slice_bounds-read_body-start : goal.slice_bounds-read_body-start
slice_bounds-read_body-start c = (good_length _ _ _ _ c.in_ok-kind.ensures).0

pub read_body-requires : goal.read_body-requires
read_body-requires c = data_short _ _ _ _ (side_most c.args.side) c.in_ok-kind.ensures

pub returns : goal.returns
returns c = read_good (direction_of c.args.side) _ _ _ _ c.in_ok-kind.ensures c.shape_of.ensures c.read_body.ensures

-- `prints::put_number` meets its contract: the digits that were laid over ten zeros are the front of them. Assumes nothing.
use Rattle.octets.proofs.Runs.{laid_as, room_as}
use Rattle.prints.proofs.Digits.{digits_count, digits_part}
use Rattle.prints.proofs.put_number.Goals as goal

pub slice_bounds-put-end : goal.slice_bounds-put-end
slice_bounds-put-end c = digits_count _ c.args.number _ c.put_digits-count.ensures.2 c.put_digits-count.ensures.0

pub put-requires : goal.put-requires
put-requires c = room_as _ _ (digits_part _ c.args.number _ c.put_digits-count.ensures.2 c.put_digits-count.ensures.0) _ _ c.requires

pub returns : goal.returns
returns c = laid_as _ _ (digits_part _ c.args.number _ c.put_digits-count.ensures.2 c.put_digits-count.ensures.0) _ _ _ _ c.put.ensures

-- `show_names::put_word` meets its contract: the part before the first zero byte is the word. Assumes nothing.
use mathlib.Core.Path.{sym}
use lib.Seq.{length-take-le}
use Rattle.octets.proofs.Runs.{laid_as, room_as}
use Rattle.show_names.proofs.Words.{word_part}
use Rattle.show_names.proofs.put_word.Goals as goal

pub slice_bounds-put-end : goal.slice_bounds-put-end
slice_bounds-put-end c = sym (length-take-le _ _ c.first_zero-size.ensures.1)

pub put-requires : goal.put-requires
put-requires c = room_as _ _ (word_part _ _ c.first_zero-size.ensures.0) _ _ c.requires

pub returns : goal.returns
returns c = laid_as _ _ (word_part _ _ c.first_zero-size.ensures.0) _ _ _ _ c.put.ensures

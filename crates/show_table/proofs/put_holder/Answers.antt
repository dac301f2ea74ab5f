-- `show_table::put_holder` meets its contract: the word, and ` none` for 0, else the number before it. Assumes nothing.
use Prim.Native.Nat.{◌-◌}
use mathlib.Core.List.{◌++◌}
use Rattle.handle.specs.Handle.{decimal}
use Rattle.show_names.specs.Names.{space}
use Rattle.octets.proofs.Runs.{laid_as, laid_then, room_as, room_first, room_then}
use Rattle.show_table.specs.Standing.{holder_word, none_word}
use Rattle.show_table.proofs.Jobs.{holder_none, holder_some}
use Rattle.show_table.proofs.put_holder.Goals as goal

pub put-requires : goal.put-requires
put-requires c = room_as (holder_word ++ none_word) _ (holder_none _ c.if-holder-eq0.true) _ _ c.requires

pub returns-then-holder-eq0 : goal.returns-then-holder-eq0
returns-then-holder-eq0 c = laid_as (holder_word ++ none_word) _ (holder_none _ c.if-holder-eq0.true) _ _ _ _ c.put.ensures

pub put-place-requires : goal.put-place-requires
put-place-requires c =
    room_first _ (holder_word ++ space) (decimal (c.args.holder - 1)) _ (room_as _ _ (holder_some _ c.if-holder-eq0.false) _ _ c.requires)

pub put_number-requires : goal.put_number-requires
put_number-requires c =
    room_then _ (holder_word ++ space) (decimal (c.args.holder - 1)) _ _ _ c.put-place.ensures (room_as _ _ (holder_some _ c.if-holder-eq0.false) _ _ c.requires)

pub returns : goal.returns
returns c =
    laid_as _ _ (holder_some _ c.if-holder-eq0.false) _ _ _ _ (laid_then _ (holder_word ++ space) (decimal (c.args.holder - 1)) _ _ _ c.put-place.ensures _ _ c.put_number.ensures)

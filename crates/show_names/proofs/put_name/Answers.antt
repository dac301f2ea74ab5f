-- `show_names::put_name` meets its contract: the number where there is no name, else the word of the name's row. Assumes nothing.
use mathlib.Core.Path.{ap, ◌∙◌}
use Rattle.show_names.specs.Names.{word}
use Rattle.octets.proofs.Runs.{laid_as, room_as}
use Rattle.show_names.proofs.Words.{name_word, type_high, type_low, type_named}
use Rattle.show_names.proofs.put_name.Goals as goal

pub put_type-requires : goal.put_type-requires
put_type-requires c =
    room_as _ _ (type_low c.args.kind c.if-kind-lt1.true) _ _ c.requires

pub returns-then-kind-lt1 : goal.returns-then-kind-lt1
returns-then-kind-lt1 c = laid_as _ _ (type_low c.args.kind c.if-kind-lt1.true) _ _ _ _ c.put_type.ensures

pub put_type-requires-then-kind-gt36 : goal.put_type-requires-then-kind-gt36
put_type-requires-then-kind-gt36 c =
    room_as _ _ (type_high c.args.kind c.if-kind-gt36.true) _ _ c.requires

pub returns-then-kind-gt36 : goal.returns-then-kind-gt36
returns-then-kind-gt36 c = laid_as _ _ (type_high c.args.kind c.if-kind-gt36.true) _ _ _ _ c.put_type-then-kind-gt36.ensures

pub put_word-requires : goal.put_word-requires
put_word-requires c =
    room_as _ _ (ap word c.name_row-row.ensures ∙ name_word c.args.kind ∙ type_named c.args.kind c.if-kind-lt1.false c.if-kind-gt36.false) _ _ c.requires

pub returns : goal.returns
returns c =
    laid_as _ _ (ap word c.name_row-row.ensures ∙ name_word c.args.kind ∙ type_named c.args.kind c.if-kind-lt1.false c.if-kind-gt36.false) _ _ _ _ c.put_word.ensures

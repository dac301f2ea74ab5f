-- `check_table::texts_hold` meets its contract. Part by part; where one fails, so do all. Assumes nothing.
use Rattle.std.proofs.Common.{refl, ◌≡◌, ◌∙◌, ◌&&◌}
use Rattle.server.specs.Sizes.{connection_count}
use Rattle.server.specs.Layout.{table_of}
use Rattle.server.specs.Rules.{sizes_within, functions_distinct, uniques_distinct}
use Rattle.check_texts.specs.Stored.{stored_rules}
use Rattle.check_table.specs.Parts.{text_rules}
use Rattle.check_table.proofs.Chains.{held, failed, of_four}
use Rattle.check_table.proofs.texts_hold.Goals as goal
use Rattle.check_table.proofs.texts_hold.Goals.{then-stored_hold, else-stored_hold, then-sizes_hold, else-sizes_hold}

pub returns-then-names_hold : goal.returns-then-names_hold
unfolding text_rules
returns-then-names_hold c =
    let t = table_of connection_count c.args.table.now in
    let first : c.if-stored_hold.value ≡ stored_rules c.args.table.now && sizes_within t =
    elim c.if-stored_hold.branch [ then-stored_hold w ↦ held w.value-is w.if-stored_hold.true c.stored_hold.ensures w.sizes_hold.ensures | else-stored_hold w ↦ failed _ w.value-is w.if-stored_hold.false c.stored_hold.ensures ] in
    let second : c.if-sizes_hold.value ≡ (stored_rules c.args.table.now && sizes_within t) && functions_distinct t =
    elim c.if-sizes_hold.branch [ then-sizes_hold w ↦ held w.value-is w.if-sizes_hold.true first w.names_hold.ensures | else-sizes_hold w ↦ failed _ w.value-is w.if-sizes_hold.false first ] in
    held refl c.if-names_hold.true second c.uniques_hold.ensures ∙ of_four (stored_rules c.args.table.now) (sizes_within t) (functions_distinct t) (uniques_distinct t)

pub returns-else-names_hold : goal.returns-else-names_hold
unfolding text_rules
returns-else-names_hold c =
    let t = table_of connection_count c.args.table.now in
    let first : c.if-stored_hold.value ≡ stored_rules c.args.table.now && sizes_within t =
    elim c.if-stored_hold.branch [ then-stored_hold w ↦ held w.value-is w.if-stored_hold.true c.stored_hold.ensures w.sizes_hold.ensures | else-stored_hold w ↦ failed _ w.value-is w.if-stored_hold.false c.stored_hold.ensures ] in
    let second : c.if-sizes_hold.value ≡ (stored_rules c.args.table.now && sizes_within t) && functions_distinct t =
    elim c.if-sizes_hold.branch [ then-sizes_hold w ↦ held w.value-is w.if-sizes_hold.true first w.names_hold.ensures | else-sizes_hold w ↦ failed _ w.value-is w.if-sizes_hold.false first ] in
    failed _ refl c.if-names_hold.false second ∙ of_four (stored_rules c.args.table.now) (sizes_within t) (functions_distinct t) (uniques_distinct t)

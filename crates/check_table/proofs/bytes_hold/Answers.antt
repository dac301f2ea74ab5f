-- `check_table::bytes_hold` meets its contract. Part by part; where one fails, so do all. Assumes nothing.
use Rattle.std.proofs.Common.{refl, ◌≡◌, ◌∙◌, ◌&&◌, ◌*◌}
use Rattle.server.specs.Sizes.{connection_count, function_count, job_count, name_size, unique_size}
use Rattle.server.specs.Layout.{backgrounds_at, names_at, opened_at, uniques_at}
use Rattle.table_laws.specs.Tests.{are_flags, are_padded}
use Rattle.table_passes.proofs.Tests.{and_same}
use Rattle.check_ids.specs.Ids.{id_rules}
use Rattle.check_hub.specs.Hub.{hub_rules}
use Rattle.check_table.specs.Parts.{byte_rules}
use Rattle.check_table.proofs.Chains.{held, failed, of_four}
use Rattle.check_table.proofs.bytes_hold.Goals as goal
use Rattle.check_table.proofs.bytes_hold.Goals.{then-flags, else-flags, then-names_padded, else-names_padded}

pub returns-then-uniques_padded : goal.returns-then-uniques_padded
unfolding byte_rules
returns-then-uniques_padded c =
    let b = c.args.table.now in
    let first : c.if-flags.value ≡ (are_flags job_count b backgrounds_at && are_flags (3 * connection_count) b (opened_at connection_count)) && are_padded name_size function_count b names_at =
    elim c.if-flags.branch [ then-flags w ↦ held w.value-is w.if-flags.true (and_same c.flags.ensures c.flags-2.ensures) w.names_padded.ensures | else-flags w ↦ failed _ w.value-is w.if-flags.false (and_same c.flags.ensures c.flags-2.ensures) ] in
    let second : c.if-names_padded.value ≡ ((are_flags job_count b backgrounds_at && are_flags (3 * connection_count) b (opened_at connection_count)) && are_padded name_size function_count b names_at) && are_padded unique_size job_count b uniques_at =
    elim c.if-names_padded.branch [ then-names_padded w ↦ held w.value-is w.if-names_padded.true first w.uniques_padded.ensures | else-names_padded w ↦ failed _ w.value-is w.if-names_padded.false first ] in
    held refl c.if-uniques_padded.true second (and_same c.ids_hold.ensures c.hub_holds.ensures) ∙ of_four ((are_flags job_count b backgrounds_at && are_flags (3 * connection_count) b (opened_at connection_count))) (are_padded name_size function_count b names_at) (are_padded unique_size job_count b uniques_at) (id_rules b && hub_rules b)

pub returns-else-uniques_padded : goal.returns-else-uniques_padded
unfolding byte_rules
returns-else-uniques_padded c =
    let b = c.args.table.now in
    let first : c.if-flags.value ≡ (are_flags job_count b backgrounds_at && are_flags (3 * connection_count) b (opened_at connection_count)) && are_padded name_size function_count b names_at =
    elim c.if-flags.branch [ then-flags w ↦ held w.value-is w.if-flags.true (and_same c.flags.ensures c.flags-2.ensures) w.names_padded.ensures | else-flags w ↦ failed _ w.value-is w.if-flags.false (and_same c.flags.ensures c.flags-2.ensures) ] in
    let second : c.if-names_padded.value ≡ ((are_flags job_count b backgrounds_at && are_flags (3 * connection_count) b (opened_at connection_count)) && are_padded name_size function_count b names_at) && are_padded unique_size job_count b uniques_at =
    elim c.if-names_padded.branch [ then-names_padded w ↦ held w.value-is w.if-names_padded.true first w.uniques_padded.ensures | else-names_padded w ↦ failed _ w.value-is w.if-names_padded.false first ] in
    failed _ refl c.if-uniques_padded.false second ∙ of_four ((are_flags job_count b backgrounds_at && are_flags (3 * connection_count) b (opened_at connection_count))) (are_padded name_size function_count b names_at) (are_padded unique_size job_count b uniques_at) (id_rules b && hub_rules b)

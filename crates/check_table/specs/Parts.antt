-- The parts of the check that no crate below has as its own. Assumes nothing.
use Rattle.std.specs.Prelude.{◌*◌, Bool, ◌&&◌}
use Rattle.octets.specs.Bytes.{Bytes}
use Rattle.server.specs.Sizes.{connection_count, function_count, job_count, name_size, unique_size}
use Rattle.server.specs.Layout.{table_of, backgrounds_at, names_at, uniques_at, opened_at}
use Rattle.server.specs.Rules.{sizes_within, functions_distinct, uniques_distinct}
use Rattle.table_laws.specs.Tests.{are_flags, are_padded}
use Rattle.check_texts.specs.Stored.{stored_rules}
use Rattle.check_ids.specs.Ids.{id_rules}
use Rattle.check_hub.specs.Hub.{hub_rules}

-- each flag is 0 or 1, zeros follow each name and unique, and the rules of ids and of the hub's name
unfoldable pub byte_rules : Bytes → Bool
byte_rules b = (are_flags job_count b backgrounds_at && are_flags (3 * connection_count) b (opened_at connection_count)) && (are_padded name_size function_count b names_at && (are_padded unique_size job_count b uniques_at && (id_rules b && hub_rules b)))

-- the rules that read texts
unfoldable pub text_rules : Bytes → Bool
text_rules b = let t = table_of connection_count b in stored_rules b && (sizes_within t && (functions_distinct t && uniques_distinct t))

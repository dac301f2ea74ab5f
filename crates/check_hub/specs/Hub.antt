-- The rules of the hub's name. Assumes nothing.
use Rattle.std.specs.Prelude.{Bool, ◌&&◌}
use Rattle.octets.specs.Bytes.{Bytes}
use Rattle.server.specs.Sizes.{connection_count, hub_size}
use Rattle.server.specs.Layout.{table_of, hub_at}
use Rattle.server.specs.Rules.{hub_named}
use Rattle.table_laws.specs.Tests.{is_padded}

-- zeros follow it, and it is one
unfoldable pub hub_rules : Bytes → Bool
hub_rules b = is_padded hub_size b hub_at && hub_named (table_of connection_count b)

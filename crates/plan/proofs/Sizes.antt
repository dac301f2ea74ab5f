-- How many connections and rows the numbers of a lent table have. Assumes nothing.
use mathlib.Core.Path.{◌≡◌, refl}
use lib.ListN.{length}
use Rattle.octets.specs.Bytes.{Bytes}
use Rattle.server.specs.Sizes.{connection_count}
use Rattle.server.specs.Layout.{table_of}
use Rattle.plan.specs.Values.{values_of}

module _ (b : Bytes) where
  pub connections_long : length (values_of (table_of connection_count b)).connections ≡ connection_count
  unfolding values_of table_of
  connections_long = refl

  pub rows_long : length (values_of (table_of connection_count b)).rows ≡ 32
  unfolding values_of table_of
  rows_long = refl

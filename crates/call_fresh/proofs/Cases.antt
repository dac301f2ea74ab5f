-- Making a table, by cases: a buffer is too short, there is no name, or both buffers are set to zeros and the name is laid. Assumes nothing.
use Prim.Native.Nat.{◌<◌, ◌≤◌}
use mathlib.Core.Path.{◌≡◌, sym, ap, ◌∙◌}
use mathlib.Core.Bool.{Bool, true, false, not}
use native.Mathlib.Omega.{arith}
use borrow.Author.Tests.{lt-ltb, le-ltb, not-true, not-false}
use lib.ListN.{length}
use Rattle.octets.specs.Bytes.{Bytes}
use Rattle.octets.specs.Put.{put}
use Rattle.lists.specs.Lists.{fit}
use Rattle.handle.specs.Handle.{is_hub_name}
use Rattle.handle.proofs.Hubs.{hub_most_lem}
use Rattle.server.specs.Sizes.{connection_count, workloads_size, hub_size}
use Rattle.server.specs.Layout.{table_size, hub_at}
use Rattle.server.specs.Call.{make, made}
use Rattle.table_texts.specs.Places.{zeros}
use Rattle.call_fresh.proofs.Zeros.{fresh_laid}

module _ (hub t w : Bytes) where
  pub short_table : length t < table_size connection_count → made 1 t w ≡ make connection_count hub t w
  unfolding make
  short_table h = rw (lt-ltb (length t) (table_size connection_count) h)

  pub short_workloads : table_size connection_count ≤ length t → length w < workloads_size → made 1 t w ≡ make connection_count hub t w
  unfolding make
  short_workloads g h = rw (le-ltb (length t) (table_size connection_count) g, lt-ltb (length w) workloads_size h)

  module _ (b : Bool) (e : b ≡ is_hub_name hub) where
    pub no_name : table_size connection_count ≤ length t → workloads_size ≤ length w → not b ≡ true → made 1 t w ≡ make connection_count hub t w
    unfolding make
    no_name g h n = rw (le-ltb (length t) (table_size connection_count) g, le-ltb (length w) workloads_size h, sym e ∙ not-true b n)

    module _ (n : not b ≡ false) where
      good : is_hub_name hub ≡ true
      good = sym e ∙ not-false b n

      pub name_short : length hub ≤ hub_size
      name_short = omega (arith, hub_most_lem hub good)

      pub made_fresh : (x y z : Bytes) → table_size connection_count ≤ length t → workloads_size ≤ length w
          → x ≡ put 0 (zeros (table_size connection_count)) t → y ≡ put hub_at (fit hub_size hub) x → z ≡ put 0 (zeros workloads_size) w → made 0 y z ≡ make connection_count hub t w
      unfolding make zeros
      made_fresh x y z g h ex ey ez =
          rw (le-ltb (length t) (table_size connection_count) g, le-ltb (length w) workloads_size h, good, ez, ey ∙ ap (put hub_at (fit hub_size hub)) ex ∙ fresh_laid connection_count hub t)

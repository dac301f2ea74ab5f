-- The workloads after one changed submission: whatever calls follow, the lent bytes hold servers with equal tables, whose workloads
-- agree at every place but that of the submission's own job. Assumes nothing.
use Prim.Native.Nat.{ℕ, ◌≤◌}
use mathlib.Core.Path.{◌≡◌, ap₂, ◌∙◌}
use mathlib.Core.List.{List, [], ◌∷◌}
use lib.ListN.{length}
use Rattle.octets.specs.Bytes.{Bytes}
use Rattle.server.specs.Sizes.{workloads_size}
use Rattle.server.specs.Requests.{Event}
use Rattle.server.specs.Server.{Server, next, after}
use Rattle.server.specs.Layout.{table_size}
use Rattle.server.specs.Call.{server_in}
use Rattle.server_laws.proofs.Serials.{Creates, Creation, nothing, one, creation}
use Rattle.server_laws.proofs.Kept.{throughout}
use Rattle.server_calls.specs.History.{Call, Memory, events, leaves}
use Rattle.server_calls.proofs.Follows.{table_with, workloads_with, Running, running_next, server_back}
use Rattle.server_calls.proofs.Histories.{LongOutputs, calls_follow}
use Rattle.server_blind.proofs.Alike.{Alike}
use Rattle.server_blind.proofs.Lone.{makes_apart}
use Rattle.server_blind.proofs.Workloads.{Apart, next_apart}

-- the server that two kept buffers hold
abbrev pub server_of : ℕ → Memory → Server
server_of n m = server_in n m.table m.workloads

-- ---- the servers

module _ {e f : Event} (a : Alike e f) (s : Server) where
  pub created_apart : (k : ℕ) → Creates s e k → Apart k (next e s) (next f s)
  created_apart k c = by (creation s e)
    where
      by : Creation s e → Apart k (next e s) (next f s)
      by (nothing m z) = absurd (z k c)
      by (one x i m d g) = rw (g k c).is (makes_apart a s x m)

after_apart : (k : ℕ) (es : List Event) (s r : Server) → Apart k s r → Apart k (after s es) (after r es)
unfolding after
after_apart k [] s r a = a
after_apart k (e ∷ es) s r a = after_apart k es (next e s) (next e r) (next_apart k e s r a)

-- ---- the lent bytes

module _ (n : ℕ) (few : n ≤ 256) (t w : Bytes) (long_table : table_size n ≤ length t) (long_workloads : workloads_size ≤ length w) where
  -- what calls leave of buffers that hold a server
  pub leaves_server : (xs : List Call) (s : Server) → Running n s → LongOutputs n xs → server_of n (leaves n xs (table_with s t) (workloads_with s w)) ≡ after s (events xs)
  leaves_server xs s h l =
      let f = calls_follow n few t w long_table long_workloads xs s h l in
      ap₂ (server_in n) f.table f.workloads
      ∙ server_back n few (after s (events xs)) (throughout (Running n) (running_next n) s (events xs) h) t w long_table long_workloads

  pub leaves_apart : (k : ℕ) (s r : Server) → Running n s → Running n r → Apart k s r → (xs ys : List Call) → events xs ≡ events ys → LongOutputs n xs → LongOutputs n ys
      → Apart k (server_of n (leaves n xs (table_with s t) (workloads_with s w))) (server_of n (leaves n ys (table_with r t) (workloads_with r w)))
  leaves_apart k s r h g a xs ys q l m = rw (leaves_server xs s h l, leaves_server ys r g m, q) (after_apart k (events ys) s r a)

-- Each call of a history answers and leaves what the server of the definitions does. Assumes nothing.
use Prim.Native.Nat.{ℕ, ◌≤◌}
use mathlib.Core.Path.{◌≡◌, refl, subst₂}
use mathlib.Core.List.{List, [], ◌∷◌}
use native.Mathlib.Omega.{arith}
use lib.ListN.{length}
use Rattle.octets.specs.Bytes.{Bytes}
use Rattle.octets.proofs.Strings.{and_left}
use Rattle.octets.proofs.Laying.{put_start}
use Rattle.lists.proofs.Cases.{All}
use Rattle.server.specs.Sizes.{workloads_size}
use Rattle.server.specs.Server.{Server, answer, next}
use Rattle.server.specs.Layout.{table_size, is_image}
use Rattle.server.specs.Call.{sent_bytes, server_in, is_sound, performed}
use Rattle.table_laws.proofs.Image.{image_back}
use Rattle.server_calls.specs.History.{Call, Memory, calls}
use Rattle.server_calls.proofs.Workloads.{own_places}
use Rattle.server_calls.proofs.Follows.{table_with, workloads_with, Running, running_next, call_follows}
use Rattle.server_calls.proofs.Output.{output_fits}
use Rattle.server_calls.proofs.Histories.{LongOutputs}
use Rattle.demands.specs.Hub.{Hub, Long, results_of, server_of}
use Rattle.demands.specs.Exact.{Exactly, Walk}
use Rattle.demands.proofs.Told.{told_performed}
use Rattle.demands.proofs.Hubs.{hub_runs}

module _ (n : ℕ) (few : n ≤ 256) (t w : Bytes) (lt : table_size n ≤ length t) (lw : workloads_size ≤ length w) where
  exactly : (s : Server) → Running n s → (x : Call) → Long n x → Exactly t w s x (performed x.event s t w x.output)
  unfolding performed
  exactly s h x l =
      let f = output_fits n few x.event s h in
      record {
        number = refl;
        length' = refl;
        output = put_start (sent_bytes (answer x.event s).sent) x.output (omega arith);
        table = refl;
        workloads = refl;
        packets = told_performed x.event s n few h t w x.output l;
      }

  -- calls on buffers that hold this server
  pub walk : (xs : List Call) (s : Server) → Running n s → LongOutputs n xs → Walk t w s xs (calls n xs (table_with s t) (workloads_with s w))
  unfolding calls performed
  walk [] s h All.none = Walk.ends
  walk (x ∷ xs) s h (All.more l ls) =
      rw (call_follows n few s h t w lt lw x.event x.output l) (Walk.goes (exactly s h x l) (walk xs (next x.event s) (running_next n x.event s h) ls))

-- a host's memory is its own server laid into it
module _ (n : ℕ) (m : Memory) (hub : Hub n m) where
  pub own_table : table_with (server_of n m) m.table ≡ m.table
  unfolding server_in is_sound
  own_table = image_back n m.table (and_left (is_image n m.table) _ hub.sound)

  pub own_workloads : workloads_with (server_of n m) m.workloads ≡ m.workloads
  unfolding server_in
  own_workloads = own_places 1024 m.workloads 32

  pub walk_hub : (xs : List Call) → LongOutputs n xs → Walk m.table m.workloads (server_of n m) xs (results_of n xs m)
  walk_hub xs l =
      subst₂ (λ (t w : Bytes). Walk m.table m.workloads (server_of n m) xs (calls n xs t w)) own_table own_workloads
      (walk n hub.few m.table m.workloads hub.long_table hub.long_workloads xs (server_of n m) (hub_runs n m hub) l)

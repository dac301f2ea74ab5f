-- A host's memory holds a running server; a call on it does what that server does, and leaves memory that holds the next one. So do any
-- calls, one after the other. Assumes nothing.
use Prim.Native.Nat.{ℕ, ◌≤◌}
use mathlib.Core.Path.{◌≡◌, refl, ap, sym, ◌∙◌, subst}
use mathlib.Core.Bool.{true}
use mathlib.Core.List.{List, [], ◌∷◌}
use native.Mathlib.Omega.{arith}
use borrow.Author.Tests.{le-ltb}
use lib.ListN.{length, replicate, length-replicate}
use Rattle.octets.specs.Bytes.{Bytes}
use Rattle.octets.proofs.Strings.{and_left, and_right}
use Rattle.octets.proofs.Laying.{length_put}
use Rattle.handle.specs.Handle.{is_hub_name}
use Rattle.lists.proofs.Cases.{All}
use Rattle.server.specs.Sizes.{workloads_size, output_size}
use Rattle.server.specs.Server.{Server, answer, next, start, after}
use Rattle.server.specs.Layout.{table_size, is_image}
use Rattle.server.specs.Call.{Result, Made, server_in, too_short, is_sound, performed, call}
use Rattle.server_calls.specs.History.{Call, Memory, events, leaves}
use Rattle.server_calls.proofs.Refusals.{Taken}
use Rattle.server_calls.proofs.EveryCall.{taken_running}
use Rattle.server_calls.proofs.Follows.{table_with, workloads_with, Running, running_next, sound_with, server_back}
use Rattle.server_calls.proofs.Histories.{LongOutputs, make_start, running_start}
use Rattle.demands.specs.Messages.{told, messages_of}
use Rattle.demands.specs.Hub.{Hub, Long, call_on, kept, after_calls, table_in, server_of, fresh_memory, Room}
use Rattle.demands.proofs.Told.{told_performed}

-- ---- memory that holds a running server

-- buffers that a running server is laid into
pub hub_with : (n : ℕ) → n ≤ 256 → (s : Server) → Running n s → (t w : Bytes) → table_size n ≤ length t → workloads_size ≤ length w
    → Hub n (record { table = table_with s t; workloads = workloads_with s w })
hub_with n few s h t w lt lw = record { few = few; long_table = rw length_put lt; long_workloads = rw length_put lw; sound = sound_with n few s h t lt }

-- a fresh table
pub hub_fresh : (n : ℕ) (name : Bytes) → is_hub_name name ≡ true → (t w : Bytes) → Room n t w → Hub n (fresh_memory n name t w)
hub_fresh n name good t w r =
    subst (λ (x : Made). Hub n (record { table = x.table; workloads = x.workloads })) (sym (make_start n name good t w r.long_table r.long_workloads))
    (hub_with n r.few (start n name) (running_start n name good) t w r.long_table r.long_workloads)

pub fresh_server : (n : ℕ) (name : Bytes) → is_hub_name name ≡ true → (t w : Bytes) → Room n t w → server_of n (fresh_memory n name t w) ≡ start n name
fresh_server n name good t w r =
    ap (λ (x : Made). server_in n x.table x.workloads) (make_start n name good t w r.long_table r.long_workloads)
    ∙ server_back n r.few (start n name) (running_start n name good) t w r.long_table r.long_workloads

module _ (n : ℕ) (m : Memory) (h : Hub n m) where
  hub_taken : (o : Bytes) → output_size n ≤ length o → Taken n m.table m.workloads o
  unfolding is_sound
  hub_taken o l =
      record {
        long_table = h.long_table;
        long_workloads = h.long_workloads;
        long_output = l;
        image = and_left (is_image n m.table) _ h.sound;
        rules = and_right (is_image n m.table) _ h.sound;
      }

  -- the server that it holds runs
  pub hub_runs : Running n (server_of n m)
  hub_runs = taken_running n m.table m.workloads (replicate (output_size n) 0) (hub_taken _ (rw (length-replicate {A = ℕ} (output_size n) 0) (omega arith)))

  -- ---- one call

  module _ (x : Call) (l : Long n x) where
    pub call_performed : call_on n m x ≡ performed x.event (server_of n m) m.table m.workloads x.output
    unfolding call too_short
    call_performed =
        rw (le-ltb (length m.table) (table_size n) h.long_table, le-ltb (length m.workloads) workloads_size h.long_workloads, le-ltb (length x.output) (output_size n) l, h.sound)

    pub call_number : (call_on n m x).number ≡ (answer x.event (server_of n m)).number
    unfolding performed
    call_number = ap (λ (r : Result). r.number) call_performed

    -- what it tells
    pub call_tells : told (call_on n m x) ≡ messages_of x.event (server_of n m)
    call_tells = ap told call_performed ∙ told_performed x.event (server_of n m) n h.few hub_runs m.table m.workloads x.output l

    next_kept : kept (call_on n m x) ≡ record { table = table_with (next x.event (server_of n m)) m.table; workloads = workloads_with (next x.event (server_of n m)) m.workloads }
    unfolding performed
    next_kept = ap kept call_performed

    -- what it leaves
    pub call_hub : Hub n (kept (call_on n m x))
    call_hub = rw next_kept (hub_with n h.few (next x.event (server_of n m)) (running_next n x.event (server_of n m) hub_runs) m.table m.workloads h.long_table h.long_workloads)

    pub call_next : server_of n (kept (call_on n m x)) ≡ next x.event (server_of n m)
    call_next =
        ap (server_of n) next_kept
        ∙ server_back n h.few (next x.event (server_of n m)) (running_next n x.event (server_of n m) hub_runs) m.table m.workloads h.long_table h.long_workloads

  -- the table alone
  pub table_in_lem : table_in n m ≡ (server_of n m).table
  unfolding server_in
  table_in_lem = refl

-- ---- any calls

module _ (n : ℕ) where
  pub calls_hub : (xs : List Call) (m : Memory) → Hub n m → LongOutputs n xs → Hub n (after_calls n xs m)
  unfolding leaves
  calls_hub [] m h All.none = h
  calls_hub (x ∷ xs) m h (All.more l ls) = calls_hub xs (kept (call_on n m x)) (call_hub n m h x l) ls

  pub calls_after : (xs : List Call) (m : Memory) → Hub n m → LongOutputs n xs → server_of n (after_calls n xs m) ≡ after (server_of n m) (events xs)
  unfolding leaves after
  calls_after [] m h All.none = refl
  calls_after (x ∷ xs) m h (All.more l ls) =
      calls_after xs (kept (call_on n m x)) (call_hub n m h x l) ls ∙ ap (λ (s : Server). after s (events xs)) (call_next n m h x l)

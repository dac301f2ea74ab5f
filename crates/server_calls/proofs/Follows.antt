-- A call on bytes that hold a server does what the server does: it answers the server's number and packets, and leaves bytes that
-- hold the next server. The bytes beyond the layout, and beyond the 32 workloads, stay as they were. Assumes nothing.
use Prim.Native.Nat.{ℕ, ◌*◌, ◌≤◌}
use mathlib.Core.Path.{◌≡◌, ap, ap₂, sym, ◌∙◌}
use mathlib.Core.Bool.{true, false}
use mathlib.Core.List.{List}
use native.Mathlib.Omega.{arith}
use borrow.Author.Tests.{le-ltb}
use lib.ListN.{length}
use Rattle.octets.specs.Bytes.{Bytes}
use Rattle.octets.specs.Put.{put}
use Rattle.octets.proofs.Laying.{length_put}
use Rattle.lists.specs.Lists.{concat}
use Rattle.server.specs.Sizes.{workloads_size, output_size}
use Rattle.server.specs.Table.{Table}
use Rattle.server.specs.Rules.{obeys}
use Rattle.server.specs.Requests.{Event}
use Rattle.server.specs.Server.{Server, next, answer}
use Rattle.server.specs.Layout.{table_size, bytes_of}
use Rattle.server.specs.Call.{Result, server_in, too_short, is_sound, sent_bytes, performed, call}
use Rattle.server_laws.proofs.Lengths.{Shaped, shaped_kept}
use Rattle.server_laws.proofs.Kept.{obeys_kept}
use Rattle.table_laws.proofs.Laid.{length_bytes}
use Rattle.table_laws.proofs.Round.{Fitting, table_put}
use Rattle.table_laws.proofs.Obeying.{obeys_fitting}
use Rattle.table_laws.proofs.Image.{image_put}
use Rattle.server_calls.proofs.Workloads.{places_back, length_concat, put_again}

-- the lent bytes with a server in them
abbrev pub table_with : Server → Bytes → Bytes
table_with s t = put 0 (bytes_of s.table) t

abbrev pub workloads_with : Server → Bytes → Bytes
workloads_with s w = put 0 (concat s.workloads) w

-- a server of n connections that obeys the table rules
pub record Running (n : ℕ) (s : Server) : Type 0 where
  pub shaped : Shaped n s
  pub rules : obeys s.table ≡ true

pub running_next : (n : ℕ) (e : Event) (s : Server) → Running n s → Running n (next e s)
unfolding next
running_next n e s h = record { shaped = shaped_kept n e s h.shaped; rules = obeys_kept e s h.rules }

module _ (n : ℕ) (few : n ≤ 256) where
  pub fitting : (s : Server) → Running n s → Fitting s.table
  fitting s h = obeys_fitting s.table h.shaped.functions h.shaped.jobs (h.shaped.ids ∙ sym h.shaped.connections) (omega (arith, h.shaped.connections)) h.rules

  pub length_table_lem : (s : Server) → Running n s → length (bytes_of s.table) ≡ table_size n
  length_table_lem s h = length_bytes s.table h.shaped.functions h.shaped.jobs (h.shaped.ids ∙ sym h.shaped.connections) ∙ ap table_size h.shaped.connections

  pub length_workloads_lem : (s : Server) → Running n s → length (concat s.workloads) ≡ workloads_size
  length_workloads_lem s h = length_concat 1024 s.workloads h.shaped.whole ∙ ap (λ (m : ℕ). 1024 * m) h.shaped.workloads

  pub sound_with : (s : Server) → Running n s → (t : Bytes) → table_size n ≤ length t → is_sound n (table_with s t) ≡ true
  unfolding is_sound
  sound_with s h t l = rw (image_put n s.table t (fitting s h) h.shaped.connections l, table_put n s.table t (fitting s h) h.shaped.connections l) h.rules

  module _ (s : Server) (h : Running n s) (t w : Bytes) (long_table : table_size n ≤ length t) (long_workloads : workloads_size ≤ length w) where
    -- the bytes hold this server
    pub server_back : server_in n (table_with s t) (workloads_with s w) ≡ s
    unfolding server_in
    server_back =
        ap₂ {C = Server} (λ (x : Table) (y : List Bytes). record { table = x; workloads = y })
        (table_put n s.table t (fitting s h) h.shaped.connections long_table)
        (places_back 1024 32 s.workloads w h.shaped.workloads h.shaped.whole long_workloads)

    long_with : (o : Bytes) → output_size n ≤ length o → too_short n (table_with s t) (workloads_with s w) o ≡ false
    unfolding too_short
    long_with o l =
        rw (length_put 0 (bytes_of s.table) t, length_put 0 (concat s.workloads) w, le-ltb (length t) (table_size n) long_table, le-ltb (length w) workloads_size long_workloads)
        (le-ltb (length o) (output_size n) l)

    module _ (e : Event) (o : Bytes) (long_output : output_size n ≤ length o) where
      follows : call n e (table_with s t) (workloads_with s w) o ≡ performed e s (table_with s t) (workloads_with s w) o
      unfolding call
      follows =
          rw (long_with o long_output, sound_with s h t long_table)
          (ap (λ (x : Server). performed e x (table_with s t) (workloads_with s w) o) server_back)

      -- the event is performed, and the next server is laid over the one before: nothing else of the buffers changes
      pub call_follows : call n e (table_with s t) (workloads_with s w) o ≡ performed e s t w o
      unfolding performed
      call_follows =
          let k = running_next n e s h in
          follows
          ∙ ap₂ {C = Result}
          (λ (x y : Bytes). record {
            number = (answer e s).number;
            length' = length (sent_bytes (answer e s).sent);
            output = put 0 (sent_bytes (answer e s).sent) o;
            table = x;
            workloads = y;
          })
          (put_again (bytes_of s.table) (bytes_of (next e s).table) t (omega (arith, length_table_lem s h, length_table_lem (next e s) k)))
          (put_again (concat s.workloads) (concat (next e s).workloads) w (omega (arith, length_workloads_lem s h, length_workloads_lem (next e s) k)))

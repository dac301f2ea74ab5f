-- Lines told one after the other, from a fresh table of any hub: what is said is what the server says to the frames among them, whatever
-- the words. Assumes nothing.
use Prim.Native.Nat.{ℕ, suc, ◌≤◌}
use mathlib.Core.Path.{◌≡◌, refl, sym, ap, ap₂, ◌∙◌}
use mathlib.Core.Bool.{true}
use Rattle.std.specs.Prelude.{Option, Some, None}
use mathlib.Core.List.{List, [], ◌∷◌, ◌++◌, map}
use native.Mathlib.Omega.{arith}
use borrow.Author.Tests.{le-ltb}
use lib.ListN.{length, take}
use lib.Seq.{take-append_seam}
use Rattle.octets.specs.Bytes.{Bytes}
use Rattle.octets.specs.Put.{put}
use Rattle.octets.proofs.Laying.{put_start, length_put}
use Rattle.handle.specs.Handle.{is_hub_name}
use Rattle.lists.specs.Lists.{concat}
use Rattle.server.specs.Sizes.{connection_count, workloads_size, output_size}
use Rattle.server.specs.Table.{Table}
use Rattle.server.specs.Rules.{hub_named}
use Rattle.server.specs.Requests.{Event}
use Rattle.server.specs.Server.{Server, addressed, next, answer, start}
use Rattle.server.specs.Layout.{table_size, table_of}
use Rattle.server.specs.Call.{Result, refused_by, sent_bytes, performed, Made, make}
use Rattle.server.specs.Replay.{frame, server_after}
use Rattle.server_laws.proofs.Obeyed.{obeyed}
use Rattle.table_laws.proofs.Round.{table_put}
use Rattle.server_calls.proofs.Output.{output_fits}
use Rattle.server_calls.proofs.Follows.{Running, table_with, workloads_with, running_next, fitting, call_follows}
use Rattle.server_calls.proofs.Histories.{running_start, make_start}
use Rattle.capture.specs.Packets.{Addressed}
use Rattle.capture.specs.Spoken.{Speech, Told, answered_to, packets_to, saying, told_of, told, said, spoken_to, spoken}
use Rattle.capture.proofs.Cutting.{packets_in_lem}
use Rattle.capture.proofs.Sent.{all_formed, output_packets}

-- ---- what is laid at the start of a buffer that has room

pub laid_start : (s b : Bytes) → length s ≤ length b → take (length s) (put 0 s b) ≡ s
laid_start s b h = ap (take (length s)) (put_start s b h) ∙ take-append_seam s _

-- ---- words that fit into a text: those of packets that fit into the output, at a table whose hub has a name

abbrev pub Fits : ℕ → Speech → Type 0
Fits room say =
    (f : Option Event) (ps : List Bytes) (n : ℕ) (u t : Table) → hub_named t ≡ true → Addressed ps → length (concat ps) ≤ output_size connection_count → length (say f ps n u t) ≤ room

running_named : (s : Server) → Running connection_count s → hub_named s.table ≡ true
running_named s h = (obeyed s.table h.rules).sound.named

-- ---- one frame

module _ (s : Server) (h : Running connection_count s) where
  module _ (e : Event) where
    sent_few : length (sent_bytes (answer e s).sent) ≤ output_size connection_count
    sent_few = output_fits connection_count (omega arith) e s h

    sent_addressed : Addressed (map addressed (answer e s).sent)
    unfolding sent_bytes
    sent_addressed = all_formed (answer e s).sent (omega (arith, sent_few))

  spoken_short : (room : ℕ) (say : Speech) → Fits room say → (f : Option Event) → length (spoken_to say f s) ≤ room
  unfolding sent_bytes
  spoken_short room say k None = k None [] 16 s.table s.table (running_named s h) tt (omega arith)
  spoken_short room say k (Some e) = k (Some e) _ _ _ _ (running_named (next e s) (running_next connection_count e s h)) (sent_addressed e) (sent_few e)

  pub running_after : (f : Option Event) → Running connection_count (server_after f s)
  running_after None = h
  running_after (Some e) = running_next connection_count e s h

  module _ (t w : Bytes) (lt : table_size connection_count ≤ length t) (lw : workloads_size ≤ length w) (o : Bytes) (lo : output_size connection_count ≤ length o) where
    -- answering sends the server's packets
    packets_sent_lem : (e : Event) → packets_to (Some e) (table_with s t) (workloads_with s w) o ≡ map addressed (answer e s).sent
    unfolding sent_bytes performed answered_to
    packets_sent_lem e =
        let q = call_follows connection_count (omega arith) s h t w lt lw e o lo in
        let b = sent_bytes (answer e s).sent in
        sym (output_packets (table_with s t) (workloads_with s w) o (Some e) (performed e s t w o) (sym q))
        ∙ packets_in_lem _ (map addressed (answer e s).sent) (sent_addressed e) (laid_start b o (omega (arith, sent_few e)))

    output_after : Option Event → Bytes
    output_after None = o
    output_after (Some e) = put 0 (sent_bytes (answer e s).sent) o

    long_after : (f : Option Event) → output_size connection_count ≤ length (output_after f)
    unfolding output_after
    long_after None = lo
    long_after (Some e) = rw length_put lo

    -- the bytes hold the table
    table_back : (f : Option Event) → table_of connection_count (table_with (server_after f s) t) ≡ (server_after f s).table
    table_back f =
        let g = server_after f s in
        let k = running_after f in
        table_put connection_count g.table t (fitting connection_count (omega arith) g k) k.shaped.connections lt

    -- what is told is what the server says, and it leaves bytes that hold the next server
    frame_follows : (say : Speech) (f : Option Event) (x : Bytes)
        → told_of say f (table_with s t) (workloads_with s w) o x
        ≡ saying (spoken_to say f s) x (output_after f) (table_with (server_after f s) t) (workloads_with (server_after f s) w)
    unfolding told_of output_after performed answered_to packets_to refused_by
    frame_follows say None x = ap (λ (u : Table). saying (say None [] 16 u u) x o (table_with s t) (workloads_with s w)) (table_back None)
    frame_follows say (Some e) x =
        let r = answered_to (Some e) (table_with s t) (workloads_with s w) o in
        let n = (answer e s).number in
        let b = table_of connection_count (table_with s t) in
        ap (λ (ps : List Bytes). saying (say (Some e) ps r.number b (table_of connection_count r.table)) x r.output r.table r.workloads) (packets_sent_lem e)
        ∙ ap (λ (z : Result). saying (say (Some e) (map addressed (answer e s).sent) z.number b (table_of connection_count z.table)) x z.output z.table z.workloads)
        (call_follows connection_count (omega arith) s h t w lt lw e o lo)
        ∙ ap₂ {C = Told} (λ (v u : Table). saying (say (Some e) (map addressed (answer e s).sent) n v u) x (output_after (Some e)) (table_with (next e s) t) (workloads_with (next e s) w))
        (table_back None) (table_back (Some e))

    line_follows : (room : ℕ) (say : Speech) (line x : Bytes) → room ≤ length x
        → told room say line (table_with s t) (workloads_with s w) o x
        ≡ saying (spoken_to say (frame line) s) x (output_after (frame line)) (table_with (server_after (frame line) s) t) (workloads_with (server_after (frame line) s) w)
    unfolding told
    line_follows room say line x lx = rw (le-ltb (length x) room lx) (frame_follows say (frame line) x)

-- ---- a whole text

module _ (room : ℕ) (says : ℕ → Speech) (fits : (k : ℕ) → Fits room (says k)) where
  module _ (t w : Bytes) (lt : table_size connection_count ≤ length t) (lw : workloads_size ≤ length w) where
    said_follows : (k : ℕ) (lines : List Bytes) (s : Server) → Running connection_count s → (o x : Bytes) → output_size connection_count ≤ length o → room ≤ length x
        → said room says k lines (table_with s t) (workloads_with s w) o x ≡ spoken says k lines s
    unfolding said spoken
    said_follows k [] s h o x lo lx = refl
    said_follows k (line ∷ lines) s h o x lo lx =
        let f = frame line in
        let l = spoken_to (says k) f s in
        ap (λ (r : Told). take r.length' r.text ++ said room says (suc k) lines r.table r.workloads r.output r.text)
        (line_follows s h t w lt lw o lo room (says k) line x lx)
        ∙ ap₂ {C = Bytes} (λ (a b : Bytes). a ++ b) (laid_start l x (omega (arith, spoken_short s h room (says k) (fits k) f)))
        (said_follows (suc k) lines (server_after f s) (running_after s h f) (output_after s h t w lt lw o lo f) (put 0 l x) (long_after s h t w lt lw o lo f) (rw length_put lx))

    -- from a fresh table of the hub of this name
    pub text_said : (hub : Bytes) → is_hub_name hub ≡ true → (k : ℕ) (lines : List Bytes) (o x : Bytes) → output_size connection_count ≤ length o → room ≤ length x
        → said room says k lines (make connection_count hub t w).table (make connection_count hub t w).workloads o x ≡ spoken says k lines (start connection_count hub)
    text_said hub good k lines o x lo lx =
        ap (λ (m : Made). said room says k lines m.table m.workloads o x) (make_start connection_count hub good t w lt lw)
        ∙ said_follows k lines (start connection_count hub) (running_start connection_count hub good) o x lo lx

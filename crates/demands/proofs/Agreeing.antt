-- Two histories that differ in opaque bytes alone agree in everything but opaque bytes, whatever lies beyond the layout in the lent bytes.
-- Assumes nothing.
use Prim.Native.Nat.{ℕ}
use mathlib.Core.Path.{◌≡◌, refl, ap, ap₂, sym, ◌∙◌}
use mathlib.Core.Bool.{Bool, true}
use mathlib.Core.List.{List, [], ◌∷◌, ◌++◌, map}
use native.Mathlib.Omega.{arith}
use lib.ListN.{length, get_or, take, drop}
use lib.Seq.{take-append_seam, take_at, drop_at}
use Rattle.octets.specs.Bytes.{Bytes}
use Rattle.octets.proofs.Laying.{put_start}
use Rattle.lists.proofs.Cases.{All, All2}
use Rattle.server.specs.Requests.{Event}
use Rattle.server.specs.Events.{Send}
use Rattle.server.specs.Server.{Server, render, answer, decided, next}
use Rattle.server.specs.Layout.{table_size, bytes_of}
use Rattle.server.specs.Call.{Result, sent_bytes, server_in, performed}
use Rattle.server_calls.specs.History.{Call, Memory, calls}
use Rattle.server_calls.proofs.Follows.{running_next, length_table_lem}
use Rattle.server_calls.proofs.Output.{output_fits}
use Rattle.server_calls.proofs.Histories.{LongOutputs}
use Rattle.server_blind.proofs.Alike.{Alike}
use Rattle.server_blind.proofs.Blind.{answer_alike, table_alike}
use Rattle.server_blind.proofs.OpaqueParts.{sent_apt}
use Rattle.server_blind.proofs.Outputs.{AlikeSent, all_alike, covered, covered_same, length_covered, bytes_same, Both}
use Rattle.server_blind.proofs.Calls.{AlikeEvents}
use Rattle.demands.specs.Messages.{packets_in, hidden_in, written}
use Rattle.demands.specs.Hub.{Hub, Long, call_on, kept, results_of, table_in, server_of}
use Rattle.demands.specs.Blind.{AlikeResults}
use Rattle.demands.proofs.ReadsBack.{all_read}
use Rattle.demands.proofs.Told.{sent_as, packets_sent_lem}
use Rattle.demands.proofs.Hubs.{hub_runs, call_performed, call_number, call_hub}
use Rattle.demands.proofs.Handles.{table_next}

-- ---- one call

module _ (n : ℕ) (m : Memory) (hub : Hub n m) (x : Call) (l : Long n x) where
  abbrev s : Server
  s = server_of n m

  -- the bytes that it wrote, and those beyond them
  pub call_wrote : (call_on n m x).output ≡ sent_bytes (answer x.event s).sent ++ drop (length (sent_bytes (answer x.event s).sent)) x.output
  unfolding performed
  call_wrote =
      let f = output_fits n hub.few x.event s (hub_runs n m hub) in
      ap (λ (r : Result). r.output) (call_performed n m hub x l) ∙ put_start (sent_bytes (answer x.event s).sent) x.output (omega arith)

  pub call_length : (call_on n m x).length' ≡ length (sent_bytes (answer x.event s).sent)
  unfolding performed
  call_length = ap (λ (r : Result). r.length') (call_performed n m hub x l)

  call_written : written (call_on n m x) ≡ sent_bytes (answer x.event s).sent
  call_written = ap₂ take call_length call_wrote ∙ take-append_seam (sent_bytes (answer x.event s).sent) _

  call_beyond : drop (call_on n m x).length' (call_on n m x).output ≡ drop (call_on n m x).length' x.output
  call_beyond = ap₂ drop call_length call_wrote ∙ drop_at (sent_bytes (answer x.event s).sent) _ _ refl ∙ ap (λ (k : ℕ). drop k x.output) (sym call_length)

  -- the layout's bytes of the table that it leaves
  call_table : take (table_size n) (call_on n m x).table ≡ bytes_of (next x.event s).table
  unfolding performed
  call_table =
      let b = bytes_of (next x.event s).table in
      let k : length b ≡ table_size n = length_table_lem n hub.few (next x.event s) (running_next n x.event s (hub_runs n m hub)) in
      let h = hub.long_table in
      ap (λ (r : Result). take (table_size n) r.table) (call_performed n m hub x l)
      ∙ ap (take (table_size n)) (put_start b m.table (omega arith))
      ∙ take_at b _ (table_size n) k

  hidden_sent : (e : Event) (r : Server) (xs : List Send) → hidden_in (map (sent_as e r) xs) ≡ covered (map (render e r) xs)
  unfolding covered
  hidden_sent e r [] = refl
  hidden_sent e r (y ∷ ys) = rw (hidden_sent e r ys)

  -- its packets, as they lie in the output
  pub call_packets : packets_in (written (call_on n m x)) ≡ map (sent_as x.event s) (decided x.event s).packets
  unfolding answer
  call_packets = ap packets_in call_written ∙ packets_sent_lem x.event s (decided x.event s).packets (all_read n x.event s (hub_runs n m hub))

  call_hidden : hidden_in (packets_in (written (call_on n m x))) ≡ covered (answer x.event s).sent
  unfolding answer
  call_hidden = ap hidden_in call_packets ∙ hidden_sent x.event s (decided x.event s).packets

-- ---- two calls

module _ (n : ℕ) (m k : Memory) (hm : Hub n m) (hk : Hub n k) (same : table_in n m ≡ table_in n k) (x y : Call) (lx : Long n x) (ly : Long n y) (a : Alike x.event y.event) where
  tables : (server_of n m).table ≡ (server_of n k).table
  unfolding server_in
  tables = same

  pub calls_agree : AlikeResults n x y (call_on n m x) (call_on n k y)
  calls_agree =
      let g = answer_alike a (server_of n m) (server_of n k) tables in
      let ps = (answer x.event (server_of n m)).sent in
      let qs = (answer y.event (server_of n k)).sent in
      let o : All2 AlikeSent ps qs = all_alike g.sent (sent_apt n x.event (server_of n m) (hub_runs n m hm)) (sent_apt n y.event (server_of n k) (hub_runs n k hk)) in
      let c : covered ps ≡ covered qs = covered_same o in
      record {
        number = call_number n m hm x lx ∙ g.number ∙ sym (call_number n k hk y ly);
        length' = call_length n m hm x lx ∙ length_covered ps ∙ ap length c ∙ sym (length_covered qs) ∙ sym (call_length n k hk y ly);
        table = call_table n m hm x lx ∙ ap bytes_of (table_alike a (server_of n m) (server_of n k) tables) ∙ sym (call_table n k hk y ly);
        hidden = call_hidden n m hm x lx ∙ c ∙ sym (call_hidden n k hk y ly);
        bytes = λ i e. ap (λ (b : Bytes). get_or b i 0) (call_written n m hm x lx) ∙ bytes_same o i (sym (ap (λ (b : List Bool). get_or b i true) (call_hidden n m hm x lx)) ∙ e) ∙ sym (ap (λ (b : Bytes). get_or b i 0) (call_written n k hk y ly));
        beyond = call_beyond n m hm x lx;
        beyond_too = call_beyond n k hk y ly;
      }

  pub tables_next : table_in n (kept (call_on n m x)) ≡ table_in n (kept (call_on n k y))
  tables_next = table_next n m hm x lx ∙ table_alike a (server_of n m) (server_of n k) tables ∙ sym (table_next n k hk y ly)

-- ---- histories

pub histories_agree : (n : ℕ) {xs ys : List Call} → AlikeEvents xs ys → LongOutputs n xs → LongOutputs n ys → (m k : Memory) → Hub n m → Hub n k → table_in n m ≡ table_in n k
    → Both (AlikeResults n) xs ys (results_of n xs m) (results_of n ys k)
unfolding calls
histories_agree n All2.none All.none All.none m k hm hk q = Both.none
histories_agree n (All2.more {a = x} {b = y} e rest) (All.more lx ls) (All.more ly ms) m k hm hk q =
    Both.more (calls_agree n m k hm hk q x y lx ly e)
    (histories_agree n rest ls ms (kept (call_on n m x)) (kept (call_on n k y)) (call_hub n m hm x lx) (call_hub n k hk y ly) (tables_next n m k hm hk q x y lx ly e))

-- Demand 3 of calls on lent bytes, its first sentence: two histories of calls whose events differ in opaque bytes alone have the same
-- numbers, the same lengths and the same table after every call, and outputs that agree in everything but opaque bytes. Every call is
-- lent long enough buffers, the kept ones as the last call left them; the outputs lent may be any. Assumes nothing.
use Prim.Native.Nat.{ℕ, ◌≤◌}
use mathlib.Core.Path.{◌≡◌, refl, ap, sym, ◌∙◌}
use mathlib.Core.Bool.{true}
use mathlib.Core.List.{List}
use native.Mathlib.Omega.{arith}
use lib.ListN.{length}
use Rattle.octets.specs.Bytes.{Bytes}
use Rattle.handle.specs.Handle.{is_hub_name}
use Rattle.octets.specs.Put.{put}
use Rattle.octets.proofs.Laying.{put_start}
use Rattle.server.specs.Sizes.{connection_count, workloads_size, output_size}
use Rattle.server.specs.Table.{Table}
use Rattle.server.specs.Server.{Server, Sent, Answer, next, answer, start, answers}
use Rattle.server.specs.Layout.{table_size, bytes_of}
use Rattle.server.specs.Call.{sent_bytes, performed, call, make}
use Rattle.lists.proofs.Cases.{All, All2}
use Rattle.server_calls.specs.History.{Call, events, calls}
use Rattle.server_calls.proofs.Follows.{table_with, workloads_with, Running, running_next, call_follows}
use Rattle.server_calls.proofs.Output.{output_fits}
use Rattle.server_calls.proofs.Histories.{running_start, make_start, LongOutputs}
use Rattle.server_blind.proofs.Alike.{Alike, Like, Agree}
use Rattle.server_blind.proofs.Blind.{table_alike, agree_from}
use Rattle.server_blind.proofs.OpaqueParts.{sent_apt}
use Rattle.server_blind.proofs.Outputs.{all_alike, length_covered, covered_same, Match, Both}

-- the events of two histories differ in opaque bytes alone; whatever outputs are lent
abbrev pub AlikeEvents : List Call → List Call → Type 0
AlikeEvents xs ys = All2 (λ (x y : Call). Alike x.event y.event) xs ys

-- two answers with one number, whose packets R relates
pub record Related (R : Sent → Sent → Type 0) (a b : Answer) : Type 0 where
  pub number : a.number ≡ b.number
  pub sent : All2 R a.sent b.sent

-- R relates only packets that differ in opaque bytes alone
abbrev pub Finer : (Sent → Sent → Type 0) → Type 0
Finer R = (p q : Sent) → R p q → Like p q

all_like : {R : Sent → Sent → Type 0} → Finer R → {ps qs : List Sent} → All2 R ps qs → All2 Like ps qs
all_like f All2.none = All2.none
all_like f (All2.more r rs) = All2.more (f _ _ r) (all_like f rs)

module _ (n : ℕ) (few : n ≤ 256) (t w : Bytes) (long_table : table_size n ≤ length t) (long_workloads : workloads_size ≤ length w) {R : Sent → Sent → Type 0} (finer : Finer R) where
  -- ---- one call

  module _ (x y : Call) (s r : Server) (h : Running n s) (k : Running n r) (l : output_size n ≤ length x.output) (m : output_size n ≤ length y.output) where
    match_performed : Related R (answer x.event s) (answer y.event r) → (next x.event s).table ≡ (next y.event r).table
        → Match R x y (performed x.event s t w x.output) (performed y.event r t w y.output)
    unfolding performed
    match_performed a q =
        let ps = (answer x.event s).sent in
        let qs = (answer y.event r).sent in
        let o = all_alike (all_like finer a.sent) (sent_apt n x.event s h) (sent_apt n y.event r k) in
        record {
          number = a.number;
          length' = length_covered ps ∙ ap length (covered_same o) ∙ sym (length_covered qs);
          table = ap (λ (u : Table). put 0 (bytes_of u) t) q;
          first = ps;
          second = qs;
          long = refl;
          wrote = put_start (sent_bytes ps) x.output (omega (arith, output_fits n few x.event s h));
          wrote_too = put_start (sent_bytes qs) y.output (omega (arith, output_fits n few y.event r k));
          alike = o;
          related = a.sent;
        }

    pub match_call : Related R (answer x.event s) (answer y.event r) → (next x.event s).table ≡ (next y.event r).table
        → Match R x y (call n x.event (table_with s t) (workloads_with s w) x.output) (call n y.event (table_with r t) (workloads_with r w) y.output)
    match_call a q =
        rw (call_follows n (omega arith) s h t w long_table long_workloads x.event x.output l, call_follows n (omega arith) r k t w long_table long_workloads y.event y.output m)
        (match_performed a q)

  -- ---- all calls

  -- buffers that hold two servers with equal tables, whose answers are related
  pub match_calls : {xs ys : List Call} → AlikeEvents xs ys → LongOutputs n xs → LongOutputs n ys → (s r : Server) → Running n s → Running n r → s.table ≡ r.table
      → All2 (Related R) (answers s (events xs)) (answers r (events ys))
      → Both (Match R) xs ys (calls n xs (table_with s t) (workloads_with s w)) (calls n ys (table_with r t) (workloads_with r w))
  unfolding calls answers performed
  match_calls All2.none All.none All.none s r h k q z = Both.none
  match_calls (All2.more {a = x} {b = y} e rest) (All.more l ls) (All.more m ms) s r h k q (All2.more a as') =
      let u = table_alike e s r q in
      rw (call_follows n (omega arith) s h t w long_table long_workloads x.event x.output l, call_follows n (omega arith) r k t w long_table long_workloads y.event y.output m)
      (Both.more (match_performed x y s r h k l m a u)
      (match_calls rest ls ms (next x.event s) (next y.event r) (running_next n x.event s h) (running_next n y.event r k) u as'))

-- ---- the law

related_agree : {as' bs : List Answer} → All2 Agree as' bs → All2 (Related Like) as' bs
related_agree All2.none = All2.none
related_agree (All2.more a rest) = All2.more (record { number = a.number; sent = a.sent }) (related_agree rest)

pub events_alike : {xs ys : List Call} → AlikeEvents xs ys → All2 Alike (events xs) (events ys)
events_alike All2.none = All2.none
events_alike (All2.more e rest) = All2.more e (events_alike rest)

-- from a fresh table on
pub blind_calls : (n : ℕ) → n ≤ 256 → (hub : Bytes) → is_hub_name hub ≡ true → (t w : Bytes) → table_size n ≤ length t → workloads_size ≤ length w → {xs ys : List Call} → AlikeEvents xs ys → LongOutputs n xs → LongOutputs n ys
    → Both (Match Like) xs ys (calls n xs (make n hub t w).table (make n hub t w).workloads) (calls n ys (make n hub t w).table (make n hub t w).workloads)
blind_calls n few hub good t w lt lw a l m =
    rw (make_start n hub good t w lt lw)
    (match_calls n few t w lt lw (λ p q z. z) a l m (start n hub) (start n hub) (running_start n hub good) (running_start n hub good) refl (related_agree (agree_from (events_alike a) (start n hub) (start n hub) refl)))

-- the product's number of connections, and its sizes of table and workloads
pub product_blind : (hub : Bytes) → is_hub_name hub ≡ true → (t w : Bytes) → table_size connection_count ≤ length t → workloads_size ≤ length w → {xs ys : List Call} → AlikeEvents xs ys → LongOutputs connection_count xs → LongOutputs connection_count ys
    → Both (Match Like) xs ys (calls connection_count xs (make connection_count hub t w).table (make connection_count hub t w).workloads) (calls connection_count ys (make connection_count hub t w).table (make connection_count hub t w).workloads)
product_blind hub good t w lt lw a l m = blind_calls connection_count (omega arith) hub good t w lt lw a l m

-- Demand 2, of calls on lent bytes: in any history of calls from a fresh table, with long enough buffers, no call answers 1, every
-- call says what the server of the definitions answers, and the buffers hold that server after the history; their bytes beyond the
-- layout and beyond the 32 workloads are those at the start. Assumes nothing.
use Prim.Native.Nat.{ℕ, ◌≤◌}
use mathlib.Core.Path.{◌≡◌, refl, sym, ap, ◌∙◌}
use mathlib.Core.Bool.{true}
use mathlib.Core.List.{List, [], ◌∷◌}
use native.Mathlib.Omega.{arith}
use borrow.Author.Tests.{le-ltb}
use lib.ListN.{length, drop, replicate}
use Rattle.octets.specs.Bytes.{Bytes}
use Rattle.octets.proofs.Laying.{put_start}
use Rattle.handle.specs.Handle.{is_hub_name}
use Rattle.lists.specs.Lists.{concat}
use Rattle.server.specs.Sizes.{connection_count, workloads_size, output_size}
use Rattle.server.specs.Table.{fresh}
use Rattle.server.specs.Requests.{Event}
use Rattle.server.specs.Server.{Server, next, answer, start, after, answers}
use Rattle.server.specs.Layout.{table_size, bytes_of}
use Rattle.server.specs.Call.{Result, Made, sent_bytes, performed, call, make}
use Rattle.lists.proofs.Cases.{All}
use Rattle.server_laws.proofs.Kept.{obeys_after, shaped_after}
use Rattle.server_calls.specs.History.{Call, events, calls, leaves, Says, Writes, Each}
use Rattle.server_calls.proofs.Workloads.{concat_zeros}
use Rattle.server_calls.proofs.Refusals.{never_one_lem}
use Rattle.server_calls.proofs.Output.{output_fits}
use Rattle.server_calls.proofs.EveryCall.{drop_put}
use Rattle.server_calls.proofs.Follows.{table_with, workloads_with, Running, running_next, length_table_lem, length_workloads_lem, call_follows}

-- ---- the start

pub running_after : (n : ℕ) (hub : Bytes) → is_hub_name hub ≡ true → (es : List Event) → Running n (after (start n hub) es)
running_after n hub good es = record { shaped = shaped_after n hub es; rules = obeys_after n hub good es }

pub running_start : (n : ℕ) (hub : Bytes) → is_hub_name hub ≡ true → Running n (start n hub)
unfolding after
running_start n hub good = running_after n hub good []

-- the workloads of the start are zeros
start_zeros : (n : ℕ) (hub : Bytes) → concat (start n hub).workloads ≡ replicate workloads_size 0
unfolding start
start_zeros n hub = concat_zeros 1024 32

start_table : (n : ℕ) (hub : Bytes) → (start n hub).table ≡ fresh n hub
unfolding start
start_table n hub = refl

-- "making a fresh table": with a hub's name and long enough buffers the number is 0, and the buffers hold the start
pub make_start : (n : ℕ) (hub : Bytes) → is_hub_name hub ≡ true → (t w : Bytes) → table_size n ≤ length t → workloads_size ≤ length w
    → ◌≡◌ {A = Made} (make n hub t w) (record { number = 0; table = table_with (start n hub) t; workloads = workloads_with (start n hub) w })
unfolding make
make_start n hub good t w lt lw =
    rw (le-ltb (length t) (table_size n) lt, le-ltb (length w) workloads_size lw, good, start_table n hub, start_zeros n hub)

-- ---- histories

-- every output is long enough
abbrev pub LongOutputs : ℕ → List Call → Type 0
LongOutputs n xs = All (λ (x : Call). output_size n ≤ length x.output) xs

-- calls on buffers that hold the server s
pub record Follow (n : ℕ) (s : Server) (xs : List Call) (t w : Bytes) : Type 0 where
  pub says : Each Says xs (answers s (events xs)) (calls n xs (table_with s t) (workloads_with s w))
  pub table : (leaves n xs (table_with s t) (workloads_with s w)).table ≡ table_with (after s (events xs)) t
  pub workloads : (leaves n xs (table_with s t) (workloads_with s w)).workloads ≡ workloads_with (after s (events xs)) w

performed_says : (e : Event) (s : Server) (t w o : Bytes) → Says (record { event = e; output = o }) (answer e s) (performed e s t w o)
unfolding performed
performed_says e s t w o = record { number = refl; length' = refl; output = refl }

module _ (n : ℕ) (few : n ≤ 256) (t w : Bytes) (long_table : table_size n ≤ length t) (long_workloads : workloads_size ≤ length w) where
  more_calls : (x : Call) (xs : List Call) (s : Server) → call n x.event (table_with s t) (workloads_with s w) x.output ≡ performed x.event s t w x.output
      → Follow n (next x.event s) xs t w → Follow n s (x ∷ xs) t w
  unfolding calls leaves answers after performed
  more_calls x xs s f h =
      record {
        says = rw f (Each.more (performed_says x.event s t w x.output) h.says);
        table = ap (λ (r : Result). (leaves n xs r.table r.workloads).table) f ∙ h.table;
        workloads = ap (λ (r : Result). (leaves n xs r.table r.workloads).workloads) f ∙ h.workloads;
      }

  pub calls_follow : (xs : List Call) (s : Server) → Running n s → LongOutputs n xs → Follow n s xs t w
  unfolding calls leaves answers after
  calls_follow [] s h All.none = record { says = Each.none; table = refl; workloads = refl }
  calls_follow (x ∷ xs) s h (All.more l ls) =
      more_calls x xs s (call_follows n few s h t w long_table long_workloads x.event x.output l) (calls_follow xs (next x.event s) (running_next n x.event s h) ls)

-- ---- no call answers 1

none_one : (xs : List Call) (s : Server) {rs : List Result} → Each Says xs (answers s (events xs)) rs → All (λ (r : Result). ¬ (r.number ≡ 1)) rs
unfolding answers
none_one [] s Each.none = All.none
none_one (x ∷ xs) s (Each.more a as') = All.more (λ q. never_one_lem x.event s (sym a.number ∙ q)) (none_one xs (next x.event s) as')

-- ---- every output holds its packets whole

writes : (n : ℕ) → n ≤ 256 → (x : Call) (s : Server) (r : Result) → Running n s → output_size n ≤ length x.output → Says x (answer x.event s) r → Writes x (answer x.event s) r
writes n few x s r h l a =
    let f = output_fits n few x.event s h in
    let p = sent_bytes (answer x.event s).sent in
    record { fits = omega (arith, a.length'); output = a.output ∙ rw a.length' (put_start p x.output (omega arith)) }

all_write : (n : ℕ) → n ≤ 256 → (xs : List Call) (s : Server) {rs : List Result} → Running n s → LongOutputs n xs → Each Says xs (answers s (events xs)) rs → Each Writes xs (answers s (events xs)) rs
unfolding answers
all_write n few [] s h All.none Each.none = Each.none
all_write n few (x ∷ xs) s h (All.more l ls) (Each.more a as') =
    Each.more (writes n few x s _ h l a) (all_write n few xs (next x.event s) (running_next n x.event s h) ls as')

-- ---- from a fresh table

-- what is made of the buffers t and w, and the calls on it
pub record History (n : ℕ) (hub t w : Bytes) (xs : List Call) : Type 0 where
  pub made : (make n hub t w).number ≡ 0
  pub says : Each Says xs (answers (start n hub) (events xs)) (calls n xs (make n hub t w).table (make n hub t w).workloads)
  pub never_one : All (λ (r : Result). ¬ (r.number ≡ 1)) (calls n xs (make n hub t w).table (make n hub t w).workloads)
  pub table : (leaves n xs (make n hub t w).table (make n hub t w).workloads).table ≡ table_with (after (start n hub) (events xs)) t
  pub workloads : (leaves n xs (make n hub t w).table (make n hub t w).workloads).workloads ≡ workloads_with (after (start n hub) (events xs)) w

module _ (n : ℕ) (hub : Bytes) (good : is_hub_name hub ≡ true) (t w : Bytes) (long_table : table_size n ≤ length t) (long_workloads : workloads_size ≤ length w) (xs : List Call) (long : LongOutputs n xs) where
  pub history : n ≤ 256 → History n hub t w xs
  history few =
      let h = calls_follow n few t w long_table long_workloads xs (start n hub) (running_start n hub good) long in
      let m = make_start n hub good t w long_table long_workloads in
      record {
        made = ap (λ (x : Made). x.number) m;
        says = rw m h.says;
        never_one = rw m (none_one xs (start n hub) h.says);
        table = rw m h.table;
        workloads = rw m h.workloads;
      }

  -- every output holds its packets whole, and is unchanged beyond them
  pub history_writes : n ≤ 256 → Each Writes xs (answers (start n hub) (events xs)) (calls n xs (make n hub t w).table (make n hub t w).workloads)
  history_writes few = all_write n few xs (start n hub) (running_start n hub good) long (history (omega arith)).says

  -- "Bytes of table and workloads beyond what the layout uses are never written"
  pub beyond_table_lem : n ≤ 256 → drop (table_size n) (leaves n xs (make n hub t w).table (make n hub t w).workloads).table ≡ drop (table_size n) t
  beyond_table_lem few =
      let s = after (start n hub) (events xs) in
      ap (drop (table_size n)) (history few).table ∙ drop_put (table_size n) (bytes_of s.table) t (omega (arith, length_table_lem n few s (running_after n hub good (events xs))))

  pub beyond_workloads_lem : n ≤ 256 → drop workloads_size (leaves n xs (make n hub t w).table (make n hub t w).workloads).workloads ≡ drop workloads_size w
  beyond_workloads_lem few =
      let s = after (start n hub) (events xs) in
      ap (drop workloads_size) (history few).workloads ∙ drop_put workloads_size (concat s.workloads) w (omega (arith, length_workloads_lem n few s (running_after n hub good (events xs))))

-- the product's number of connections, and its sizes of table and workloads
pub product_history : (hub : Bytes) → is_hub_name hub ≡ true → (t w : Bytes) → table_size connection_count ≤ length t → workloads_size ≤ length w → (xs : List Call) → LongOutputs connection_count xs → History connection_count hub t w xs
product_history hub good t w lt lw xs l = history connection_count hub good t w lt lw xs l (omega arith)

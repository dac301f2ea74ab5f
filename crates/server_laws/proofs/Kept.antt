-- Every event keeps every table rule: a table that obeys them obeys them after the event, and so does every table of every history
-- that begins with a fresh one. Assumes nothing.
use Prim.Native.Nat.{ℕ, zero, suc, ◌<◌, ◌^◌}
use native.Mathlib.Omega.{arith}
use mathlib.Core.Path.{◌≡◌, refl}
use mathlib.Core.Bool.{true}
use mathlib.Core.List.{List, [], ◌∷◌}
use borrow.Author.Tests.{lt-ltb, le-leb}
use lib.ListN.{replicate, length-replicate}
use lib.Dec.{leb}
use Rattle.octets.specs.Bytes.{Bytes, same, first_zero}
use Rattle.handle.specs.Handle.{is_hub_name}
use Rattle.server.specs.Table.{Table, closed, no_function, no_job, fresh, with_last_serial}
use Rattle.server.specs.Requests.{Event, request_in}
use Rattle.server.specs.Events.{Send, Decision, silence, refuse, settle, dropped, woken, forgot, opening, closing}
use Rattle.server.specs.Sizes.{id_size}
use Rattle.server.specs.Rules.{text_within, is_open, only_open, sleepers_idle_from, queued_awaited, obeys}
use Rattle.server.specs.Server.{Server, decided, next, start, after}
use Rattle.lists.proofs.Cases.{All}
use Rattle.server_laws.proofs.Outcome.{Stands, Served, Outcome, outcome}
use Rattle.lists.proofs.Rows.{or_right, all_replicate, replicate_default}
use Rattle.server_laws.proofs.Requests.{good_request}
use Rattle.server_laws.proofs.Openness.{none_open, bearers_by}
use Rattle.server_laws.proofs.Sound.{Sound}
use Rattle.server_laws.proofs.Changes.{sound_opening, sound_change}
use Rattle.server_laws.proofs.Closing.{sound_closing}
use Rattle.server_laws.proofs.Settled.{sound_dropped, dropped_awaited, sound_woken, sound_forgot, forgot_defined, settled_idle}
use Rattle.server_laws.proofs.Obeyed.{obeyed, obeys_by}
use Rattle.server_laws.proofs.Lengths.{Whole, Shaped, shaped_kept}

-- ---- one event

-- waking and forgetting leave the jobs alone
settled_awaited : (t : Table) → queued_awaited t ≡ true → queued_awaited (forgot (woken t)) ≡ true
unfolding forgot
settled_awaited t e = e

pub settled_obeys : (ss : List Send) (t : Table) → Sound t → obeys (settle ss t).table ≡ true
unfolding settle
settled_obeys ss t h =
    let s = sound_woken (dropped t) (sound_dropped t h) in
    obeys_by (settle ss t).table
    (record { sound = sound_forgot (woken (dropped t)) s; defined = forgot_defined (woken (dropped t)) s; awaited = settled_awaited (dropped t) (dropped_awaited t); idle = settled_idle (dropped t) })

served_obeys : (c : ℕ) (t : Table) → Stands t c true → (b : Bytes) {d : Decision} → obeys t ≡ true → Served c t (request_in b) d → obeys d.table ≡ true
unfolding refuse
served_obeys c t o b h (Served.refused a n r) = h
served_obeys c t o b h (Served.done a ss u m) = settled_obeys ss u (sound_change c t b o refl (good_request b) (obeyed t h).sound m)

outcome_obeys : (t : Table) {e : Event} {d : Decision} → obeys t ≡ true → Outcome t e d → obeys d.table ≡ true
unfolding silence
outcome_obeys t h (Outcome.silenced e n r) = h
outcome_obeys t h (Outcome.opened c o) = settled_obeys [] (opening c t) (sound_opening c t (obeyed t h).sound)
outcome_obeys t h (Outcome.closed c o) = settled_obeys [] (closing c t) (sound_closing c t (obeyed t h).sound)
outcome_obeys t h (Outcome.serves c b d o r) = served_obeys c t o b h r

-- every event keeps the rules
pub obeys_kept : (e : Event) (s : Server) → obeys s.table ≡ true → obeys (decided e s).table ≡ true
obeys_kept e s h = outcome_obeys s.table h (outcome e s)

-- ---- a fresh table

fresh_idle : (t : Table) (i n : ℕ) → sleepers_idle_from t i (replicate n closed) ≡ true
fresh_idle t i zero = refl
fresh_idle t i (suc n) = fresh_idle t (suc i) n

-- whatever its last serial, if that fits into four bytes
pub obeys_from : (n : ℕ) (hub : Bytes) → is_hub_name hub ≡ true → (k : ℕ) → k < 2 ^ 32 → obeys (with_last_serial k (fresh n hub)) ≡ true
unfolding fresh same first_zero
obeys_from n hub good k small =
    let t = with_last_serial k (fresh n hub) in
    obeys_by t
    (record {
      sound =
          record {
            small = lt-ltb k 4294967296 small;
            below = all_replicate (λ j. leb j.row.serial k) 32 no_job (le-leb 0 k (omega arith));
            serials = refl;
            names = refl;
            texts = refl;
            sizes = refl;
            rows = refl;
            functions = refl;
            abilities = all_replicate (λ x. only_open t x.able) 16 no_function (none_open t);
            listeners = all_replicate (λ j. only_open t j.row.listeners) 32 no_job (none_open t);
            holders = refl;
            clear = all_replicate _ n closed refl;
            uniques = refl;
            ids = all_replicate (text_within id_size) n [] refl;
            bearers = bearers_by t (λ c l. or_right (is_open t c) _ (rw (replicate_default {A = Bytes} n c [])));
            named = good;
            jobs_known = refl;
            ables_known = refl;
          };
      defined = refl;
      awaited = refl;
      idle = fresh_idle t 0 n;
    })

pub obeys_fresh : (n : ℕ) (hub : Bytes) → is_hub_name hub ≡ true → obeys (fresh n hub) ≡ true
unfolding fresh
obeys_fresh n hub good = obeys_from n hub good 0 (omega arith)

-- ---- every history

-- what the start has and every event keeps, every server of a history has
pub throughout : (P : Server → Type 0) → ((e : Event) (s : Server) → P s → P (next e s)) → (s : Server) (h : List Event) → P s → P (after s h)
unfolding after
throughout P f s [] p = p
throughout P f s (e ∷ h) p = throughout P f (next e s) h (f e s p)

next_obeys : (e : Event) (s : Server) → obeys s.table ≡ true → obeys (next e s).table ≡ true
unfolding next
next_obeys e s h = obeys_kept e s h

start_obeys : (n : ℕ) (hub : Bytes) → is_hub_name hub ≡ true → obeys (start n hub).table ≡ true
unfolding start
start_obeys n hub good = obeys_fresh n hub good

start_shaped : (n : ℕ) (hub : Bytes) → Shaped n (start n hub)
unfolding start fresh
start_shaped n hub = record { connections = length-replicate n closed; ids = length-replicate {A = Bytes} n []; functions = refl; jobs = refl; workloads = refl; whole = whole_workloads 32 }
  where
    whole_workloads : (k : ℕ) → All Whole (replicate k (replicate 1024 0))
    whole_workloads zero = All.none
    whole_workloads (suc k) = All.more (length-replicate {A = ℕ} 1024 0) (whole_workloads k)

-- document 01's table rules hold after any history from a fresh table
pub obeys_after : (n : ℕ) (hub : Bytes) → is_hub_name hub ≡ true → (h : List Event) → obeys (after (start n hub) h).table ≡ true
obeys_after n hub good h = throughout (λ s. obeys s.table ≡ true) next_obeys (start n hub) h (start_obeys n hub good)

pub shaped_after : (n : ℕ) (hub : Bytes) (h : List Event) → Shaped n (after (start n hub) h)
shaped_after n hub h = throughout (Shaped n) (shaped_kept n) (start n hub) h (start_shaped n hub)

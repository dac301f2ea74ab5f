-- The output always fits: with a table of n connections that obeys the rules, what an event sends has at most `output_size n` bytes: a
-- copy of the longest request for each connection, or one answer and a NOOP for each. Assumes nothing.
use Prim.Native.Nat.{ℕ, zero, suc, ◌+◌, ◌*◌, ◌<◌, ◌≤◌}
use mathlib.Core.Path.{◌≡◌, refl, ap}
use mathlib.Core.Bool.{Bool, true, false, not}
use Rattle.std.specs.Prelude.{Option, Some, None}
use mathlib.Core.List.{List, [], ◌∷◌, ◌++◌, map}
use native.Mathlib.Nat.{mul-suc}
use native.Mathlib.Omega.{arith}
use borrow.Author.Tests.{leb-true}
use lib.ListN.{length, get_or, length-append}
use lib.Dec.{leb, eqb}
use Rattle.octets.specs.Bytes.{Bytes, same}
use Rattle.octets.proofs.Strings.{same_is}
use Rattle.handle.specs.Handle.{handle}
use Rattle.handle.proofs.Handles.{handle_bounded}
use Rattle.packet.specs.Arguments.{join}
use Rattle.sets.specs.Sets.{has, members}
use Rattle.lists.specs.Lists.{filter, numbers}
use Rattle.server.specs.Sizes.{output_size}
use Rattle.server.specs.declared.JobRow.{JobRow}
use Rattle.server.specs.Table.{Table, no_job, connection_at, function_at, job_at, rows_of, ables_of, set_job, has_handle, job_of}
use Rattle.server.specs.Rules.{together, hub_named}
use Rattle.server.specs.Refusals.{refusal_texts, is_told}
use Rattle.server.specs.Requests.{Event, sends, Work, Request, echo, work, request_in}
use Rattle.server.specs.Events.{Send, plain, copy, assign, Decision, refuse, settle, dropped, wakes, to_wake, noop, created, exceptions_name, flag, hears, failure, to_listener, to_listeners, listeners_of, worked, status_at, silence, to_wake_in}
use Rattle.server.specs.Server.{Server, shown_by, opaque_of, render, decided, answer}
use Rattle.server.specs.Call.{sent_bytes}
use Rattle.lists.proofs.Lists.{length_numbers, length_fit}
use Rattle.lists.proofs.Cases.{cond_both}
use Rattle.server_laws.proofs.Outcome.{Change, Served, Outcome, outcome}
use Rattle.lists.proofs.Searches.{found}
use Rattle.lists.proofs.Rows.{all_at}
use Rattle.server_laws.proofs.Lengths.{long_settle, long_decided}
use Rattle.server_laws.proofs.Going.{best_found}
use Rattle.server_laws.proofs.Obeyed.{obeyed}
use Rattle.server_calls.proofs.Refusals.{short_at}
use Rattle.server_calls.proofs.Follows.{Running, fitting}
use Rattle.server_calls.proofs.Quiet.{worker_wakes_nobody}
use Rattle.server_calls.proofs.Packets.{weighs, weigh_none, weigh_more, weigh_append, weigh_noops, data_short, handle_short}

-- ---- how many there are

length_filter : {A : Type 0} (p : A → Bool) (l : List A) → length (filter p l) ≤ length l
length_filter p [] = omega arith
length_filter {A = A} p (x ∷ l) =
    let h = length_filter p l in
    cond_both (λ (m : List A). length m ≤ suc (length l)) (p x) (omega arith) (omega arith)

length_members : (n s : ℕ) → length (members n s) ≤ n
unfolding members
length_members zero s = omega arith
length_members (suc n) s =
    let h = length_members n s in
    cond_both (λ (m : List ℕ). length (members n s ++ m) ≤ suc n) (has s n)
    (omega (arith, length-append (members n s) (n ∷ []))) (omega (arith, length-append (members n s) []))

pub wake_most : (t : Table) → length (to_wake t) ≤ length t.connections
unfolding to_wake_in
wake_most t = omega (arith, length_filter (λ c. wakes (ables_of t) (rows_of t) c (connection_at t c)) (numbers 0 (length t.connections)), length_numbers 0 (length t.connections))

-- ---- how long each is

module _ (e : Event) (s : Server) where
  plain_weight : (to kind : ℕ) (args : List Bytes) → weighs e s (plain to kind args ∷ []) ≡ 13 + length (join args)
  unfolding render
  plain_weight to kind args = rw (weigh_more e s (plain to kind args) [], weigh_none e s) (omega arith)

  copy_weight : (to kind : ℕ) → length (shown_by e) + length (opaque_of e) ≤ 1024 → weighs e s (copy to kind ∷ []) ≤ 1037
  unfolding render
  copy_weight to kind h = rw (weigh_more e s (copy to kind) [], weigh_none e s) (omega arith)

  -- one packet to each listener: the copy, or WORK_FAIL with the handle
  listeners_weight : hub_named s.table ≡ true → (how : Work) (kind : ℕ) (r : JobRow) (ls : List ℕ) → length (shown_by e) + length (opaque_of e) ≤ 1024 → weighs e s (map (to_listener how kind s.table r) ls) ≤ 1037 * length ls
  unfolding render join
  listeners_weight good how kind r [] h = rw (weigh_none e s) (omega arith)
  listeners_weight good how kind r (l ∷ ls) h =
      let rest = listeners_weight good how kind r ls h in
      let m = handle_bounded s.table.hub good r.serial in
      cond_both (λ (x : Send). weighs e s (x ∷ map (to_listener how kind s.table r) ls) ≤ 1037 * suc (length ls)) (hears how s.table l)
      (rw (weigh_more e s (copy l kind) _, mul-suc) (omega arith)) (rw (weigh_more e s (failure s.table.hub r.serial l) _, mul-suc) (omega arith))

  -- a job's handle, function, unique and workload: 1,053 bytes at the most
  assign_weight : hub_named s.table ≡ true → (uniq : Bool) (to p : ℕ) → together s.table (job_at s.table p) ≤ 1022 → weighs e s (assign uniq to p ∷ []) ≤ 13 + 1053
  unfolding render join
  assign_weight good true to p h =
      let t = s.table in
      let j = job_at t p in
      let f = (function_at t j.row.function).name in
      let m = handle_bounded t.hub good j.row.serial in
      rw (
        weigh_more e s (assign true to p) [],
        weigh_none e s,
        length_fit j.row.size (get_or s.workloads p []),
        length-append (handle t.hub j.row.serial) (0 ∷ (f ++ (0 ∷ (j.unique ++ (0 ∷ []))))),
        length-append f (0 ∷ (j.unique ++ (0 ∷ []))),
        length-append j.unique (0 ∷ []),
      )
      (omega arith)
  assign_weight good false to p h =
      let t = s.table in
      let j = job_at t p in
      let f = (function_at t j.row.function).name in
      let m = handle_bounded t.hub good j.row.serial in
      rw (
        weigh_more e s (assign false to p) [],
        weigh_none e s,
        length_fit j.row.size (get_or s.workloads p []),
        length-append (handle t.hub j.row.serial) (0 ∷ (f ++ (0 ∷ []))),
        length-append f (0 ∷ []),
      )
      (omega arith)

  -- a status: the handle, two flags and two numbers
  status_weight : (to : ℕ) (h : Bytes) (f g : Bool) (n d : Bytes) → length h ≤ 1024 → length n ≤ 10 → length d ≤ 10 → weighs e s (plain to 20 (h ∷ flag f ∷ flag g ∷ n ∷ d ∷ []) ∷ []) ≤ 1066
  unfolding join
  status_weight to h f g n d lh ln ld =
      rw (plain_weight to 20 (h ∷ flag f ∷ flag g ∷ n ∷ d ∷ []), length-append h (0 ∷ (flag f ++ (0 ∷ (flag g ++ (0 ∷ (n ++ (0 ∷ d))))))), length-append n (0 ∷ d)) (omega arith)

  created_weight : hub_named s.table ≡ true → (to serial : ℕ) → weighs e s (created s.table.hub to serial ∷ []) ≤ 1066
  unfolding join
  created_weight good to serial = rw (plain_weight to 8 (handle s.table.hub serial ∷ [])) (omega (arith, handle_bounded s.table.hub good serial))

  option_weight : (to : ℕ) (name : Bytes) → same name exceptions_name ≡ true → weighs e s (plain to 27 (name ∷ []) ∷ []) ≤ 1066
  unfolding join
  option_weight to name q = rw (plain_weight to 27 (name ∷ []), same_is name exceptions_name q) (omega arith)

  refusal_weight : (c n : ℕ) (t : Table) → weighs e s (refuse c n t).packets ≤ 25
  unfolding refuse join
  refusal_weight c n t =
      let l = short_at 9 refusal_texts n refl in
      cond_both (λ (ss : List Send). weighs e s ss ≤ 25) (is_told n) (rw (plain_weight c 19 _) (omega arith)) (rw (weigh_none e s) (omega arith))

-- ---- each kind of answer

module _ (n : ℕ) (few : n ≤ 256) (e : Event) (s : Server) (h : Running n s) where
  -- the end of an event adds at most one NOOP for each connection
  settled_weight : (ss : List Send) (u : Table) → decided e s ≡ settle ss u → weighs e s ss ≤ 1066 → weighs e s (settle ss u).packets ≤ output_size n
  unfolding settle dropped
  settled_weight ss u q l =
      let a = (long_settle ss u).connections in
      let b = (long_decided e s).connections in
      let c = ap (λ (d : Decision). length d.table.connections) q in
      let m = wake_most (dropped u) in
      let k = h.shaped.connections in
      rw (weigh_append e s ss (map noop (to_wake (dropped u))), weigh_noops e s (to_wake (dropped u))) (omega arith)

  silent_weight : (u : Table) → decided e s ≡ settle [] u → weighs e s (settle [] u).packets ≤ output_size n
  silent_weight u q = settled_weight [] u q (rw (weigh_none e s) (omega arith))

  one_weight : (x : Send) (u : Table) → decided e s ≡ settle (x ∷ []) u → weighs e s (x ∷ []) ≤ 1066 → weighs e s (settle (x ∷ []) u).packets ≤ output_size n
  one_weight x u q l = settled_weight (x ∷ []) u q (omega arith)

  -- the hub has a name
  named : hub_named s.table ≡ true
  named = (obeyed s.table h.rules).sound.named

  job_together : (p : ℕ) → p < length s.table.jobs → together s.table (job_at s.table p) ≤ 1022
  job_together p i = leb-true _ 1022 (all_at (λ j. leb (together s.table j) 1022) s.table.jobs p no_job (obeyed s.table h.rules).sound.sizes i)

  -- a worker packet: one packet to each listener, and no NOOP
  worker_weight : (how : Work) (kind : ℕ) (x y : Bytes) (p : ℕ) → length (shown_by e) + length (opaque_of e) ≤ 1024
      → weighs e s (settle (to_listeners how kind s.table (job_at s.table p).row) (set_job s.table p (worked how x y (job_at s.table p)))).packets ≤ output_size n
  unfolding settle to_listeners
  worker_weight how kind x y p q =
      let t = s.table in
      let r = (job_at t p).row in
      let ls = listeners_of t r in
      let b = length_members (length t.connections) r.listeners in
      let c = listeners_weight e s named how kind r ls q in
      let k = h.shaped.connections in
      rw (worker_wakes_nobody t p how x y (obeyed t h.rules).idle, weigh_append e s (map (to_listener how kind t r) ls) [], weigh_none e s) (omega arith)

  status_at_weight : (c : ℕ) (j : Bytes) (o : Option ℕ) → job_of s.table j ≡ o → length j ≤ 1024
      → decided e s ≡ status_at o c j s.table → weighs e s (status_at o c j s.table).packets ≤ output_size n
  unfolding status_at
  status_at_weight c j None f l q = one_weight _ s.table q (status_weight e s c j false false (flag false) (flag false) l (omega arith) (omega arith))
  status_at_weight c j (Some p) f l q =
      let t = s.table in
      let i : p < length t.jobs = (found (λ k. has_handle t.hub j k.row) no_job t.jobs (Some p) f).inside in
      let g = (fitting n (omega arith) s h).jobs p (omega (arith, h.shaped.jobs)) in
      one_weight _ t q (status_weight e s c j true (not (eqb (job_at t p).row.holder 0)) (job_at t p).numerator (job_at t p).denominator l g.numerator.within g.denominator.within)

-- ---- every event

module _ (n : ℕ) (few : n ≤ 256) (s : Server) (h : Running n s) where
  served_weight : (c : ℕ) (b : Bytes) {a : Request} {d : Decision} → request_in b ≡ a → decided (sends c b) s ≡ d → Served c s.table a d
      → weighs (sends c b) s d.packets ≤ output_size n
  unfolding join status_at
  served_weight c b p q (Served.refused a m r) = omega (arith, refusal_weight (sends c b) s c m s.table)
  served_weight c b p q (Served.done a ss u (Change.able f k r)) = silent_weight n few (sends c b) s h _ q
  served_weight c b p q (Served.done a ss u (Change.unknown f r)) = silent_weight n few (sends c b) s h _ q
  served_weight c b p q (Served.done a ss u (Change.disabled f k r)) = silent_weight n few (sends c b) s h _ q
  served_weight c b p q (Served.done a ss u (Change.identified i)) = silent_weight n few (sends c b) s h _ q
  served_weight c b p q (Served.done a ss u Change.cleared) = silent_weight n few (sends c b) s h _ q
  served_weight c b p q (Served.done a ss u Change.slept) = silent_weight n few (sends c b) s h _ q
  served_weight c b p q (Served.done a ss u (Change.no_job_for uniq r)) = one_weight n few (sends c b) s h _ _ q (rw (plain_weight (sends c b) s c 10 []) (omega arith))
  served_weight c b p q (Served.done a ss u (Change.grabbed uniq k r)) =
      one_weight n few (sends c b) s h _ _ q (omega (arith, assign_weight (sends c b) s (named n few (sends c b) s h) uniq c k (job_together n few (sends c b) s h k (best_found s.table c k r).0)))
  served_weight c b p q (Served.done a ss u (Change.joins priority background f v size k r)) = one_weight n few (sends c b) s h _ _ q (created_weight (sends c b) s (named n few (sends c b) s h) c _)
  served_weight c b p q (Served.done a ss u (Change.accepts priority background f v size k m r₁ r₂ r₃ i)) = one_weight n few (sends c b) s h _ _ q (created_weight (sends c b) s (named n few (sends c b) s h) c _)
  served_weight c b p q (Served.done a ss u (Change.worker how kind j x y k r)) = worker_weight n few (sends c b) s h how kind x y k (data_short c b (work how kind j x y) p refl)
  served_weight c b p q (Served.done a ss u (Change.status j o r)) = status_at_weight n few (sends c b) s h c j o r (handle_short b j p) q
  served_weight c b p q (Served.done a ss u (Change.optioned name r)) = one_weight n few (sends c b) s h _ _ q (option_weight (sends c b) s c name r)
  served_weight c b p q (Served.done a ss u Change.echoed) = one_weight n few (sends c b) s h _ _ q (omega (arith, copy_weight (sends c b) s c 17 (data_short c b echo p refl)))

  event_weight : (e : Event) {d : Decision} → decided e s ≡ d → Outcome s.table e d → weighs e s d.packets ≤ output_size n
  unfolding silence
  event_weight e q (Outcome.silenced f m r) = rw (weigh_none e s) (omega arith)
  event_weight e q (Outcome.opened c o) = silent_weight n few e s h _ q
  event_weight e q (Outcome.closed c o) = silent_weight n few e s h _ q
  event_weight e q (Outcome.serves c b d o r) = served_weight c b refl q r

pub output_fits : (n : ℕ) → n ≤ 256 → (e : Event) (s : Server) → Running n s → length (sent_bytes (answer e s).sent) ≤ output_size n
unfolding answer weighs
output_fits n few e s h = event_weight n few s h e refl (outcome e s)

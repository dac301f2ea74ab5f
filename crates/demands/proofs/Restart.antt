-- A fresh table, under any name, into which the host writes the last serial of an old one: it runs, and no handle of the old one is given again.
-- Assumes nothing.
use Prim.Native.Nat.{ℕ, ◌≤◌, ◌<◌, ◌^◌}
use mathlib.Core.Path.{◌≡◌, refl, ap, ap₂, sym, ◌∙◌, subst}
use mathlib.Core.Bool.{Bool, true, false}
use mathlib.Core.List.{List, ◌++◌}
use native.Mathlib.Omega.{arith}
use borrow.Author.Tests.{ltb-true}
use lib.ListN.{length, take}
use lib.Seq.{take-take}
use Rattle.octets.specs.Bytes.{Bytes, same}
use Rattle.handle.specs.Handle.{handle, is_hub_name}
use Rattle.lists.proofs.Rows.{clash}
use Rattle.octets.specs.Put.{put}
use Rattle.octets.proofs.Strings.{and_left, same_is, same_refl}
use Rattle.octets.proofs.Laying.{put_upon}
use Rattle.server.specs.Sizes.{workloads_size}
use Rattle.server.specs.Table.{Table, fresh, with_last_serial, has_handle}
use Rattle.server.specs.Server.{Server, next, start, after}
use Rattle.server.specs.Layout.{little, table_size, table_of, bytes_of, is_image}
use Rattle.server.specs.Call.{Made, server_in, is_sound, make}
use Rattle.table_laws.proofs.Image.{image_is}
use Rattle.server_laws.proofs.Obeyed.{obeyed}
use Rattle.server_laws.proofs.Kept.{obeys_from}
use Rattle.server_calls.specs.History.{Call, Memory, events}
use Rattle.server_calls.proofs.Follows.{table_with, workloads_with, Running, server_back}
use Rattle.server_calls.proofs.Histories.{LongOutputs, running_start, make_start}
use Rattle.demands.specs.Messages.{told}
use Rattle.demands.specs.Handles.{given, stands, Spent}
use Rattle.demands.specs.Hub.{Hub, Long, call_on, kept, after_calls, table_in, server_of, restarted}
use Rattle.demands.proofs.Hubs.{hub_with, hub_runs, call_tells, call_hub, call_next, calls_hub, calls_after}
use Rattle.demands.proofs.Gone.{Used, used_after, given_used, gone_after}
use Rattle.demands.proofs.Handles.{no_more}
use Rattle.demands.proofs.Names.{hub_named_lem, calls_foreign}

-- ---- the server

-- a fresh server of the hub of this name, whose last serial is k
unfoldable start_from : ℕ → Bytes → ℕ → Server
start_from n name k = record { table = with_last_serial k (start n name).table; workloads = (start n name).workloads }

running_from : (n : ℕ) (name : Bytes) → is_hub_name name ≡ true → (k : ℕ) → k < 2 ^ 32 → Running n (start_from n name k)
unfolding start_from start
running_from n name good k small =
    let h = running_start n name good in
    record { shaped = record { connections = h.shaped.connections; ids = h.shaped.ids; functions = h.shaped.functions; jobs = h.shaped.jobs; workloads = h.shaped.workloads; whole = h.shaped.whole }; rules = obeys_from n name good k small }

-- ---- the bytes

-- the last serial is the first four bytes
bytes_last : (t : Table) → (rest : Bytes) × ((k : ℕ) → bytes_of (with_last_serial k t) ≡ little 4 k ++ rest)
unfolding bytes_of
bytes_last t = (_, λ k. refl)

length_little : (k : ℕ) → length (little 4 k) ≡ 4
unfolding little
length_little k = refl

take_little : (k : ℕ) (rest : Bytes) → take 4 (little 4 k ++ rest) ≡ little 4 k
unfolding little
take_little k rest = refl

own_last : (t : Table) → with_last_serial t.last t ≡ t
own_last t = refl

-- the first four bytes of a host's memory are its last serial
first_four : (n : ℕ) (m : Memory) → Hub n m → take 4 m.table ≡ little 4 (table_in n m).last
unfolding is_sound
first_four n m hub =
    let b = m.table in
    let t = table_of n b in
    let (rest, q) = bytes_last t in
    let i : bytes_of t ≡ take (table_size n) b = image_is n b (and_left (is_image n b) _ hub.sound) in
    sym (take-take 4 (table_size n) b (omega arith)) ∙ ap (take 4) (sym i ∙ q t.last) ∙ take_little t.last rest

module _ (n : ℕ) (old : Memory) (hub : Hub n old) (name : Bytes) (good : is_hub_name name ≡ true) (t w : Bytes) (lt : table_size n ≤ length t) (lw : workloads_size ≤ length w) where
  abbrev last : ℕ
  last = (table_in n old).last

  last_small : last < 2 ^ 32
  unfolding server_in
  last_small = ltb-true last 4294967296 (obeyed (table_in n old) (hub_runs n old hub).rules).sound.small

  table_is : put 0 (take 4 old.table) (make n name t w).table ≡ table_with (start_from n name last) t
  unfolding start_from start fresh
  table_is =
      let (rest, q) = bytes_last (fresh n name) in
      ap₂ (put 0) (first_four n old hub) (ap (λ (x : Made). x.table) (make_start n name good t w lt lw) ∙ ap (λ (b : Bytes). put 0 b t) (q 0))
      ∙ put_upon 0 (little 4 last) (little 4 0) rest t (length_little last ∙ sym (length_little 0))
      ∙ ap (λ (b : Bytes). put 0 b t) (sym (q last))

  workloads_are : (make n name t w).workloads ≡ workloads_with (start_from n name last) w
  unfolding start_from
  workloads_are = ap (λ (x : Made). x.workloads) (make_start n name good t w lt lw)

  restarted_is : restarted n old name t w ≡ record { table = table_with (start_from n name last) t; workloads = workloads_with (start_from n name last) w }
  restarted_is = ap₂ {C = Memory} (λ (x y : Bytes). record { table = x; workloads = y }) table_is workloads_are

  -- it is a host's memory
  pub restart_hub : Hub n (restarted n old name t w)
  restart_hub = rw restarted_is (hub_with n hub.few (start_from n name last) (running_from n name good last last_small) t w lt lw)

  restart_server : server_of n (restarted n old name t w) ≡ start_from n name last
  restart_server = ap (server_of n) restarted_is ∙ server_back n hub.few (start_from n name last) (running_from n name good last last_small) t w lt lw

  -- a handle that was used in the old table, if it had the same name, is used, and nobody has it
  restart_used : name ≡ (table_in n old).hub → (h : Bytes) → Used h (server_of n old).table → Used h (server_of n (restarted n old name t w)).table
  unfolding server_in start_from start fresh
  restart_used same h u = subst (λ (s : Server). Used h s.table) (sym restart_server) (record { serial = u.serial; is = u.is ∙ ap (λ (x : Bytes). handle x u.serial) (sym same); some = u.some; past = u.past })

  restart_nobody : (h : Bytes) → stands h (server_of n (restarted n old name t w)).table ≡ false
  unfolding start_from start fresh stands has_handle
  restart_nobody h = ap (λ (s : Server). stands h s.table) restart_server

  -- no handle that was used in the old table is anybody's later
  restart_gone : name ≡ (table_in n old).hub → (h : Bytes) → Used h (server_of n old).table → (later : List Call) → LongOutputs n later → Spent n h (after_calls n later (restarted n old name t w))
  restart_gone same h u later l =
      let m = restarted n old name t w in
      let v = after_calls n later m in
      let hv = calls_hub n later m restart_hub l in
      let q = calls_after n later m restart_hub l in
      let used = restart_used same h u in
      no_more n h v hv
      (subst (λ (s : Server). Used h s.table) (sym q) (used_after (events later) (server_of n m) h used))
      (ap (λ (s : Server). stands h s.table) q ∙ gone_after n (events later) (server_of n m) (hub_runs n m restart_hub) h used (restart_nobody h))

  -- a handle of the old table, if that had another name, is another hub's
  restart_foreign : ¬ (name ≡ (table_in n old).hub) → (serial : ℕ) → (later : List Call) → LongOutputs n later → Spent n (handle (table_in n old).hub serial) (after_calls n later (restarted n old name t w))
  unfolding server_in start_from start fresh
  restart_foreign d serial later l =
      calls_foreign n (restarted n old name t w) restart_hub (table_in n old).hub (hub_named_lem n old hub) (λ q. d (sym (q ∙ ap (λ (s : Server). s.table.hub) restart_server))) serial later l

-- a handle that some call x gave before: after any calls more, and a restart under any name, it is nobody's
module _ (n : ℕ) (m : Memory) (hub : Hub n m) (h : Bytes) (x : Call) (lx : Long n x) (g : given h (told (call_on n m x)) ≡ true) (between : List Call) (lb : LongOutputs n between) where
  abbrev old_memory : Memory
  old_memory = after_calls n between (kept (call_on n m x))

  old_hub : Hub n old_memory
  old_hub = calls_hub n between (kept (call_on n m x)) (call_hub n m hub x lx) lb

  old_used : Used h (server_of n old_memory).table
  old_used =
      let q : server_of n old_memory ≡ after (next x.event (server_of n m)) (events between)
      = calls_after n between (kept (call_on n m x)) (call_hub n m hub x lx) lb ∙ ap (λ (s : Server). after s (events between)) (call_next n m hub x lx) in
      let u : Used h (next x.event (server_of n m)).table = given_used n x.event (server_of n m) (hub_runs n m hub) h (sym (ap (given h) (call_tells n m hub x lx)) ∙ g) in
      subst (λ (s : Server). Used h s.table) (sym q) (used_after (events between) (next x.event (server_of n m)) h u)

  pub told_restart : (name : Bytes) → is_hub_name name ≡ true → (t w : Bytes) → table_size n ≤ length t → workloads_size ≤ length w → (later : List Call) → LongOutputs n later
      → Spent n h (after_calls n later (restarted n old_memory name t w))
  unfolding server_in
  told_restart name good t w lt lw later ll = by (same name (table_in n old_memory).hub) refl
    where
      by : (b : Bool) → same name (table_in n old_memory).hub ≡ b → Spent n h (after_calls n later (restarted n old_memory name t w))
      by true e = restart_gone n old_memory old_hub name good t w lt lw (same_is _ _ e) h old_used later ll
      by false e =
          let other : ¬ (name ≡ (table_in n old_memory).hub) = λ q. clash (ap (λ (x : Bytes). same name x) (sym q) ∙ same_refl name) e in
          subst (λ (k : Bytes). Spent n k (after_calls n later (restarted n old_memory name t w))) (sym old_used.is) (restart_foreign n old_memory old_hub name good t w lt lw other old_used.serial later ll)

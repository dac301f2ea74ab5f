-- Handles, over calls on a host's memory. Assumes nothing.
use Prim.Native.Nat.{ℕ}
use mathlib.Core.Path.{◌≡◌, ap, sym, ◌∙◌, subst}
use mathlib.Core.Bool.{true, false, ◌||◌}
use mathlib.Core.List.{List}
use Rattle.octets.specs.Bytes.{Bytes}
use Rattle.server.specs.Table.{Table}
use Rattle.server.specs.Requests.{Event}
use Rattle.server.specs.Server.{Server, answer, next, after}
use Rattle.server.specs.Call.{server_in}
use Rattle.server_calls.specs.History.{Call, Memory, events}
use Rattle.server_calls.proofs.Follows.{Running}
use Rattle.server_calls.proofs.Histories.{LongOutputs}
use Rattle.demands.specs.Messages.{told, messages_of}
use Rattle.demands.specs.Handles.{given, stands, is_made, Spent}
use Rattle.demands.specs.Hub.{Hub, Long, call_on, kept, after_calls, table_in, server_of}
use Rattle.demands.proofs.Hubs.{hub_runs, call_number, call_tells, call_hub, call_next, table_in_lem, calls_hub, calls_after}
use Rattle.demands.proofs.Gone.{Used, stands_used, used_after, given_stands, made_given, new_unheard, gone_after, gone_ungiven, late_number, unknown_told}

-- the table that a call leaves, and that calls leave
module _ (n : ℕ) (m : Memory) (hub : Hub n m) where
  pub table_next : (x : Call) → Long n x → table_in n (kept (call_on n m x)) ≡ (next x.event (server_of n m)).table
  unfolding server_in
  table_next x l = ap (λ (s : Server). s.table) (call_next n m hub x l)

  pub table_after_lem : (xs : List Call) → LongOutputs n xs → table_in n (after_calls n xs m) ≡ (after (server_of n m) (events xs)).table
  unfolding server_in
  table_after_lem xs l = ap (λ (s : Server). s.table) (calls_after n xs m hub l)

-- a handle that no unfinished job has, and that no event gives out
pub nobodys : (n : ℕ) (h : Bytes) (u : Memory) → Hub n u → stands h (server_of n u).table ≡ false → ((e : Event) → given h (messages_of e (server_of n u)) ≡ false) → Spent n h u
nobodys n h u hu g f =
    record {
      nobody = rw (table_in_lem n u hu) g;
      ungiven = λ x l. ap (given h) (call_tells n u hu x l) ∙ f x.event;
      late = λ x l c b e o z. call_number n u hu x l ∙ ap (λ (v : Event). (answer v (server_of n u)).number) e ∙ late_number c b h (server_of n u) g (rw (← (table_in_lem n u hu)) o) z;
      unknown = λ x l c b e o z. call_tells n u hu x l ∙ ap (λ (v : Event). messages_of v (server_of n u)) e ∙ unknown_told n c b h (server_of n u) (hub_runs n u hu) g (rw (← (table_in_lem n u hu)) o) z;
    }

-- what a used handle without a job comes to
pub no_more : (n : ℕ) (h : Bytes) (u : Memory) → Hub n u → Used h (server_of n u).table → stands h (server_of n u).table ≡ false → Spent n h u
no_more n h u hu used g = nobodys n h u hu g (λ e. gone_ungiven n e (server_of n u) (hub_runs n u hu) h used g)

module _ (n : ℕ) (m : Memory) (hub : Hub n m) (h : Bytes) where
  pub call_stands : (x : Call) → Long n x → given h (told (call_on n m x)) ≡ true
      → stands h (table_in n m) || is_made h (table_in n m) (table_in n (kept (call_on n m x))) ≡ true
  call_stands x l g =
      rw (table_next n m hub x l, table_in_lem n m hub)
      (given_stands n x.event (server_of n m) (hub_runs n m hub) h (sym (ap (given h) (call_tells n m hub x l)) ∙ g))

  pub call_makes : (x : Call) → Long n x → is_made h (table_in n m) (table_in n (kept (call_on n m x))) ≡ true → given h (told (call_on n m x)) ≡ true
  unfolding server_in
  call_makes x l made =
      ap (given h) (call_tells n m hub x l) ∙ made_given x.event (server_of n m) h (subst (λ (t : Table). is_made h (table_in n m) t ≡ true) (table_next n m hub x l) made)

  pub call_unheard : (x : Call) → Long n x → (between : List Call) → LongOutputs n between → (y : Call) → Long n y
      → let u = after_calls n between (kept (call_on n m x)) in is_made h (table_in n u) (table_in n (kept (call_on n u y))) ≡ true → given h (told (call_on n m x)) ≡ false
  unfolding server_in
  call_unheard x lx between lb y ly made =
      let mx = kept (call_on n m x) in
      let u = after_calls n between mx in
      let hx = call_hub n m hub x lx in
      let hu = calls_hub n between mx hx lb in
      let q : server_of n u ≡ after (next x.event (server_of n m)) (events between) = calls_after n between mx hx lb ∙ ap (λ (s : Server). after s (events between)) (call_next n m hub x lx) in
      let k : is_made h (server_of n u).table (next y.event (server_of n u)).table ≡ true = subst (λ (t : Table). is_made h (table_in n u) t ≡ true) (table_next n u hu y ly) made in
      ap (given h) (call_tells n m hub x lx)
      ∙ new_unheard n x.event (server_of n m) (hub_runs n m hub) (events between) y.event h (subst (Running n) q (hub_runs n u hu)) (subst (λ (s : Server). is_made h s.table (next y.event s).table ≡ true) q k)

  -- a job stood, and after some calls it does not: so it is after any calls more
  pub calls_gone : stands h (table_in n m) ≡ true → (between : List Call) → LongOutputs n between → stands h (table_in n (after_calls n between m)) ≡ false
      → (later : List Call) → LongOutputs n later → Spent n h (after_calls n later (after_calls n between m))
  unfolding server_in
  calls_gone stood between lb gone later ll =
      let u = after_calls n between m in
      let v = after_calls n later u in
      let hu = calls_hub n between m hub lb in
      let hv = calls_hub n later u hu ll in
      let q = calls_after n later u hu ll in
      let a : Used h (server_of n u).table = subst (λ (s : Server). Used h s.table) (sym (calls_after n between m hub lb)) (used_after (events between) (server_of n m) h (stands_used n (server_of n m) (hub_runs n m hub) h stood)) in
      no_more n h v hv
      (subst (λ (s : Server). Used h s.table) (sym q) (used_after (events later) (server_of n u) h a))
      (ap (λ (s : Server). stands h s.table) q ∙ gone_after n (events later) (server_of n u) (hub_runs n u hu) h a gone)

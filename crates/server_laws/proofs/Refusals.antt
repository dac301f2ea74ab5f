-- Demand 1, of the definitions: a refused event leaves table and workloads as they were; by a number without a text nothing is sent, by
-- one with a text one ERROR packet to the sender, with the number's two digits and its text; and every number is 0 or 2 to the last.
-- Assumes nothing.
use Prim.Native.Nat.{ℕ, ◌+◌, ◌/◌, ◌%◌, ◌≤◌}
use native.Mathlib.Omega.{arith}
use mathlib.Core.Path.{◌≡◌, refl, ap, subst}
use mathlib.Core.Bool.{Bool, true, false, not}
use mathlib.Core.List.{List, [], ◌∷◌}
use lib.ListN.{length, get_or-map}
use lib.Dec.{ltb, leb, eqb}
use borrow.Author.Tests.{eq-eqb, leb-true}
use Rattle.octets.specs.Bytes.{Bytes, same, within, starts_with, number_at}
use Rattle.octets.proofs.Strings.{and_left, and_right}
use Rattle.packet.specs.declared.Shape.{Shape}
use Rattle.packet.specs.Layout.{is_own, rules_of}
use Rattle.packet.specs.Arguments.{Parts, bad, parts, split, join}
use Rattle.packet.specs.Packet.{Reading, header, argued, body, after_header, read, requests}
use Rattle.packet.specs.Opaque.{masked}
use Rattle.lists.proofs.Cases.{cond_both}
use Rattle.lists.proofs.Rows.{clash, replicate_default}
use Rattle.server.specs.Table.{Job, Table}
use Rattle.server.specs.Requests.{Event, sends, Request, reset, pre_sleep, echo, can_do, cant_do, identify, grab, submit, work, get_status, option, requested, from_reading, request_in}
use Rattle.server.specs.Requests as R
use Rattle.server.specs.Events.{Send, Decision, silence, refuse, settle}
use Rattle.server.specs.Server.{Server, Sent, render, rework, decided, answer, next}
use Rattle.server.specs.Refusals.{error_text, is_told, last_number}
use Rattle.server_laws.proofs.Outcome.{Refuses, unread, no_room, no_function, no_place, no_serial, not_held, no_option, Served, Silences, no_connection, closes_none, sends_closed, opens_twice, Outcome, outcome}

-- ---- the numbers that reading gives

abbrev bad_within : Request → Bool
bad_within (R.bad n) = within 5 10 n
bad_within reset = true
bad_within pre_sleep = true
bad_within echo = true
bad_within (can_do f) = true
bad_within (cant_do f) = true
bad_within (identify i) = true
bad_within (grab uniq) = true
bad_within (submit priority background f u size) = true
bad_within (work how kind h n d) = true
bad_within (get_status h) = true
bad_within (option name) = true

requested_within : (kind : ℕ) (a b c : Bytes) → bad_within (requested kind a b c) ≡ true
unfolding requested
requested_within kind a b c = rw (← (get_or-map bad_within)) (replicate_default 35 kind true)

abbrev Reads : Reading → Type 0
Reads r = bad_within (from_reading r) ≡ true

argued_reads : (kind : ℕ) (ps : Parts) → Reads (argued kind ps)
argued_reads kind bad = refl
argued_reads kind (parts as') = requested_within kind _ _ _

body_reads : (shape : Shape) (kind : ℕ) (d : Bytes) → Reads (body shape kind d)
unfolding body
body_reads shape kind d = cond_both Reads (is_own shape) (argued_reads kind (split (rules_of shape) d)) refl

header_reads : (magic : Bytes) (most : ℕ) (s : Bytes) (r : Reading) → Reads r → Reads (after_header (header magic most s) r)
unfolding header
header_reads magic most s r h =
    let P : ℕ → Type 0 = λ n. Reads (after_header n r) in
    cond_both P (ltb (length s) 12) refl
    (cond_both P (not (starts_with s magic)) refl
    (cond_both P (ltb most (number_at s 8)) refl
    (cond_both P (eqb (length s) (12 + number_at s 8)) h refl)))

request_reads : (b : Bytes) → bad_within (request_in b) ≡ true
unfolding request_in read
request_reads b = header_reads _ _ (masked requests b) _ (body_reads _ _ _)

-- a packet that cannot be read is refused by 5 to 10
pub bad_within_lem : (b : Bytes) (n : ℕ) → request_in b ≡ R.bad n → (5 ≤ n) × (n ≤ 10)
bad_within_lem b n q =
    let h : within 5 10 n ≡ true = subst (λ (a : Request). bad_within a ≡ true) q (request_reads b) in
    (leb-true 5 n (and_left (leb 5 n) (leb n 10) h), leb-true n 10 (and_right (leb 5 n) (leb n 10) h))

-- ---- the numbers of all grounds

-- a refusal's number is 2 to the last
abbrev Between : ℕ → Type 0
Between n = (2 ≤ n) × (n ≤ last_number)

refuses_between : {c : ℕ} {t : Table} {a : Request} {n : ℕ} → ((k : ℕ) → a ≡ R.bad k → Between k) → Refuses c t a n → Between n
refuses_between f (unread n) = f n refl
refuses_between f (no_room g e) = (omega arith, omega arith)
refuses_between f (no_function priority background g u size e₁ e₂) = (omega arith, omega arith)
refuses_between f (no_place priority background g u size q e₁ e₂ e₃) = (omega arith, omega arith)
refuses_between f (no_serial priority background g u size q p e₁ e₂ e₃ m) = (omega arith, omega arith)
refuses_between f (not_held how kind h n d e) = (omega arith, omega arith)
refuses_between f (no_option name e) = (omega arith, omega arith)

silences_between : {t : Table} {e : Event} {n : ℕ} → Silences t e n → Between n
silences_between (no_connection f e) = (omega arith, omega arith)
silences_between (closes_none c o) = (omega arith, omega arith)
silences_between (sends_closed c b o) = (omega arith, omega arith)
silences_between (opens_twice c o) = (omega arith, omega arith)

-- what is refused before anything is read is not told
silences_untold : {t : Table} {e : Event} {n : ℕ} → Silences t e n → is_told n ≡ false
unfolding is_told same
silences_untold (no_connection f e) = refl
silences_untold (closes_none c o) = refl
silences_untold (sends_closed c b o) = refl
silences_untold (opens_twice c o) = refl

-- ---- what a refusal leaves and sends

rework_same : (js : List Job) (o : Bytes) (ws : List Bytes) → rework js js o ws ≡ ws
rework_same [] o ws = refl
rework_same (j ∷ js) o [] = refl
rework_same (j ∷ js) o (w ∷ ws) = rw (eq-eqb j.row.serial j.row.serial refl) (ap {B = List Bytes} (λ (vs : List Bytes). w ∷ vs) (rework_same js o ws))

-- "one ERROR packet to the sender: the number as two decimal digits, a zero byte, the text"
abbrev pub error_packet : ℕ → ℕ → Sent
error_packet c n = record { to = c; kind = 19; shown = (n / 10 + 48) ∷ (n % 10 + 48) ∷ 0 ∷ error_text n; opaque_part = [] }

-- only a packet's sender is told
pub record TellsSender (e : Event) (s : Server) : Type 0 where
  pub sender : ℕ
  pub bytes : Bytes
  pub is : e ≡ sends sender bytes
  pub sent : (answer e s).sent ≡ error_packet sender (answer e s).number ∷ []

-- "All refusals keep table and workloads. 1 to 8 write nothing [..]. 9 to 15 write one ERROR packet to the sender"
pub record Refusal (e : Event) (s : Server) : Type 0 where
  pub keeps : next e s ≡ s
  pub least : 2 ≤ (answer e s).number
  pub most : (answer e s).number ≤ last_number
  pub silent : is_told (answer e s).number ≡ false → (answer e s).sent ≡ []
  pub tells : is_told (answer e s).number ≡ true → TellsSender e s

-- every event is done, which is number 0, or refused
pub data Fate (e : Event) (s : Server) : Type 0 where
  is_done : (answer e s).number ≡ 0 → Fate e s
  is_refused : Refusal e s → Fate e s

settled_fate : (e : Event) (s : Server) (ss : List Send) (u : Table) → decided e s ≡ settle ss u → Fate e s
unfolding answer settle
settled_fate e s ss u q = is_done (ap (λ (x : Decision). x.number) q)

-- the table stays, so do the workloads
kept_server : (e : Event) (s : Server) → (decided e s).table ≡ s.table → next e s ≡ s
unfolding next
kept_server e s q = rw q (ap (λ (ws : List Bytes). record { table = s.table; workloads = ws }) (rework_same s.table.jobs _ s.workloads))

served_fate : (c : ℕ) (b : Bytes) (s : Server) (d : Decision) → decided (sends c b) s ≡ d → Served c s.table (request_in b) d → Fate (sends c b) s
unfolding answer refuse render join
served_fate c b s d q (Served.done a ss u m) = settled_fate (sends c b) s ss u q
served_fate c b s d q (Served.refused a n r) =
    let w = refuses_between (λ k e. let z = bad_within_lem b k e in (omega (arith, z.0), omega (arith, z.1))) r in
    is_refused (record {
      keeps = kept_server (sends c b) s (ap (λ (x : Decision). x.table) q);
      least = rw q w.0;
      most = rw q w.1;
      silent = λ h. let i : is_told n ≡ false = rw q at h in rw (q, i);
      tells = λ h. let i : is_told n ≡ true = rw q at h in record { sender = c; bytes = b; is = refl; sent = rw (q, i) };
    })

outcome_fate : (e : Event) (s : Server) (d : Decision) → decided e s ≡ d → Outcome s.table e d → Fate e s
unfolding answer silence
outcome_fate e s d q (Outcome.silenced f n r) =
    let w = silences_between r in
    is_refused (record {
      keeps = kept_server e s (ap (λ (x : Decision). x.table) q);
      least = rw q w.0;
      most = rw q w.1;
      silent = λ h. rw q;
      tells = λ h. let i : is_told n ≡ true = rw q at h in clash i (silences_untold r);
    })
outcome_fate e s d q (Outcome.opened c o) = settled_fate e s _ _ q
outcome_fate e s d q (Outcome.closed c o) = settled_fate e s _ _ q
outcome_fate e s d q (Outcome.serves c b f o r) = served_fate c b s f q r

pub fate : (e : Event) (s : Server) → Fate e s
fate e s = outcome_fate e s _ refl (outcome e s)

-- a number that is not 0 is a refusal's
pub refusal : (e : Event) (s : Server) → ¬ ((answer e s).number ≡ 0) → Refusal e s
refusal e s n = by (fate e s)
  where
    by : Fate e s → Refusal e s
    by (is_done z) = absurd (n z)
    by (is_refused r) = r

-- The name of the hub, over calls on a host's memory: no call changes it, every handle that is given has it, and a handle with another hub's
-- name is nobody's. 02, ask 5. Assumes nothing.
use Prim.Native.Nat.{ℕ, zero, suc, ◌≤◌}
use mathlib.Core.Path.{◌≡◌, refl, ap, sym, ◌∙◌}
use mathlib.Core.Bool.{Bool, true, false, not, cond, ◌||◌}
use mathlib.Core.List.{List, []}
use native.Mathlib.Omega.{arith}
use borrow.Author.Tests.{le-ltb, ltb-false}
use lib.ListN.{length, take, drop, replicate}
use lib.Dec.{ltb}
use Rattle.octets.specs.Bytes.{Bytes, first_zero}
use Rattle.octets.specs.Put.{put}
use Rattle.octets.proofs.Strings.{and_right}
use Rattle.handle.specs.Handle.{handle, is_hub_name}
use Rattle.handle.proofs.Hubs.{one_hub}
use Rattle.lists.proofs.Rows.{clash, never}
use Rattle.server.specs.Sizes.{hub_size, workloads_size}
use Rattle.server.specs.Table.{Table, fresh, job_at}
use Rattle.packet.specs.Packet.{read, requests}
use Rattle.server.specs.Requests.{Event, sends}
use Rattle.server.specs.Rules.{obeys}
use Rattle.server.specs.Server.{Server, start}
use Rattle.server.specs.Layout.{text_at, table_of, bytes_of, table_size, hub_at, is_image}
use Rattle.server.specs.Call.{Made, made, make, server_in, too_short, is_sound, refused_by, call}
use Rattle.server_laws.proofs.Lengths.{hub_after}
use Rattle.server_laws.proofs.Obeyed.{obeyed}
use Rattle.server_calls.specs.History.{Call, Memory, events}
use Rattle.server_calls.proofs.Follows.{Running}
use Rattle.server_calls.proofs.Histories.{LongOutputs}
use Rattle.demands.specs.Messages.{told, messages_of}
use Rattle.demands.specs.Handles.{given, reading_tells, stands, Spent}
use Rattle.demands.specs.Hub.{Hub, Room, Long, call_on, after_calls, table_in, server_of, fresh_memory}
use Rattle.demands.proofs.Given.{stands_at, Known, standing, newest, given_known}
use Rattle.demands.proofs.Hubs.{fresh_server, hub_runs, call_tells, calls_hub}
use Rattle.demands.proofs.Handles.{table_after_lem, nobodys}
use Rattle.demands.proofs.Results.{call_held_stands}

-- ---- making a table

-- what is not made is refused by 1, and nothing is written
module _ (n : ℕ) (name t w : Bytes) where
  by_number : (b : Bool) (x : Made) → x.number ≡ 0 → ((cond b (made 1 t w) x).number ≡ 0 → ⊥) → cond b (made 1 t w) x ≡ made 1 t w
  by_number true x z f = refl
  by_number false x z f = absurd (f z)

  pub make_refused : ¬ ((make n name t w).number ≡ 0) → make n name t w ≡ made 1 t w
  unfolding make
  make_refused f =
      by_number (ltb (length t) (table_size n) || (ltb (length w) workloads_size || not (is_hub_name name)))
      (made 0 (put 0 (bytes_of (fresh n name)) t) (put 0 (replicate workloads_size 0) w)) refl f

  made_by : (a b c : Bool) (x : Made) → (cond (a || (b || not c)) (made 1 t w) x).number ≡ 0 → (a ≡ false) × (b ≡ false) × (c ≡ true)
  made_by true b c x z = absurd (omega arith)
  made_by false true c x z = absurd (omega arith)
  made_by false false true x z = (refl, refl, refl)
  made_by false false false x z = absurd (omega arith)

  -- what is made has long enough buffers and a hub's name
  pub make_long_named : (make n name t w).number ≡ 0 → (table_size n ≤ length t) × (workloads_size ≤ length w) × (is_hub_name name ≡ true)
  unfolding make
  make_long_named z =
      let (a, b, c) = made_by (ltb (length t) (table_size n)) (ltb (length w) workloads_size) (is_hub_name name) _ z in
      (ltb-false (length t) (table_size n) a, ltb-false (length w) workloads_size b, c)

  -- and what has both is made
  pub make_done : table_size n ≤ length t → workloads_size ≤ length w → is_hub_name name ≡ true → (make n name t w).number ≡ 0
  unfolding make
  make_done lt lw good = rw (le-ltb (length t) (table_size n) lt, le-ltb (length w) workloads_size lw, good)

-- a fresh table has the name that it was made with
pub fresh_name : (n : ℕ) (name : Bytes) → is_hub_name name ≡ true → (t w : Bytes) → Room n t w → (table_in n (fresh_memory n name t w)).hub ≡ name
unfolding server_in start fresh
fresh_name n name good t w r = ap (λ (s : Server). s.table.hub) (fresh_server n name good t w r)

-- ---- a table without a name

-- whatever is lent beside it, every call is refused by 1
pub nameless_refused : (n : ℕ) (e : Event) (t w o : Bytes) → is_hub_name (table_of n t).hub ≡ false → call n e t w o ≡ refused_by 1 t w o
unfolding is_sound call
nameless_refused n e t w o bad = by (is_sound n t) refl
  where
    unsound : is_sound n t ≡ true → ⊥
    unsound z = clash (obeyed (table_of n t) (and_right (is_image n t) (obeys (table_of n t)) z)).sound.named bad

    either : (a : Bool) → a || true ≡ true
    either true = refl
    either false = refl

    by : (b : Bool) → is_sound n t ≡ b → call n e t w o ≡ refused_by 1 t w o
    by true q = absurd (unsound q)
    by false q = rw (q, either (too_short n t w o))

-- so a table of zeros, which was a fresh one before hubs had names
abbrev zeros : ℕ → Bytes
zeros k = replicate k 0

drop_zeros : (at k : ℕ) → (i : ℕ) × (drop at (zeros k) ≡ zeros i)
drop_zeros zero k = (k, refl)
drop_zeros (suc at) zero = (0, refl)
drop_zeros (suc at) (suc k) = drop_zeros at k

no_text : (m i : ℕ) → let p = take (suc m) (zeros i) in take (first_zero p) p ≡ []
unfolding first_zero
no_text m zero = refl
no_text m (suc i) = refl

pub zeros_refused : (n : ℕ) (e : Event) (k : ℕ) (w o : Bytes) → call n e (replicate k 0) w o ≡ refused_by 1 (replicate k 0) w o
unfolding is_hub_name table_of text_at
zeros_refused n e k w o =
    let (i, q) = drop_zeros hub_at k in
    nameless_refused n e (replicate k 0) w o (ap is_hub_name (ap (λ (s : Bytes). let p = take hub_size s in take (first_zero p) p) q ∙ no_text 15 i))

-- ---- calls

module _ (n : ℕ) (m : Memory) (hub : Hub n m) where
  -- the name that the memory holds is one
  pub hub_named_lem : is_hub_name (table_in n m).hub ≡ true
  unfolding server_in
  hub_named_lem = (obeyed (table_in n m) (hub_runs n m hub).rules).sound.named

  -- no call changes it
  pub calls_name : (xs : List Call) → LongOutputs n xs → (table_in n (after_calls n xs m)).hub ≡ (table_in n m).hub
  unfolding server_in
  calls_name xs l = ap (λ (t : Table). t.hub) (table_after_lem n m hub xs l) ∙ hub_after (events xs) (server_of n m)

  -- every handle that is given has it
  pub call_named : (h : Bytes) (x : Call) → Long n x → given h (told (call_on n m x)) ≡ true → (serial : ℕ) × (h ≡ handle (table_in n m).hub serial)
  unfolding server_in
  call_named h x l g = by (given_known x.event (server_of n m) h (sym (ap (given h) (call_tells n m hub x l)) ∙ g))
    where
      by : {i : ℕ} → Known (server_of n m) i h → (serial : ℕ) × (h ≡ handle (table_in n m).hub serial)
      by (standing a) = ((job_at (server_of n m).table a.place).row.serial, a.is)
      by (newest room last q) = (suc (server_of n m).table.last, q)

  -- and so does the handle that a worker packet names, if it is done
  pub work_named : (x : Call) → Long n x → (d : ℕ) (b h : Bytes) → x.event ≡ sends d b → reading_tells h (read requests b) ≡ true → (call_on n m x).number ≡ 0
      → (serial : ℕ) × (h ≡ handle (table_in n m).hub serial)
  work_named x l d b h e w z =
      let a = stands_at h (table_in n m) (call_held_stands n m hub x l d b h e w z) in
      ((job_at (table_in n m) a.place).row.serial, a.is)

-- ---- handles of other hubs

module _ (n : ℕ) (other : Bytes) (good : is_hub_name other ≡ true) (serial : ℕ) where
  -- no unfinished job has it, and no event gives it
  foreign_nobody : (s : Server) → Running n s → ¬ (other ≡ s.table.hub) → stands (handle other serial) s.table ≡ false
  foreign_nobody s r d = never _ (λ e. let a = stands_at (handle other serial) s.table e in d (one_hub other s.table.hub serial _ good (obeyed s.table r.rules).sound.named a.is))

  foreign_ungiven : (s : Server) → Running n s → ¬ (other ≡ s.table.hub) → (e : Event) → given (handle other serial) (messages_of e s) ≡ false
  foreign_ungiven s r d e = never _ (λ g. by (given_known e s (handle other serial) g))
    where
      own : (k : ℕ) → handle other serial ≡ handle s.table.hub k → ⊥
      own k q = d (one_hub other s.table.hub serial k good (obeyed s.table r.rules).sound.named q)

      by : {i : ℕ} → Known s i (handle other serial) → ⊥
      by (standing a) = own _ a.is
      by (newest room last q) = own _ q

  pub call_foreign : (m : Memory) → Hub n m → ¬ (other ≡ (table_in n m).hub) → Spent n (handle other serial) m
  unfolding server_in
  call_foreign m hub d = nobodys n (handle other serial) m hub (foreign_nobody (server_of n m) (hub_runs n m hub) d) (foreign_ungiven (server_of n m) (hub_runs n m hub) d)

-- after any calls
pub calls_foreign : (n : ℕ) (m : Memory) → Hub n m → (other : Bytes) → is_hub_name other ≡ true → ¬ (other ≡ (table_in n m).hub) → (serial : ℕ) → (xs : List Call) → LongOutputs n xs
    → Spent n (handle other serial) (after_calls n xs m)
calls_foreign n m hub other good d serial xs l = call_foreign n other good serial (after_calls n xs m) (calls_hub n xs m hub l) (λ q. d (q ∙ calls_name n m hub xs l))

-- what one hub gives, another one never gives
pub calls_apart : (n k : ℕ) (m w : Memory) → Hub n m → Hub k w → ¬ ((table_in n m).hub ≡ (table_in k w).hub) → (xs ys : List Call) → LongOutputs n xs → LongOutputs k ys
    → (x y : Call) → Long n x → Long k y → (h : Bytes) → given h (told (call_on n (after_calls n xs m) x)) ≡ true → given h (told (call_on k (after_calls k ys w) y)) ≡ false
calls_apart n k m w hm hw d xs ys lxs lys x y lx ly h g =
    let u = after_calls n xs m in
    let hu = calls_hub n xs m hm lxs in
    let (i, q) = call_named n u hu h x lx g in
    let far : ¬ ((table_in n u).hub ≡ (table_in k w).hub) = λ e. d (sym (calls_name n m hm xs lxs) ∙ e) in
    ap (λ (z : Bytes). given z (told (call_on k (after_calls k ys w) y))) q ∙ (calls_foreign k w hw (table_in n u).hub (hub_named_lem n u hu) far i ys lys).ungiven y ly

-- The listeners of a job, before an event and after it: who was told its handle, in answer to a foreground submission, since it opened its
-- connection. Assumes nothing.
use Prim.Native.Nat.{ℕ, suc, ◌<◌, ◌^◌}
use mathlib.Core.Path.{◌≡◌, refl, ap, sym, ◌∙◌, subst}
use mathlib.Core.Bool.{Bool, true, false, not, cond, ◌||◌, ◌&&◌}
use Rattle.std.specs.Prelude.{Some}
use native.Mathlib.Decide.{ℕ_discrete}
use native.Mathlib.Omega.{arith}
use borrow.Author.Tests.{eq-eqb, ne_eqb, eqb-true, ltb-true, ltb-false, lt-ltb}
use lib.ListN.{length}
use lib.Dec.{eqb, ltb}
use Rattle.octets.specs.Bytes.{Bytes}
use Rattle.octets.proofs.Strings.{and_false, and_left, and_right, and_both, same_refl, same_is}
use Rattle.handle.specs.Handle.{handle}
use Rattle.handle.proofs.Handles.{handle_one_to_one}
use Rattle.sets.specs.Sets.{has, insert, remove}
use Rattle.sets.proofs.Laws.{zero_has, has_insert_same, has_insert_other, has_remove_same, has_remove_other, has_above}
use Rattle.lists.specs.Lists.{any, implies}
use Rattle.lists.proofs.Cases.{cond_both}
use Rattle.lists.proofs.Rows.{or_off, clash, iff, never, implies_use, all_row, any_at, any_where, pairwise_at, below_at}
use Rattle.server.specs.declared.JobRow.{JobRow}
use Rattle.server.specs.Table.{Job, Table, no_job, job_at, live, held_by, has_handle, fresh_row}
use Rattle.server.specs.Requests.{Event, opens, closes, sends, tells, reports, ends, throws}
use Rattle.server.specs.Events.{Decision, left_by, submitted_by, silence, settle, only_if_open}
use Rattle.server.specs.Rules.{serials_apart, only_open, is_open}
use Rattle.server.specs.Server.{Server, answer, decided, next}
use Rattle.server_laws.proofs.Outcome.{Stands, Silences, Outcome, outcome}
use Rattle.server_laws.proofs.Openness.{none_open}
use Rattle.server_laws.proofs.Obeyed.{obeyed}
use Rattle.server_laws.proofs.Accepting.{submitted_keeps}
use Rattle.server_laws.proofs.Closing.{left_serial}
use Rattle.server_laws.proofs.Places.{Untouched, Becomes, stays, begins, joins, taken, told, left, drops}
use Rattle.server_laws.proofs.Fates.{fates}
use Rattle.server_calls.proofs.Follows.{Running, running_next}
use Rattle.demands.specs.Messages.{messages_of}
use Rattle.demands.specs.Handles.{stands}
use Rattle.demands.specs.Conditions.{type_of}
use Rattle.demands.specs.Listening.{is_foreground, tells_created, heard_after, listens}
use Rattle.demands.proofs.Given.{At, stands_at}
use Rattle.demands.proofs.Gone.{last_fits, serial_past, inside_live, hub_before}
use Rattle.demands.proofs.Submissions.{foreground_asks, other_foreground, tells_created_lem, join_packets, make_packets, Created, by_joining, by_making, created_known}

-- ---- one place for each serial

module _ (n : ℕ) (s : Server) (r : Running n s) where
  abbrev t : Table
  t = s.table

  -- two unfinished jobs with one serial stand at one place
  same_place : (p q : ℕ) → p < length t.jobs → q < length t.jobs → live (job_at t p).row ≡ true → live (job_at t q).row ≡ true → (job_at t p).row.serial ≡ (job_at t q).row.serial → p ≡ q
  same_place p q i k l m e = by (ltb p q) refl (ltb q p) refl
    where
      apart : (x y : ℕ) → x < y → y < length t.jobs → live (job_at t x).row ≡ true → (job_at t x).row.serial ≡ (job_at t y).row.serial → ⊥
      apart x y h z v w =
          let a = pairwise_at serials_apart t.jobs x y no_job (obeyed t r.rules).sound.serials h z in
          clash a (rw (v, eq-eqb _ _ w))

      by : (b : Bool) → ltb p q ≡ b → (d : Bool) → ltb q p ≡ d → p ≡ q
      by true f d g = absurd (apart p q (ltb-true p q f) k l e)
      by false f true g = absurd (apart q p (ltb-true q p g) i m (sym e))
      by false f false g = let x = ltb-false p q f in let y = ltb-false q p g in omega arith

  -- the job with this handle stands at one place
  pub handle_place : (h : Bytes) (a : At h t) (q : ℕ) → q < length t.jobs → live (job_at t q).row ≡ true → h ≡ handle t.hub (job_at t q).row.serial → q ≡ a.place
  handle_place h a q i l e =
      let m = last_fits n s r in
      let x = serial_past n s r q i in
      let y = serial_past n s r a.place a.inside in
      same_place q a.place i a.inside l a.live' (handle_one_to_one t.hub _ _ (omega arith) (omega arith) (sym e ∙ a.is))

  -- its listeners
  pub listens_at : (c : ℕ) (h : Bytes) (a : At h t) → listens c h t ≡ has (job_at t a.place).row.listeners c
  unfolding listens has_handle
  listens_at c h a = iff _ _ forth back
    where
      forth : any (λ j. has_handle t.hub h j.row && has j.row.listeners c) t.jobs ≡ true → has (job_at t a.place).row.listeners c ≡ true
      forth e =
          let (p, i, q) = any_where (λ j. has_handle t.hub h j.row && has j.row.listeners c) t.jobs no_job e in
          let row = (job_at t p).row in
          let x = and_left (has_handle t.hub h row) _ q in
          let z : p ≡ a.place = handle_place h a p i (and_left (live row) _ x) (sym (same_is _ _ (and_right (live row) _ x))) in
          subst (λ (k : ℕ). has (job_at t k).row.listeners c ≡ true) z (and_right (has_handle t.hub h row) _ q)

      back : has (job_at t a.place).row.listeners c ≡ true → any (λ j. has_handle t.hub h j.row && has j.row.listeners c) t.jobs ≡ true
      back e =
          let row = (job_at t a.place).row in
          any_at (λ j. has_handle t.hub h j.row && has j.row.listeners c) t.jobs a.place no_job a.inside
          (and_both (has_handle t.hub h row) _ (and_both (live row) _ a.live' (rw a.is (same_refl _))) e)

  -- nobody listens to a job that does not stand
  pub nobody_listens : (c : ℕ) (h : Bytes) → (stands h t ≡ true → ⊥) → listens c h t ≡ false
  unfolding listens stands
  nobody_listens c h z = never _ (λ e.
      let (p, i, q) = any_where (λ j. has_handle t.hub h j.row && has j.row.listeners c) t.jobs no_job e in
      z (any_at (λ j. has_handle t.hub h j.row) t.jobs p no_job i (and_left (has_handle t.hub h (job_at t p).row) _ q)))

  -- a listener is a connection, and it is open
  module _ (c p : ℕ) (e : has (job_at t p).row.listeners c ≡ true) where
    only_open_lem : only_open t (job_at t p).row.listeners ≡ true
    only_open_lem = all_row (λ j. only_open t j.row.listeners) t.jobs p no_job (obeyed t r.rules).sound.listeners (none_open t)

    pub listener_inside : ltb c (length t.connections) ≡ true
    listener_inside = by (ltb c (length t.connections)) refl
      where
        by : (x : Bool) → ltb c (length t.connections) ≡ x → x ≡ true
        by true f = refl
        by false f =
            let s = (job_at t p).row.listeners in
            clash e (has_above s (length t.connections) c (ltb-true s _ (and_left (ltb s (2 ^ length t.connections)) _ only_open_lem)) (ltb-false c _ f))

    listener_open : is_open t c ≡ true
    listener_open =
        let s = (job_at t p).row.listeners in
        implies_use (has s c) _
        (below_at (λ k. implies (has s k) (is_open t k)) (length t.connections) c (and_right (ltb s (2 ^ length t.connections)) _ only_open_lem) (ltb-true c _ listener_inside)) e

-- ---- numbers of opens and closes

silent_some : {t : Table} {e : Event} {n : ℕ} → Silences t e n → n ≡ 0 → ⊥
silent_some (Silences.no_connection f i) z = omega arith
silent_some (Silences.closes_none c o) z = omega arith
silent_some (Silences.sends_closed c b o) z = omega arith
silent_some (Silences.opens_twice c o) z = omega arith

opens_done : (c : ℕ) (s : Server) → (answer (opens c) s).number ≡ 0 → is_open s.table c ≡ false
unfolding answer silence
opens_done c s = by (outcome (opens c) s)
  where
    by : {d : Decision} → Outcome s.table (opens c) d → d.number ≡ 0 → is_open s.table c ≡ false
    by (Outcome.silenced e n r) z = absurd (silent_some r z)
    by (Outcome.opened c o) z = o.state

closes_done : (c : ℕ) (s : Server) → (answer (closes c) s).number ≡ 0 → Stands s.table c true
unfolding answer silence
closes_done c s = by (outcome (closes c) s)
  where
    by : {d : Decision} → Outcome s.table (closes c) d → d.number ≡ 0 → Stands s.table c true
    by (Outcome.silenced e n r) z = absurd (silent_some r z)
    by (Outcome.closed c o) z = o

closes_number : (c : ℕ) (s : Server) → Stands s.table c true → (answer (closes c) s).number ≡ 0
unfolding answer decided only_if_open settle
closes_number c s o = rw (lt-ltb c (length s.table.connections) o.inside, o.state)

-- ---- tests

or_on : (b : Bool) → b || true ≡ true
or_on true = refl
or_on false = refl

and_assoc_true : (x y z : Bool) → (x && y) && z ≡ true → y && z ≡ true
and_assoc_true true y z e = e
and_assoc_true false y z e = clash e refl

-- ---- one event

module _ (n : ℕ) (s : Server) (r : Running n s) (c : ℕ) (h : Bytes) where
  abbrev u : Table
  u = s.table

  abbrev Heard : Event → Bool → Type 0
  Heard e x = x ≡ heard_after c h (listens c h u) e (answer e s).number (messages_of e s)

  -- the job stood there before, with the same serial
  abbrev before : (p : ℕ) → live (job_at u p).row ≡ true → h ≡ handle u.hub (job_at u p).row.serial → At h u
  before p l e = record { place = p; inside = inside_live u p l; live' = l; is = e }

  was : (p : ℕ) → live (job_at u p).row ≡ true → h ≡ handle u.hub (job_at u p).row.serial → listens c h u ≡ has (job_at u p).row.listeners c
  was p l e = listens_at n s r c h (before p l e)

  -- a packet that tells nobody of this job changes nothing
  unheard : (d : ℕ) (b : Bytes) → is_foreground (type_of b) && tells_created c h (messages_of (sends d b) s) ≡ false → Heard (sends d b) (listens c h u)
  unheard d b z =
      let y : (eqb d c && is_foreground (type_of b)) && tells_created c h (messages_of (sends d b) s) ≡ false = never _ (λ e. clash (and_assoc_true (eqb d c) _ _ e) z) in
      sym (rw (and_false (eqb (answer (sends d b) s).number 0), y) (or_off (listens c h u)))

  -- a packet of another type
  other_heard : (d : ℕ) (b : Bytes) → is_foreground (type_of b) ≡ false → Heard (sends d b) (listens c h u)
  other_heard d b z = unheard d b (rw z)

  -- a job that stays as it is
  stays_heard : (e : Event) (p : ℕ) → Untouched u p e → live (job_at u p).row ≡ true → h ≡ handle u.hub (job_at u p).row.serial → Heard e (listens c h u)
  stays_heard (opens d) p z l q = by (eqb (answer (opens d) s).number 0) refl (eqb d c) refl
    where
      by : (x : Bool) → eqb (answer (opens d) s).number 0 ≡ x → (y : Bool) → eqb d c ≡ y → listens c h u ≡ cond (x && y) false (listens c h u || false)
      by true e true f =
          let o : is_open u c ≡ false = subst (λ (k : ℕ). is_open u k ≡ false) (eqb-true d c f) (opens_done d s (eqb-true _ 0 e)) in
          was p l q ∙ never _ (λ i. clash (listener_open n s r c p i) o)
      by true e false f = sym (or_off _)
      by false e y f = sym (or_off _)
  stays_heard (closes d) p z l q = by (eqb (answer (closes d) s).number 0) refl
    where
      by : (x : Bool) → eqb (answer (closes d) s).number 0 ≡ x → listens c h u ≡ cond (x && eqb d c) false (listens c h u || false)
      by true e = absurd (z (closes_done d s (eqb-true _ 0 e)))
      by false e = sym (or_off _)
  stays_heard (sends d b) p z l q = unheard d b (never _ (λ e. by (created_known c d b h s e)))
    where
      by : Created d b u h → ⊥
      by (by_joining o i y k v w) = z o (y ∙ ap Some (handle_place n s r h (before p l q) i k v w))
      by (by_making room w) =
          let x = serial_past n s r p (inside_live u p l) in
          let y : (job_at u p).row.serial ≡ suc u.last = handle_one_to_one u.hub _ _ (omega arith) (omega arith) (sym q ∙ w) in
          omega arith

  -- a submission's mark, its sender and its handle
  joined_listeners : (d : ℕ) (background : Bool) (row : JobRow) → has (submitted_by d background row).listeners c ≡ has row.listeners c || (not background && eqb d c)
  joined_listeners d true row = sym (or_off _)
  joined_listeners d false row = by (ℕ_discrete d c)
    where
      by : Dec (d ≡ c) → has (insert row.listeners d) c ≡ has row.listeners c || eqb d c
      by (yes e) = rw (e, has_insert_same row.listeners c, eq-eqb c c refl) (sym (or_on (has row.listeners c)))
      by (no e) = rw (has_insert_other row.listeners d c (λ z. e (sym z)), ne_eqb d c e) (sym (or_off _))

  -- a submission tells its sender of this job
  submission_heard : (d : ℕ) (b : Bytes) (background : Bool) → is_foreground (type_of b) ≡ not background → tells_created c h (messages_of (sends d b) s) ≡ eqb d c && true
      → Heard (sends d b) (listens c h u || (not background && eqb d c))
  submission_heard d b background f g =
      rw (and_false (eqb (answer (sends d b) s).number 0), f, g) (ap (λ (x : Bool). listens c h u || x) (both (not background) (eqb d c)))
    where
      both : (x y : Bool) → x && y ≡ (y && x) && (y && true)
      both true true = refl
      both true false = refl
      both false true = refl
      both false false = refl

  -- no job has the next serial yet
  new_none : stands h u ≡ true → h ≡ handle u.hub (suc u.last) → u.last < 4294967295 → ⊥
  new_none y k m =
      let a = stands_at h u y in
      let x = serial_past n s r a.place a.inside in
      let z : (job_at u a.place).row.serial ≡ suc u.last = handle_one_to_one u.hub _ _ (omega arith) (omega arith) (sym a.is ∙ k) in
      omega arith

  -- ---- each fate

  heard_by : (p : ℕ) {last : ℕ} {e : Event} {k : Job} → Becomes u last p (job_at u p) e k → live k.row ≡ true → h ≡ handle u.hub k.row.serial → Heard e (has k.row.listeners c)
  heard_by p (stays e z) l q = sym (was p l q) ∙ stays_heard e p z l q
  heard_by p (begins d b priority background f v size i o a z r₁ r₂ r₃ m e) l q =
      let row = fresh_row (suc u.last) i priority size in
      let (ls, g) = make_packets s d b o priority background f v size a i p r₁ r₂ r₃ m in
      let k : h ≡ handle u.hub (suc u.last) = q ∙ ap (handle u.hub) (submitted_keeps d background row).serial in
      let w : tells_created c h (messages_of (sends d b) s) ≡ eqb d c && true = tells_created_lem c h (sends d b) s d (suc u.last) ls g ∙ rw k (ap (λ (x : Bool). eqb d c && x) (same_refl (handle u.hub (suc u.last)))) in
      joined_listeners d background row
      ∙ ap (λ (x : Bool). x || (not background && eqb d c)) (zero_has c ∙ sym (nobody_listens n s r c h (λ y. new_none y k m)))
      ∙ submission_heard d b background (foreground_asks b priority background f v size a) w
  heard_by p (joins d b priority background f v size o a y) l q =
      let j = job_at u p in
      let x = (submitted_keeps d background j.row).serial in
      let k : h ≡ handle u.hub j.row.serial = q ∙ ap (handle u.hub) x in
      let i : live j.row ≡ true = ap (λ (m : ℕ). not (eqb m 0)) (sym x) ∙ l in
      let (ls, g) = join_packets s d b o priority background f v size a p y in
      let w : tells_created c h (messages_of (sends d b) s) ≡ eqb d c && true = tells_created_lem c h (sends d b) s d j.row.serial ls g ∙ rw k (ap (λ (x : Bool). eqb d c && x) (same_refl (handle u.hub j.row.serial))) in
      joined_listeners d background j.row
      ∙ ap (λ (x : Bool). x || (not background && eqb d c)) (sym (was p i k))
      ∙ submission_heard d b background (foreground_asks b priority background f v size a) w
  heard_by p (taken d b uniq o a y) l q = sym (was p l q) ∙ other_heard d b (other_foreground b a refl refl)
  heard_by p (told d b tells kind j x y o a w) l q = sym (was p l q) ∙ other_heard d b (other_foreground b a refl refl)
  heard_by p (told d b reports kind j x y o a w) l q = sym (was p l q) ∙ other_heard d b (other_foreground b a refl refl)
  heard_by p (told d b ends kind j x y o a w) l q = clash l refl
  heard_by p (told d b throws kind j x y o a w) l q = clash l refl
  heard_by p (left d o z) l q =
      let j = job_at u p in
      let x = left_serial d j in
      let y : (left_by d j).row.listeners ≡ remove j.row.listeners d = cond_both (λ (k : Job). k.row.listeners ≡ remove j.row.listeners d) (held_by d j.row) refl refl in
      let k : h ≡ handle u.hub j.row.serial = q ∙ ap (handle u.hub) x in
      let i : live j.row ≡ true = ap (λ (m : ℕ). not (eqb m 0)) (sym x) ∙ l in
      ap (λ (m : ℕ). has m c) y
      ∙ by j.row.listeners (ℕ_discrete d c)
      ∙ rw (eq-eqb _ _ (closes_number d s o), was p i k)
    where
      by : (m : ℕ) → Dec (d ≡ c) → has (remove m d) c ≡ cond (eqb d c) false (has m c || false)
      by m (yes e) = rw (e, eq-eqb c c refl) (has_remove_same m c)
      by m (no e) = rw (ne_eqb d c e) (has_remove_other m d c (λ i. e (sym i)) ∙ sym (or_off _))
  heard_by p (drops d o z) l q = clash l refl

-- whoever listens afterwards has been told
pub step_heard : (n : ℕ) (s : Server) → Running n s → (c : ℕ) (h : Bytes) (e : Event) → stands h (next e s).table ≡ true
    → listens c h (next e s).table ≡ heard_after c h (listens c h s.table) e (answer e s).number (messages_of e s)
unfolding next
step_heard n s r c h e y =
    let a = stands_at h (next e s).table y in
    listens_at n (next e s) (running_next n e s r) c h a ∙ heard_by n s r c h a.place (fates e s r.rules a.place) a.live' (hub_before e s h a)

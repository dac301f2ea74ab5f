-- Demand 3, its sentences on one packet: one submission, one worker packet or one echo has other opaque bytes, and all other events
-- are equal. What may then differ, at that event and at any events after it; from any server. Assumes nothing.
use Prim.Native.Nat.{ℕ, suc}
use mathlib.Core.Path.{◌≡◌, refl, ap, ap₂, ◌∙◌, subst}
use mathlib.Core.List.{List, [], ◌∷◌, ◌++◌}
use Rattle.octets.specs.Bytes.{Bytes}
use Rattle.handle.specs.Handle.{handle}
use Rattle.server.specs.Table.{Table}
use Rattle.server.specs.Requests.{Event, Request}
use Rattle.server.specs.Events.{Decision}
use Rattle.server.specs.Server.{Server, Sent, Answer, opaque_of, rework, decided, next, answer, after, answers}
use Rattle.lists.proofs.Cases.{All2}
use Rattle.server_laws.proofs.Serials.{Stays, Makes, IsSubmit, Submits, submits, Creates, Creation, nothing, one, creation, numbered}
use Rattle.server_blind.proofs.Alike.{Alike, decided_alike}
use Rattle.server_blind.proofs.Blind.{answer_alike}
use Rattle.server_blind.proofs.Workloads.{its, near_same, rework_near, rework_blind, Apart, AgreeBut, answers_but}
use Rattle.server_laws.proofs.Lengths.{hub_kept}
use Rattle.server_blind.proofs.Copies.{Sees, sees_echo, sees_work, MaySee, sees, ButTo, equal, differs, answer_to_lem}

-- ---- the server after the event

module _ {e f : Event} (a : Alike e f) (s : Server) where
  decided_both : decided e s ≡ decided f s
  decided_both = decided_alike a s s refl

  -- no job was made: the two servers are one
  stays_same : Stays s.table (next e s).table → next e s ≡ next f s
  unfolding next
  stays_same m =
      ap₂ {C = Server} (λ (t : Table) (ws : List Bytes). record { table = t; workloads = ws }) (ap (λ (d : Decision). d.table) decided_both)
      (rework_blind (opaque_of e) (opaque_of f) m.jobs s.workloads ∙ ap (λ (d : Decision). rework s.table.jobs d.table.jobs (opaque_of f) s.workloads) decided_both)

  -- a job was made: they differ at most in its workload
  pub makes_apart : (c : ℕ) → Makes c s.table (decided e s) → Apart (suc s.table.last) (next e s) (next f s)
  unfolding next
  makes_apart c m = record {
    table = ap (λ (d : Decision). d.table) decided_both;
    workloads = rw (← decided_both) (rework_near (opaque_of e) (opaque_of f) (its refl) m.jobs (near_same _ s.table.jobs s.workloads));
  }

  -- an event that created no job: the servers after it are one, so nothing at all differs later
  pub lone_none : ((k : ℕ) → ¬ Creates s e k) → next e s ≡ next f s
  lone_none n = by (creation s e)
    where
      by : Creation s e → next e s ≡ next f s
      by (nothing m z) = stays_same m
      by (one d i m c g) = absurd (n _ c)

  -- an event that created the job with serial k: later, nothing differs but the workload in assignments of that job
  pub lone_created : (k : ℕ) → Creates s e k → (later : List Event) → All2 (AgreeBut (handle s.table.hub k)) (answers (next e s) later) (answers (next f s) later)
  lone_created k c later = by (creation s e)
    where
      by : Creation s e → All2 (AgreeBut (handle s.table.hub k)) (answers (next e s) later) (answers (next f s) later)
      by (nothing m z) = absurd (z k c)
      by (one x i m d g) = rw (g k c).is
          (subst (λ (hub : Bytes). All2 (AgreeBut (handle hub (suc s.table.last))) (answers (next e s) later) (answers (next f s) later)) (hub_kept e s) (answers_but _ later (next e s) (next f s) (makes_apart x m)))

-- ---- one submission

-- it made no job, as when it joins one or is refused, and everything later is equal; or it made the job with the next serial, and
-- later answers agree but for the workload in assignments of that job
pub data Later (e f : Event) (s : Server) : Type 0 where
  made_none : ((k : ℕ) → ¬ Creates s e k) → next e s ≡ next f s → Later e f s
  made_one : Creates s e (suc s.table.last)
      → ((later : List Event) → All2 (AgreeBut (handle s.table.hub (suc s.table.last))) (answers (next e s) later) (answers (next f s) later)) → Later e f s

later_by : {e f : Event} → Alike e f → (s : Server) → Creation s e → Later e f s
later_by a s (nothing m n) = made_none n (lone_none a s n)
later_by a s (one d i m c g) = made_one c (lone_created a s _ c)

submits_unseen : {a : Request} {c l : ℕ} {t : Table} → IsSubmit a → ¬ Sees c t a l
submits_unseen i sees_echo = elim i [ ]
submits_unseen i (sees_work x w) = elim i [ ]

nobody_sees : {e : Event} {d : ℕ} → Submits e d → (t : Table) (l : ℕ) → ¬ MaySee t e l
nobody_sees (submits c b i) t l (sees x y z) = submits_unseen i z

all_equal : {P : ℕ → Type 0} → ((l : ℕ) → ¬ P l) → {ps qs : List Sent} → All2 (ButTo P) ps qs → ps ≡ qs
all_equal n All2.none = refl
all_equal n (All2.more (equal e) rest) = ap₂ ◌∷◌ e (all_equal n rest)
all_equal n (All2.more (differs x l) rest) = absurd (n _ x)

-- the submission's own answer is equal, and later ones as said above
pub lone_submission : {e f : Event} → Alike e f → (s : Server) {c : ℕ} → Submits e c → (answer e s ≡ answer f s) × Later e f s
lone_submission {e} {f} a s i =
    let ps : (answer e s).sent ≡ (answer f s).sent = all_equal (nobody_sees i s.table) (answer_to_lem a s) in
    (ap₂ {C = Answer} (λ (n : ℕ) (qs : List Sent). record { number = n; sent = qs }) (answer_alike a s s refl).number ps, later_by a s (creation s e))

-- ---- one event that is no submission

-- the servers after it are one, so nothing at all differs later; and at the event itself the number is the same, and only packets
-- to these connections differ, and those in their opaque part alone
pub record OnlyTo (P : ℕ → Type 0) (e f : Event) (s : Server) : Type 0 where
  pub server : next e s ≡ next f s
  pub number : (answer e s).number ≡ (answer f s).number
  pub sent : All2 (ButTo P) (answer e s).sent (answer f s).sent

module _ {e f : Event} (a : Alike e f) (s : Server) where
  -- whatever it is, if it is no submission: only those who may see its opaque bytes are told other ones
  pub lone_other : ((c : ℕ) → ¬ Submits e c) → OnlyTo (MaySee s.table e) e f s
  lone_other n = record {
    server = lone_none a s (λ k c. n (numbered c).sender (numbered c).asks);
    number = (answer_alike a s s refl).number;
    sent = answer_to_lem a s;
  }

-- ---- in a history

-- the answers of a history: those before an event, its own, and those after it
pub around : (before : List Event) (e : Event) (later : List Event) (s : Server)
    → answers s (before ++ (e ∷ later)) ≡ answers s before ++ (answer e (after s before) ∷ answers (next e (after s before)) later)
unfolding answers after
around [] e later s = refl
around (x ∷ before) e later s = ap (λ (l : List Answer). answer x s ∷ l) (around before e later (next x s))

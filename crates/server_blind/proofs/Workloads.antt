-- Two servers with equal tables whose workloads agree but for the job with serial k. Whatever comes later, they stay so, and their
-- answers differ at most in the workload of an assignment of that job. Assumes nothing.
use Prim.Native.Nat.{ℕ, zero, suc}
use native.Mathlib.Decide.{ℕ_discrete}
use native.Mathlib.Omega.{arith}
use mathlib.Core.Path.{◌≡◌, refl, ap, ap₂, sym, ◌∙◌, subst}
use mathlib.Core.Bool.{Bool, true, false, not, cond}
use mathlib.Core.List.{List, [], ◌∷◌, ◌++◌, map}
use lib.ListN.{get_or, drop, replicate}
use lib.Dec.{eqb}
use borrow.Author.Tests.{eqb-true, eqb-false}
use Rattle.octets.specs.Bytes.{Bytes}
use Rattle.handle.specs.Handle.{handle}
use Rattle.server_laws.proofs.Lengths.{hub_kept}
use Rattle.packet.specs.Arguments.{join}
use Rattle.lists.specs.Lists.{fit}
use Rattle.server.specs.Sizes.{workload_size}
use Rattle.server.specs.Table.{Job, Table, no_job, job_at}
use Rattle.server.specs.Requests.{Event}
use Rattle.server.specs.Events.{Send, plain, copy, assign, Decision}
use Rattle.server.specs.Server.{Server, Sent, Answer, opaque_of, assignment, render, reworked, rework, decided, next, answer, answers}
use Rattle.lists.proofs.Cases.{All2}
use Rattle.server_laws.proofs.Serials.{Follows, kept, ended, began, Moves, keeps, adds, moved}
use Rattle.server_blind.proofs.Alike.{alike_same, Like, decided_alike, like_render}

-- ---- workloads

-- at each place whose serial is not k the bytes are equal
pub data Near (k : ℕ) : List Job → List Bytes → List Bytes → Type 0 where
  beyond : {ws : List Bytes} → Near k [] ws ws
  short : {j : Job} {js : List Job} → Near k (j ∷ js) [] []
  place : {j : Job} {js : List Job} {w v : Bytes} {ws vs : List Bytes}
      → (¬ (j.row.serial ≡ k) → w ≡ v) → Near k js ws vs → Near k (j ∷ js) (w ∷ ws) (v ∷ vs)

pub near_same : (k : ℕ) (js : List Job) (ws : List Bytes) → Near k js ws ws
near_same k [] ws = beyond
near_same k (j ∷ js) [] = short
near_same k (j ∷ js) (w ∷ ws) = place (λ n. refl) (near_same k js ws)

pub near_at : {k : ℕ} {js : List Job} {ws vs : List Bytes} → Near k js ws vs → (i : ℕ) → ¬ ((get_or js i no_job).row.serial ≡ k) → get_or ws i [] ≡ get_or vs i []
near_at beyond i n = refl
near_at short i n = refl
near_at (place f r) zero n = f n
near_at (place f r) (suc i) n = near_at r i n

-- why two servers may store different bytes for a new job with serial n: it is k, or there is no such job; or they are equal
pub data Harmless (k n : ℕ) (x y : Bytes) : Type 0 where
  equal : x ≡ y → Harmless k n x y
  its : n ≡ k → Harmless k n x y
  nobody : n ≡ 0 → Harmless k n x y

-- a job stands at a place where another one stood, or none: it is the new one
new_is : (n : ℕ) (j l : Job) → Follows n j l → eqb j.row.serial l.row.serial ≡ false → ¬ (l.row.serial ≡ 0) → l.row.serial ≡ n
new_is n j l (kept x) e z = absurd (eqb-false _ _ e (sym x))
new_is n j l (ended x) e z = absurd (z x)
new_is n j l (began x) e z = x

reworked_near : (k n : ℕ) (j l : Job) (x y w v : Bytes) → Harmless k n x y → Follows n j l → (¬ (j.row.serial ≡ k) → w ≡ v) → ¬ (l.row.serial ≡ k)
    → reworked j.row l.row x w ≡ reworked j.row l.row y v
reworked_near k n j l x y w v h f p m = by (eqb j.row.serial l.row.serial) refl (eqb l.row.serial 0) refl h
  where
    by : (b : Bool) → eqb j.row.serial l.row.serial ≡ b → (d : Bool) → eqb l.row.serial 0 ≡ d → Harmless k n x y
        → cond b w (cond (not d) (fit workload_size x) (replicate 1024 0)) ≡ cond b v (cond (not d) (fit workload_size y) (replicate 1024 0))
    by true e d q h = p (λ z. m (sym (eqb-true _ _ e) ∙ z))
    by false e true q h = refl
    by false e false q (equal z) = ap (fit workload_size) z
    by false e false q (its z) = absurd (m (new_is n j l f e (eqb-false _ 0 q) ∙ z))
    by false e false q (nobody z) = absurd (eqb-false _ 0 q (new_is n j l f e (eqb-false _ 0 q) ∙ z))

pub rework_near : {k n : ℕ} {js ls : List Job} {ws vs : List Bytes} (x y : Bytes) → Harmless k n x y → All2 (Follows n) js ls → Near k js ws vs
    → Near k ls (rework js ls x ws) (rework js ls y vs)
rework_near x y h All2.none beyond = beyond
rework_near x y h (All2.more f fs) short = short
rework_near x y h (All2.more f fs) (place p r) = place (λ m. reworked_near _ _ _ _ x y _ _ h f p m) (rework_near x y h fs r)

-- where no job is made, the workloads do not depend on the packet
pub rework_blind : {js ls : List Job} (x y : Bytes) → All2 (Follows 0) js ls → (ws : List Bytes) → rework js ls x ws ≡ rework js ls y ws
rework_blind x y All2.none ws = refl
rework_blind x y (All2.more f fs) [] = refl
rework_blind x y (All2.more {b = l} f fs) (w ∷ ws) =
    ap₂ ◌∷◌ (reworked_near (suc l.row.serial) 0 _ l x y w w (nobody refl) f (λ n. refl) (λ z. omega arith)) (rework_blind x y fs ws)

-- ---- servers that agree but for the workload of the job with serial k

pub record Apart (k : ℕ) (s r : Server) : Type 0 where
  pub table : s.table ≡ r.table
  pub workloads : Near k s.table.jobs s.workloads r.workloads

-- the same packet; or two assignments of the job with this handle, types 11 or 31, that differ in the workload alone
pub data ButAssigned (h : Bytes) (p q : Sent) : Type 0 where
  equal : p ≡ q → ButAssigned h p q
  assigned : (uniq : Bool) (more : Bytes) → p.kind ≡ cond uniq 31 11 → p.shown ≡ h ++ (0 ∷ more) → Like p q → ButAssigned h p q

-- the same number, and packets the same but for assignments of the job
pub record AgreeBut (h : Bytes) (a b : Answer) : Type 0 where
  pub number : a.number ≡ b.number
  pub sent : All2 (ButAssigned h) a.sent b.sent

module _ (k : ℕ) (e : Event) (s r : Server) (a : Apart k s r) where
  -- the job's handle
  abbrev its_handle : Bytes
  its_handle = handle s.table.hub k

  decided_both : decided e s ≡ decided e r
  decided_both = decided_alike (alike_same e) s r a.table

  -- the packet that assigns the job at a place, whose stored workload is w
  abbrev sent_of : Table → Bytes → Bool → ℕ → ℕ → Sent
  sent_of t w uniq to p = record { to = to; kind = cond uniq 31 11; shown = join (assignment t uniq p); opaque_part = fit (job_at t p).row.size w }

  render_but : (x : Send) → ButAssigned its_handle (render e s x) (render e r x)
  unfolding render join
  render_but (plain to kind as') = ButAssigned.equal refl
  render_but (copy to kind) = ButAssigned.equal refl
  render_but (assign uniq to p) = elim (ℕ_discrete (job_at s.table p).row.serial k) [
    | yes q ↦ assigned uniq (join (drop 1 (assignment s.table uniq p))) refl (rw q) (like_render (alike_same e) s r a.table (assign uniq to p))
    | no n ↦ ButAssigned.equal (ap (λ (w : Bytes). sent_of s.table w uniq to p) (near_at a.workloads p n) ∙ ap (λ (t : Table). sent_of t (get_or r.workloads p []) uniq to p) a.table)
  ]

  renders_but : (xs : List Send) → All2 (ButAssigned its_handle) (map (render e s) xs) (map (render e r) xs)
  renders_but [] = All2.none
  renders_but (x ∷ xs) = All2.more (render_but x) (renders_but xs)

  pub answer_but : AgreeBut its_handle (answer e s) (answer e r)
  unfolding answer
  answer_but = record {
    number = ap (λ (d : Decision). d.number) decided_both;
    sent = rw (← decided_both) (renders_but (decided e s).packets);
  }

  near_moved : {d : Decision} (x : Bytes) → Moves e s.table d
      → Near k d.table.jobs (rework s.table.jobs d.table.jobs x s.workloads) (rework s.table.jobs d.table.jobs x r.workloads)
  near_moved x (keeps m) = rework_near x x (Harmless.equal refl) m.jobs a.workloads
  near_moved x (adds c i m) = rework_near x x (Harmless.equal refl) m.jobs a.workloads

  pub next_apart : Apart k (next e s) (next e r)
  unfolding next
  next_apart = record {
    table = ap (λ (d : Decision). d.table) decided_both;
    workloads = rw (← decided_both, ← a.table) (near_moved (opaque_of e) (moved e s));
  }

-- all that follows
pub answers_but : (k : ℕ) (es : List Event) (s r : Server) → Apart k s r → All2 (AgreeBut (handle s.table.hub k)) (answers s es) (answers r es)
unfolding answers
answers_but k [] s r a = All2.none
answers_but k (e ∷ es) s r a =
    All2.more (answer_but k e s r a)
    (subst (λ (hub : Bytes). All2 (AgreeBut (handle hub k)) (answers (next e s) es) (answers (next e r) es)) (hub_kept e s) (answers_but k es (next e s) (next e r) (next_apart k e s r a)))

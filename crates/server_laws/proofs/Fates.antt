-- What an event makes of the job at each place of a table that obeys the rules: a close alone drops jobs. And why a job is gone: its holder
-- ended it, or a close left nobody who waits for it. Assumes nothing.
use Prim.Native.Nat.{ℕ, suc}
use mathlib.Core.Path.{◌≡◌, refl}
use mathlib.Core.Bool.{Bool, true, false, not, ◌||◌, and-false}
use Rattle.std.specs.Prelude.{Some}
use native.Mathlib.Omega.{arith}
use borrow.Author.Tests.{ne_eqb, eqb-false, not-true}
use Rattle.octets.specs.Bytes.{Bytes}
use Rattle.sets.specs.Sets.{is_empty}
use Rattle.lists.specs.Lists.{implies}
use Rattle.lists.proofs.Rows.{clash, all_row}
use Rattle.lists.proofs.Searches.{found}
use Rattle.server.specs.Table.{Job, Table, no_job, job_at, fresh_row, live, queued}
use Rattle.server.specs.Requests.{Event, closes, sends, Work, tells, reports, ends, throws, work, request_in}
use Rattle.server.specs.Events.{lost, left_by, holds_handle}
use Rattle.server.specs.Rules.{obeys}
use Rattle.server.specs.Server.{Server, decided}
use Rattle.server_laws.proofs.Outcome.{Stands, outcome}
use Rattle.server_laws.proofs.Obeyed.{obeyed}
use Rattle.server_laws.proofs.AtRest.{awaited_kept}
use Rattle.server_laws.proofs.Places.{Becomes, stays, begins, joins, taken, told, left, drops, Settles, goes_on, is_lost, settles}
use Rattle.server_laws.proofs.Closing.{left_serial}
use Rattle.server_laws.proofs.Accepting.{submitted_keeps, submitted_unlost}

module _ (t : Table) (h : obeys t ≡ true) (p : ℕ) where
  awaited_at : lost (job_at t p).row ≡ false
  awaited_at =
      let r = (job_at t p).row in
      awaited_kept (queued r) r.background (is_empty r.listeners) (all_row (λ j. implies (queued j.row) (j.row.background || not (is_empty j.row.listeners))) t.jobs p no_job (obeyed t h).awaited refl)

  -- whatever becomes of a job, somebody waits for it if it is queued
  unlost : {last : ℕ} {e : Event} {k : Job} → Becomes t last p (job_at t p) e k → lost k.row ≡ false
  unlost (stays e z) = awaited_at
  unlost (begins c b priority background f u size i o q z r₁ r₂ r₃ l e) = submitted_unlost c background (fresh_row (suc t.last) i priority size)
  unlost (joins c b priority background f u size o q r) = submitted_unlost c background (job_at t p).row
  unlost (taken c b uniq o q r) = rw (ne_eqb (suc c) 0 (λ z. omega arith), and-false)
  unlost (told c b tells kind x n d o q r) = awaited_at
  unlost (told c b reports kind x n d o q r) = awaited_at
  unlost (told c b ends kind x n d o q r) = refl
  unlost (told c b throws kind x n d o q r) = refl
  unlost (left c o z) = z
  unlost (drops c o z) = refl

  fate : {last : ℕ} {e : Event} {k : Job} → Settles t last p (job_at t p) e k → Becomes t last p (job_at t p) e k
  fate (goes_on x) = x
  fate (is_lost x z) = clash z (unlost x)

pub fates : (e : Event) (s : Server) → obeys s.table ≡ true → (p : ℕ) → Becomes s.table (decided e s).table.last p (job_at s.table p) e (job_at (decided e s).table p)
fates e s h p = fate s.table h p (settles (outcome e s) p)

-- ---- why a job is gone

-- 01: "13 and 14 end the job. 25 ends the job"
abbrev pub ends_job : Work → Bool
ends_job tells = false
ends_job reports = false
ends_job ends = true
ends_job throws = true

-- the job at place p is gone: its holder ended it by a packet with its handle, or a connection closed and nobody is left who waits for it
pub data Gone (t : Table) (p : ℕ) : Event → Type 0 where
  ended_by : (c : ℕ) (b : Bytes) (how : Work) (kind : ℕ) (h n d : Bytes) → Stands t c true → request_in b ≡ work how kind h n d → ends_job how ≡ true
      → holds_handle t.hub c h (job_at t p).row ≡ true → Gone t p (sends c b)
  dropped_by : (c : ℕ) → Stands t c true → lost (left_by c (job_at t p)).row ≡ true → Gone t p (closes c)

-- what stands there afterwards has another serial, or none
gone_by : {t : Table} {last p : ℕ} {e : Event} {k : Job} → live (job_at t p).row ≡ true → ¬ (k.row.serial ≡ (job_at t p).row.serial) → Becomes t last p (job_at t p) e k → Gone t p e
gone_by l n (stays e z) = absurd (n refl)
gone_by l n (begins c b priority background f u size i o q z r₁ r₂ r₃ m e) = absurd (eqb-false _ 0 (not-true _ l) z)
gone_by {t} {p = p} l n (joins c b priority background f u size o q r) = absurd (n (submitted_keeps c background (job_at t p).row).serial)
gone_by l n (taken c b uniq o q r) = absurd (n refl)
gone_by l n (told c b tells kind h x y o q r) = absurd (n refl)
gone_by l n (told c b reports kind h x y o q r) = absurd (n refl)
gone_by {t} {p = p} l n (told c b ends kind h x y o q r) = ended_by c b ends kind h x y o q refl (found (λ j. holds_handle t.hub c h j.row) no_job t.jobs (Some p) r).passes
gone_by {t} {p = p} l n (told c b throws kind h x y o q r) = ended_by c b throws kind h x y o q refl (found (λ j. holds_handle t.hub c h j.row) no_job t.jobs (Some p) r).passes
gone_by {t} {p = p} l n (left c o z) = absurd (n (left_serial c (job_at t p)))
gone_by l n (drops c o z) = dropped_by c o z

-- a job that stood before an event does not stand after it
pub gone_why : (e : Event) (s : Server) → obeys s.table ≡ true → (p : ℕ) → live (job_at s.table p).row ≡ true
    → ¬ ((job_at (decided e s).table p).row.serial ≡ (job_at s.table p).row.serial) → Gone s.table p e
gone_why e s h p l n = gone_by l n (fates e s h p)

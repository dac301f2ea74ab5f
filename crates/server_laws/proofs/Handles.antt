-- Demand 2: "A handle is never given to a second job." Two events that create jobs, with any events before, between and after them,
-- create jobs with different handles; and JOB_CREATED tells the submitter the handle of the job created. Assumes nothing.
use Prim.Native.Nat.{ℕ, suc, ◌≤◌}
use native.Mathlib.Omega.{arith}
use mathlib.Core.Path.{◌≡◌, refl, ap, ◌∙◌}
use mathlib.Core.List.{List, [], ◌∷◌, map}
use Rattle.octets.specs.Bytes.{Bytes}
use Rattle.handle.specs.Handle.{handle}
use Rattle.handle.proofs.Handles.{handle_one_to_one}
use Rattle.packet.specs.Arguments.{join}
use Rattle.server.specs.Requests.{Event}
use Rattle.server.specs.Events.{noop}
use Rattle.server.specs.Server.{Server, Sent, render, answer, next, after}
use Rattle.server_laws.proofs.Lengths.{hub_kept, hub_after}
use Rattle.server_laws.proofs.Serials.{Submits, Creates, Numbered, Creation, nothing, one, creation, numbered, last_rises}

-- ---- one handle, one job

pub once : (s : Server) (e f : Event) (between : List Event) (k m : ℕ)
    → Creates s e k → let u = after (next e s) between in Creates u f m → ¬ (handle s.table.hub k ≡ handle u.table.hub m)
once s e f between k m c d h =
    let x : Numbered s e k = numbered c in
    let y : Numbered (after (next e s) between) f m = numbered d in
    let r : (next e s).table.last ≤ (after (next e s) between).table.last = last_rises between (next e s) in
    let g : handle s.table.hub k ≡ handle s.table.hub m = h ∙ ap (λ (name : Bytes). handle name m) (hub_after between (next e s) ∙ hub_kept e s) in
    let q : k ≡ m = handle_one_to_one s.table.hub k m x.room y.room g in
    omega (arith, x.last, y.is)

-- ---- the handle that is told

-- "8 JOB_CREATED (handle)", "6 NOOP"
abbrev pub job_created : Bytes → ℕ → ℕ → Sent
job_created hub c serial = record { to = c; kind = 8; shown = handle hub serial; opaque_part = [] }

abbrev pub wake_up : ℕ → Sent
wake_up c = record { to = c; kind = 6; shown = []; opaque_part = [] }

noops : (e : Event) (s : Server) (cs : List ℕ) → map (render e s) (map noop cs) ≡ map wake_up cs
unfolding render join
noops e s [] = refl
noops e s (c ∷ cs) = ap (λ (ps : List Sent). wake_up c ∷ ps) (noops e s cs)

-- "JOB_CREATED goes out first. For a new job, NOOP then goes to each sleeper able to do it."
pub record Told (s : Server) (e : Event) (serial : ℕ) : Type 0 where
  pub sleepers : List ℕ
  pub sender : ℕ
  pub asks : Submits e sender
  pub sent : (answer e s).sent ≡ job_created s.table.hub sender serial ∷ map wake_up sleepers

pub told : {s : Server} {e : Event} {k : ℕ} → Creates s e k → Told s e k
unfolding answer render join
told {s} {e} {k} c = by (creation s e)
  where
    by : Creation s e → Told s e k
    by (nothing m n) = absurd (n k c)
    by (one d i m x f) = record {
      sleepers = m.sleepers;
      sender = d;
      asks = i;
      sent = rw (m.packets, (f k c).is) (ap (λ (ps : List Sent). job_created s.table.hub d (suc s.table.last) ∷ ps) (noops e s m.sleepers));
    }

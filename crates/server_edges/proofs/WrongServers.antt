-- Servers that would meet demand 3 alone, and are wrong. 01: "a server that refuses everything, sends NO_JOB to all, or does nothing";
-- "One that decides all at the first event breaks it too". Each disagrees with the definition at document 01's replay. Assumes nothing.
use Prim.Native.Nat.{ℕ, ◌+◌, ◌/◌, ◌%◌}
use mathlib.Core.Path.{◌≡◌, refl}
use mathlib.Core.Bool.{Bool, true, false, not, cond, ◌&&◌}
use mathlib.Core.List.{List, [], ◌∷◌, ◌++◌, map}
use lib.Dec.{eqb}
use Rattle.octets.specs.Bytes.{Bytes, same}
use Rattle.packet.specs.Packet.{packet}
use Rattle.lists.specs.Lists.{all, numbers}
use Rattle.server.specs.Requests.{Event, opens, closes, sends}
use Rattle.server.specs.Server.{Answer, addressed}
use Rattle.server.proofs.Histories.{response, answered}
use Rattle.server_edges.proofs.Replay.{replay}
use Rattle.server.proofs.Edge.{same_all}
use Rattle.server.specs.Refusals.{error_text, is_told}

-- what one event is answered: its number, and the addressed packets
pub record Said : Type 0 where
  pub number : ℕ
  pub packets : List Bytes

abbrev said : ℕ → List Bytes → Said
said n ps = record { number = n; packets = ps }

-- a server, seen from outside: a history to what each of its events is answered
abbrev pub Hub : Type 0
Hub = List Event → List Said

abbrev said_by : Answer → Said
said_by a = said a.number (map addressed a.sent)

-- ---- the definition, and four wrong ones

pub right : Hub
unfolding answered packet
right h = map said_by (answered h)

abbrev refusal : ℕ → ℕ → Bytes
unfolding response
refusal c n = response c 19 (((n / 10 + 48) ∷ (n % 10 + 48) ∷ []) ∷ error_text n ∷ [])

-- the connection that an event comes from
abbrev sender : Event → ℕ
sender (opens c) = c
sender (closes c) = c
sender (sends c b) = c

-- every event is refused by n, with its ERROR packet where it is told
pub refuses_all : ℕ → Hub
unfolding response
refuses_all n h = map (λ e. said n (cond (is_told n) (refusal (sender e) n ∷ []) [])) h

-- every event is done, and NO_JOB goes to its sender
pub sends_no_job : Hub
unfolding response
sends_no_job h = map (λ e. said 0 (response (sender e) 10 [] ∷ [])) h

-- every event is done, and nothing is sent
pub does_nothing : Hub
does_nothing h = map (λ e. said 0 []) h

-- all packets of the history at its first event, none later
abbrev all_packets : List Said → List Bytes
all_packets [] = []
all_packets (x ∷ xs) = x.packets ++ all_packets xs

abbrev silent : List Said → List Said
silent [] = []
silent (x ∷ xs) = said x.number [] ∷ silent xs

abbrev early : List Said → List Said
early [] = []
early (x ∷ xs) = said x.number (all_packets (x ∷ xs)) ∷ silent xs

pub decides_first : Hub
unfolding right
decides_first h = early (right h)

-- ---- each disagrees at the replay

abbrev same_said : List Said → List Said → Bool
unfolding same
same_said [] [] = true
same_said [] (y ∷ ys) = false
same_said (x ∷ xs) [] = false
same_said (x ∷ xs) (y ∷ ys) = eqb x.number y.number && (same_all x.packets y.packets && same_said xs ys)

-- the server answers the replay as the definition does
pub agrees : Hub → Bool
unfolding right replay same
agrees hub = same_said (hub replay) (right replay)

pub right_agrees : agrees right ≡ true
unfolding agrees
right_agrees = refl

-- by whatever number it refuses
pub refuses_all_disagrees : all (λ n. not (agrees (refuses_all n))) (numbers 1 15) ≡ true
unfolding agrees refuses_all
refuses_all_disagrees = refl

pub sends_no_job_disagrees : agrees sends_no_job ≡ false
unfolding agrees sends_no_job
sends_no_job_disagrees = refl

pub does_nothing_disagrees : agrees does_nothing ≡ false
unfolding agrees does_nothing
does_nothing_disagrees = refl

pub decides_first_disagrees : agrees decides_first ≡ false
unfolding agrees decides_first
decides_first_disagrees = refl

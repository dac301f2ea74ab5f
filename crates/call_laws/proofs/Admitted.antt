-- Refusals 1 to 4 are those of the call; an event that none of them meets has usable bytes, a connection of the table, and the state
-- that it asks for. Assumes nothing.
use Prim.Native.Nat.{ℕ, ◌<◌}
use mathlib.Core.Path.{◌≡◌, refl, ap, sym, ◌∙◌}
use mathlib.Core.Bool.{Bool, true, false, not, cond, ◌||◌}
use native.Mathlib.Omega.{arith}
use borrow.Author.Tests.{ltb-true}
use lib.ListN.{get_or}
use lib.Dec.{ltb}
use Rattle.octets.specs.Bytes.{Bytes, same}
use Rattle.server.specs.Sizes.{connection_count}
use Rattle.server.specs.Table.{Table, closed, connection_at}
use Rattle.server.specs.Requests.{Event, opens, closes, sends}
use Rattle.server.specs.Events.{Decision, silence, refuse, is_connection, only_if_open, only_if_closed}
use Rattle.server.specs.Server.{Server, decided}
use Rattle.server.specs.Layout.{table_of}
use Rattle.server.specs.Call.{server_in, too_short, is_sound, refused_by, performed, call, left}
use Rattle.server.specs.Refusals.{is_told}
use Rattle.server_laws.proofs.Outcome.{Stands}
use Rattle.server_calls.proofs.Refusals.{Taken, taken, one_if}
use Rattle.carry_event.proofs.Steps.{silent_laid}
use Rattle.call_admit.specs.Admission.{state_refusal, admission}
use Rattle.call_laws.proofs.Conclusion.{connections_long, refusal_performed}

-- ---- on usable bytes a call performs

pub call_performed : (e : Event) (t w o : Bytes) → too_short connection_count t w o || not (is_sound connection_count t) ≡ false → performed e (server_in connection_count t w) t w o ≡ call connection_count e t w o
unfolding call
call_performed e t w o h = rw h

-- ---- what is decided at once

-- an open, or an event that only an open connection may bring
pub data Asks : Bool → Event → ℕ → Type 0 where
  asks_open : (c : ℕ) → Asks true (opens c) c
  asks_close : (c : ℕ) → Asks false (closes c) c
  asks_packet : (c : ℕ) (b : Bytes) → Asks false (sends c b) c

module _ (t : Table) (d : Decision) where
  if_open : (inside is_open : Bool) → ¬ (cond (not inside) 2 (state_refusal is_open false) ≡ 0) → only_if_open inside is_open t d ≡ silence (cond (not inside) 2 (state_refusal is_open false)) t
  unfolding state_refusal only_if_open
  if_open false is_open z = refl
  if_open true true z = absurd (z refl)
  if_open true false z = refl

  if_closed : (inside is_open : Bool) → ¬ (cond (not inside) 2 (state_refusal is_open true) ≡ 0) → only_if_closed inside is_open t d ≡ silence (cond (not inside) 2 (state_refusal is_open true)) t
  unfolding state_refusal only_if_closed
  if_closed false is_open z = refl
  if_closed true true z = refl
  if_closed true false z = absurd (z refl)

at_once : {way : Bool} {e : Event} {c : ℕ} → Asks way e c → (s : Server)
    → let n = cond (not (is_connection s.table c)) 2 (state_refusal (connection_at s.table c).opened way) in ¬ (n ≡ 0) → decided e s ≡ silence n s.table
unfolding decided
at_once (asks_open c) s z = if_closed s.table _ _ _ z
at_once (asks_close c) s z = if_open s.table _ _ _ z
at_once (asks_packet c b) s z = if_open s.table _ _ _ z

-- refusals 2 to 4 are not told
state_silent : (is_open way inside : Bool) → is_told (cond (not inside) 2 (state_refusal is_open way)) ≡ false
unfolding is_told state_refusal same
state_silent is_open way false = refl
state_silent true true true = refl
state_silent true false true = refl
state_silent false true true = refl
state_silent false false true = refl

-- so to refuse a packet by one of them is to be silent
silence_refuses : (c n : ℕ) (t : Table) → is_told n ≡ false → silence n t ≡ refuse c n t
unfolding silence refuse
silence_refuses c n t h = rw h

-- ---- of a call

-- what an event that none of the four refuses has
pub record Admitted (opens : Bool) (c : ℕ) (t w o : Bytes) : Type 0 where
  pub usable : too_short connection_count t w o || not (is_sound connection_count t) ≡ false
  pub bytes : Taken connection_count t w o
  pub inside : c < connection_count
  pub state : (get_or (table_of connection_count t).connections c closed).opened ≡ not opens

-- so its connection stands in the table as the event asks
pub stands : {opens : Bool} {c : ℕ} {t w o : Bytes} → Admitted opens c t w o → Stands (server_in connection_count t w).table c (not opens)
unfolding server_in
stands {t = t} h = record { inside = rw (connections_long t) h.inside; state = h.state }

module _ (opens : Bool) (c : ℕ) (t w o : Bytes) where
  abbrev is_open : Bool
  is_open = (get_or (table_of connection_count t).connections c closed).opened

  -- ---- admitted

  free_state : (s b : Bool) → state_refusal s b ≡ 0 → s ≡ not b
  unfolding state_refusal
  free_state true true e = absurd (omega (arith, e))
  free_state true false e = refl
  free_state false true e = refl
  free_state false false e = absurd (omega (arith, e))

  inside_by : (b : Bool) → cond (not b) 2 (state_refusal is_open opens) ≡ 0 → (b ≡ true) × (is_open ≡ not opens)
  inside_by true e = (refl, free_state is_open opens e)
  inside_by false e = absurd (omega (arith, e))

  admitted_by : (b : Bool) → too_short connection_count t w o || not (is_sound connection_count t) ≡ b → cond b 1 (cond (not (ltb c connection_count)) 2 (state_refusal is_open opens)) ≡ 0 → Admitted opens c t w o
  admitted_by true h e = absurd (omega (arith, e))
  admitted_by false h e =
      let i = inside_by (ltb c connection_count) e in
      record { usable = h; bytes = taken connection_count t w o h; inside = ltb-true c connection_count i.0; state = i.1 }

  pub is_admitted : (n : ℕ) → n ≡ admission opens c t w o → n ≡ 0 → Admitted opens c t w o
  unfolding admission
  is_admitted n e z = admitted_by (too_short connection_count t w o || not (is_sound connection_count t)) refl (sym e ∙ z)

  -- ---- refused

  module _ (e : Event) (asks : Asks opens e c) where
    abbrev number : ℕ
    number = cond (not (ltb c connection_count)) 2 (state_refusal is_open opens)

    decided_at_once : ¬ (number ≡ 0) → decided e (server_in connection_count t w) ≡ refuse c number (table_of connection_count t)
    unfolding server_in
    decided_at_once z =
        let q : is_connection (table_of connection_count t) c ≡ ltb c connection_count = ap (ltb c) (connections_long t) in
        rw q at (at_once asks (server_in connection_count t w) (rw q z))
        ∙ silence_refuses c number (table_of connection_count t) (state_silent is_open opens (ltb c connection_count))

    refused_by_lem : (b : Bool) (n : ℕ) → too_short connection_count t w o || not (is_sound connection_count t) ≡ b → n ≡ cond b 1 number → ¬ (n ≡ 0) → left n 0 o t w ≡ call connection_count e t w o
    unfolding refused_by
    refused_by_lem true n h g z = ap (λ (m : ℕ). left m 0 o t w) g ∙ sym (one_if connection_count e t w o h)
    refused_by_lem false n h g z =
        let y : ¬ (number ≡ 0) = λ q. z (g ∙ q) in
        let l = silent_laid c number o (state_silent is_open opens (ltb c connection_count)) in
        (λ i. left (g i) (l.0 i) (l.1 i) t w)
        ∙ refusal_performed e t w o (taken connection_count t w o h) c number y (decided_at_once y)
        ∙ call_performed e t w o h

    pub refused_call : (n : ℕ) → n ≡ admission opens c t w o → ¬ (n ≡ 0) → left n 0 o t w ≡ call connection_count e t w o
    unfolding admission
    refused_call n g z = refused_by_lem (too_short connection_count t w o || not (is_sound connection_count t)) n refl g z

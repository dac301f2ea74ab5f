-- The table's mark of the option is who has set it since its open, by the events and numbers of a history alone. Assumes nothing.
use Prim.Native.Nat.{ℕ, ◌<◌}
use mathlib.Core.Path.{◌≡◌, refl, ap, sym, ◌∙◌}
use mathlib.Core.Bool.{Bool, true, false, cond, ◌||◌, ◌&&◌}
use mathlib.Core.List.{List, [], ◌∷◌}
use native.Mathlib.Decide.{ℕ_discrete}
use native.Mathlib.Omega.{arith}
use borrow.Author.Tests.{eq-eqb, ne_eqb}
use lib.ListN.{length}
use lib.Seq.{get_or-set_same, get_or-set_other}
use lib.Dec.{eqb}
use Rattle.octets.specs.Bytes.{Bytes}
use Rattle.octets.proofs.Strings.{and_false}
use Rattle.lists.proofs.Cases.{All, cond_both}
use Rattle.lists.proofs.Rows.{clash, or_off}
use Rattle.server.specs.declared.Connection.{Connection}
use Rattle.server.specs.Table.{Table, closed, connection_at, set_connection, ables_of, rows_of}
use Rattle.server.specs.Requests.{Event, sends, Request, request_in}
use Rattle.server.specs.Events.{Send, Decision, silence, refuse, settle, dropped, forgot, wakes, opening, closing, unable_to_all, sleeping}
use Rattle.server.specs.Server.{Server, answer, next}
use Rattle.server.specs.Call.{server_in}
use Rattle.server_laws.proofs.Outcome.{Change, Refuses, Served, Stands, Silences, Outcome, outcome}
use Rattle.server_laws.proofs.Refusals.{bad_within_lem}
use Rattle.server_laws.proofs.Settled.{woken_at}
use Rattle.server_calls.proofs.Packets.{is_bad}
use Rattle.server_calls.specs.History.{Call, Memory, calls, leaves}
use Rattle.server_calls.proofs.Histories.{LongOutputs}
use Rattle.demands.specs.Hub.{Hub, call_on, kept, after_calls, results_of, table_in, server_of}
use Rattle.demands.specs.Conditions.{type_of}
use Rattle.demands.specs.Listening.{catches_after, catches, option_in}
use Rattle.demands.proofs.Sorts.{is_option, Typed, typed, packet_typed}
use Rattle.demands.proofs.Hubs.{call_number, call_hub, call_next}

-- ---- OPTION_REQ is type 26

option_typed : (b : Bytes) {a : Request} → request_in b ≡ a → is_bad a ≡ false → eqb (type_of b) 26 ≡ is_option a
option_typed b {a} q z = by (packet_typed b)
  where
    by : Typed b → eqb (type_of b) 26 ≡ is_option a
    by (Typed.unread n e) = clash (ap is_bad (sym q ∙ e)) z
    by (typed s) = s.sets ∙ ap is_option q

-- ---- the mark of connection c

module _ (c : ℕ) where
  abbrev marked : Table → Bool
  marked t = option_in t c

  -- the end of an event keeps it
  marked_settled : (ss : List Send) (u : Table) → marked (settle ss u).table ≡ marked u
  unfolding settle forgot dropped
  marked_settled ss u =
      ap (λ (x : Connection). x.exceptions) (woken_at (dropped u) c) ∙ cond_both (λ (x : Connection). x.exceptions ≡ marked u) (wakes (ables_of (dropped u)) (rows_of (dropped u)) c (connection_at u c)) refl refl

  -- a connection's row anew
  marked_set : (t : Table) (d : ℕ) (x : Connection) → d < length t.connections → marked (set_connection t d x) ≡ cond (eqb d c) x.exceptions (marked t)
  marked_set t d x h = by (ℕ_discrete d c)
    where
      by : Dec (d ≡ c) → marked (set_connection t d x) ≡ cond (eqb d c) x.exceptions (marked t)
      by (yes e) = rw (eq-eqb d c e, ← e) (ap (λ (y : Connection). y.exceptions) (get_or-set_same t.connections d x closed h))
      by (no n) = rw (ne_eqb d c n) (ap (λ (y : Connection). y.exceptions) (get_or-set_other t.connections d c x closed (λ e. n (sym e))))

  marked_same : (t : Table) (d : ℕ) (x : Connection) → d < length t.connections → x.exceptions ≡ (connection_at t d).exceptions → marked (set_connection t d x) ≡ marked t
  marked_same t d x h q = marked_set t d x h ∙ by (ℕ_discrete d c)
    where
      by : Dec (d ≡ c) → cond (eqb d c) x.exceptions (marked t) ≡ marked t
      by (yes e) = rw (eq-eqb d c e, q, e)
      by (no n) = rw (ne_eqb d c n)

  module _ (t : Table) where
    abbrev Marks : Event → Decision → Type 0
    Marks e x = marked x.table ≡ catches_after c (marked t) e x.number

    -- an open or a close that is done
    turned : (d : ℕ) (m : Bool) → m ≡ cond (eqb d c) false (marked t) → m ≡ cond (eqb d c) false (marked t || false)
    turned d m e = e ∙ rw (or_off (marked t))

    -- a packet that is done, and is no OPTION_REQ
    kept_by : (d : ℕ) (b : Bytes) {a : Request} → request_in b ≡ a → is_option a ≡ false → is_bad a ≡ false → (m : Bool) → m ≡ marked t → m ≡ marked t || (eqb d c && eqb (type_of b) 26)
    kept_by d b q o z m e = e ∙ rw (option_typed b q z, o, and_false (eqb d c)) (sym (or_off (marked t)))

    module _ (d : ℕ) (b : Bytes) (o : Stands t d true) where
      marks_change : {a : Request} {ss : List Send} {u : Table} → request_in b ≡ a → Change d t a ss u → marked u ≡ marked t || (eqb d c && eqb (type_of b) 26)
      unfolding unable_to_all sleeping
      marks_change q (Change.able f k r) = kept_by d b q refl refl _ refl
      marks_change q (Change.unknown f r) = kept_by d b q refl refl _ refl
      marks_change q (Change.disabled f k r) = kept_by d b q refl refl _ refl
      marks_change q (Change.identified i) = kept_by d b q refl refl _ refl
      marks_change q Change.cleared = kept_by d b q refl refl _ refl
      marks_change q Change.slept = kept_by d b q refl refl _ (marked_same t d _ o.inside refl)
      marks_change q (Change.no_job_for uniq r) = kept_by d b q refl refl _ (marked_same t d _ o.inside refl)
      marks_change q (Change.grabbed uniq p r) = kept_by d b q refl refl _ (marked_same t d _ o.inside refl)
      marks_change q (Change.joins priority background f u size p r) = kept_by d b q refl refl _ refl
      marks_change q (Change.accepts priority background f u size k p r₁ r₂ r₃ l) = kept_by d b q refl refl _ refl
      marks_change q (Change.worker how kind h n x p r) = kept_by d b q refl refl _ refl
      marks_change q (Change.status h i r) = kept_by d b q refl refl _ refl
      marks_change q (Change.optioned name r) = marked_set t d _ o.inside ∙ rw (option_typed b q refl) (by (eqb d c) (marked t))
        where
          by : (x y : Bool) → cond x true y ≡ y || (x && true)
          by true true = refl
          by true false = refl
          by false true = refl
          by false false = refl
      marks_change q Change.echoed = kept_by d b q refl refl _ refl

      -- a refusal has a number
      refused_number : {a : Request} {n : ℕ} → request_in b ≡ a → Refuses d t a n → eqb n 0 ≡ false
      refused_number q (Refuses.unread n) = ne_eqb n 0 (λ e. let (l, m) = bad_within_lem b n q in omega arith)
      refused_number q (Refuses.no_room f r) = refl
      refused_number q (Refuses.no_function priority background f u size r₁ r₂) = refl
      refused_number q (Refuses.no_place priority background f u size k r₁ r₂ r₃) = refl
      refused_number q (Refuses.no_serial priority background f u size k p r₁ r₂ r₃ l) = refl
      refused_number q (Refuses.not_held how kind h n x r) = refl
      refused_number q (Refuses.no_option name r) = refl

      marks_served : {a : Request} {x : Decision} → request_in b ≡ a → Served d t a x → Marks (sends d b) x
      unfolding refuse settle
      marks_served q (Served.refused a n r) = rw (refused_number q r) (sym (or_off (marked t)))
      marks_served q (Served.done a ss u m) = marked_settled ss u ∙ marks_change q m

    marks : {e : Event} {x : Decision} → Outcome t e x → Marks e x
    unfolding silence settle opening closing
    marks (Outcome.silenced e n (Silences.no_connection f i)) = sym (or_off (marked t))
    marks (Outcome.silenced e n (Silences.closes_none d o)) = sym (or_off (marked t))
    marks (Outcome.silenced e n (Silences.sends_closed d b o)) = sym (or_off (marked t))
    marks (Outcome.silenced e n (Silences.opens_twice d o)) = sym (or_off (marked t))
    marks (Outcome.opened d o) = marked_settled [] (opening d t) ∙ turned d _ (marked_set t d _ o.inside)
    marks (Outcome.closed d o) = marked_settled [] (closing d t) ∙ turned d _ (marked_set t d _ o.inside)
    marks (Outcome.serves d b x o r) = marks_served d b o refl r

  -- ---- over calls

  pub step_option : (e : Event) (s : Server) → marked (next e s).table ≡ catches_after c (marked s.table) e (answer e s).number
  unfolding next answer
  step_option e s = marks s.table (outcome e s)

  history_option : (n : ℕ) (xs : List Call) (m : Memory) → Hub n m → LongOutputs n xs → marked (server_of n (after_calls n xs m)).table ≡ catches c (marked (server_of n m).table) xs (results_of n xs m)
  unfolding catches calls leaves
  history_option n [] m hub All.none = refl
  history_option n (z ∷ xs) m hub (All.more l ls) =
      let k = kept (call_on n m z) in
      let s = server_of n m in
      let q : server_of n k ≡ next z.event s = call_next n m hub z l in
      let step : marked (server_of n k).table ≡ catches_after c (marked s.table) z.event (call_on n m z).number
      = ap (λ (o : Server). marked o.table) q ∙ step_option z.event s ∙ ap (catches_after c (marked s.table) z.event) (sym (call_number n m hub z l)) in
      history_option n xs k (call_hub n m hub z l) ls ∙ ap (λ (b : Bool). catches c b xs (results_of n xs k)) step

  pub calls_option : (n : ℕ) (xs : List Call) (m : Memory) → Hub n m → LongOutputs n xs
      → option_in (table_in n (after_calls n xs m)) c ≡ catches c (option_in (table_in n m) c) xs (results_of n xs m)
  unfolding server_in
  calls_option n xs m hub l = history_option n xs m hub l

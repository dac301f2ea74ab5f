-- A plan that does what the definitions decide, concluded on the lent bytes, is the call that the definitions perform: number, length,
-- output, table and workloads. Assumes nothing.
use Prim.Native.Nat.{ℕ, ◌≤◌, zero-le}
use mathlib.Core.Path.{◌≡◌, refl, ap, sym, ◌∙◌}
use mathlib.Core.Bool.{Bool, true, false, cond}
use mathlib.Core.List.{List, [], ◌∷◌, ◌++◌, map}
use native.Mathlib.Omega.{arith}
use borrow.Author.Tests.{eqb-true, eqb-false}
use lib.ListN.{length}
use lib.Dec.{eqb, ltb}
use Rattle.octets.specs.Bytes.{Bytes}
use Rattle.octets.specs.Put.{put}
use Rattle.octets.proofs.Strings.{and_both}
use Rattle.packet.specs.declared.Ends.{Ends}
use Rattle.packet.specs.Arguments.{join}
use Rattle.packet.specs.Answers.{argument_at}
use Rattle.server.specs.declared.JobRow.{JobRow}
use Rattle.lists.specs.Lists.{concat, numbers}
use Rattle.server.specs.Sizes.{connection_count, job_count}
use Rattle.server.specs.Table.{Table, rows_of}
use Rattle.server.specs.Requests.{Event}
use Rattle.server.specs.Events.{Send, Decision, error, refuse, noop, to_wake_in}
use Rattle.server.specs.Server.{Server, render, rework, opaque_of, decided, next, answer}
use Rattle.server.specs.Layout.{connection_in, table_of, bytes_of, is_image}
use Rattle.server.specs.Call.{place_of, sent_bytes, server_in, is_sound, performed, left}
use Rattle.server.specs.Refusals.{is_told, last_number}
use Rattle.table_laws.proofs.Columns.{length_places}
use Rattle.server_laws.proofs.Refusals.{refusal}
use Rattle.server_calls.proofs.Refusals.{Taken, Refused, refused_by_lem}
use Rattle.server_calls.proofs.EveryCall.{taken_running}
use Rattle.server_calls.proofs.Output.{output_fits}
use Rattle.plan.specs.declared.Plan.{Plan}
use Rattle.plan.specs.declared.Values.{Values}
use Rattle.plan.specs.Values.{values_of}
use Rattle.plan.specs.Settling.{dropped_rows, settled_values}
use Rattle.plan.specs.Parts.{changed, final_table, ordered}
use Rattle.plan.specs.Steps.{stepped}
use Rattle.plan_laws.proofs.Decides.{Words, Planned, declined, carries, carried}
use Rattle.carry_packet.specs.Messages.{error_arguments, message}
use Rattle.carry_packet.proofs.Rendered.{none_rendered, error_rendered}
use Rattle.carry_workloads.specs.Reworked.{reworked_rows}
use Rattle.carry_workloads.proofs.Rows.{rework_rows}
use Rattle.carry_whole.specs.Fitting.{Fitting, Sized}
use Rattle.carry_output.specs.Orderly.{Orderly}
use Rattle.carry_output.specs.Ordered.{bytes_sent, answer_bytes}
use Rattle.carry_laws.proofs.Requests.{words_given}
use Rattle.carry_event.specs.Concluded.{Ready, concluded, opaque_in, numbers_left, packets_sent, refusal_bytes, table_left, workloads_left}

-- ---- a plan that is done, and one that refuses

pub record Carried (w : Words) (c : ℕ) (t : Table) (p : Plan) (d : Decision) : Type 0 where
  pub is : d ≡ carried w c t p
  pub settles : values_of (final_table (stepped p.step (values_of t)) (changed p.change w.first w.second w.third t)) ≡ settled_values (stepped p.step (values_of t))

module _ (w : Words) (c : ℕ) (t : Table) where
  pub number_most : {p : Plan} {d : Decision} → Planned w c t p d → p.number ≤ last_number
  number_most (declined n l m) = m
  number_most (carries v change order e) = zero-le

  when_done : {p : Plan} {d : Decision} → Planned w c t p d → p.number ≡ 0 → Carried w c t p d
  when_done (declined n l m) z = absurd (omega arith)
  when_done (carries v change order e) z = record { is = refl; settles = e }

  when_refused : {p : Plan} {d : Decision} → Planned w c t p d → ¬ (p.number ≡ 0) → d ≡ refuse c p.number t
  when_refused (declined n l m) z = refl
  when_refused (carries v change order e) z = absurd (z refl)

-- the packets of a refusal
refusal_rendered : (e : Event) (s : Server) (c n : ℕ) → refusal_bytes c n ≡ sent_bytes (map (render e s) (cond (is_told n) (error c n ∷ []) []))
unfolding refusal_bytes
refusal_rendered e s c n = go (is_told n)
  where
    go : (b : Bool) → cond b (message c 19 (join (error_arguments n))) [] ≡ sent_bytes (map (render e s) (cond b (error c n ∷ []) []))
    go true = error_rendered e s c n
    go false = sym (none_rendered e s)

-- ---- on the lent bytes

pub connections_long : (t : Bytes) → length (table_of connection_count t).connections ≡ connection_count
unfolding table_of
connections_long t = length_places (connection_in connection_count t) 0 connection_count

pub sound : {t w o : Bytes} → Taken connection_count t w o → is_sound connection_count t ≡ true
unfolding is_sound
sound {t} kept = and_both (is_image connection_count t) _ kept.image kept.rules

-- what is decided is a refusal: its ERROR packet if it is told, and nothing else
pub refusal_performed : (e : Event) (t w o : Bytes) → Taken connection_count t w o → (c n : ℕ) → ¬ (n ≡ 0) → decided e (server_in connection_count t w) ≡ refuse c n (table_of connection_count t)
    → left n (length (refusal_bytes c n)) (put 0 (refusal_bytes c n) o) t w ≡ performed e (server_in connection_count t w) t w o
unfolding performed answer server_in refuse
refusal_performed e t w o kept c n z d =
    let s : Server = server_in connection_count t w in
    let m : n ≡ (answer e s).number = sym (ap (λ (x : Decision). x.number) d) in
    let b : refusal_bytes c n ≡ sent_bytes (answer e s).sent = refusal_rendered e s c n ∙ ap (λ (x : Decision). sent_bytes (map (render e s) x.packets)) (sym d) in
    let r : Refused e t w o (performed e s t w o) = refused_by_lem connection_count e t w o kept (refusal e s (λ q. z (m ∙ q))) in
    λ i. record { number = m i; length' = length (b i); output = put 0 (b i) o; table = sym r.table i; workloads = sym r.workloads i }

module _ (e : Event) (t w o : Bytes) (kept : Taken connection_count t w o) (plan : Plan) (c kind : ℕ) (p : Bytes) (ends : Ends) where
  abbrev words : Words
  words = words_given kind (argument_at p ends 0) (argument_at p ends 1) (argument_at p ends 2)

  abbrev numbers' : Values
  numbers' = numbers_left plan c kind p ends t w

  -- the packets that the plan sends
  abbrev pub packets_of : List Send
  packets_of =
      ordered plan.order connection_count c kind (argument_at p ends 0) (table_of connection_count t)
      ++ map noop (to_wake_in numbers'.able (dropped_rows numbers'.rows) numbers'.connections)

  -- the plan does what is decided; its packets are rendered, and its opaque argument is taken, as the event has it
  pub record Follows : Type 0 where
    pub plans : Planned words c (table_of connection_count t) plan (decided e (server_in connection_count t w))
    pub shows : bytes_sent c p t w packets_of ≡ sent_bytes (map (render e (server_in connection_count t w)) packets_of)
    pub hides : opaque_in p kind ends ≡ opaque_of e

  module _ (f : Follows) where
    pub small_number : plan.number ≤ last_number
    small_number = number_most words c (table_of connection_count t) f.plans

    -- ---- done

    module _ (z : plan.number ≡ 0) where
      done : Carried words c (table_of connection_count t) plan (decided e (server_in connection_count t w))
      done = when_done words c (table_of connection_count t) f.plans z

      number_is : 0 ≡ (answer e (server_in connection_count t w)).number
      unfolding answer server_in
      number_is = sym (ap (λ (d : Decision). d.number) done.is)

      packets_are : packets_sent plan c kind p ends t w ≡ sent_bytes (answer e (server_in connection_count t w)).sent
      unfolding answer_bytes answer server_in
      packets_are =
          f.shows
          ∙ ap (λ (n : ℕ). sent_bytes (map (render e (server_in connection_count t w)) (ordered plan.order n c kind (argument_at p ends 0) (table_of connection_count t)
          ++ map noop (to_wake_in numbers'.able (dropped_rows numbers'.rows) numbers'.connections)))) (sym (connections_long t))
          ∙ ap (λ (d : Decision). sent_bytes (map (render e (server_in connection_count t w)) d.packets)) (sym done.is)

      table_is : table_left plan c kind p ends t w ≡ (next e (server_in connection_count t w)).table
      unfolding next server_in
      table_is = sym (ap (λ (d : Decision). d.table) done.is)

      rows_are : dropped_rows numbers'.rows ≡ rows_of (table_left plan c kind p ends t w)
      unfolding values_of settled_values
      rows_are = sym (ap (λ (v : Values). v.rows) done.settles)

      workloads_are : workloads_left plan c kind p ends t w ≡ (next e (server_in connection_count t w)).workloads
      unfolding next server_in
      workloads_are =
          ap (λ (rs : List JobRow). reworked_rows (rows_of (table_of connection_count t)) rs (opaque_in p kind ends) (map (place_of w) (numbers 0 job_count))) rows_are
          ∙ ap (λ (b : Bytes). reworked_rows (rows_of (table_of connection_count t)) (rows_of (table_left plan c kind p ends t w)) b (map (place_of w) (numbers 0 job_count))) f.hides
          ∙ sym (rework_rows (table_of connection_count t).jobs (table_left plan c kind p ends t w).jobs (opaque_of e) (map (place_of w) (numbers 0 job_count)))
          ∙ ap (λ (u : Table). rework (table_of connection_count t).jobs u.jobs (opaque_of e) (map (place_of w) (numbers 0 job_count))) table_is

      pub ready : Fitting plan.change (argument_at p ends 0) (argument_at p ends 1) (argument_at p ends 2) → Sized numbers'
          → Orderly plan.order (table_of connection_count t) p ends kind (argument_at p ends 0) → length (opaque_in p kind ends) ≤ 1024
          → Ready plan c kind p ends t w o
      ready fits sized orderly small =
          record {
            fitting = fits;
            sized = sized;
            orderly = orderly;
            small = small;
            room = omega (arith, ap length packets_are, output_fits connection_count (omega arith) e (server_in connection_count t w) (taken_running connection_count t w o kept), kept.long_output);
          }

      done_performed : left 0 (length (packets_sent plan c kind p ends t w)) (put 0 (packets_sent plan c kind p ends t w) o)
          (put 0 (bytes_of (table_left plan c kind p ends t w)) t) (put 0 (concat (workloads_left plan c kind p ends t w)) w)
          ≡ performed e (server_in connection_count t w) t w o
      unfolding performed
      done_performed i =
          record {
            number = number_is i;
            length' = length (packets_are i);
            output = put 0 (packets_are i) o;
            table = put 0 (bytes_of (table_is i)) t;
            workloads = put 0 (concat (workloads_are i)) w;
          }

    -- ---- refused

    refused_performed : ¬ (plan.number ≡ 0)
        → left plan.number (length (refusal_bytes c plan.number)) (put 0 (refusal_bytes c plan.number) o) t w ≡ performed e (server_in connection_count t w) t w o
    refused_performed z = refusal_performed e t w o kept c plan.number z (when_refused words c (table_of connection_count t) f.plans z)

    -- ---- either

    pub concluded_performed : concluded plan c kind p ends t w o ≡ performed e (server_in connection_count t w) t w o
    unfolding concluded
    concluded_performed = go (eqb plan.number 0) refl
      where
        go : (b : Bool) → eqb plan.number 0 ≡ b
            → cond b (left 0 (length (packets_sent plan c kind p ends t w)) (put 0 (packets_sent plan c kind p ends t w) o)
            (put 0 (bytes_of (table_left plan c kind p ends t w)) t) (put 0 (concat (workloads_left plan c kind p ends t w)) w))
            (left plan.number (length (refusal_bytes c plan.number)) (put 0 (refusal_bytes c plan.number) o) t w)
            ≡ performed e (server_in connection_count t w) t w o
        go true q = done_performed (eqb-true plan.number 0 q)
        go false q = refused_performed (eqb-false plan.number 0 q)

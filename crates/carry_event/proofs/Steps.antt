-- What the steps of a plan lay, by the names of the call: the opaque argument, and the ERROR packet of a refusal. Assumes nothing.
use Prim.Native.Nat.{ℕ, ◌+◌, ◌≤◌, zero-le}
use mathlib.Core.Path.{◌≡◌, refl, ap, sym, ◌∙◌}
use mathlib.Core.Bool.{true, false}
use mathlib.Core.List.{List, [], map}
use native.Mathlib.Nat.{add-zero}
use native.Mathlib.Omega.{arith}
use borrow.Author.Tests.{eq-eqb, le-ltb, ne_eqb}
use lib.ListN.{length, length-append}
use Rattle.octets.specs.Bytes.{Bytes}
use Rattle.octets.specs.Put.{put}
use Rattle.octets.proofs.Laying.{put_none}
use Rattle.packet.specs.declared.Ends.{Ends}
use Rattle.packet.specs.declared.Shape.{Shape}
use Rattle.packet.specs.Layout.{request_shape}
use Rattle.packet.specs.Arguments.{join}
use Rattle.packet.specs.Answers.{argument_at, between}
use Rattle.packet.specs.Packet.{packet}
use Rattle.sets.specs.Sets.{has, members}
use Rattle.server.specs.declared.JobRow.{JobRow}
use Rattle.lists.specs.Lists.{concat, numbers}
use Rattle.server.specs.Sizes.{connection_count, job_count, output_size}
use Rattle.server.specs.Table.{Table, rows_of}
use Rattle.server.specs.Refusals.{refusal_texts, is_told}
use Rattle.server.specs.Layout.{bytes_of, table_of}
use Rattle.server.specs.Call.{place_of, left}
use Rattle.plan.specs.declared.Values.{Values}
use Rattle.plan.specs.Values.{values_of}
use Rattle.plan.specs.Settling.{dropped_rows}
use Rattle.server.specs.Events.{to_wake_in}
use Rattle.plan.specs.Parts.{changed}
use Rattle.carry_workloads.specs.Reworked.{reworked_rows}
use Rattle.plan.specs.declared.Plan.{Plan}
use Rattle.plan.specs.declared.Ending.{Ending}
use Rattle.plan.specs.Steps.{stepped, ending, Lean}
use Rattle.carry_packet.specs.Messages.{error_arguments, message}
use Rattle.carry_several.specs.Several.{messages}
use Rattle.server_calls.proofs.Refusals.{short_at}
use Rattle.carry_event.specs.Concluded.{concluded, opaque_in, opaque_place, packets_sent, refusal_bytes, table_left, workloads_left}

pub opaque_taken : (p : Bytes) (kind : ℕ) (ends : Ends) (shape : Shape) (n : ℕ) (o : Bytes)
    → shape ≡ request_shape kind → n ≡ opaque_place shape → o ≡ argument_at p ends n → o ≡ opaque_in p kind ends
unfolding opaque_in
opaque_taken p kind ends shape n o s e a = a ∙ ap (argument_at p ends) (e ∙ ap opaque_place s)

-- there is no argument 5
no_argument : (p : Bytes) (ends : Ends) → [] ≡ argument_at p ends 5
unfolding argument_at between
no_argument p ends = rw (le-ltb ends.fifth 0 zero-le)

pub opaque_none : (p : Bytes) (kind : ℕ) (ends : Ends) (shape : Shape) → shape ≡ request_shape kind → opaque_place shape ≡ 5 → [] ≡ opaque_in p kind ends
unfolding opaque_in
opaque_none p kind ends shape s n = no_argument p ends ∙ ap (argument_at p ends) (sym n ∙ ap opaque_place s)

-- ---- refusals

module _ (c n : ℕ) where
  silent : is_told n ≡ false → refusal_bytes c n ≡ []
  unfolding refusal_bytes
  silent h = rw h

  pub silent_laid : (o : Bytes) → is_told n ≡ false → (0 ≡ length (refusal_bytes c n)) × (o ≡ put 0 (refusal_bytes c n) o)
  silent_laid o h = rw (silent h) (refl, sym (put_none 0 o))

  tells : is_told n ≡ true → message c 19 (join (error_arguments n)) ≡ refusal_bytes c n
  unfolding refusal_bytes
  tells h = rw h

  pub error_laid : (o x : Bytes) (r : ℕ) → is_told n ≡ true → (r ≡ 0 + length (message c 19 (join (error_arguments n)))) × (x ≡ put 0 (message c 19 (join (error_arguments n))) o)
      → (r ≡ length (refusal_bytes c n)) × (x ≡ put 0 (refusal_bytes c n) o)
  error_laid o x r h l = (omega (arith, l.0, ap length (tells h)), l.1 ∙ ap (λ (s : Bytes). put 0 s o) (tells h))

  -- 25 bytes at the most
  pub error_room : (k : ℕ) → output_size connection_count ≤ k → 0 + length (message c 19 (join (error_arguments n))) ≤ k
  unfolding message packet error_arguments join
  error_room k h = simp length-append (omega (arith, short_at 9 refusal_texts n refl))

-- ---- the conclusion

module _ (plan : Plan) (c kind : ℕ) (p : Bytes) (ends : Ends) (t w o : Bytes) where
  pub refused_concluded : (r : ℕ) (x : Bytes) → ¬ (plan.number ≡ 0) → (r ≡ length (refusal_bytes c plan.number)) × (x ≡ put 0 (refusal_bytes c plan.number) o)
      → left plan.number r x t w ≡ concluded plan c kind p ends t w o
  unfolding concluded
  refused_concluded r x z l = rw (ne_eqb plan.number 0 z, l.0, l.1)

  pub done_concluded : (r : ℕ) (x u v : Bytes) → plan.number ≡ 0
      → (r ≡ length (packets_sent plan c kind p ends t w)) × (x ≡ put 0 (packets_sent plan c kind p ends t w) o)
      × (u ≡ put 0 (bytes_of (table_left plan c kind p ends t w)) t) × (v ≡ put 0 (concat (workloads_left plan c kind p ends t w)) w)
      → left 0 r x u v ≡ concluded plan c kind p ends t w o
  unfolding concluded
  done_concluded r x u v z l = rw (eq-eqb plan.number 0 z, l.0, l.1, l.2, l.3)

-- where nobody wakes no NOOP is laid
pub none_woken : (at : ℕ) (o : Bytes) → (at ≡ at + length (messages (members connection_count 0) 6 [])) × (o ≡ put at (messages (members connection_count 0) 6 []) o)
unfolding members has messages
none_woken at o = (sym (add-zero at), sym (put_none at o))

-- ---- the numbers that were read

pub rows_are : (v : Values) (t : Table) → v ≡ values_of t → v.rows ≡ rows_of t
unfolding values_of
rows_are v t e = ap (λ (x : Values). x.rows) e

-- ---- a lean step

module _ (plan : Plan) (t w p : Bytes) (c kind : ℕ) (ends : Ends) where
  abbrev before : Table
  before = table_of connection_count t

  abbrev after : Values
  after = stepped plan.step (values_of before)

  module _ (lean : Lean plan.step before (changed plan.change (argument_at p ends 0) (argument_at p ends 1) (argument_at p ends 2) before)) where
    -- the connections that the ending wakes are those that the numbers wake
    pub lean_wakes : (e : Ending) → e ≡ ending plan.step (values_of before) → members connection_count e.woken ≡ to_wake_in after.able (dropped_rows after.rows) after.connections
    unfolding table_of
    lean_wakes e is = ap (λ (x : Ending). members connection_count x.woken) is ∙ sym lean.wakes

    -- the rows after the step are those that are left
    pub lean_workloads : (o : Bytes) → o ≡ opaque_in p kind ends
        → reworked_rows (values_of before).rows after.rows o (map (place_of w) (numbers 0 job_count)) ≡ workloads_left plan c kind p ends t w
    unfolding values_of
    lean_workloads o f =
        ap (λ (l : List JobRow). reworked_rows (rows_of before) l o (map (place_of w) (numbers 0 job_count))) (sym lean.keeps)
        ∙ ap (λ (s : Bytes). reworked_rows (rows_of before) (dropped_rows after.rows) s (map (place_of w) (numbers 0 job_count))) f

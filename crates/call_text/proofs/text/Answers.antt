-- `call_text::text` meets its contract: refused at once, or the connection's byte and the answer to the line. Assumes nothing.
use mathlib.Core.Path.{ap, refl, sym, ◌∙◌}
use native.Mathlib.Omega.{arith}
use lib.ListN.{length, length-set}
use Rattle.octets.proofs.Laying.{length_put}
use Rattle.call_admit.proofs.Refusals.{none_refused, refused_not_0}
use Rattle.call_laws.proofs.Admitted.{is_admitted}
use Rattle.call_laws.proofs.Conclusion.{sound}
use Rattle.call_text.proofs.Said.{refused_said, said_room, told_said}
use borrow.Author.Rules.{rules}
use Rattle.call_text.proofs.text.Goals as goal

pub returns-in-Err : goal.returns-in-Err
returns-in-Err c =
    refused_said c.args.connection c.args.line.now _ _ _ _ (c.number.ensures ∙ c.in-Err.ensures) (λ z. refused_not_0 _ (sym c.number.ensures ∙ z))

pub overflow_cast-output : goal.overflow_cast-output
overflow_cast-output c = search (rules, (is_admitted _ _ _ _ _ _ (none_refused _ _ c.in_default.not-Err c.admission.ensures) refl).inside)

pub bounds-output-0 : goal.bounds-output-0
bounds-output-0 c = omega (arith, (is_admitted _ _ _ _ _ _ (none_refused _ _ c.in_default.not-Err c.admission.ensures) refl).bytes.long_output)

pub put_text-length-requires : goal.put_text-length-requires
put_text-length-requires c =
    let h = is_admitted _ _ _ _ _ _ (none_refused _ _ c.in_default.not-Err c.admission.ensures) refl in
    (h.bytes.long_table, sound h.bytes, said_room c.args.table.now c.args.line.now c.args.output.now c.args.connection (sound h.bytes) h.bytes.long_output)

pub shape_of-output : goal.shape_of-output
shape_of-output c = ap length c.put_text-length.ensures.1 ∙ simp (length_put, length-set)

pub returns : goal.returns
returns c =
    told_said c.args.connection c.args.line.now _ _ _ _ (none_refused _ _ c.in_default.not-Err c.admission.ensures) refl _ _ c.put_text-length.ensures

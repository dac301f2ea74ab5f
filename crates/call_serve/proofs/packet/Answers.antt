-- `call_serve::packet` meets its contract: refused at once, refused by what was read, or served. Assumes nothing.
use mathlib.Core.Path.{refl, sym, ◌∙◌}
use mathlib.Core.Bool.{false}
use borrow.Author.Rules.{rules}
use Rattle.server.specs.Requests.{sends}
use Rattle.call_admit.proofs.Refusals.{none_refused, refused_not_0}
use Rattle.call_laws.proofs.Admitted.{asks_packet, is_admitted, refused_call}
use Rattle.call_laws.proofs.Events.{unread_small, unread_call}
use Rattle.call_serve.proofs.Read.{unread_left}
use Rattle.call_serve.proofs.packet.Goals as goal

pub returns-in-Err : goal.returns-in-Err
returns-in-Err c =
    rw c.refused.ensures
    (refused_call false _ _ _ _ (sends _ _) (asks_packet _ _) _ (c.number.ensures ∙ c.in-Err.ensures) (λ z. refused_not_0 _ (sym c.number.ensures ∙ z)))

pub overflow_cast-connection : goal.overflow_cast-connection
overflow_cast-connection c = search (rules, (is_admitted _ _ _ _ _ _ (none_refused _ _ c.in_default.not-Err c.admission.ensures) refl).inside)

pub refuse-length-requires : goal.refuse-length-requires
refuse-length-requires c =
    let h = is_admitted _ _ _ _ _ _ (none_refused _ _ c.in_default.not-Err c.admission.ensures) refl in
    (unread_small _ _ _ c.number-number.ensures _ _ _ _ h (sym c.in-Err-read_request.ensures), h.bytes.long_output)

pub serve-requires : goal.serve-requires
serve-requires c = (none_refused _ _ c.in_default.not-Err c.admission.ensures, sym c.in-Ok.ensures)

pub returns-in-Err-read_request : goal.returns-in-Err-read_request
returns-in-Err-read_request c =
    let h = is_admitted _ _ _ _ _ _ (none_refused _ _ c.in_default.not-Err c.admission.ensures) refl in
    unread_left _ _ _ _ _ _ _ c.refuse-length.ensures ∙ unread_call _ _ _ c.number-number.ensures _ _ _ _ h (sym c.in-Err-read_request.ensures)

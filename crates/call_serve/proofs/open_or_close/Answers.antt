-- `call_serve::open_or_close` meets its contract: refused at once, or the plan of the event concluded. Assumes nothing.
use mathlib.Core.Bool.{cond}
use mathlib.Core.Path.{refl, sym, ◌∙◌}
use borrow.Author.Rules.{rules}
use Rattle.server.specs.Requests.{opens, closes}
use Rattle.call_admit.proofs.Refusals.{none_refused, refused_not_0}
use Rattle.call_laws.proofs.Admitted.{is_admitted, refused_call}
use Rattle.call_laws.proofs.Conclusion.{sound}
use Rattle.call_serve.proofs.Leaning.{event_asks, event_concludes, event_inside, event_leans}
use Rattle.call_serve.proofs.open_or_close.Goals as goal

pub overflow_cast-c : goal.overflow_cast-c
overflow_cast-c c = search (rules, (is_admitted _ _ _ _ _ _ (none_refused _ _ c.in_default.not-Err c.admission.ensures) refl).inside)

pub returns : goal.returns
returns c =
    let h = is_admitted _ _ _ _ _ _ (none_refused _ _ c.in_default.not-Err c.admission.ensures) refl in
    (rw (c.no_request.ensures.0, c.no_request.ensures.1) at c.conclude.ensures) ∙ (event_concludes _ _ _ _ _ c.args.to_open _ c.no_request.ensures.2 h c.plan_open_or_close-plan.ensures).is

pub conclude-requires : goal.conclude-requires
conclude-requires c =
    let h = is_admitted _ _ _ _ _ _ (none_refused _ _ c.in_default.not-Err c.admission.ensures) refl in
    let k = event_concludes _ _ _ _ _ c.args.to_open _ c.no_request.ensures.2 h c.plan_open_or_close-plan.ensures in
    rw (c.no_request.ensures.0, c.no_request.ensures.1)
    (sound h.bytes, h.bytes.long_table, h.bytes.long_workloads, h.bytes.long_output, k.small, k.carried, event_inside _ _ c.args.to_open c.plan_open_or_close-plan.ensures h.inside, event_leans _ _ _ _ _ _ _ c.args.to_open h c.plan_open_or_close-plan.ensures)

pub returns-in-Err : goal.returns-in-Err
returns-in-Err c =
    rw c.refused.ensures
    (refused_call c.args.to_open _ _ _ _ (cond c.args.to_open (opens c.args.connection) (closes c.args.connection)) (event_asks c.args.to_open _) _ (c.number.ensures ∙ c.in-Err.ensures) (λ z. refused_not_0 _ (sym c.number.ensures ∙ z)))

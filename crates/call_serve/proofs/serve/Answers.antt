-- `call_serve::serve` meets its contract: the plan of the request concluded. Assumes nothing.
use mathlib.Core.Path.{◌∙◌, refl}
use borrow.Author.Rules.{rules}
use Rattle.call_laws.proofs.Events.{request_small, request_ready, request_call}
use Rattle.call_laws.proofs.Admitted.{is_admitted}
use Rattle.call_laws.proofs.Conclusion.{sound}
use Rattle.call_serve.proofs.Leaning.{request_inside, request_leans}
use Rattle.call_serve.proofs.serve.Goals as goal

pub plan_request-plan-requires : goal.plan_request-plan-requires
plan_request-plan-requires c =
    let h = is_admitted _ _ _ _ _ _ c.requires.0 refl in
    (sound h.bytes, h.bytes.long_table, h.inside, c.requires.1)

pub overflow_cast-c : goal.overflow_cast-c
overflow_cast-c c = search (rules, (is_admitted _ _ _ _ _ _ c.requires.0 refl).inside)

pub conclude-requires : goal.conclude-requires
conclude-requires c =
    let h = is_admitted _ _ _ _ _ _ c.requires.0 refl in
    (sound h.bytes, h.bytes.long_table, h.bytes.long_workloads, h.bytes.long_output, request_small _ _ _ _ _ _ _ h c.requires.1 _ c.plan_request-plan.ensures, request_ready _ _ _ _ _ _ _ h c.requires.1 _ c.plan_request-plan.ensures, request_inside _ _ _ _ _ h _ c.plan_request-plan.ensures, request_leans _ _ _ _ _ h _ c.plan_request-plan.ensures _ _ c.requires.1)

pub returns : goal.returns
returns c =
    let h = is_admitted _ _ _ _ _ _ c.requires.0 refl in
    c.conclude.ensures ∙ request_call _ _ _ _ _ _ _ h c.requires.1 _ c.plan_request-plan.ensures

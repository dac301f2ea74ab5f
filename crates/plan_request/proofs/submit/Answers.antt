-- `plan_request::submit` meets its contract: the texts and the sizes are those of a packet that was read, and the plan is made of
-- what the searches find. Assumes nothing.
use Rattle.plan_request.proofs.Planned.{text_some, text_short, text_free, room_inside, submission_name, submission_unique, submission_size, plan_submit_lem}
use borrow.Author.Rules.{rules}
use Rattle.plan_request.proofs.submit.Goals as goal

pub places_for-places-requires : goal.places_for-places-requires
places_for-places-requires c =
    let f = submission_name _ _ _ c.requires.3 c.requires.4 _ c.argument-f.ensures in
    let u = submission_unique _ _ _ c.requires.3 c.requires.4 _ c.argument-u.ensures in
    (c.requires.0, c.requires.1, text_some 1 32 _ f, text_short 1 32 _ f, text_free 1 32 _ f, text_short 0 64 _ u, text_free 0 64 _ u)

pub overflow_cast-workload : goal.overflow_cast-workload
overflow_cast-workload c =
    let l = submission_size _ _ _ c.requires.3 c.requires.4 _ c.argument-workload.ensures in
    search (rules, l)

pub submit-requires : goal.submit-requires
submit-requires c =
    (c.requires.1, c.requires.2, room_inside _ _ _ c.places_for-places.ensures.1)

pub returns : goal.returns
returns c =
    plan_submit_lem c.args.table.now c.args.packet.now _ _ _ c.requires.3 c.requires.4 _ _ _ _ _ _ _ _
    c.argument-f.ensures c.argument-u.ensures c.argument-workload.ensures c.kind_of-row.ensures
    c.places_for-places.ensures.0 c.places_for-places.ensures.1 c.free_row-free.ensures c.submit.ensures

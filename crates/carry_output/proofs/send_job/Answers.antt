-- `carry_output::send_job` meets its contract: the job that the bytes hold is the one that the table has at the place. Assumes nothing.
use mathlib.Core.Path.{refl}
use Rattle.carry_output.proofs.Jobs.{function_inside, workload_inside}
use Rattle.carry_output.proofs.Packets.{assign_fits, assign_is}
use Rattle.carry_output.proofs.Orders.{room_as, laid_as}
use borrow.Author.Rules.{rules}
use Rattle.carry_output.proofs.send_job.Goals as goal

pub text-function-requires : goal.text-function-requires
text-function-requires c =
    search (rules, function_inside _ c.requires.0 _ _ c.row_at-row.ensures c.requires.3 c.requires.4)

pub slice_bounds-workload-end : goal.slice_bounds-workload-end
slice_bounds-workload-end c =
    search (rules, workload_inside _ c.requires.0 _ _ c.row_at-row.ensures c.requires.3 c.requires.4)

pub send_assign-requires : goal.send_assign-requires
send_assign-requires c =
    let f = assign_fits _ c.requires.0 _ _ c.row_at-row.ensures c.requires.3 c.requires.4 _ _ _ _ _ c.requires.2 c.hub_of-hub.ensures c.text-function.ensures c.text-unique.ensures refl in
    let e = assign_is _ c.requires.0 _ _ c.row_at-row.ensures c.requires.3 c.requires.4 _ _ _ _ _ c.requires.2 c.hub_of-hub.ensures c.text-function.ensures c.text-unique.ensures refl c.args.c c.args.uniq in
    (f.0, f.1, f.2, f.3, room_as _ _ _ e c.requires.5)

pub returns : goal.returns
returns c =
    laid_as _ _ _ _ _
    (assign_is _ c.requires.0 _ _ c.row_at-row.ensures c.requires.3 c.requires.4 _ _ _ _ _ c.requires.2 c.hub_of-hub.ensures c.text-function.ensures c.text-unique.ensures refl c.args.c c.args.uniq)
    c.send_assign.ensures

-- `plan_find_rows::queue::next_group` meets its contract. Eight rows that are free, or of which none goes before the best so far, change
-- nothing of it. Assumes nothing.
use mathlib.Core.Path.{sym, ◌∙◌}
use native.Mathlib.Omega.{arith}
use Rattle.plan_find_rows.proofs.Walk.{free_passed, best_there, behind_passed}
use Rattle.plan_find_rows.proofs.queue.next_group.Goals as goal

pub returns-then-zeros : goal.returns-then-zeros
returns-then-zeros c =
    free_passed c.args.table.now c.args.c c.args.p c.args.v c.requires.1 c.requires.3 (sym c.zeros.ensures ∙ c.if-zeros.true)

pub overflow_add-i : goal.overflow_add-i
overflow_add-i c =
    omega (arith, (best_there c.args.table.now c.args.c c.args.p c.args.v c.requires.1 c.requires.3 _ c.in-Some.is).0)

pub bounds-table-i : goal.bounds-table-i
bounds-table-i c =
    omega (arith, (best_there c.args.table.now c.args.c c.args.p c.args.v c.requires.1 c.requires.3 _ c.in-Some.is).0)

pub serial-requires : goal.serial-requires
serial-requires c =
    (c.requires.0, (best_there c.args.table.now c.args.c c.args.p c.args.v c.requires.1 c.requires.3 _ c.in-Some.is).0)

pub returns-then-none_before : goal.returns-then-none_before
returns-then-none_before c =
    behind_passed c.args.table.now c.args.c c.args.p c.args.v c.requires.1 c.requires.3 _ c.in-Some.is
    (rw (← c.serial.ensures) (sym c.none_before.ensures ∙ c.if-none_before.true))

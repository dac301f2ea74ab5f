-- `plan_find_rows::queue::next_row` meets its contract: one law for each of its returns. Assumes nothing.
use native.Mathlib.Omega.{arith}
use Rattle.plan_find_rows.proofs.Walk.{row_idle, row_worse, row_best, row_unable}
use Rattle.std.proofs.Common.{ap, not}
use Rattle.plan_find_rows.proofs.queue.next_row.Goals as goal

pub returns-then-not-is_queued : goal.returns-then-not-is_queued
returns-then-not-is_queued c =
    row_idle c.args.table.now c.args.c c.args.p c.args.v c.requires.1 c.requires.3 _ c.is_queued.ensures (ap not c.if-not-is_queued.true)

pub returns-then-k-v : goal.returns-then-k-v
returns-then-k-v c =
    row_worse c.args.table.now c.args.c c.args.p c.args.v c.requires.1 c.requires.3 _ c.rank-k.ensures c.if-k-v.true

pub returns-then-is_able : goal.returns-then-is_able
returns-then-is_able c =
    row_best c.args.table.now c.args.c c.args.p c.args.v c.requires.1 c.requires.3 _ c.is_able.ensures _ _ c.is_queued.ensures
    (ap not c.if-not-is_queued.false) c.rank-k.ensures (omega arith) c.if-is_able.true

pub returns : goal.returns
returns c =
    row_unable c.args.table.now c.args.c c.args.p c.args.v c.requires.1 c.requires.3 _ c.is_able.ensures c.if-is_able.false

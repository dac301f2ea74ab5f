-- The first q names are those of the table, since the bytes read are those of the next one; an array of 16 is filled at the end.
use mathlib.Core.Path.{◌≡◌}
use native.Mathlib.Nat.{add-sub_cancel_left}
use native.Mathlib.Omega.{arith}
use lib.ListN.{length-set}
use Rattle.table_rows.proofs.Reading.{fill_more, filled}
use Rattle.table_texts.specs.Places.{name_in, names_in}
use Rattle.table_texts.proofs.read_names.Goals as goal

pub loop-q-preserved : goal.loop-q-preserved
loop-q-preserved c =
    let whole : c.unwrap.result ≡ name_in c.args.table.now c.loop-q.q = rw add-sub_cancel_left at (rw c.unwrap.ensures at c.try_into.ensures.1).same in
    (simp length-set c.loop-q.invariant.0, fill_more (name_in c.args.table.now) c.loop-q.names c.loop-q.q 16 c.unwrap.result (omega arith) c.loop-q.invariant.0 whole c.loop-q.invariant.1)

pub returns : goal.returns
unfolding names_in
returns c = filled (name_in c.args.table.now) c.loop-q.names c.loop-q.q 16 (omega arith) (omega arith) c.loop-q.invariant.0 c.loop-q.invariant.1

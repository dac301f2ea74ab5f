use mathlib.Core.Path.{ap, refl}
use mathlib.Core.Bool.{Bool, cond}
use mathlib.Core.List.{[], ◌++◌}
use native.Mathlib.Omega.{arith}
use Rattle.sets.specs.Sets.{has}
use Rattle.handle.specs.Handle.{decimal}
use Rattle.show_names.specs.Names.{space}
use Rattle.prints.proofs.Pieces.{end, start, turn, turn_room}
use Rattle.show_table.specs.Standing.{each}
use Rattle.show_table.proofs.Connections.{shown}
use borrow.Author.Rules.{rules}
use Rattle.show_table.proofs.put_members.Goals as goal

pub loop-c-init : goal.loop-c-init
loop-c-init c =
    (omega arith, refl, start (shown (has c.args.set)) c.args.at c.args.out.now)

pub put_one-place-requires : goal.put_one-place-requires
unfolding each
put_one-place-requires c =
    (omega arith, turn_room (shown (has c.args.set)) c.args.at c.args.out.now c.loop-c.c c.loop-c.place c.loop-c.out c.loop-c.invariant.2 _ (ap (λ (b : Bool). cond b (space ++ decimal c.loop-c.c) []) c.has.ensures) 16 (omega arith) c.requires)

pub loop-c-preserved : goal.loop-c-preserved
loop-c-preserved c =
    (search rules, search rules, turn (shown (has c.args.set)) c.args.at c.args.out.now c.loop-c.c c.loop-c.place c.loop-c.out c.loop-c.invariant.2 _ (ap (λ (b : Bool). cond b (space ++ decimal c.loop-c.c) []) c.has.ensures) _ _ c.put_one-place.ensures)

pub returns : goal.returns
unfolding each
returns c =
    end (shown (has c.args.set)) c.args.at c.args.out.now c.loop-c.c 16 (omega arith) _ _ c.loop-c.invariant.2

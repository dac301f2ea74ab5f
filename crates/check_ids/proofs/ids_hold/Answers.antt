use Rattle.std.proofs.Common.{arith, sym, ◌≡◌, ◌∙◌, ◌+◌, ◌*◌}
use Rattle.server.specs.Sizes.{connection_count}
use Rattle.table_passes.proofs.Tests.{and_same, all_later, each_end}
use Rattle.check_ids.specs.Ids.{id_holds}
use Rattle.check_ids.proofs.Ids.{all_hold}
use Rattle.check_ids.proofs.ids_hold.Goals as goal

pub loop-group-preserved : goal.loop-group-preserved
loop-group-preserved c =
    let more : 8 * (c.loop-group.group + 1) ≡ 8 * c.loop-group.group + 8 = omega arith in
    rw more (and_same c.loop-group.invariant c.eight_hold-ok.ensures ∙ sym (all_later (id_holds c.args.table.now) (8 * c.loop-group.group) 8))

pub returns : goal.returns
returns c =
    each_end (id_holds c.args.table.now) connection_count (8 * c.loop-group.group) c.loop-group.ok c.loop-group.invariant (omega arith) (omega arith) ∙ all_hold c.args.table.now c.requires

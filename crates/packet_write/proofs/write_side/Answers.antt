-- `packet_write::write_side` meets its contract: a refusal leaves the output, and without one there is room for the packet.
-- Assumes nothing.
use Prim.Native.Nat.{ℕ, ◌+◌, ◌≤◌}
use mathlib.Core.Path.{◌≡◌, ap, ◌∙◌}
use native.Mathlib.Omega.{arith}
use lib.ListN.{length}
use Rattle.std.proofs.lemmas.Result.{err_from_is_err_and}
use Rattle.octets.proofs.Laying.{length_put}
use Rattle.packet.specs.Packet.{direction_of}
use Rattle.packet.proofs.Sides.{side_most, side_magic}
use Rattle.packet_write.proofs.Refusals.{unrefused, size_is, size_small, size_fits}
use Rattle.packet_write.proofs.Written.{writing_refused, writing_done}
use Rattle.packet_write.proofs.write_side.Goals as goal

pub returns-in_err-size : goal.returns-in_err-size
returns-in_err-size c =
    let p = err_from_is_err_and c.from_residual.result c.from_residual.ensures.1 in
    rw (p.1, p.2, ← c.shape_of-shape.ensures) (writing_refused (direction_of c.args.side).magic _ _ _ c.args.kind _ _ c.in_err-size.ensures)

pub overflow_cast-size : goal.overflow_cast-size
overflow_cast-size c = omega (arith, size_small _ _ _ _ _ c.in_ok-size.ensures (side_most c.args.side))

pub put_header-data-requires : goal.put_header-data-requires
put_header-data-requires c = (ap length c.magic.ensures ∙ side_magic c.args.side, omega (arith, size_fits _ _ _ _ _ c.in_ok-size.ensures))

pub put_joined-requires : goal.put_joined-requires
put_joined-requires c =
    let l : length c.put_header-data.new.out ≡ length c.args.out.now = ap length c.put_header-data.ensures.1 ∙ length_put _ _ c.args.out.now in
    omega (arith, size_fits _ _ _ _ _ c.in_ok-size.ensures, size_is _ _ _ _ _ c.in_ok-size.ensures, c.put_header-data.ensures.0)

pub returns : goal.returns
returns c =
    let m : c.magic.result.now ≡ (direction_of c.args.side).magic = c.magic.ensures in
    rw (← c.shape_of-shape.ensures)
    (writing_done (direction_of c.args.side).magic _ _ _ c.args.kind _ (side_magic c.args.side) _ (unrefused _ _ _ _ _ c.in_ok-size.ensures) (size_is _ _ _ _ _ c.in_ok-size.ensures) _ _ (rw m at c.put_header-data.ensures) _ _ c.put_joined.ensures)

-- `carry_packet::send_error` meets its contract: the text up to its first zero byte is the refusal's. Assumes nothing.
use Prim.Native.Nat.{◌+◌, ◌/◌, ◌%◌}
use mathlib.Core.Path.{sym}
use mathlib.Core.List.{[], ◌∷◌}
use native.Mathlib.Omega.{arith}
use lib.ListN.{take}
use lib.Seq.{length-take-le}
use Rattle.octets.proofs.Runs.{laid_as}
use Rattle.packet.specs.Arguments.{join}
use Rattle.carry_packet.proofs.Answers.{error_message, error_room}
use Rattle.carry_packet.proofs.Laid.{data_laid, rest_laid, two_long}
use Rattle.carry_packet.proofs.send_error.Goals as goal

pub put_heading-start-requires : goal.put_heading-start-requires
put_heading-start-requires c = (omega arith, omega (arith, error_room c.args.to c.args.number _ _ c.error_text-text.ensures c.first_zero-size.ensures.0 c.args.at _ c.first_zero-size.ensures.1 c.requires.1))

pub put_argument-place-requires : goal.put_argument-place-requires
put_argument-place-requires c = omega (arith, error_room c.args.to c.args.number _ _ c.error_text-text.ensures c.first_zero-size.ensures.0 c.args.at _ c.first_zero-size.ensures.1 c.requires.1)

pub slice_bounds-put-end : goal.slice_bounds-put-end
slice_bounds-put-end c = sym (length-take-le _ _ c.first_zero-size.ensures.1)

pub put-requires : goal.put-requires
put-requires c = rw (length-take-le _ _ c.first_zero-size.ensures.1) (omega (arith, error_room c.args.to c.args.number _ _ c.error_text-text.ensures c.first_zero-size.ensures.0 c.args.at _ c.first_zero-size.ensures.1 c.requires.1))

pub returns : goal.returns
unfolding join
returns c =
    let digits = ((c.args.number / 10 + 48) ∷ (c.args.number % 10 + 48) ∷ []) in
    laid_as _ _ (error_message c.args.to c.args.number _ _ c.error_text-text.ensures c.first_zero-size.ensures.0) _ _ _ _
    (data_laid c.args.at c.args.to 19 _ _ c.args.out.now (omega (arith, two_long digits (take c.first_zero-size.result c.error_text-text.result), length-take-le c.first_zero-size.result c.error_text-text.result c.first_zero-size.ensures.1)) _ _ c.put_heading-start.ensures _ _
    (rest_laid digits (take c.first_zero-size.result c.error_text-text.result) [] _ _ _ _ c.put_argument-place.ensures _ _ c.put.ensures))

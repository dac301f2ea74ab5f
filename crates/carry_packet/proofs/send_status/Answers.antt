-- `carry_packet::send_status` meets its contract: five arguments, each flag one byte, `0` or `1`. Assumes nothing.
use mathlib.Core.List.{[], ◌∷◌}
use native.Mathlib.Omega.{arith}
use Rattle.octets.proofs.Runs.{laid_as}
use Rattle.packet.specs.Arguments.{join}
use Rattle.packet_laws.proofs.Splitting.{text_short}
use Rattle.carry_packet.proofs.Answers.{digits_short, status_message, status_room_lem}
use Rattle.carry_packet.proofs.Laid.{data_laid, five_long, rest_laid}
use Rattle.carry_packet.proofs.send_status.Goals as goal

pub overflow_add-size : goal.overflow_add-size
overflow_add-size c = omega (arith, text_short 1 63 _ c.requires.0, digits_short 1 10 _ c.requires.1, digits_short 1 10 _ c.requires.2)

pub overflow_add-size-2 : goal.overflow_add-size-2
overflow_add-size-2 c = omega (arith, text_short 1 63 _ c.requires.0, digits_short 1 10 _ c.requires.1, digits_short 1 10 _ c.requires.2)

pub overflow_add-size-3 : goal.overflow_add-size-3
overflow_add-size-3 c = omega (arith, text_short 1 63 _ c.requires.0, digits_short 1 10 _ c.requires.1, digits_short 1 10 _ c.requires.2)

pub put_heading-start-requires : goal.put_heading-start-requires
put_heading-start-requires c = (omega (arith, text_short 1 63 _ c.requires.0, digits_short 1 10 _ c.requires.1, digits_short 1 10 _ c.requires.2), omega (arith, status_room_lem c.args.to c.args.handle.now c.args.numerator.now c.args.denominator.now c.args.known c.args.running c.args.at _ c.requires.3))

pub put_argument-second-requires : goal.put_argument-second-requires
put_argument-second-requires c = omega (arith, status_room_lem c.args.to c.args.handle.now c.args.numerator.now c.args.denominator.now c.args.known c.args.running c.args.at _ c.requires.3)

pub put_argument-third-requires : goal.put_argument-third-requires
put_argument-third-requires c = omega (arith, status_room_lem c.args.to c.args.handle.now c.args.numerator.now c.args.denominator.now c.args.known c.args.running c.args.at _ c.requires.3)

pub put_argument-fourth-requires : goal.put_argument-fourth-requires
put_argument-fourth-requires c = omega (arith, status_room_lem c.args.to c.args.handle.now c.args.numerator.now c.args.denominator.now c.args.known c.args.running c.args.at _ c.requires.3)

pub put_argument-fifth-requires : goal.put_argument-fifth-requires
put_argument-fifth-requires c = omega (arith, status_room_lem c.args.to c.args.handle.now c.args.numerator.now c.args.denominator.now c.args.known c.args.running c.args.at _ c.requires.3)

pub put-requires : goal.put-requires
put-requires c = omega (arith, status_room_lem c.args.to c.args.handle.now c.args.numerator.now c.args.denominator.now c.args.known c.args.running c.args.at _ c.requires.3)

pub returns : goal.returns
unfolding join
returns c =
    let k = c.flag.result ∷ [] in
    let r = c.flag-2.result ∷ [] in
    laid_as _ _ (status_message c.args.to c.args.handle.now c.args.numerator.now c.args.denominator.now c.args.known c.args.running _ _ c.flag.ensures c.flag-2.ensures) c.args.at _ _ c.args.out.now
    (data_laid c.args.at c.args.to 20 _ _ c.args.out.now (omega (arith, five_long c.args.handle.now k r c.args.numerator.now c.args.denominator.now)) _ _ c.put_heading-start.ensures _ _
    (rest_laid c.args.handle.now k (r ∷ c.args.numerator.now ∷ c.args.denominator.now ∷ []) _ _ _ _ c.put_argument-second.ensures _ _
    (rest_laid k r (c.args.numerator.now ∷ c.args.denominator.now ∷ []) _ _ _ _ c.put_argument-third.ensures _ _
    (rest_laid r c.args.numerator.now (c.args.denominator.now ∷ []) _ _ _ _ c.put_argument-fourth.ensures _ _
    (rest_laid c.args.numerator.now c.args.denominator.now [] _ _ _ _ c.put_argument-fifth.ensures _ _ c.put.ensures)))))

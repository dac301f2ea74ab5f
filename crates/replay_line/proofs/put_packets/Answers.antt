use native.Mathlib.Omega.{arith}
use Rattle.capture.proofs.Lines.{counted, header_whole, positive, reach, turning_end, turning_more, turning_room, turning_start}
use Rattle.replay_line.specs.Replayed.{line_of}
use Rattle.replay_line.proofs.Digits.{line_short}
use borrow.Author.Rules.{rules}
use Rattle.replay_line.proofs.put_packets.Goals as goal

pub loop-i-init : goal.loop-i-init
loop-i-init c = turning_start line_of 3 line_short _ _ _ c.requires.0 (omega (arith, c.requires.1))

pub packet_length-length-requires : goal.packet_length-length-requires
packet_length-length-requires c = header_whole line_of 3 line_short _ _ _ _ _ _ c.loop-i.invariant c.loop-i-test.true

pub slice_bounds-put_line-end : goal.slice_bounds-put_line-end
slice_bounds-put_line-end c = counted line_of 3 line_short _ _ _ _ _ _ c.loop-i.invariant c.loop-i-test.true _ c.packet_length-length.ensures

pub put_line-at-requires : goal.put_line-at-requires
put_line-at-requires c = turning_room line_of 3 line_short _ _ _ _ _ _ c.loop-i.invariant c.loop-i-test.true _ c.packet_length-length.ensures

pub overflow_add-i : goal.overflow_add-i
overflow_add-i c = search (rules, reach line_of 3 line_short _ _ _ _ _ _ c.loop-i.invariant c.loop-i-test.true _ c.packet_length-length.ensures)

pub loop-i-smaller : goal.loop-i-smaller
loop-i-smaller c = omega (arith, reach line_of 3 line_short _ _ _ _ _ _ c.loop-i.invariant c.loop-i-test.true _ c.packet_length-length.ensures, positive line_of 3 line_short _ _ _ _ _ _ c.loop-i.invariant c.loop-i-test.true _ c.packet_length-length.ensures)

pub loop-i-preserved : goal.loop-i-preserved
loop-i-preserved c = turning_more line_of 3 line_short _ _ _ _ _ _ c.loop-i.invariant c.loop-i-test.true _ c.packet_length-length.ensures _ _ c.put_line-at.ensures

pub returns : goal.returns
returns c =
    let e = turning_end line_of 3 line_short _ _ _ _ _ _ c.loop-i.invariant c.loop-i-test.false in
    (omega (arith, c.loop-i.invariant.near, c.loop-i.invariant.inside), e.0, e.1)

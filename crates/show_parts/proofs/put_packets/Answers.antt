use native.Mathlib.Omega.{arith}
use Rattle.capture.proofs.Lines.{counted, header_whole, positive, reach, turning_end, turning_more, turning_room, turning_start}
use Rattle.show_parts.specs.Parts.{sent_text}
use Rattle.show_parts.proofs.Bounds.{sent_short}
use borrow.Author.Rules.{rules}
use Rattle.show_parts.proofs.put_packets.Goals as goal

pub loop-i-init : goal.loop-i-init
loop-i-init c = turning_start sent_text 14 sent_short _ _ _ c.requires.0 (omega (arith, c.requires.1))

pub packet_length-length-requires : goal.packet_length-length-requires
packet_length-length-requires c = header_whole sent_text 14 sent_short _ _ _ _ _ _ c.loop-i.invariant c.loop-i-test.true

pub slice_bounds-put_sent-end : goal.slice_bounds-put_sent-end
slice_bounds-put_sent-end c = counted sent_text 14 sent_short _ _ _ _ _ _ c.loop-i.invariant c.loop-i-test.true _ c.packet_length-length.ensures

pub put_sent-place-requires : goal.put_sent-place-requires
put_sent-place-requires c = (omega (arith, counted sent_text 14 sent_short _ _ _ _ _ _ c.loop-i.invariant c.loop-i-test.true _ c.packet_length-length.ensures, positive sent_text 14 sent_short _ _ _ _ _ _ c.loop-i.invariant c.loop-i-test.true _ c.packet_length-length.ensures), turning_room sent_text 14 sent_short _ _ _ _ _ _ c.loop-i.invariant c.loop-i-test.true _ c.packet_length-length.ensures)

pub overflow_add-i : goal.overflow_add-i
overflow_add-i c = search (rules, reach sent_text 14 sent_short _ _ _ _ _ _ c.loop-i.invariant c.loop-i-test.true _ c.packet_length-length.ensures)

pub loop-i-smaller : goal.loop-i-smaller
loop-i-smaller c = omega (arith, reach sent_text 14 sent_short _ _ _ _ _ _ c.loop-i.invariant c.loop-i-test.true _ c.packet_length-length.ensures, positive sent_text 14 sent_short _ _ _ _ _ _ c.loop-i.invariant c.loop-i-test.true _ c.packet_length-length.ensures)

pub loop-i-preserved : goal.loop-i-preserved
loop-i-preserved c = turning_more sent_text 14 sent_short _ _ _ _ _ _ c.loop-i.invariant c.loop-i-test.true _ c.packet_length-length.ensures _ _ c.put_sent-place.ensures

pub returns : goal.returns
returns c = turning_end sent_text 14 sent_short _ _ _ _ _ _ c.loop-i.invariant c.loop-i-test.false

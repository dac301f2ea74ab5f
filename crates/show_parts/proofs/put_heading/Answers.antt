-- `show_parts::put_heading` meets its contract: the word, the number, the digits, and what the frame says. Assumes nothing.
use mathlib.Core.List.{◌++◌}
use Rattle.handle.specs.Handle.{decimal}
use Rattle.octets.proofs.Runs.{laid_then, laid_third, room_first, room_second, room_then, room_third}
use Rattle.capture.specs.Frames.{event_of}
use Rattle.show_parts.specs.Parts.{digits_text, event_text, heading_text, line_word}
use Rattle.show_parts.proofs.put_heading.Goals as goal

pub put-digits-requires : goal.put-digits-requires
unfolding heading_text
put-digits-requires c =
    let f = event_of c.args.frame c.args.bytes.now in
    room_first 0 line_word (decimal c.args.number ++ (digits_text f ++ event_text f)) _ c.requires.1

pub put_number-seen-requires : goal.put_number-seen-requires
unfolding heading_text
put_number-seen-requires c =
    let f = event_of c.args.frame c.args.bytes.now in
    room_second 0 line_word (decimal c.args.number) (digits_text f ++ event_text f) _ _ _ c.put-digits.ensures c.requires.1

pub put_seen-event-requires : goal.put_seen-event-requires
unfolding heading_text
put_seen-event-requires c =
    let f = event_of c.args.frame c.args.bytes.now in
    let rest = room_third 0 line_word (decimal c.args.number) (digits_text f ++ event_text f) _ _ _ c.put-digits.ensures _ _ c.put_number-seen.ensures c.requires.1 in
    (c.requires.0, room_first _ (digits_text f) (event_text f) _ rest)

pub put_event-requires : goal.put_event-requires
unfolding heading_text
put_event-requires c =
    let f = event_of c.args.frame c.args.bytes.now in
    let rest = room_third 0 line_word (decimal c.args.number) (digits_text f ++ event_text f) _ _ _ c.put-digits.ensures _ _ c.put_number-seen.ensures c.requires.1 in
    (c.requires.0, room_then _ (digits_text f) (event_text f) _ _ _ c.put_seen-event.ensures rest)

pub returns : goal.returns
unfolding heading_text
returns c =
    let f = event_of c.args.frame c.args.bytes.now in
    laid_third 0 line_word (decimal c.args.number) (digits_text f ++ event_text f) _ _ _ c.put-digits.ensures _ _ c.put_number-seen.ensures _ _
    (laid_then _ (digits_text f) (event_text f) _ _ _ c.put_seen-event.ensures _ _ c.put_event.ensures)

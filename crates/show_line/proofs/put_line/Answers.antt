-- `show_line::put_line` meets its contract: the heading, the answer, how the table stands, and the line end. Assumes nothing.
use Rattle.server.specs.Sizes.{connection_count}
use Rattle.server.specs.Layout.{table_of}
use Rattle.show_line.proofs.Parts.{answer_room, end_room, heading_room, line_laid, packets_room, table_room}
use Rattle.show_line.proofs.put_line.Goals as goal

pub put_heading-answer-requires : goal.put_heading-answer-requires
put_heading-answer-requires c =
    (c.requires.0, heading_room _ _ _ c.args.outcome c.args.before (table_of connection_count c.args.table.now) c.args.text.now (λ a b. (c.requires.2 a b).1) c.requires.1 c.requires.3 c.requires.4)

pub put_answer-standing-requires : goal.put_answer-standing-requires
put_answer-standing-requires c =
    (c.requires.1, packets_room _ _ _ c.args.outcome c.args.before (table_of connection_count c.args.table.now) _ (λ a b. (c.requires.2 a b).1) c.requires.1 c.requires.3 c.requires.4 _ _ c.put_heading-answer.ensures, answer_room _ _ _ c.args.outcome c.args.before (table_of connection_count c.args.table.now) _ (λ a b. (c.requires.2 a b).1) c.requires.1 c.requires.3 c.requires.4 _ _ c.put_heading-answer.ensures)

pub put_table-end-requires : goal.put_table-end-requires
put_table-end-requires c =
    (c.requires.0, c.requires.1, c.requires.2, table_room _ _ _ _ _ _ _ (λ a b. (c.requires.2 a b).1) c.requires.1 c.requires.3 c.requires.4 _ _ c.put_heading-answer.ensures _ _ c.put_answer-standing.ensures)

pub put-requires : goal.put-requires
put-requires c =
    end_room _ _ _ _ _ _ _ (λ a b. (c.requires.2 a b).1) c.requires.1 c.requires.3 c.requires.4 _ _ c.put_heading-answer.ensures _ _ c.put_answer-standing.ensures _ _ c.put_table-end.ensures

pub returns : goal.returns
returns c = line_laid _ _ _ _ _ _ _ _ _ c.put_heading-answer.ensures _ _ c.put_answer-standing.ensures _ _ c.put_table-end.ensures _ _ c.put.ensures

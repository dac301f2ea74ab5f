-- `table_texts::put_text` meets its contract: the text, and zeros over the rest of the place. Assumes nothing.
use mathlib.Core.Path.{refl}
use Rattle.table_texts.proofs.Padding.{text_laid}
use Rattle.table_texts.proofs.put_text.Goals as goal

pub returns : goal.returns
returns c =
    text_laid c.args.table.now c.put-end.new.out _ c.fill.new.self c.args.at c.put-end.result c.args.width c.args.s.now c.requires.0 c.requires.1 c.put-end.ensures.0 c.put-end.ensures.1
    (c.fill.ensures.after (λ y e. e)) refl

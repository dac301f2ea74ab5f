-- `table_texts::text` meets its contract: the place up to its first zero byte. Assumes nothing.
use borrow.Author.Rules.{rules}
use Rattle.table_texts.proofs.Padding.{text_length, text_before_zero}
use Rattle.table_texts.proofs.text.Goals as goal

pub slice_bounds-result-end : goal.slice_bounds-result-end
slice_bounds-result-end c = search (rules, text_length)

pub returns : goal.returns
returns c = search (rules, text_before_zero)

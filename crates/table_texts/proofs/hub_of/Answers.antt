-- `table_texts::hub_of` meets its contract: the text of the place of the hub's name. Assumes nothing.
use Rattle.server.specs.Layout.{table_of}
use Rattle.table_texts.proofs.hub_of.Goals as goal

pub returns : goal.returns
unfolding table_of
returns c = c.text.ensures

-- `table_texts::id_at` meets its contract: the text of the connection's place among the ids. Assumes nothing.
use mathlib.Core.Path.{sym, ◌∙◌}
use Rattle.server.specs.Sizes.{connection_count}
use Rattle.table_passes.proofs.Rows.{id_at_lem}
use Rattle.table_texts.proofs.id_at.Goals as goal

pub returns : goal.returns
returns c =
    c.text.ensures ∙ sym (id_at_lem connection_count c.args.table.now c.args.c c.requires.1)

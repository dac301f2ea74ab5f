-- `check_image::run_padded` meets its contract. Where the texts are empty, they are padded exactly if all bytes are zero. Assumes nothing.
use mathlib.Core.Path.{sym, ◌∙◌}
use lib.ListN.{length}
use Rattle.check_image.proofs.Places.{run_inside, run_empty, run_followed}
use Rattle.check_image.proofs.run_padded.Goals as goal

pub all_empty-requires : goal.all_empty-requires
all_empty-requires g c = run_inside g.row.W g.row.B c.requires.1 c.args.at (length c.args.table.now) c.requires.0

pub returns-then-all_empty : goal.returns-then-all_empty
returns-then-all_empty g c =
    c.zeros.ensures ∙ run_empty g.row.W g.row.B c.requires.1 c.args.table.now c.args.at c.requires.0 (sym c.all_empty.ensures ∙ c.if-all_empty.true)

pub returns : goal.returns
returns g c = c.all_followed.ensures ∙ run_followed g.row.W g.row.B c.requires.1 c.args.table.now c.args.at c.args.last.now c.requires.0 c.requires.2

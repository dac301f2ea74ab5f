-- `check_ids::eight_hold` meets its contract. Places of zeros hold; else each place is asked byte by byte, and its connection's flag. Assumes nothing.
use mathlib.Core.Path.{refl, sym, ◌∙◌}
use Rattle.check_ids.specs.Ids.{last_before}
use Rattle.check_ids.proofs.Ids.{zeros_hold, followed_hold}
use Rattle.check_ids.proofs.eight_hold.Goals as goal

pub returns-then-zeros : goal.returns-then-zeros
returns-then-zeros c =
    zeros_hold c.args.table.now c.requires.0 c.args.c c.requires.1 (sym c.zeros.ensures ∙ c.if-zeros.true)

pub returns : goal.returns
returns c =
    followed_hold c.args.table.now c.requires.0 c.args.c c.requires.1 last_before _ _ refl c.all_followed.ensures c.only_open.ensures

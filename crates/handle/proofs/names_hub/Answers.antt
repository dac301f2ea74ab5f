-- `handle::names_hub` meets its contract: a text that begins with the prefix has each part of it at its place, and one that has them begins
-- with it. Assumes nothing.
use Rattle.handle.proofs.Reading.{hub_elsewhere, hub_no_colon, hub_here}
use borrow.Author.Rules.{rules}
use Rattle.handle.proofs.names_hub.Goals as goal

pub returns-then-not-starts_with : goal.returns-then-not-starts_with
returns-then-not-starts_with c = search (rules, hub_elsewhere)

pub returns-then-text-digits-ne58 : goal.returns-then-text-digits-ne58
returns-then-text-digits-ne58 c = search (rules, hub_no_colon)

pub returns : goal.returns
returns c = search (rules, hub_here)

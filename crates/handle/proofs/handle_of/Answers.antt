-- `handle::handle_of` meets its contract: `H:`, the name, `:` and the digits, laid over zeros one behind the other, are the handle followed by
-- zeros. Assumes nothing.
use native.Mathlib.Omega.{arith}
use Rattle.handle.proofs.Hubs.{hub_most_lem}
use Rattle.handle.proofs.Printing.{handle_length, handle_text, printed_is}
use borrow.Author.Rules.{rules}
use Rattle.handle.proofs.handle_of.Goals as goal

pub put-colon-requires : goal.put-colon-requires
put-colon-requires c = omega (arith, hub_most_lem c.args.hub.now c.requires)

pub put-digits-requires : goal.put-digits-requires
put-digits-requires c = omega (arith, hub_most_lem c.args.hub.now c.requires)

pub put_digits-length-requires : goal.put_digits-length-requires
put_digits-length-requires c = omega (arith, hub_most_lem c.args.hub.now c.requires)

pub returns : goal.returns
returns c = search (rules, handle_length, handle_text, printed_is)

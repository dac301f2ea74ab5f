use mathlib.Core.Path.{ap}
use mathlib.Core.Bool.{not}
use borrow.Author.Rules.{rules}
use Rattle.std.specs.Prelude.{Some, None}
use Rattle.packet_split.proofs.Splitting.{from_unseparated, from_unfit, from_more}
use Rattle.packet_split.proofs.+split_from.Goals as goal

pub returns-then-end-d : goal.returns-then-end-d
returns-then-end-d t c = search (rules, from_unseparated)

pub returns-then-not-fits : goal.returns-then-not-fits
returns-then-not-fits t c = search (rules, from_unfit)

pub returns-in_err-rest : goal.returns-in_err-rest
returns-in_err-rest t c =
    rw c.from_residual.ensures
    (from_more _ _ _ _ c.requires.0 _ c.rule_of-rule.ensures _ c.count_of-count.ensures.0 c.if-i-count.false _ c.first_zero-end.ensures.0 _ c.fits.ensures c.first_zero-end.ensures.1 c.if-end-d.false None (ap not c.if-not-fits.false) c.in_err-rest.ensures)

pub returns : goal.returns
returns t c =
    rw c.pushed.ensures
    (from_more _ _ _ _ c.requires.0 _ c.rule_of-rule.ensures _ c.count_of-count.ensures.0 c.if-i-count.false _ c.first_zero-end.ensures.0 _ c.fits.ensures c.first_zero-end.ensures.1 c.if-end-d.false (Some c.in_ok-rest.rest) (ap not c.if-not-fits.false) c.in_ok-rest.ensures)

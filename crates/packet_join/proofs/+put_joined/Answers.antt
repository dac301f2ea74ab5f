use borrow.Author.Rules.{rules}
use Rattle.packet_join.proofs.Joins.{none_laid, one_fits, one_laid, first_fits, zero_fits, rest_fits, more_laid}
use Rattle.packet_join.proofs.+put_joined.Goals as goal

pub returns-in-empty : goal.returns-in-empty
returns-in-empty t c = none_laid _ _ _ c.in-empty.len_below

pub put-requires : goal.put-requires
put-requires t c = one_fits _ _ _ _ c.in-len1.len_at_least c.in-len1.len_below c.requires

pub returns-in-len1 : goal.returns-in-len1
returns-in-len1 t c = one_laid _ _ _ _ c.in-len1.len_at_least c.in-len1.len_below _ _ c.put.ensures

pub put-end-requires : goal.put-end-requires
put-end-requires t c = first_fits _ _ c.in-len1-up.len_at_least _ _ c.requires

pub bounds-out-end : goal.bounds-out-end
bounds-out-end t c = zero_fits _ _ c.in-len1-up.len_at_least _ _ c.requires _ _ c.put-end.ensures

pub put_joined-requires : goal.put_joined-requires
put_joined-requires t c = (search rules, rest_fits _ _ c.in-len1-up.len_at_least _ _ c.requires _ _ c.put-end.ensures)

pub returns-in-len1-up : goal.returns-in-len1-up
returns-in-len1-up t c = more_laid _ _ c.in-len1-up.len_at_least _ _ c.requires _ _ c.put-end.ensures _ _ c.put_joined.ensures

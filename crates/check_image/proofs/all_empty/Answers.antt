use mathlib.Core.Path.{refl}
use native.Mathlib.Omega.{arith}
use lib.ListN.{length}
use Rattle.table_passes.proofs.Tests.{none_on, each_end}
use Rattle.table_laws.proofs.Same.{field_inside}
use borrow.Author.Rules.{rules}
use Rattle.check_image.proofs.all_empty.Goals as goal

pub loop-k-init : goal.loop-k-init
loop-k-init c = refl

pub overflow_mul-found : goal.overflow_mul-found
overflow_mul-found c = let h = field_inside c.args.w c.args.m c.args.at c.loop-k.k (length c.args.table.now) c.requires.0 (omega arith) in search rules

pub overflow_add-found : goal.overflow_add-found
overflow_add-found c = let h = field_inside c.args.w c.args.m c.args.at c.loop-k.k (length c.args.table.now) c.requires.0 (omega arith) in search rules

pub bounds-table-at : goal.bounds-table-at
bounds-table-at c = let h = field_inside c.args.w c.args.m c.args.at c.loop-k.k (length c.args.table.now) c.requires.0 (omega arith) in search rules

pub loop-k-preserved : goal.loop-k-preserved
loop-k-preserved c = search (rules, none_on)

pub returns : goal.returns
returns c = search (rules, each_end)

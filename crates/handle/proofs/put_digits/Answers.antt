use mathlib.Core.Path.{refl}
use native.Mathlib.Omega.{arith}
use lib.ListN.{length-set}
use Rattle.handle.specs.Handle.{decimal_in}
use Rattle.handle.proofs.Printing.{all_left, digits_left, digit_laid}
use Rattle.handle.proofs.put_digits.Goals as goal

pub loop-i-init : goal.loop-i-init
loop-i-init c = let a = all_left c.args.at c.args.most c.args.number c.args.out.now _ c.count_digits-count.ensures.0 in (refl, a.0, a.1)

pub loop-i-preserved : goal.loop-i-preserved
loop-i-preserved c =
    let d = decimal_in c.args.most c.args.number in
    let e = c.loop-i.invariant.1 in (
      rw length-set c.loop-i.invariant.0,
      digits_left d c.loop-i.i c.loop-i.left (omega arith) (omega arith) e,
      digit_laid d c.loop-i.i c.loop-i.left (omega arith) (omega arith) e c.args.at c.loop-i.out c.args.out.now c.loop-i.invariant.2,
    )

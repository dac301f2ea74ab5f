use Rattle.std.proofs.Common.{arith, refl, sym, ap, ◌≡◌, ◌∙◌, ℕ, Bool, ◌&&◌, ◌+◌, ◌-◌}
use Rattle.lists.specs.Lists.{all, numbers}
use Rattle.std.proofs.Math.Bool.{and_assoc}
use Rattle.table_passes.proofs.Tests.{all_next, and_true, each_end}
use Rattle.table_passes.proofs.Pairs.{later_on, pairs_each}
use Rattle.check_exact.proofs.each_two.Goals as goal

-- what the test says of place i and each later one below n
abbrev rest : (ℕ → ℕ → Bool) → ℕ → ℕ → Bool
rest t n i = all (t i) (numbers (i + 1) (n - (i + 1)))

pub loop-k-init : goal.loop-k-init
loop-k-init g c =
    let z : c.loop-i.i + 1 - (c.loop-i.i + 1) ≡ 0 = omega arith in
    λ t says. rw z (c.loop-i.invariant t says ∙ sym (and_true (all (rest t c.args.n) (numbers 0 c.loop-i.i))))

-- a flag that says two things, and one more of the second
and_more : (ok passed later x next : Bool) → ok ≡ passed && later → later && x ≡ next → ok && x ≡ passed && next
and_more ok passed later x next e f = ap (λ (y : Bool). y && x) e ∙ and_assoc passed later x ∙ ap (λ (y : Bool). passed && y) f

pub loop-k-preserved : goal.loop-k-preserved
loop-k-preserved g c =
    λ t says. and_more c.loop-k.ok (all (rest t c.args.n) (numbers 0 c.loop-i.i)) _ c.holds-ok.result _ (c.loop-k.invariant t says)
    (later_on (t c.loop-i.i) (c.loop-i.i + 1) 0 c.loop-k.k _ c.holds-ok.result refl (omega arith) (says c.loop-i.i c.loop-k.k c.holds-ok.result (omega arith) (omega arith) c.holds-ok.ensures))

pub loop-i-preserved : goal.loop-i-preserved
loop-i-preserved g c =
    let e : c.loop-k.k ≡ c.args.n = omega arith in
    λ t says. (rw e at (c.loop-k.invariant t says)) ∙ sym (all_next (rest t c.args.n) c.loop-i.i)

pub returns : goal.returns
returns g c =
    λ t says. each_end (rest t c.args.n) c.args.n c.loop-i.i c.loop-i.ok (c.loop-i.invariant t says) (omega arith) (omega arith) ∙ pairs_each t c.args.n

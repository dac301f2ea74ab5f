-- `call_fresh::clear` meets its contract: the first n bytes are zeros, and the others follow. Assumes nothing.
use Rattle.std.proofs.Common.{ℕ, ap, ◌∙◌, replicate}
use Rattle.std.proofs.Math.Seq.{length-take-le}
use Rattle.call_fresh.proofs.Zeros.{filled}
use Rattle.call_fresh.proofs.clear.Goals as goal

pub returns : goal.returns
returns c =
    filled c.args.n c.fill.new.self c.args.b.now c.requires
    (c.fill.ensures.after (λ y e. e) ∙ ap (λ (k : ℕ). replicate k 0) (length-take-le c.args.n c.args.b.now c.requires))

-- Tests joined by `&&`: what the code answers where the first test held, and where it failed. Assumes nothing.
use Rattle.std.proofs.Common.{Bool, true, false, ◌≡◌, sym, ◌∙◌, ◌&&◌}
use Rattle.std.proofs.Math.Bool.{and_assoc}
use Rattle.table_passes.proofs.Tests.{and_same, and_fails}

-- the first test held, and the answer is that of the second
pub held : {x p q A B : Bool} → x ≡ q → p ≡ true → p ≡ A → q ≡ B → x ≡ A && B
held is h e f = is ∙ and_same (sym h ∙ e) f

-- the first test failed, and so does the answer
pub failed : {x p A : Bool} (B : Bool) → x ≡ p → p ≡ false → p ≡ A → x ≡ A && B
failed B is h e = is ∙ h ∙ and_fails B (sym h ∙ e)

-- four tests, from the left or from the right
pub of_four : (a b c d : Bool) → ((a && b) && c) && d ≡ a && (b && (c && d))
of_four a b c d = and_assoc (a && b) c d ∙ and_assoc a b (c && d)

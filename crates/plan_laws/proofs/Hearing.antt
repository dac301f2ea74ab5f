-- The listeners that hear an exception: those that set the option. Assumes nothing.
use Prim.Native.Nat.{ℕ, zero, suc, ◌+◌, ◌<◌}
use mathlib.Core.Path.{◌≡◌, refl, ap, sym, ◌∙◌}
use mathlib.Core.Logic.{◌≢◌}
use mathlib.Core.Bool.{Bool, true, false, cond, ◌&&◌}
use mathlib.Core.List.{List, [], ◌∷◌, map}
use native.Mathlib.Nat.{zero-add, add-zero, le_of_suc-le-suc}
use native.Mathlib.Omega.{arith}
use lib.ListN.{length, get_or}
use Rattle.sets.specs.Sets.{has, remove, members}
use Rattle.sets.proofs.Members.{map_members}
use Rattle.sets.proofs.Laws.{has_remove_same, has_remove_other}
use Rattle.server.specs.declared.Connection.{Connection}
use Rattle.server.specs.Table.{closed}
use Rattle.plan.specs.Parts.{heard_from, heard}

deaf_step : (b : Bool) (s c x : ℕ) → x ≢ c → has (cond b s (remove s c)) x ≡ has s x
deaf_step true s c x n = refl
deaf_step false s c x n = has_remove_other s c x n

-- below the first connection looked at, the set stays
heard_below : (cs : List Connection) (c s x : ℕ) → x < c → has (heard_from c cs s) x ≡ has s x
heard_below [] c s x h = refl
heard_below (y ∷ cs) c s x h = heard_below cs (suc c) _ x (omega arith) ∙ deaf_step y.exceptions s c x (λ e. omega arith)

heard_first : (b : Bool) (s c : ℕ) → has (cond b s (remove s c)) c ≡ has s c && b
heard_first true s c = sym (and_true (has s c))
  where
    and_true : (a : Bool) → a && true ≡ a
    and_true true = refl
    and_true false = refl
heard_first false s c = has_remove_same s c ∙ sym (and_false (has s c))
  where
    and_false : (a : Bool) → a && false ≡ false
    and_false true = refl
    and_false false = refl

heard_has : (cs : List Connection) (c s k : ℕ) → k < length cs → has (heard_from c cs s) (c + k) ≡ has s (c + k) && (get_or cs k closed).exceptions
heard_has [] c s k h = absurd (omega arith)
heard_has (y ∷ cs) c s zero h =
    ap (has (heard_from (suc c) cs (cond y.exceptions s (remove s c)))) (add-zero c)
    ∙ heard_below cs (suc c) _ c (omega arith)
    ∙ heard_first y.exceptions s c
    ∙ ap (λ (m : ℕ). has s m && y.exceptions) (sym (add-zero c))
heard_has (y ∷ cs) c s (suc k) h =
    let e : c + suc k ≡ suc c + k = omega arith in
    ap (has (heard_from (suc c) cs (cond y.exceptions s (remove s c)))) e
    ∙ heard_has cs (suc c) (cond y.exceptions s (remove s c)) k (le_of_suc-le-suc h)
    ∙ ap (λ (b : Bool). b && (get_or cs k closed).exceptions) (deaf_step y.exceptions s c (suc c + k) (λ q. omega arith) ∙ ap (has s) (sym e))

-- of the listeners
heard_option : (cs : List Connection) (s l : ℕ) → l < length cs → has s l ≡ true → has (heard cs s) l ≡ (get_or cs l closed).exceptions
unfolding heard
heard_option cs s l h e = ap (has (heard_from 0 cs s)) (sym (zero-add l)) ∙ heard_has cs 0 s l h ∙ ap (λ (m : ℕ). has s m && (get_or cs l closed).exceptions) (zero-add l) ∙ ap (λ (b : Bool). b && (get_or cs l closed).exceptions) e

-- what each of them is sent, one thing or another
pub told_option : {A : Type 0} (f g : ℕ → A) (cs : List Connection) (s : ℕ)
    → map (λ l. cond (has (heard cs s) l) (f l) (g l)) (members (length cs) s) ≡ map (λ l. cond (get_or cs l closed).exceptions (f l) (g l)) (members (length cs) s)
told_option f g cs s = map_members _ _ (length cs) s (λ l h e. ap (λ (b : Bool). cond b (f l) (g l)) (heard_option cs s l h e))

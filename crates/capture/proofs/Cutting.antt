-- Bytes cut into addressed packets: packets laid one after the other are cut as they were. Assumes nothing.
use Prim.Native.Nat.{ℕ, zero, suc, ◌≤◌}
use mathlib.Core.Path.{◌≡◌, refl, sym, ap, ◌∙◌}
use mathlib.Core.List.{List, [], ◌∷◌, ◌++◌}
use native.Mathlib.Omega.{arith}
use lib.ListN.{length, length-append, get_or-append}
use lib.Seq.{take_at, drop_at}
use Rattle.octets.specs.Bytes.{Bytes}
use Rattle.lists.specs.Lists.{concat}
use Rattle.capture.specs.Packets.{packet_length, Addressed, cut, packets_in}

-- the first packet's length stands in it
pub first_length : (p r : Bytes) → length p ≡ packet_length p → packet_length (p ++ r) ≡ length p
first_length p r e =
    rw (get_or-append p r 0 9 (omega arith), get_or-append p r 0 10 (omega arith), get_or-append p r 0 11 (omega arith), get_or-append p r 0 12 (omega arith)) (sym e)

-- the first packet and the rest
cut_first : (n : ℕ) (p r : Bytes) → length p ≡ packet_length p → cut (suc n) (p ++ r) ≡ p ∷ cut n r
unfolding cut
cut_first n [] r e = absurd (omega arith)
cut_first n (x ∷ p) r e =
    let l : packet_length (x ∷ (p ++ r)) ≡ length (x ∷ p) = first_length (x ∷ p) r e in
    rw (l, take_at (x ∷ p) r (length (x ∷ p)) refl, drop_at (x ∷ p) r (length (x ∷ p)) refl)

cut_all : (n : ℕ) (ps : List Bytes) → Addressed ps → length (concat ps) ≤ n → cut n (concat ps) ≡ ps
unfolding cut
cut_all zero [] f h = refl
cut_all (suc n) [] f h = refl
cut_all zero (p ∷ ps) f h = absurd (omega (arith, length-append p (concat ps), f.0))
cut_all (suc n) (p ∷ ps) f h = cut_first n p (concat ps) f.0 ∙ ap (λ (qs : List Bytes). p ∷ qs) (cut_all n ps f.1 (omega (arith, length-append p (concat ps), f.0)))

pub packets_in_lem : (b : Bytes) (ps : List Bytes) → Addressed ps → b ≡ concat ps → packets_in b ≡ ps
unfolding packets_in
packets_in_lem b ps f e = rw e (cut_all (length (concat ps)) ps f (omega arith))

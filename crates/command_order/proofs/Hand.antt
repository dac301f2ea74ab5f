-- A place put among others in one pass: a hand carries what is to be laid down next. Until it has laid down the new place it goes past each
-- that comes before; from there on it lays down the place that gave way before. Assumes nothing.
use Prim.Native.Nat.{ℕ, suc, ◌+◌, ◌<◌, ◌≤◌}
use mathlib.Core.Path.{◌≡◌, refl, ap, sym, ◌∙◌}
use mathlib.Core.Bool.{Bool, true, false, cond, ◌||◌}
use mathlib.Core.List.{List, [], ◌∷◌, ◌++◌, append_assoc}
use native.Mathlib.Numerals.{add-one}
use native.Mathlib.Omega.{arith}
use lib.ListN.{length, get_or, set, take, drop, drop_of_length-le}
use lib.Seq.{drop-cons, get_or-take, length-take-le, take-suc-set}
use Rattle.server.specs.Table.{Function}
use Rattle.command.specs.Order.{before, name_at, placed}

-- what the hand and the places ahead of it become: it has laid down the new place, or not yet
abbrev pub carried : List Function → Bool → ℕ → List ℕ → List ℕ
carried fs true hand ps = hand ∷ ps
carried fs false hand ps = placed fs hand ps

carried_next : (fs : List Function) (moved b : Bool) (hand p : ℕ) (ps : List ℕ) → b ≡ before (name_at fs hand) (name_at fs p)
    → carried fs moved hand (p ∷ ps) ≡ cond (moved || b) hand p ∷ carried fs (moved || b) (cond (moved || b) p hand) ps
unfolding placed
carried_next fs true b hand p ps e = refl
carried_next fs false true hand p ps e = rw (← e)
carried_next fs false false hand p ps e = rw (← e)

carried_last : (fs : List Function) (moved : Bool) (hand : ℕ) → carried fs moved hand [] ≡ hand ∷ []
unfolding placed
carried_last fs true hand = refl
carried_last fs false hand = refl

module _ (fs : List Function) (q count : ℕ) (places : List ℕ) where
  -- the first i places are laid down
  abbrev pub Hand : List ℕ → ℕ → Bool → ℕ → Type 0
  Hand next hand moved i = take i next ++ carried fs moved hand (drop i (take count places)) ≡ placed fs q (take count places)

  module _ (next : List ℕ) (hand : ℕ) (moved : Bool) (i : ℕ) (e : Hand next hand moved i) (long : count ≤ length places) where
    pub hand_turn : i < count → i < length next → (b : Bool) → b ≡ before (name_at fs hand) (name_at fs (get_or places i 0)) → (x h : ℕ)
        → x ≡ cond (moved || b) hand (get_or places i 0) → h ≡ cond (moved || b) (get_or places i 0) hand → Hand (set next i x) h (moved || b) (i + 1)
    hand_turn l m b eb x h ex eh =
        let ahead : List ℕ = drop (suc i) (take count places) in
        let there : drop i (take count places) ≡ get_or places i 0 ∷ ahead =
        drop-cons (take count places) i 0 (rw (length-take-le count places long) l) ∙ ap (λ (p : ℕ). p ∷ ahead) (get_or-take count places i 0 l) in
        let step : carried fs moved hand (drop i (take count places)) ≡ x ∷ carried fs (moved || b) h ahead =
        ap (carried fs moved hand) there ∙ carried_next fs moved b hand (get_or places i 0) ahead eb ∙ rw (← ex, ← eh) in
        rw (add-one, take-suc-set next i x m, append_assoc) (ap (λ (r : List ℕ). take i next ++ r) (sym step) ∙ e)

    module _ (b : Bool) (eb : b ≡ before (name_at fs hand) (name_at fs (get_or places i 0))) (l : i < count) (m : i < length next) (laid : List ℕ) (h : ℕ) where
      -- what the hand carries is laid down, and the place that stood there taken up
      pub hand_laid : moved || b ≡ true → laid ≡ set next i hand → h ≡ get_or places i 0 → Hand laid h (moved || b) (i + 1)
      hand_laid t en eh = rw en (hand_turn l m b eb hand h (rw t) (rw t eh))

      -- the hand goes past the place that stands there
      pub hand_past : moved || b ≡ false → laid ≡ set next i (get_or places i 0) → h ≡ hand → Hand laid h (moved || b) (i + 1)
      hand_past t en eh = rw en (hand_turn l m b eb (get_or places i 0) h (rw t) (rw t eh))

    pub hand_end : i ≡ count → i < length next → take (count + 1) (set next count hand) ≡ placed fs q (take count places)
    hand_end q' m =
        let past : length (take count places) ≤ i = rw (length-take-le count places long) (omega arith) in
        let last : carried fs moved hand (drop i (take count places)) ≡ hand ∷ [] =
        ap (carried fs moved hand) (drop_of_length-le (take count places) past) ∙ carried_last fs moved hand in
        let whole : take (i + 1) (set next i hand) ≡ placed fs q (take count places) =
        rw (add-one, take-suc-set next i hand m) (ap (λ (r : List ℕ). take i next ++ r) (sym last) ∙ e) in
        ap (λ (k : ℕ). take (k + 1) (set next k hand)) (sym q') ∙ whole

-- Laws of the data of a list of arguments: how long it is and how it is laid, for no argument, for one, and for one before the others.
-- Assumes nothing.
use Prim.Native.Nat.{ℕ, zero, suc, ◌+◌, ◌-◌, ◌<◌, ◌≤◌, min}
use mathlib.Core.Path.{◌≡◌, refl, ap, ◌∙◌}
use mathlib.Core.List.{List, [], ◌∷◌, ◌++◌, append_assoc, map}
use native.Mathlib.Numerals.{add-one}
use native.Mathlib.Omega.{arith}
use lib.ListN.{length, set, get_or, take, drop, length-append, length-set}
use lib.Seq.{take_all}
use Rattle.std.proofs.lemmas.List.{get_or-map, take_rest}
use Rattle.std.specs.Borrow.{Bor}
use Rattle.octets.specs.Bytes.{Bytes}
use Rattle.octets.specs.Put.{put}
use Rattle.octets.proofs.Laying.{put_none, put_more, put_next, length_put}
use Rattle.packet.specs.Arguments.{join}

-- the arguments where they lie
abbrev pub texts : List (Bor Bytes) → List Bytes
texts = map (λ a. a.now)

pub length_texts : (xs : List (Bor Bytes)) → length (texts xs) ≡ length xs
length_texts [] = refl
length_texts (x ∷ xs) = ap suc (length_texts xs)

-- how long the arguments are, each with one byte behind it
unfoldable pub ended : List Bytes → ℕ
ended [] = 0
ended (a ∷ as') = length a + 1 + ended as'

-- their data is one byte shorter, where there is one
join_ended : (as' : List Bytes) → length (join as') ≡ ended as' - 1
unfolding join ended
join_ended [] = refl
join_ended (a ∷ []) = omega arith
join_ended (a ∷ b ∷ as') = length-append a _ ∙ omega (arith, join_ended (b ∷ as'))

ended_more : (as' : List Bytes) (i : ℕ) → i < length as' → ended (take (suc i) as') ≡ ended (take i as') + length (get_or as' i []) + 1
unfolding ended
ended_more [] i h = absurd (omega arith)
ended_more (a ∷ as') zero h = omega arith
ended_more (a ∷ as') (suc i) h = omega (arith, ended_more as' i (omega arith))

-- the count under way: i arguments are counted
module _ (xs : List (Bor Bytes)) (i e : ℕ) (counted : e ≡ min 65537 (ended (take i (texts xs)))) where
  pub ended_on : (d : Bor Bytes) (m r : ℕ) → i < length xs → m ≡ min (length (get_or xs i d).now) 65536 → r ≡ min (e + m + 1) 65537
      → r ≡ min 65537 (ended (take (i + 1) (texts xs)))
  ended_on d m r h em er =
      let q : get_or (texts xs) i [] ≡ (get_or xs i d).now = get_or-map (λ (a : Bor Bytes). a.now) xs i d [] h in
      let k : ended (take (i + 1) (texts xs)) ≡ ended (take i (texts xs)) + length (get_or xs i d).now + 1
      = rw (add-one i, ended_more (texts xs) i (omega (arith, length_texts xs)), q) in
      omega (arith, counted, k, em, er)

  pub ended_all : (r : ℕ) → length xs ≤ i → r ≡ e - 1 → r ≡ min 65536 (length (join (texts xs)))
  ended_all r h er =
      let q : take i (texts xs) ≡ texts xs = take_all i (texts xs) (omega (arith, length_texts xs)) in
      let k : e ≡ min 65537 (ended (texts xs)) = counted ∙ rw q in
      omega (arith, k, er, join_ended (texts xs))

-- all but the first
abbrev pub others : List (Bor Bytes) → List (Bor Bytes)
others xs = take (length xs - 1) (drop 1 xs)

join_none : (xs : List (Bor Bytes)) → length xs < 1 → join (texts xs) ≡ []
unfolding join
join_none [] h = refl
join_none (x ∷ xs) h = absurd (omega arith)

join_one : (xs : List (Bor Bytes)) (d : Bor Bytes) → 1 ≤ length xs → length xs < 2 → join (texts xs) ≡ (get_or xs 0 d).now
unfolding join
join_one [] d g h = absurd (omega arith)
join_one (x ∷ []) d g h = refl
join_one (x ∷ y ∷ xs) d g h = absurd (omega arith)

-- two arguments or more: the first, a zero byte, and the data of the others
join_more : (xs : List (Bor Bytes)) (d : Bor Bytes) → 2 ≤ length xs → join (texts xs) ≡ (get_or xs 0 d).now ++ (0 ∷ join (texts (others xs)))
unfolding join
join_more [] d h = absurd (omega arith)
join_more (x ∷ []) d h = absurd (omega arith)
join_more (x ∷ y ∷ xs) d h = rw (take_rest (x ∷ y ∷ xs) 1)

-- no argument and one: the place after the data, the output
module _ (xs : List (Bor Bytes)) (at : ℕ) (out : Bytes) where
  pub none_laid : length xs < 1 → (at ≡ at + length (join (texts xs))) × (out ≡ put at (join (texts xs)) out)
  none_laid h = rw (join_none xs h) (omega arith, rw (put_none at out))

  module _ (d : Bor Bytes) (g : 1 ≤ length xs) (h : length xs < 2) where
    pub one_fits : at + length (join (texts xs)) ≤ length out → at + length (get_or xs 0 d).now ≤ length out
    one_fits l = omega (arith, ap length (join_one xs d g h))

    pub one_laid : (r : ℕ) (o : Bytes) → (r ≡ at + length (get_or xs 0 d).now) × (o ≡ put at (get_or xs 0 d).now out)
        → (r ≡ at + length (join (texts xs))) × (o ≡ put at (join (texts xs)) out)
    one_laid r o e = rw (join_one xs d g h) e

-- two or more: the same, and that the parts have room
module _ (xs : List (Bor Bytes)) (d : Bor Bytes) (h : 2 ≤ length xs) where
  length_more : length (join (texts xs)) ≡ length (get_or xs 0 d).now + suc (length (join (texts (others xs))))
  length_more = rw (join_more xs d h) (length-append (get_or xs 0 d).now _)

  module _ (at : ℕ) (out : Bytes) (l : at + length (join (texts xs)) ≤ length out) where
    pub first_fits : at + length (get_or xs 0 d).now ≤ length out
    first_fits = omega (arith, length_more)

    module _ (end : ℕ) (o : Bytes) (e : (end ≡ at + length (get_or xs 0 d).now) × (o ≡ put at (get_or xs 0 d).now out)) where
      length_laid : length o ≡ length out
      length_laid = ap length e.1 ∙ length_put at (get_or xs 0 d).now out

      pub zero_fits : end < length o
      zero_fits = omega (arith, length_more, length_laid, e.0)

      pub rest_fits : end + 1 + length (join (texts (others xs))) ≤ length (set o end 0)
      rest_fits = rw length-set (omega (arith, length_more, length_laid, e.0))

      pub more_laid : (r : ℕ) (p : Bytes) → (r ≡ end + 1 + length (join (texts (others xs)))) × (p ≡ put (end + 1) (join (texts (others xs))) (set o end 0))
          → (r ≡ at + length (join (texts xs))) × (p ≡ put at (join (texts xs)) out)
      more_laid r p q =
          let a : Bytes = (get_or xs 0 d).now in
          let rest : Bytes = join (texts (others xs)) in
          let f : set o end 0 ≡ put at (a ++ (0 ∷ [])) out = rw (e.1, e.0) (put_more at a out (length a) 0 refl) in
          let g : end + 1 ≡ at + (length a + 1) = omega (arith, e.0) in
          let k : put (at + (length a + 1)) rest (put at (a ++ (0 ∷ [])) out) ≡ put at ((a ++ (0 ∷ [])) ++ rest) out = put_next at (a ++ (0 ∷ [])) rest out (length a + 1) (length-append a (0 ∷ [])) in
          (omega (arith, length_more, e.0, q.0), rw (join_more xs d h, ← append_assoc a (0 ∷ []) rest, q.1, f, g) k)

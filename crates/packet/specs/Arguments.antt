-- Arguments in a packet's data, by the rules of its shape. 01: "Arguments are separated by one zero byte; the last runs to the
-- end." Assumes nothing.
use Rattle.std.specs.Prelude.{ℕ, ◌+◌, Bool, true, false, cond, ◌&&◌, ◌||◌, List, [], ◌∷◌, ◌++◌, length, get_or, take, drop, ltb, eqb, Option, Some, None}
use Rattle.octets.specs.Bytes.{Bytes, first_zero, zero_free, within, every, same}
use Rattle.packet.specs.declared.Rule.{Rule}
use Rattle.packet.specs.declared.Rule.TheVariants.{Text, Digits, Flag, AnyText, Opaque, Absent}
use Rattle.packet.specs.declared.Ends.{Ends}

-- 01: "each 1 to 10 digits 0-9"
abbrev pub digits : Bytes → Bool
digits a = every (within 48 57) a

-- the argument is as its rule says; 01: "none with a zero byte"
unfoldable pub fits : Rule → Bytes → Bool
fits (Text least most) a = within least most (length a) && zero_free a
fits (Digits least most) a = within least most (length a) && digits a
fits Flag a = same a (48 ∷ []) || same a (49 ∷ [])
fits AnyText a = zero_free a
fits Opaque a = true
fits Absent a = false

-- there are as many arguments as rules, and each is as its rule says
unfoldable pub fit_all : List Rule → List Bytes → Bool
fit_all [] [] = true
fit_all [] (a ∷ as') = false
fit_all (r ∷ rs) [] = false
fit_all (r ∷ rs) (a ∷ as') = fits r a && fit_all rs as'

-- the arguments with one zero byte between each two
unfoldable pub join : List Bytes → Bytes
join [] = []
join (a ∷ []) = a
join (a ∷ (b ∷ bs)) = a ++ (0 ∷ join (b ∷ bs))

-- what splitting finds: the arguments, or that the data does not split so
pub data Parts : Type 0 where
  bad : Parts
  parts : List Bytes → Parts

abbrev pub front : Bytes → Parts → Parts
front a bad = bad
front a (parts bs) = parts (a ∷ bs)

-- the data as the arguments that the rules ask for. After each zero byte the rest goes to the next rule; the last rule has all
-- that is left, and no separator is looked for in it.
unfoldable pub split : List Rule → Bytes → Parts
split [] d = cond (eqb (length d) 0) (parts []) bad
split (r ∷ []) d = cond (fits r d) (parts (d ∷ [])) bad
split (r ∷ (q ∷ rs)) d =
    cond (ltb (first_zero d) (length d) && fits r (take (first_zero d) d))
    (front (take (first_zero d) d) (split (q ∷ rs) (drop (first_zero d + 1) d)))
    bad

-- where each argument ends, if the first starts at `at`
abbrev pub ends_from : ℕ → List Bytes → List ℕ
ends_from at [] = []
ends_from at (a ∷ as') = (at + length a) ∷ ends_from (at + length a + 1) as'

-- the same in five places, 0 where there is no argument
unfoldable pub ends_of : ℕ → List Bytes → Ends
ends_of at as' =
    let es = ends_from at as' in
    record { first = get_or es 0 0; second = get_or es 1 0; third = get_or es 2 0; fourth = get_or es 3 0; fifth = get_or es 4 0 }

-- what the code answers: where the arguments end
abbrev pub answered : ℕ → Parts → Option Ends
answered at bad = None
answered at (parts as') = Some (ends_of at as')

-- one more argument before the others: its end first
abbrev pub before_ends : ℕ → Ends → Ends
before_ends end e = record { first = end; second = e.first; third = e.second; fourth = e.third; fifth = e.fourth }

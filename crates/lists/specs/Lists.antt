-- Tools on lists: tests, searches, lists of places. Assumes nothing.
use Rattle.std.specs.Prelude.{ℕ, zero, suc, Bool, true, false, cond, ◌&&◌, ◌||◌, List, [], ◌∷◌, ◌++◌, eqb, Option, Some, None}
use Rattle.octets.specs.Bytes.{Bytes}

-- if the first, then the second
abbrev pub implies : Bool → Bool → Bool
implies true b = b
implies false b = true

-- some entry passes the test; all entries do
abbrev pub any : {A : Type 0} → (A → Bool) → List A → Bool
any f [] = false
any f (x ∷ xs) = f x || any f xs

abbrev pub all : {A : Type 0} → (A → Bool) → List A → Bool
all f [] = true
all f (x ∷ xs) = f x && all f xs

-- the number stands in the list
abbrev pub is_in : ℕ → List ℕ → Bool
is_in n ns = any (λ k. eqb k n) ns

-- each two entries are apart
abbrev pub pairwise : {A : Type 0} → (A → A → Bool) → List A → Bool
pairwise apart [] = true
pairwise apart (x ∷ xs) = all (apart x) xs && pairwise apart xs

abbrev pub up : Option ℕ → Option ℕ
up None = None
up (Some i) = Some (suc i)

-- the lowest place whose entry passes the test
abbrev pub find : {A : Type 0} → (A → Bool) → List A → Option ℕ
find f [] = None
find f (x ∷ xs) = cond (f x) (Some 0) (up (find f xs))

-- the entries that pass the test, in order
abbrev pub filter : {A : Type 0} → (A → Bool) → List A → List A
filter f [] = []
filter f (x ∷ xs) = cond (f x) (x ∷ filter f xs) (filter f xs)

-- each entry anew, from its place and itself; the first has place i
abbrev pub map_from : {A : Type 0} {B : Type 0} → (ℕ → A → B) → ℕ → List A → List B
map_from f i [] = []
map_from f i (x ∷ xs) = f i x ∷ map_from f (suc i) xs

-- the n numbers from i on
abbrev pub numbers : ℕ → ℕ → List ℕ
numbers i zero = []
numbers i (suc n) = i ∷ numbers (suc i) n

-- exactly n bytes: cut off, or followed by zeros
abbrev pub fit : ℕ → Bytes → Bytes
fit zero xs = []
fit (suc n) [] = 0 ∷ fit n []
fit (suc n) (x ∷ xs) = x ∷ fit n xs

abbrev pub concat : List Bytes → Bytes
concat [] = []
concat (x ∷ xs) = x ++ concat xs

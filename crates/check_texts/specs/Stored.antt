-- The rule on stored numbers, and the tests of single bytes that show it; the test of small sizes. Assumes nothing.
use Rattle.std.specs.Prelude.{ℕ, ◌+◌, ◌*◌, ◌<◌, ◌≡◌, Bool, true, not, cond, ◌&&◌, ◌||◌, List, [], ◌∷◌, get_or, eqb, leb}
use Rattle.octets.specs.Bytes.{Bytes, same}
use Rattle.lists.specs.Lists.{all, numbers}
use Rattle.server.specs.Sizes.{job_count, number_size, connection_count}
use Rattle.server.specs.Table.{live}
use Rattle.server.specs.Layout.{column, row_in, job_in, numerators_at, denominators_at}
use Rattle.server.specs.Rules.{stored_number}
use Rattle.table_laws.specs.Tests.{are_padded}

-- ---- the rule

-- both numbers of a live row are stored numbers, those of a free row are empty
abbrev pub stored_at : Bytes → ℕ → Bool
stored_at b k =
    cond (live (row_in connection_count b k)) (stored_number (job_in connection_count b k).numerator && stored_number (job_in connection_count b k).denominator) (same (job_in connection_count b k).numerator [] && same (job_in connection_count b k).denominator [])

-- all of them, and zeros follow each text
unfoldable pub stored_rules : Bytes → Bool
stored_rules b = (are_padded number_size job_count b numerators_at && are_padded number_size job_count b denominators_at) && all (stored_at b) (numbers 0 job_count)

-- ---- the tests

abbrev pub is_digit : ℕ → Bool
is_digit x = leb 48 x && leb x 57

abbrev pub digit_or_zero : ℕ → Bool
digit_or_zero x = eqb x 0 || is_digit x

-- the first byte of a place, by the mark of its row
abbrev pub begins_with : ℕ → ℕ → Bool
begins_with mark x = (not (eqb mark 0) && is_digit x) || (eqb mark 0 && eqb x 0)

-- place k of a column of places of 10 bytes
abbrev pub begins_at : List ℕ → Bytes → ℕ → ℕ → Bool
begins_at marks b at k = begins_with (get_or marks k 0) (get_or b (at + 10 * k) 0)

-- m has the first byte of each of the 32 places
abbrev pub FirstBytes : Bytes → ℕ → List ℕ → Type 0
FirstBytes b at m = (k : ℕ) → k < job_count → get_or m k 0 ≡ get_or b (at + 10 * k) 0

-- each of the 32 places begins with a digit or a zero
abbrev pub Begun : Bytes → ℕ → Type 0
Begun b at = (k : ℕ) → k < job_count → digit_or_zero (get_or b (at + 10 * k) 0) ≡ true

-- by a mask of first bytes: byte k of both columns is zero
abbrev pub first_alone : Bytes → Bytes → ℕ → Bool
first_alone first b k = not (eqb (get_or first k 0) 0) || (eqb (get_or b (numerators_at + k) 0) 0 && eqb (get_or b (denominators_at + k) 0) 0)

-- by a mask of last bytes: byte k of a column is not zero or a zero follows, and it is zero or a digit
abbrev pub digit_padded : Bytes → Bytes → ℕ → ℕ → Bool
digit_padded last b at k =
    (not (eqb (get_or last k 0) 0) || (not (eqb (get_or b (at + k) 0) 0) || eqb (get_or b (at + k + 1) 0) 0)) && digit_or_zero (get_or b (at + k) 0)

-- the masks of 32 places of 10 bytes
abbrev pub firsts_of10 : Bytes
firsts_of10 = column (λ k. 1 ∷ 0 ∷ 0 ∷ 0 ∷ 0 ∷ 0 ∷ 0 ∷ 0 ∷ 0 ∷ 0 ∷ []) (numbers 0 job_count)

abbrev pub lasts_of10 : Bytes
lasts_of10 = column (λ k. 0 ∷ 0 ∷ 0 ∷ 0 ∷ 0 ∷ 0 ∷ 0 ∷ 0 ∷ 0 ∷ 1 ∷ []) (numbers 0 job_count)

-- ---- sizes

-- with a name of 32 bytes and a unique of 64, 1,022 together
abbrev pub size_small : Bytes → ℕ → Bool
size_small b k = leb (row_in connection_count b k).size 926

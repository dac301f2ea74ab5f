-- When bytes are those of a table, as tests of single bytes: a flag is 0 or 1, and after a text's first zero byte only zeros follow.
-- Assumes nothing.
use Rattle.std.specs.Prelude.{ℕ, ◌+◌, ◌*◌, Bool, ◌&&◌, take, drop, eqb, leb}
use Rattle.octets.specs.Bytes.{Bytes, first_zero, every}
use Rattle.lists.specs.Lists.{all, numbers}
use Rattle.server.specs.Sizes.{function_count, job_count, name_size, unique_size, number_size, id_size, hub_size}
use Rattle.server.specs.Layout.{backgrounds_at, names_at, uniques_at, numerators_at, denominators_at, hub_at, opened_at, ids_at}

-- the k bytes of b from a place on
abbrev pub part : ℕ → Bytes → ℕ → Bytes
part k b at = take k (drop at b)

abbrev pub is_zero : ℕ → Bool
is_zero x = eqb x 0

abbrev pub is_flag : ℕ → Bool
is_flag x = leb x 1

-- a place of k bytes: from its first zero byte on there are only zeros
unfoldable pub is_padded : ℕ → Bytes → ℕ → Bool
is_padded k b at = let p = part k b at in every is_zero (drop (first_zero p) p)

-- m flags one after the other; m places of k bytes
unfoldable pub are_flags : ℕ → Bytes → ℕ → Bool
are_flags m b at = every is_flag (part m b at)

unfoldable pub are_padded : ℕ → ℕ → Bytes → ℕ → Bool
are_padded k m b at = all (λ i. is_padded k b (at + k * i)) (numbers 0 m)

-- of the table's bytes: every flag, and every place of a text, in the order of the layout
unfoldable pub image_tests : ℕ → Bytes → Bool
image_tests n b =
    are_flags job_count b backgrounds_at
    && (are_padded name_size function_count b names_at
    && (are_padded unique_size job_count b uniques_at
    && (are_padded number_size job_count b numerators_at
    && (are_padded number_size job_count b denominators_at
    && (is_padded hub_size b hub_at
    && (are_flags (3 * n) b (opened_at n)
    && are_padded id_size n b (ids_at n)))))))

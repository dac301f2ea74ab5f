-- The texts of each change, laid over a sound table's bytes: the bytes of the changed table. Assumes nothing.
use Prim.Native.Nat.{ℕ, ◌+◌, ◌*◌, ◌<◌}
use mathlib.Core.Path.{◌≡◌, refl, sym, ap, ◌∙◌}
use mathlib.Core.Bool.{Bool, true}
use mathlib.Core.List.{List, [], ◌∷◌, map}
use Rattle.octets.specs.Bytes.{Bytes}
use Rattle.octets.specs.Put.{put}
use Rattle.octets.proofs.Strings.{and_left}
use Rattle.lists.specs.Lists.{fit}
use Rattle.server.specs.Sizes.{connection_count, function_count, job_count, name_size, unique_size, id_size}
use Rattle.server.specs.Table.{Job, held_by, rows_of}
use Rattle.server.specs.Layout.{connection_in, id_in, function_in, job_in, table_of, bytes_of, is_image, names_at, uniques_at, ids_at}
use Rattle.server.specs.Call.{is_sound}
use Rattle.table_laws.proofs.Columns.{length_places}
use Rattle.table_laws.proofs.Image.{image_back}
use Rattle.plan.specs.declared.Change as C'
use Rattle.plan.specs.declared.Change.TheVariants as CV
use Rattle.plan.specs.Parts.{changed}
use Rattle.carry_places.specs.Laying.{laid_numbers}
use Rattle.carry_places.specs.Written.{laid_returned}
use Rattle.carry_places.proofs.Laid.{Whole}
use Rattle.carry_places.proofs.Changes.{name_changed, texts_changed, job_changed, id_changed, left_changed}

module _ (b : Bytes) (sound : is_sound connection_count b ≡ true) where
  pub whole : Whole (table_of connection_count b)
  unfolding table_of
  whole = record { connections = length_places (connection_in connection_count b) 0 connection_count; ids = length_places (id_in connection_count b) 0 connection_count; functions = length_places (function_in connection_count b) 0 16; jobs = length_places (job_in connection_count b) 0 32 }

  back : put 0 (bytes_of (table_of connection_count b)) b ≡ b
  unfolding is_sound
  back = image_back connection_count b (and_left (is_image connection_count b) _ sound)

  module _ (x : C'.Change) (a u d : Bytes) where
    -- the bytes of the table that the change leaves
    pub after : C'.Change → Bytes
    after y = put 0 (bytes_of (changed y a u d (table_of connection_count b))) b

    pub nothing_laid : x ≡ CV.Nothing → b ≡ put 0 (bytes_of (changed x a u d (table_of connection_count b))) b
    unfolding changed after
    nothing_laid e = sym back ∙ ap after (sym e)

    pub name_laid : (q : ℕ) → x ≡ CV.Name q → q < function_count → put (names_at + name_size * q) (fit name_size a) b ≡ put 0 (bytes_of (changed x a u d (table_of connection_count b))) b
    unfolding after
    name_laid q e h = ap (put (names_at + name_size * q) (fit name_size a)) (sym back) ∙ name_changed (table_of connection_count b) whole b q a u d h ∙ ap after (sym e)

    pub job_laid : (p q : ℕ) → x ≡ CV.Job p q → p < job_count → q < function_count
        → laid_numbers p (48 ∷ []) (48 ∷ []) (put (uniques_at + unique_size * p) (fit unique_size u) (put (names_at + name_size * q) (fit name_size a) b))
        ≡ put 0 (bytes_of (changed x a u d (table_of connection_count b))) b
    unfolding after
    job_laid p q e h k =
        ap (λ (c : Bytes). laid_numbers p (48 ∷ []) (48 ∷ []) (put (uniques_at + unique_size * p) (fit unique_size u) (put (names_at + name_size * q) (fit name_size a) c))) (sym back)
        ∙ job_changed (table_of connection_count b) whole b p q a u d h k
        ∙ ap after (sym e)

    pub texts_laid : (p : ℕ) → x ≡ CV.Texts p → p < job_count → laid_numbers p u d b ≡ put 0 (bytes_of (changed x a u d (table_of connection_count b))) b
    unfolding after
    texts_laid p e h = ap (laid_numbers p u d) (sym back) ∙ texts_changed (table_of connection_count b) whole b p a u d h ∙ ap after (sym e)

    pub id_laid : (c : ℕ) → x ≡ CV.Id c → c < connection_count → put (ids_at connection_count + id_size * c) (fit id_size a) b ≡ put 0 (bytes_of (changed x a u d (table_of connection_count b))) b
    unfolding after
    id_laid c e h = ap (put (ids_at connection_count + id_size * c) (fit id_size a)) (sym back) ∙ id_changed (table_of connection_count b) whole b c a u d h ∙ ap after (sym e)

    pub left_laid : (c : ℕ) → x ≡ CV.Left c → c < connection_count
        → put (ids_at connection_count + id_size * c) (fit id_size []) (laid_returned c (rows_of (table_of connection_count b)) b) ≡ put 0 (bytes_of (changed x a u d (table_of connection_count b))) b
    unfolding after
    left_laid c e h =
        ap (λ (m : Bytes). put (ids_at connection_count + id_size * c) (fit id_size []) (laid_returned c (rows_of (table_of connection_count b)) m)) (sym back)
        ∙ left_changed (table_of connection_count b) whole b c a u d h
        ∙ ap after (sym e)

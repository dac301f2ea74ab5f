-- Bytes that are the image of a table: laid over themselves they change nothing; every table that fits makes such bytes; and bytes
-- are an image exactly if every flag is 0 or 1 and only zeros follow a text's first zero byte. Assumes nothing.
use Prim.Native.Nat.{ℕ, zero, suc, ◌+◌, ◌*◌, ◌<◌, ◌≤◌}
use mathlib.Core.Path.{◌≡◌, refl, sym, ap, ◌∙◌}
use mathlib.Core.Bool.{Bool, true, ◌&&◌}
use mathlib.Core.List.{[], ◌∷◌, ◌++◌, map}
use native.Mathlib.Omega.{arith}
use lib.ListN.{length, get_or, take, drop}
use lib.Seq.{take_at}
use Rattle.octets.specs.Bytes.{Bytes, same}
use Rattle.octets.specs.Put.{over, put}
use Rattle.octets.proofs.Strings.{same_refl, same_is}
use Rattle.octets.proofs.Laying.{put_start}
use Rattle.lists.specs.Lists.{fit, numbers}
use Rattle.server.specs.Sizes.{function_count, job_count, name_size, unique_size, number_size, id_size, hub_size}
use Rattle.server.specs.Table.{Table}
use Rattle.server.specs.Layout.{little, little_at, flag_byte, column, bytes_of, table_of, table_size, is_image, connection_in, id_in, function_in, job_in, set_size, able_at, listeners_at, names_at, uniques_at, numerators_at, denominators_at, hub_at, opened_at, asleep_at, exceptions_at, ids_at}
use Rattle.table_laws.specs.Tests.{part, are_flags, are_padded, image_tests}
use Rattle.table_laws.proofs.Fields.{length_little, little_again}
use Rattle.table_laws.proofs.Columns.{length_places}
use Rattle.table_laws.proofs.Laid.{length_bytes}
use Rattle.table_laws.proofs.Round.{Fitting, table_put}
use Rattle.table_laws.proofs.RowColumns.{rows_size, next_rows}
use Rattle.table_laws.proofs.Same.{Agrees, and_assoc, next_agrees, next_numbers, next_flags, next_texts, next_text, same_texts, flags_add}

-- ---- an image laid over itself

over_own : (k : ℕ) (b : Bytes) → over (take k b) b ≡ b
unfolding over
over_own zero b = refl
over_own (suc k) [] = refl
over_own (suc k) (x ∷ b) = ap (λ (l : Bytes). x ∷ l) (over_own k b)

-- the first bytes of a buffer, laid over it, change nothing
pub put_own : (k : ℕ) (b : Bytes) → put 0 (take k b) b ≡ b
unfolding put
put_own k b = over_own k b

pub image_is : (n : ℕ) (b : Bytes) → is_image n b ≡ true → bytes_of (table_of n b) ≡ take (table_size n) b
unfolding is_image
image_is n b e = sym (same_is (take (table_size n) b) (bytes_of (table_of n b)) e)

pub image_back : (n : ℕ) (b : Bytes) → is_image n b ≡ true → put 0 (bytes_of (table_of n b)) b ≡ b
image_back n b e = ap (λ (s : Bytes). put 0 s b) (image_is n b e) ∙ put_own (table_size n) b

-- ---- the image of a table that fits

pub image_put : (n : ℕ) (t : Table) (b : Bytes) → Fitting t → length t.connections ≡ n → table_size n ≤ length b → is_image n (put 0 (bytes_of t) b) ≡ true
unfolding is_image
image_put n t b ok e h =
    let s : length (bytes_of t) ≡ table_size n = length_bytes t ok.sixteen ok.thirty_two ok.one_each ∙ ap table_size e in
    let f : take (table_size n) (put 0 (bytes_of t) b) ≡ bytes_of t = ap (take (table_size n)) (put_start (bytes_of t) b (omega arith)) ∙ take_at (bytes_of t) (drop (length (bytes_of t)) b) (table_size n) s in
    rw (f, table_put n t b ok e h) (same_refl (bytes_of t))

-- ---- the tests

module _ (n : ℕ) (b : Bytes) (small : (i : ℕ) → get_or b i 0 < 256) (long : table_size n ≤ length b) where
  -- the connections' flags, three columns and one run of flags; and their ids
  connections_agree : Agrees (n + (n + (n + id_size * n))) b (opened_at n)
      (column (λ x. flag_byte x.opened) (map (connection_in n b) (numbers 0 n))
      ++ (column (λ x. flag_byte x.asleep) (map (connection_in n b) (numbers 0 n))
      ++ (column (λ x. flag_byte x.exceptions) (map (connection_in n b) (numbers 0 n))
      ++ column (fit id_size) (map (id_in n b) (numbers 0 n))))) (are_flags (3 * n) b (opened_at n) && are_padded id_size n b (ids_at n))
  connections_agree =
      let k : 3 * n ≡ n + (n + n) = omega arith in
      let g = connection_in n b in
      let o : Bool = are_flags n b (opened_at n) in
      let a : Bool = are_flags n b (asleep_at n) in
      let e : Bool = are_flags n b (exceptions_at n) in
      let p : Bool = are_padded id_size n b (ids_at n) in
      let c = next_flags b g n (λ x. x.opened) (opened_at n) (omega arith) (λ i. refl)
      (next_flags b g n (λ x. x.asleep) (asleep_at n) (omega arith) (λ i. refl)
      (next_flags b g n (λ x. x.exceptions) (exceptions_at n) (omega arith) (λ i. refl)
      (record { agrees = same_texts id_size (λ (x : Bytes). x) (id_in n b) b (ids_at n) n (omega arith) (λ i. refl) }))) in
      let three : o && (a && e) ≡ are_flags (3 * n) b (opened_at n) = ap (λ (z : Bool). o && z) (flags_add n n b (asleep_at n)) ∙ flags_add n (n + n) b (opened_at n) ∙ rw k in
      record { agrees = c.agrees ∙ ap (λ (z : Bool). o && z) (sym (and_assoc a e p)) ∙ sym (and_assoc o (a && e) p) ∙ ap (λ (z : Bool). z && p) three }

  pub image_tests_lem : is_image n b ≡ image_tests n b
  unfolding is_image table_of bytes_of image_tests
  image_tests_lem =
      let k : table_size n ≡ 4 + (rows_size + (name_size * function_count + (unique_size * job_count
      + (number_size * job_count + (number_size * job_count + (hub_size + (set_size n * function_count + (set_size n * job_count + (n + (n + (n + id_size * n))))))))))) = omega arith in
      let z : same (part 4 b 0) (little 4 (little_at 4 b 0)) ≡ true = rw (little_again 4 b 0 small (omega arith)) (same_refl (part 4 b 0)) in
      let f = function_in n b in
      let j = job_in n b in
      rw (k, length_places (connection_in n b) 0 n)
      (next_agrees 4 b 0 (little 4 (little_at 4 b 0)) (omega arith) (length_little 4 (little_at 4 b 0)) z
      (next_rows n b small long
      (next_texts b f name_size function_count (λ x. x.name) names_at (omega arith) (λ i. refl)
      (next_texts b j unique_size job_count (λ x. x.unique) uniques_at (omega arith) (λ i. refl)
      (next_texts b j number_size job_count (λ x. x.numerator) numerators_at (omega arith) (λ i. refl)
      (next_texts b j number_size job_count (λ x. x.denominator) denominators_at (omega arith) (λ i. refl)
      (next_text b hub_size hub_at (omega arith)
      (next_numbers b f (set_size n) function_count (λ x. x.able) able_at small (omega arith) (λ i. refl)
      (next_numbers b j (set_size n) job_count (λ x. x.row.listeners) (listeners_at n) small (omega arith) (λ i. refl)
      connections_agree))))))))).agrees

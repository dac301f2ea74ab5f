-- Where no workload is above 926 bytes, function, unique and workload are at most 1,022 together. Assumes nothing.
use Prim.Native.Nat.{ℕ, ◌+◌, ◌*◌, ◌<◌, ◌≤◌}
use mathlib.Core.Path.{◌≡◌, refl, sym, ap, ◌∙◌}
use mathlib.Core.Bool.{Bool, true, false}
use native.Mathlib.Omega.{arith}
use borrow.Author.Tests.{ltb-true, ltb-false, leb-true, le-leb}
use lib.ListN.{length}
use lib.Dec.{leb, ltb}
use Rattle.octets.specs.Bytes.{Bytes}
use Rattle.lists.specs.Lists.{all, numbers}
use Rattle.server.specs.Sizes.{connection_count, job_count, name_size, unique_size}
use Rattle.server.specs.Table.{Job, Function, function_at}
use Rattle.server.specs.Layout.{text_at, row_in, job_in, table_of, names_at, uniques_at}
use Rattle.server.specs.Rules.{together, sizes_within}
use Rattle.lists.proofs.Rows.{below_at, below_by}
use Rattle.table_passes.proofs.Rows.{jobs_all, function_at_lem}
use Rattle.check_exact.proofs.Texts.{text_within_lem, no_name}
use Rattle.check_texts.specs.Stored.{size_small}

-- whatever number a row names as its function
name_short : (b : Bytes) (q : ℕ) → length (function_at (table_of connection_count b) q).name ≤ 32
name_short b q = go (ltb q 16) refl
  where
    go : (t : Bool) → ltb q 16 ≡ t → length (function_at (table_of connection_count b) q).name ≤ 32
    go true e = text_within_lem (function_at (table_of connection_count b) q).name 32 b (names_at + name_size * q) (ap (λ (x : Function). x.name) (function_at_lem connection_count b q (ltb-true q 16 e)))
    go false e = omega (arith, no_name b q (ltb-false q 16 e))

-- a name has at most 32 bytes, a unique 64
pub sizes_small : (b : Bytes) → all (size_small b) (numbers 0 job_count) ≡ true → true ≡ sizes_within (table_of connection_count b)
sizes_small b e =
    sym (jobs_all connection_count b (λ (j : Job). leb (together (table_of connection_count b) j) 1022) ∙ below_by (λ k. leb (together (table_of connection_count b) (job_in connection_count b k)) 1022) 32 (λ k g. small k g))
  where
    small : (k : ℕ) → k < job_count → leb (together (table_of connection_count b) (job_in connection_count b k)) 1022 ≡ true
    small k g =
        let s = leb-true (row_in connection_count b k).size 926 (below_at (size_small b) 32 k e g) in
        let n = name_short b (row_in connection_count b k).function in
        let u : length (text_at unique_size b (uniques_at + unique_size * k)) ≤ 64 = text_within_lem (text_at unique_size b (uniques_at + unique_size * k)) 64 b (uniques_at + unique_size * k) refl in
        le-leb (together (table_of connection_count b) (job_in connection_count b k)) 1022 (omega arith)

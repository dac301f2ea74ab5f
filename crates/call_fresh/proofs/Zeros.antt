-- A fresh table's bytes are zeros, column by column, but for the hub's name. Assumes nothing.
use Prim.Native.Nat.{ℕ, zero, suc, ◌+◌, ◌-◌, ◌*◌, ◌≤◌}
use mathlib.Core.Path.{◌≡◌, refl, ap, ap₂, sym, ◌∙◌}
use mathlib.Core.List.{[], ◌∷◌, ◌++◌}
use native.Mathlib.Nat.{mul-suc, mul-zero}
use native.Mathlib.Omega.{arith}
use lib.ListN.{length, drop, replicate, replicate-append-replicate, length-replicate}
use Rattle.octets.specs.Bytes.{Bytes}
use Rattle.octets.specs.Put.{put}
use Rattle.octets.proofs.Laying.{put_start}
use Rattle.server.specs.declared.Connection.{Connection}
use Rattle.lists.specs.Lists.{fit}
use Rattle.server.specs.Sizes.{function_count, job_count, name_size, unique_size, number_size, id_size, hub_size}
use Rattle.server.specs.Table.{Table, closed, no_function, no_job, fresh}
use Rattle.server.specs.Layout.{little, flag_byte, column, set_size, table_size, row_bytes, bytes_of, serials_at, names_at, hub_at}
use Rattle.table_laws.proofs.Puts.{put_hub}
use Rattle.lists.proofs.Lists.{fit_none}
use Rattle.table_texts.specs.Places.{zeros}

-- ---- zeros over the start of a buffer

pub filled : (k : ℕ) (x b : Bytes) → k ≤ length b → x ≡ replicate k 0 → x ++ drop k b ≡ put 0 (zeros k) b
unfolding zeros
filled k x b h e =
    let l : length {A = ℕ} (replicate k 0) ≡ k = length-replicate k 0 in
    e' ∙ sym (rw l at (put_start (replicate k 0) b (omega arith)))
  where
    e' : x ++ drop k b ≡ replicate k 0 ++ drop k b
    e' = ap (λ (s : Bytes). s ++ drop k b) e

-- ---- one field

little_zeros : (k : ℕ) → little k 0 ≡ zeros k
unfolding little zeros
little_zeros zero = refl
little_zeros (suc k) = ap (λ (l : Bytes). 0 ∷ l) (little_zeros k)

-- the empty text in its place
text_zeros : (k : ℕ) → fit k [] ≡ zeros k
unfolding zeros
text_zeros k = fit_none k

flag_zeros : 0 ∷ [] ≡ zeros 1
unfolding zeros
flag_zeros = refl

-- ---- one after the other

then : {s r : Bytes} (a b : ℕ) → s ≡ zeros a → r ≡ zeros b → s ++ r ≡ zeros (a + b)
unfolding zeros
then a b e f = ap₂ ◌++◌ e f ∙ replicate-append-replicate a b 0

rows : {A : Type 0} (f : A → Bytes) (x : A) (k : ℕ) → f x ≡ zeros k → (m : ℕ) → column f (replicate m x) ≡ zeros (k * m)
unfolding zeros
rows f x k e zero = rw mul-zero
rows f x k e (suc m) =
    let g : k + k * m ≡ k * suc m = rw mul-suc (omega arith) in
    then k (k * m) e (rows f x k e m) ∙ ap (λ (i : ℕ). zeros i) g

-- ---- the table

-- n connections, q functions and p jobs, all empty, and no name
abbrev empty : ℕ → ℕ → ℕ → Table
empty n q p = record { last = 0; connections = replicate n closed; ids = replicate n []; functions = replicate q no_function; jobs = replicate p no_job; hub = [] }

-- the bytes of a set
abbrev sets : ℕ → ℕ
sets n = set_size (length (replicate n closed))

-- the rows of p free places are k zeros
empty_zeros : (n q p k : ℕ) → row_bytes (replicate p no_job) ≡ zeros k → bytes_of (empty n q p)
    ≡ zeros (4 + (k + (name_size * q + (unique_size * p + (number_size * p + (number_size * p + (hub_size + (sets n * q + (sets n * p + (1 * n + (1 * n + (1 * n + id_size * n))))))))))))
unfolding bytes_of
empty_zeros n q p k e =
    then 4 _ (little_zeros 4)
    (then k _ e
    (then (name_size * q) _ (rows _ no_function name_size (text_zeros name_size) q)
    (then (unique_size * p) _ (rows _ no_job unique_size (text_zeros unique_size) p)
    (then (number_size * p) _ (rows _ no_job number_size (text_zeros number_size) p)
    (then (number_size * p) _ (rows _ no_job number_size (text_zeros number_size) p)
    (then hub_size _ (text_zeros hub_size)
    (then (sets n * q) _ (rows _ no_function (sets n) (little_zeros (sets n)) q)
    (then (sets n * p) _ (rows _ no_job (sets n) (little_zeros (sets n)) p)
    (then (1 * n) _ (rows (λ (x : Connection). flag_byte x.opened) closed 1 flag_zeros n)
    (then (1 * n) _ (rows (λ (x : Connection). flag_byte x.asleep) closed 1 flag_zeros n)
    (then (1 * n) _ (rows (λ (x : Connection). flag_byte x.exceptions) closed 1 flag_zeros n) (rows {A = Bytes} (fit id_size) [] id_size (text_zeros id_size) n))))))))))))

-- the rows of all places: the bytes between the serials and the names
row_zeros : row_bytes (replicate job_count no_job) ≡ zeros (names_at - serials_at)
unfolding row_bytes little zeros
row_zeros = refl

-- a fresh table of n connections, before it has its name
nameless_zeros : (n : ℕ) → bytes_of (fresh n []) ≡ zeros (table_size n)
unfolding fresh
nameless_zeros n = empty_zeros n function_count job_count (names_at - serials_at) row_zeros ∙ ap (λ (k : ℕ). zeros k) (omega (arith, length-replicate {A = Connection} n closed))

-- and with it: its name laid over zeros
pub fresh_laid : (n : ℕ) (hub b : Bytes) → put hub_at (fit hub_size hub) (put 0 (zeros (table_size n)) b) ≡ put 0 (bytes_of (fresh n hub)) b
unfolding fresh
fresh_laid n hub b =
    ap (λ (s : Bytes). put hub_at (fit hub_size hub) (put 0 s b)) (sym (nameless_zeros n)) ∙ put_hub (fresh n []) (record { functions = refl; jobs = refl }) b hub

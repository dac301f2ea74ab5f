-- The workloads as lent bytes: places of one width, one after the other. Places laid over a buffer come back from it, and a buffer's
-- own places laid over it change nothing. Assumes nothing.
use Prim.Native.Nat.{ℕ, zero, suc, ◌+◌, ◌*◌, ◌<◌, ◌≤◌}
use mathlib.Core.Path.{◌≡◌, refl, sym, ap, ap₂, ◌∙◌}
use mathlib.Core.List.{List, [], ◌∷◌, ◌++◌, map}
use native.Mathlib.Nat.{not-suc-le-zero, le_of_suc-le-suc, mul-suc, mul-zero, zero-add}
use native.Mathlib.Omega.{arith}
use lib.ListN.{length, get_or, take, drop, length-append, replicate, replicate-append-replicate}
use Rattle.octets.specs.Bytes.{Bytes}
use Rattle.octets.specs.Put.{over, put}
use Rattle.octets.proofs.Laying.{put_start}
use Rattle.lists.specs.Lists.{fit, concat, numbers}
use Rattle.server.specs.Layout.{column}
use Rattle.lists.proofs.Lists.{length_fit}
use Rattle.lists.proofs.Cases.{All}
use Rattle.table_laws.specs.Tests.{part}
use Rattle.table_laws.proofs.Fields.{Lies, lies_part}
use Rattle.table_laws.proofs.Columns.{places_are, column_lies}
use Rattle.table_laws.proofs.Same.{field_inside, length_part, part_add}
use Rattle.table_laws.proofs.Image.{put_own}

-- ---- a run laid over a buffer twice

over_again : (s r b : Bytes) → length s ≤ length r → over r (over s b) ≡ over r b
unfolding over
over_again [] r b h = refl
over_again (x ∷ s) [] b h = absurd (not-suc-le-zero h)
over_again (x ∷ s) (y ∷ r) [] h = refl
over_again (x ∷ s) (y ∷ r) (z ∷ b) h = ap (λ (l : Bytes). y ∷ l) (over_again s r b (le_of_suc-le-suc h))

-- what was laid over the start goes when as much or more is laid over it
pub put_again : (s r b : Bytes) → length s ≤ length r → put 0 r (put 0 s b) ≡ put 0 r b
unfolding put
put_again s r b h = over_again s r b h

-- ---- places of k bytes

pub fit_whole : (k : ℕ) (w : Bytes) → length w ≡ k → fit k w ≡ w
fit_whole zero [] e = refl
fit_whole zero (x ∷ w) e = absurd (omega arith)
fit_whole (suc k) [] e = absurd (omega arith)
fit_whole (suc k) (x ∷ w) e = ap (λ (l : Bytes). x ∷ l) (fit_whole k w (omega arith))

module _ (k : ℕ) where
  concat_column : (ws : List Bytes) → All (λ (w : Bytes). length w ≡ k) ws → concat ws ≡ column (fit k) ws
  concat_column [] All.none = refl
  concat_column (w ∷ ws) (All.more e es) = ap₂ ◌++◌ (sym (fit_whole k w e)) (concat_column ws es)

  -- the places of a buffer that is long enough for n of them
  pub wide_places : (n : ℕ) (b : Bytes) → k * n ≤ length b → (i m : ℕ) → i + m ≤ n → All (λ (w : Bytes). length w ≡ k) (map (λ p. part k b (k * p)) (numbers i m))
  wide_places n b h i zero l = All.none
  wide_places n b h i (suc m) l =
      let inside : 0 + k * i + k ≤ length b = field_inside k n 0 i (length b) (omega arith) (omega arith) in
      All.more (length_part k b (k * i) (omega arith)) (wide_places n b h (suc i) m (omega arith))

  pub length_concat : (ws : List Bytes) → All (λ (w : Bytes). length w ≡ k) ws → length (concat ws) ≡ k * length ws
  length_concat [] All.none = sym (mul-zero k)
  length_concat (w ∷ ws) (All.more e es) = rw (length-append, e, length_concat ws es, mul-suc) (omega arith)

  width_at : (ws : List Bytes) → All (λ (w : Bytes). length w ≡ k) ws → (p : ℕ) → p < length ws → length (get_or ws p []) ≡ k
  width_at [] All.none p h = absurd (not-suc-le-zero h)
  width_at (w ∷ ws) (All.more e es) zero h = e
  width_at (w ∷ ws) (All.more e es) (suc p) h = width_at ws es p (le_of_suc-le-suc h)

  -- places come back from a buffer over which they were laid
  pub places_back : (m : ℕ) (ws : List Bytes) (b : Bytes) → length ws ≡ m → All (λ (w : Bytes). length w ≡ k) ws → k * m ≤ length b → map (λ p. part k (put 0 (concat ws) b) (k * p)) (numbers 0 m) ≡ ws
  places_back m ws b count widths h =
      let c = put 0 (concat ws) b in
      let s : length (concat ws) ≤ length b = rw (length_concat ws widths, count) h in
      let l : Lies c 0 (column (fit k) ws) = record {
        before = [];
        after = drop (length (concat ws)) b;
        whole = put_start (concat ws) b s ∙ ap (λ (x : Bytes). x ++ drop (length (concat ws)) b) (concat_column ws widths);
        place = refl;
      } in
      places_are (λ p. part k c (k * p)) [] m ws count
      (λ p i.
      let j : p < length ws = rw count i in
      let q : part k c (0 + k * p) ≡ fit k (get_or ws p []) = lies_part c (0 + k * p) (fit k (get_or ws p [])) k (column_lies (fit k) k (length_fit k) c 0 ws p [] l j) (length_fit k (get_or ws p [])) in
      rw zero-add at q ∙ fit_whole k (get_or ws p []) (width_at ws widths p j))

  concat_from : (b : Bytes) (i m : ℕ) → concat (map (λ p. part k b (k * p)) (numbers i m)) ≡ part (k * m) b (k * i)
  concat_from b i zero = rw mul-zero
  concat_from b i (suc m) =
      let e : k * suc m ≡ k + k * m = rw mul-suc (omega arith) in
      let d : k * suc i ≡ k * i + k = mul-suc k i in
      rw (concat_from b (suc i) m, e, part_add k (k * m) b (k * i), d)

  -- a buffer's places, laid over it, change nothing
  pub own_places : (b : Bytes) (m : ℕ) → put 0 (concat (map (λ p. part k b (k * p)) (numbers 0 m))) b ≡ b
  own_places b m =
      let e : concat (map (λ p. part k b (k * p)) (numbers 0 m)) ≡ take (k * m) b = concat_from b 0 m ∙ ap (part (k * m) b) (mul-zero k) in
      ap (λ (s : Bytes). put 0 s b) e ∙ put_own (k * m) b

  -- ---- places of zeros

  pub concat_zeros : (m : ℕ) → concat (replicate m (replicate k 0)) ≡ replicate (k * m) 0
  concat_zeros zero = rw mul-zero
  concat_zeros (suc m) =
      let e : k * suc m ≡ k + k * m = rw mul-suc (omega arith) in
      rw (concat_zeros m, e) (replicate-append-replicate k (k * m) 0)

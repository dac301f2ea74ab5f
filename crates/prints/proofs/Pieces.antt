-- A run laid piece by piece: what the start, one turn and the end of such a loop add, and how long the run is. The loops of every
-- crate that lays pieces cite these laws. Assumes nothing.
use Prim.Native.Nat.{ℕ, zero, suc, ◌+◌, ◌-◌, ◌*◌, ◌<◌, ◌≤◌}
use mathlib.Core.Path.{◌≡◌, refl, ap, ap₂, ◌∙◌, sym}
use mathlib.Core.List.{◌++◌}
use native.Mathlib.Nat.{add-zero}
use native.Mathlib.Numerals.{add-one}
use native.Mathlib.Omega.{arith}
use lib.ListN.{length, length-append}
use Rattle.octets.specs.Bytes.{Bytes}
use Rattle.octets.specs.Put.{put}
use Rattle.prints.specs.Pieces.{pieces}
use Rattle.octets.proofs.Runs.{laid_as, laid_none, laid_then, room_then}

-- pieces that are equal one by one make the same run
pub same_pieces : (f g : ℕ → Bytes) (n : ℕ) → ((i : ℕ) → i < n → f i ≡ g i) → pieces f n ≡ pieces g n
unfolding pieces
same_pieces f g zero h = refl
same_pieces f g (suc n) h =
    ap₂ {C = Bytes} (λ (a : Bytes) (b : Bytes). a ++ b) (same_pieces f g n (λ i l. h i (omega arith))) (h n (omega arith))

module _ (g : ℕ → Bytes) where
  one_more : (n : ℕ) → pieces g n ++ g n ≡ pieces g (suc n)
  unfolding pieces
  one_more n = refl

  pub more_long : (n : ℕ) → length (pieces g (suc n)) ≡ length (pieces g n) + length (g n)
  more_long n = ap length (sym (one_more n)) ∙ length-append (pieces g n) (g n)

  -- more pieces, more bytes
  grows : (n k : ℕ) → length (pieces g n) ≤ length (pieces g (n + k))
  grows n zero = rw add-zero (omega arith)
  grows n (suc k) = let q : n + suc k ≡ suc (n + k) = omega arith in rw (q, more_long (n + k)) (omega (arith, grows n k))

  -- pieces of at most k bytes each
  pub pieces_short : (k n : ℕ) → ((i : ℕ) → i < n → length (g i) ≤ k) → length (pieces g n) ≤ n * k
  unfolding pieces
  pieces_short k zero h = omega arith
  pieces_short k (suc n) h =
      omega (arith, more_long n, pieces_short k n (λ i l. h i (omega arith)), h n (omega arith))

  -- ---- a loop that lays the pieces over `out` from `at` on

  module _ (at : ℕ) (out : Bytes) where
    -- the first i pieces make the text o, and p is the place after them
    abbrev pub Laid : ℕ → ℕ → Bytes → Type 0
    Laid i p o = (p ≡ at + length (pieces g i)) × (o ≡ put at (pieces g i) out)

    pub start : Laid 0 at out
    unfolding pieces
    start = laid_none at out

    module _ (i p : ℕ) (o : Bytes) (e : Laid i p o) (x : Bytes) (q : x ≡ g i) where
      pub turn_room : (n : ℕ) → i < n → at + length (pieces g n) ≤ length out → p + length x ≤ length o
      turn_room n h room =
          let k : suc i + (n - suc i) ≡ n = omega arith in
          let b : length (pieces g (suc i)) ≤ length (pieces g n) = rw k at (grows (suc i) (n - suc i)) in
          room_then at (pieces g i) x out p o e (rw (q, one_more i) (omega (arith, b)))

      pub turn : (r : ℕ) (z : Bytes) → (r ≡ p + length x) × (z ≡ put p x o) → Laid (i + 1) r z
      turn r z f =
          let b : pieces g i ++ x ≡ pieces g (i + 1) = rw (q, add-one i) (one_more i) in
          laid_as _ _ b at r z out (laid_then at (pieces g i) x out p o e r z f)

    pub end : (i n : ℕ) → i ≡ n → (p : ℕ) (o : Bytes) → Laid i p o → Laid n p o
    end i n q p o e = rw q at e

-- What the tests of the code say of a connection that is shown or not, and of a list with none in it. Assumes nothing.
use Prim.Native.Nat.{ℕ, ◌+◌, ◌≤◌}
use mathlib.Core.Path.{◌≡◌, ap, refl}
use mathlib.Core.Bool.{Bool, true, false, cond}
use mathlib.Core.List.{List, [], ◌∷◌, ◌++◌, append-nil}
use native.Mathlib.Omega.{arith}
use borrow.Author.Tests.{eq-eqb, ne_eqb}
use lib.Dec.{eqb}
use lib.ListN.{length, get_or}
use Rattle.octets.specs.Bytes.{Bytes}
use Rattle.octets.specs.Put.{put}
use Rattle.handle.specs.Handle.{decimal}
use Rattle.server.specs.declared.Connection.{Connection}
use Rattle.server.specs.Table.{closed}
use Rattle.show_names.specs.Names.{space}
use Rattle.octets.proofs.Runs.{laid_as, laid_third, room_as, room_second, room_third}
use Rattle.show_table.specs.Standing.{connections_text, each, none_word, or_none}

-- connection c sleeps
abbrev pub sleeps : List Connection → ℕ → Bool
sleeps cs c = (get_or cs c closed).asleep

-- the piece of connection c
abbrev pub shown : (ℕ → Bool) → ℕ → Bytes
shown f c = cond (f c) (space ++ decimal c) []

-- a run that is laid only if a test holds
module _ (b : Bool) (x : Bytes) where
  pub if_so : b ≡ true → x ≡ cond b x []
  if_so e = rw e

  pub if_not : b ≡ false → [] ≡ cond b x []
  if_not e = rw e

-- the list that began at `at` has its end there exactly if nothing is in it
none_after : (s : Bytes) (at place : ℕ) → place ≡ at + length s → s ++ cond (eqb place at) none_word [] ≡ or_none s
unfolding or_none
none_after [] at place e = rw (eq-eqb place at (omega arith))
none_after (x ∷ s) at place e = rw (ne_eqb place at (λ q. omega arith), append-nil s)

-- the word w over b, the list after it, and ` none` after that if the list has none
module _ (at : ℕ) (w : Bytes) (f : ℕ → Bool) (b : Bytes) (p : ℕ) (o : Bytes) (e : (p ≡ at + length w) × (o ≡ put at w b)) where
  -- the list and what is laid after it, where the list's end is q
  whole : (q : ℕ) → q ≡ p + length (each f 16) → w ++ (each f 16 ++ cond (eqb q p) none_word []) ≡ w ++ connections_text f 16
  unfolding connections_text
  whole q h = ap (λ (l : Bytes). w ++ l) (none_after (each f 16) p q h)

  module _ (room : at + length (w ++ connections_text f 16) ≤ length b) where
    pub list_room : p + length (each f 16) ≤ length o
    list_room =
        let q : ℕ = p + length (each f 16) in
        room_second at w (each f 16) (cond (eqb q p) none_word []) b p o e (room_as _ _ (whole q refl) at (length b) room)

    pub none_room : (q : ℕ) (u : Bytes) → (q ≡ p + length (each f 16)) × (u ≡ put p (each f 16) o) → q + length (cond (eqb q p) none_word []) ≤ length u
    none_room q u g = room_third at w (each f 16) (cond (eqb q p) none_word []) b p o e q u g (room_as _ _ (whole q g.0) at (length b) room)

  pub list_laid : (q : ℕ) (u : Bytes) → (q ≡ p + length (each f 16)) × (u ≡ put p (each f 16) o) → (r : ℕ) (v : Bytes)
      → (r ≡ q + length (cond (eqb q p) none_word [])) × (v ≡ put q (cond (eqb q p) none_word []) u)
      → (r ≡ at + length (w ++ connections_text f 16)) × (v ≡ put at (w ++ connections_text f 16) b)
  list_laid q u g r v k =
      laid_as _ _ (whole q g.0) at r v b (laid_third at w (each f 16) (cond (eqb q p) none_word []) b p o e q u g r v k)

-- Laws of one addressed packet laid over an output: the connection byte, the header, and the data behind them, in one run or
-- argument by argument. Assumes nothing.
use Prim.Native.Nat.{ℕ, ◌+◌, ◌≤◌}
use mathlib.Core.Path.{◌≡◌, refl, ap, ◌∙◌}
use mathlib.Core.List.{List, [], ◌∷◌, ◌++◌, append_assoc}
use native.Mathlib.Omega.{arith}
use lib.ListN.{length, set, length-append}
use Rattle.octets.specs.Bytes.{Bytes, big_endian}
use Rattle.octets.specs.Put.{put}
use Rattle.octets.proofs.Laying.{put_one, put_next}
use Rattle.octets.proofs.Runs.{laid_as, laid_then}
use Rattle.packet.specs.Arguments.{join}
use Rattle.packet.specs.Packet.{packet, responses}
use Rattle.carry_packet.specs.Messages.{ended, heading, message}

pub message_length : (to kind : ℕ) (d : Bytes) → length (message to kind d) ≡ 13 + length d
unfolding message packet
message_length to kind d = omega arith

pub message_room : (at to kind : ℕ) (d : Bytes) (size n : ℕ) → length d ≡ size → at + length (message to kind d) ≤ n → at + 13 + size ≤ n
message_room at to kind d size n l h = omega (arith, message_length to kind d)

-- ---- what stands before the data

-- the connection byte, and the header behind it
pub heading_laid : (at to kind size : ℕ) (b o : Bytes) → o ≡ put (at + 1) (responses.magic ++ (big_endian kind ++ big_endian size)) (set b at to) → o ≡ put at (heading to kind size) b
unfolding heading
heading_laid at to kind size b o e = e ∙ ap (put (at + 1) _) (put_one at to b) ∙ put_next at (to ∷ []) _ b 1 refl

-- the data behind its heading
pub data_laid : (at to kind size : ℕ) (d b : Bytes) → size ≡ length d → (p : ℕ) (o : Bytes) → (p ≡ at + 13) × (o ≡ put at (heading to kind size) b)
    → (r : ℕ) (u : Bytes) → (r ≡ p + length d) × (u ≡ put p d o) → (r ≡ at + length (message to kind d)) × (u ≡ put at (message to kind d) b)
unfolding message packet heading
data_laid at to kind size d b es p o e r u f =
    let parts : heading to kind size ++ d ≡ message to kind d = rw es in
    laid_as _ _ parts at r u b (laid_then at (heading to kind size) d b p o e r u f)

-- no data
pub empty_laid : (at to kind : ℕ) (b : Bytes) (p : ℕ) (o : Bytes) → (p ≡ at + 13) × (o ≡ put at (heading to kind 0) b)
    → (p ≡ at + length (message to kind [])) × (o ≡ put at (message to kind []) b)
unfolding message packet heading
empty_laid at to kind b p o e = e

-- ---- arguments

-- an argument before others: itself, a zero byte, and their data
module _ (a b : Bytes) (bs : List Bytes) where
  join_first : ended a ++ join (b ∷ bs) ≡ join (a ∷ b ∷ bs)
  unfolding join
  join_first = append_assoc a (0 ∷ []) (join (b ∷ bs))

  pub rest_laid : (p : ℕ) (o : Bytes) (q : ℕ) (u : Bytes) → (q ≡ p + length a + 1) × (u ≡ put p (ended a) o)
      → (r : ℕ) (v : Bytes) → (r ≡ q + length (join (b ∷ bs))) × (v ≡ put q (join (b ∷ bs)) u)
      → (r ≡ p + length (join (a ∷ b ∷ bs))) × (v ≡ put p (join (a ∷ b ∷ bs)) o)
  rest_laid p o q u e r v f =
      let l : q ≡ p + length (ended a) = omega (arith, length-append a (0 ∷ [])) in
      laid_as _ _ join_first p r v o (laid_then p (ended a) (join (b ∷ bs)) o q u (l, e.1) r v f)

-- how long two, three, four and five of them are with the zero bytes between them
pub two_long : (a b : Bytes) → length (join (a ∷ b ∷ [])) ≡ length a + length b + 1
unfolding join
two_long a b = simp length-append (omega arith)

pub three_long : (a b c : Bytes) → length (join (a ∷ b ∷ c ∷ [])) ≡ length a + length b + length c + 2
unfolding join
three_long a b c = simp length-append (omega arith)

pub four_long : (a b c d : Bytes) → length (join (a ∷ b ∷ c ∷ d ∷ [])) ≡ length a + length b + length c + length d + 3
unfolding join
four_long a b c d = simp length-append (omega arith)

pub five_long : (a b c d e : Bytes) → length (join (a ∷ b ∷ c ∷ d ∷ e ∷ [])) ≡ length a + length b + length c + length d + length e + 4
unfolding join
five_long a b c d e = simp length-append (omega arith)

-- the zero byte behind an argument
pub ended_laid : (at p : ℕ) (a b o : Bytes) → (p ≡ at + length a) × (o ≡ put at a b) → set o p 0 ≡ put at (ended a) b
ended_laid at p a b o e = rw (e.0, e.1) (put_one (at + length a) 0 (put at a b) ∙ put_next at a (0 ∷ []) b (length a) refl)

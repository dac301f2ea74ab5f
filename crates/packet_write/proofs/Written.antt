-- Laws of a packet laid over an output: the header and the data, and what the writer answers then.
-- Assumes nothing.
use Prim.Native.Nat.{ℕ, zero, suc, ◌+◌}
use mathlib.Core.Path.{◌≡◌}
use mathlib.Core.List.{List, ◌++◌, append_assoc}
use native.Mathlib.Omega.{arith}
use lib.ListN.{length, length-append}
use Rattle.std.specs.Prelude.{Result, Ok, Err}
use Rattle.octets.specs.Bytes.{Bytes, big_endian}
use Rattle.octets.specs.Put.{put}
use Rattle.octets.proofs.Runs.{laid_as, laid_then}
use Rattle.packet.specs.declared.Refusal.{Refusal}
use Rattle.packet.specs.declared.Shape.{Shape}
use Rattle.packet.specs.Arguments.{join}
use Rattle.packet.specs.Packet.{packet, write_refusal}
use Rattle.packet.specs.Answers.{Writing, finished, granted, writing}

header_long : (magic : Bytes) (kind size : ℕ) → length magic ≡ 4 → length (magic ++ (big_endian kind ++ big_endian size)) ≡ 12
header_long magic kind size four = omega (arith, length-append magic (big_endian kind ++ big_endian size))

-- the header, and the data right behind it
pub packet_laid : (magic out d : Bytes) (kind size : ℕ) → length magic ≡ 4 → size ≡ length d
    → (p : ℕ) (o : Bytes) → (p ≡ 0 + 12) × (o ≡ put 0 (magic ++ (big_endian kind ++ big_endian size)) out)
    → (r : ℕ) (u : Bytes) → (r ≡ p + length d) × (u ≡ put p d o)
    → (r ≡ length (packet magic kind d)) × (u ≡ put 0 (packet magic kind d) out)
unfolding packet
packet_laid magic out d kind size four q p o e r u f =
    let place : p ≡ 0 + length (magic ++ (big_endian kind ++ big_endian size)) = omega (arith, header_long magic kind size four, e.0) in
    let same : (magic ++ (big_endian kind ++ big_endian size)) ++ d ≡ packet magic kind d = rw q (append_assoc magic (big_endian kind ++ big_endian (length d)) d) in
    let l = laid_as _ _ same 0 r u out (laid_then 0 (magic ++ (big_endian kind ++ big_endian size)) d out p o (place, e.1) r u f) in
    (omega (arith, l.0), l.1)

-- a refusal is the answer and leaves the output
finished_refused : (n x : ℕ) (r : Refusal) (p out : Bytes) → Err r ≡ granted n x → record { answer = Err r; output = out } ≡ finished n p out
finished_refused zero x r p out e = let z : ◌≡◌ {A = ℕ} 0 1 = cc in absurd (omega arith)
finished_refused (suc n) x r p out e = rw e

module _ (magic : Bytes) (most : ℕ) (shape : Shape) (out : Bytes) (kind : ℕ) (as' : List Bytes) where
  pub writing_refused : (r : Refusal) → Err r ≡ granted (write_refusal most (length out) shape as') (length (join as'))
      → record { answer = Err r; output = out } ≡ writing magic most shape out kind as'
  unfolding writing
  writing_refused r e = finished_refused (write_refusal most (length out) shape as') _ r (packet magic kind (join as')) out e

  -- without one the answer is the packet's length
  pub writing_done : length magic ≡ 4 → (size : ℕ) → write_refusal most (length out) shape as' ≡ 0 → size ≡ length (join as')
      → (p : ℕ) (o : Bytes) → (p ≡ 0 + 12) × (o ≡ put 0 (magic ++ (big_endian kind ++ big_endian size)) out)
      → (r : ℕ) (u : Bytes) → (r ≡ p + length (join as')) × (u ≡ put p (join as') o)
      → record { answer = Ok r; output = u } ≡ writing magic most shape out kind as'
  unfolding writing
  writing_done four size z q p o e r u f = let l = packet_laid magic out (join as') kind size four q p o e r u f in rw (z, l.0, l.1)

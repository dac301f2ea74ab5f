-- `packet_join::put_header` meets its contract: three runs, each right after the one before it, are one. Assumes nothing.
use Prim.Native.Nat.{ℕ, ◌+◌}
use mathlib.Core.Path.{◌≡◌}
use mathlib.Core.List.{◌++◌}
use native.Mathlib.Omega.{arith}
use lib.ListN.{length, length-append}
use Rattle.octets.specs.Bytes.{Bytes, big_endian}
use Rattle.octets.specs.Put.{put}
use Rattle.octets.proofs.Runs.{laid_as, laid_third}
use Rattle.packet_join.proofs.put_header.Goals as goal

-- the type and the size are each four bytes
header_laid : (at kind size : ℕ) (m k s b : Bytes) → length m ≡ 4 → k ≡ big_endian kind → s ≡ big_endian size
    → (p : ℕ) (o : Bytes) → (p ≡ at + length m) × (o ≡ put at m b) → (q : ℕ) (u : Bytes) → (q ≡ p + length k) × (u ≡ put p k o)
    → (r : ℕ) (v : Bytes) → (r ≡ q + length s) × (v ≡ put q s u)
    → (r ≡ at + 12) × (v ≡ put at (m ++ (big_endian kind ++ big_endian size)) b)
header_laid at kind size m k s b four ek es p o e q u f r v g =
    let same : m ++ (k ++ s) ≡ m ++ (big_endian kind ++ big_endian size) = rw (ek, es) in
    let l = laid_as _ _ same at r v b (laid_third at m k s b p o e q u f r v g) in
    (omega (arith, l.0, length-append m (big_endian kind ++ big_endian size)), l.1)

pub returns : goal.returns
returns c =
    header_laid _ c.args.kind c.args.size c.args.magic.now _ _ c.args.out.now c.requires.0 c.big_endian-kind_bytes.ensures c.big_endian-size_bytes.ensures _ _ c.put-type_at.ensures _ _ c.put-size_at.ensures _ _ c.put.ensures

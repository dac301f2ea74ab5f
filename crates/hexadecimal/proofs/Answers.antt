-- What a caller of `read_hex` knows by its answer: the bytes that the digits spell stand at the start of the buffer, or the digits
-- spell none that it holds. Assumes nothing.
use Prim.Native.Nat.{ℕ, ◌≤◌}
use mathlib.Core.Path.{◌≡◌, refl, sym, ap}
use mathlib.Core.Bool.{Bool, true, false, cond}
use Rattle.std.specs.Prelude.{Option, Some, None}
use native.Mathlib.Omega.{arith}
use borrow.Author.Tests.{leb-true}
use lib.ListN.{length, take}
use lib.Seq.{take-append_seam}
use lib.Dec.{leb}
use Rattle.octets.specs.Bytes.{Bytes}
use Rattle.octets.specs.Put.{put}
use Rattle.octets.proofs.Laying.{put_start, length_put}
use Rattle.hexadecimal.specs.Hex.{unhex}
use Rattle.hexadecimal.specs.Spelling.{Spelling, unspelled, laid, spelling}

-- the two ends of a laying
placed : (t : Bool) (b out o : Bytes) (n : ℕ) → leb (length b) (length out) ≡ t
    → record { answer = Some n; output = o } ≡ cond t (record { answer = Some (length b); output = put 0 b out }) (unspelled out)
    → (n ≤ length o) × (b ≡ take n o)
placed false b out o n h e = let z : ◌≡◌ {A = Option ℕ} (Some n) None = ap (λ (s : Spelling). s.answer) e in let y : ◌≡◌ {A = ℕ} 0 1 = cc in absurd (omega arith)
placed true b out o n h e =
    let a : ◌≡◌ {A = Option ℕ} (Some n) (Some (length b)) = ap (λ (s : Spelling). s.answer) e in
    let q : n ≡ length b = cc in
    let p : o ≡ put 0 b out = ap (λ (s : Spelling). s.output) e in
    let k : length b ≤ length out = leb-true (length b) (length out) h in
    (rw (p, length_put, q) k, sym (rw (p, q, put_start b out k, take-append_seam)))

spelled : (r : Option Bytes) (out o : Bytes) (n : ℕ) → record { answer = Some n; output = o } ≡ laid r out → (n ≤ length o) × (r ≡ Some (take n o))
spelled None out o n e = let z : ◌≡◌ {A = Option ℕ} (Some n) None = ap (λ (s : Spelling). s.answer) e in let y : ◌≡◌ {A = ℕ} 0 1 = cc in absurd (omega arith)
spelled (Some b) out o n e = let p = placed (leb (length b) (length out)) b out o n refl e in (p.0, ap Some p.1)

module _ (d out o : Bytes) (n : ℕ) (e : record { answer = Some n; output = o } ≡ spelling d out) where
  pub spelled_fits : n ≤ length o
  unfolding spelling
  spelled_fits = (spelled (unhex d) out o n e).0

  pub spelled_bytes : unhex d ≡ Some (take n o)
  unfolding spelling
  spelled_bytes = (spelled (unhex d) out o n e).1

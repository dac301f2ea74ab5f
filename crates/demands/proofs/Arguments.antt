-- What is known of the arguments of a request that names a job: a worker packet goes out by the type and the shape by which it came, and
-- the handle is the first argument. Assumes nothing.
use Prim.Native.Nat.{ℕ}
use mathlib.Core.Path.{◌≡◌, refl, ap, sym, ◌∙◌, subst}
use mathlib.Core.List.{List, []}
use native.Mathlib.Omega.{arith}
use lib.ListN.{get_or}
use Rattle.octets.specs.Bytes.{Bytes}
use Rattle.packet.specs.declared.Shape.TheVariants.{Handle, Echo}
use Rattle.packet.specs.Layout.{request_shape, response_shape}
use Rattle.packet.specs.Packet.{Reading, refused, got, read, requests}
use Rattle.server.specs.Requests.{Work, echo, work, get_status, from_reading, request_in}
use Rattle.server_laws.proofs.Shapes.{Named, named}
use Rattle.demands.proofs.Unmasked.{request_read}

-- ---- what was read

-- a worker packet of this type was read, and its first argument is h
pub record WorkRead (b : Bytes) (kind : ℕ) (h : Bytes) : Type 0 where
  pub args : List Bytes
  pub reads : read requests b ≡ got kind args
  pub shape : response_shape kind ≡ request_shape kind
  pub first : h ≡ get_or args 0 []

pub record EchoRead (b : Bytes) : Type 0 where
  pub kind : ℕ
  pub args : List Bytes
  pub reads : read requests b ≡ got kind args
  pub shape : request_shape kind ≡ Echo

pub record StatusRead (b h : Bytes) : Type 0 where
  pub kind : ℕ
  pub args : List Bytes
  pub reads : read requests b ≡ got kind args
  pub shape : request_shape kind ≡ Handle
  pub first : h ≡ get_or args 0 []

module _ (b : Bytes) where
  pub work_read : (how : Work) (kind : ℕ) (h n d : Bytes) → request_in b ≡ work how kind h n d → WorkRead b kind h
  work_read how kind h n d q = by (read requests b) refl (sym (request_read b) ∙ q)
    where
      by : (r : Reading) → read requests b ≡ r → from_reading r ≡ work how kind h n d → WorkRead b kind h
      by (refused m) e z = let y : ◌≡◌ {A = ℕ} 0 1 = cc in absurd (omega arith)
      by (got k args) e z =
          let (i, r, f) = subst (Named k (get_or args 0 []) (request_shape k) (response_shape k)) z (named k _ _ _) in
          record { args = args; reads = e ∙ ap (λ (m : ℕ). got m args) (sym i); shape = rw i r; first = f }

  pub echo_read : request_in b ≡ echo → EchoRead b
  echo_read q = by (read requests b) refl (sym (request_read b) ∙ q)
    where
      by : (r : Reading) → read requests b ≡ r → from_reading r ≡ echo → EchoRead b
      by (refused m) e z = let y : ◌≡◌ {A = ℕ} 0 1 = cc in absurd (omega arith)
      by (got k args) e z = record { kind = k; args = args; reads = e; shape = subst (Named k (get_or args 0 []) (request_shape k) (response_shape k)) z (named k _ _ _) }

  pub status_read : (h : Bytes) → request_in b ≡ get_status h → StatusRead b h
  status_read h q = by (read requests b) refl (sym (request_read b) ∙ q)
    where
      by : (r : Reading) → read requests b ≡ r → from_reading r ≡ get_status h → StatusRead b h
      by (refused m) e z = let y : ◌≡◌ {A = ℕ} 0 1 = cc in absurd (omega arith)
      by (got k args) e z =
          let (i, f) = subst (Named k (get_or args 0 []) (request_shape k) (response_shape k)) z (named k _ _ _) in
          record { kind = k; args = args; reads = e; shape = i; first = f }

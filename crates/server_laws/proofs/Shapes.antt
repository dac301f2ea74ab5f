-- What is known of a request by its type's number: a worker packet goes out by the type and the shape by which it came, an echo has an echo's
-- shape, and a handle is the first argument. Assumes nothing.
use Prim.Native.Nat.{ℕ, zero, suc}
use mathlib.Core.Path.{◌≡◌, refl}
use mathlib.Core.List.{List, [], ◌∷◌}
use lib.ListN.{get_or}
use Rattle.octets.specs.Bytes.{Bytes}
use Rattle.packet.specs.declared.Shape.{Shape}
use Rattle.packet.specs.declared.Shape.TheVariants.{Foreign, Handle, Echo}
use Rattle.packet.specs.Layout.{request_shape, response_shape}
use Rattle.server.specs.Requests.{Request, reset, pre_sleep, echo, bad, can_do, cant_do, identify, grab, submit, work, get_status, option, requested}

-- the tables of shapes of requests and of responses beside the table of what is asked; beyond the third nothing is asked
data Beside (R : Shape → Shape → Request → Type 0) : List Shape → List Shape → List Request → Type 0 where
  beyond : {ss rs : List Shape} → Beside R ss rs []
  line : {s r : Shape} {a : Request} {ss rs : List Shape} {asks : List Request} → R s r a → Beside R ss rs asks → Beside R (s ∷ ss) (r ∷ rs) (a ∷ asks)

beside_at : {R : Shape → Shape → Request → Type 0} {ss rs : List Shape} {asks : List Request} → ((s r : Shape) → R s r (bad 9)) → Beside R ss rs asks
    → (i : ℕ) → R (get_or ss i Foreign) (get_or rs i Foreign) (get_or asks i (bad 9))
beside_at f beyond i = f _ _
beside_at f (line r rs) zero = r
beside_at f (line r rs) (suc i) = beside_at f rs i

-- a request of this type and with this first argument
abbrev pub Named : ℕ → Bytes → Shape → Shape → Request → Type 0
Named kind a s r (work how k h n d) = (k ≡ kind) × (r ≡ s) × (h ≡ a)
Named kind a s r echo = s ≡ Echo
Named kind a s r reset = Unit {0}
Named kind a s r pre_sleep = Unit {0}
Named kind a s r (bad n) = Unit {0}
Named kind a s r (can_do f) = Unit {0}
Named kind a s r (cant_do f) = Unit {0}
Named kind a s r (identify i) = Unit {0}
Named kind a s r (grab uniq) = Unit {0}
Named kind a s r (submit priority background f u size) = Unit {0}
Named kind a s r (get_status h) = (s ≡ Handle) × (h ≡ a)
Named kind a s r (option name) = Unit {0}

pub named : (kind : ℕ) (a b c : Bytes) → Named kind a (request_shape kind) (response_shape kind) (requested kind a b c)
unfolding requested request_shape response_shape
named kind a b c =
    beside_at {R = Named kind a} (λ s r. tt)
    (line tt (line tt (line tt (line tt (line tt (line tt (line tt (line tt (line tt (line tt (line tt (line tt  -- 0 to 11
    (line (refl, refl, refl) (line (refl, refl, refl) (line (refl, refl, refl) (line (refl, refl) (line refl (line tt  -- 12 to 17
    (line tt (line tt (line tt (line tt (line tt (line tt (line tt  -- 18 to 24
    (line (refl, refl, refl) (line tt (line tt (line (refl, refl, refl) (line (refl, refl, refl)  -- 25 to 29
    (line tt (line tt (line tt (line tt (line {ss = Foreign ∷ Foreign ∷ []} {rs = Foreign ∷ Foreign ∷ []} tt beyond)))))))))))))))))))))))))))))))))))
    kind

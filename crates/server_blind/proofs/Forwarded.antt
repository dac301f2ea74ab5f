-- A packet that is passed on, an echo or a worker packet: its copy has the shape of the request, shows the bytes up to the last
-- separator that the type demands, and has at most 1,024 bytes of data. Assumes nothing.
use Prim.Native.Nat.{ℕ, ◌+◌, ◌^◌, ◌<◌, ◌≤◌}
use mathlib.Core.Path.{◌≡◌, refl, ap, sym, ◌∙◌, subst}
use mathlib.Core.Bool.{true, false, cond}
use mathlib.Core.List.{List, []}
use native.Mathlib.Omega.{arith}
use lib.ListN.{length, get_or, take, drop}
use lib.Seq.{length-take-le, take-add, drop_at}
use lib.Dec.{eqb}
use Rattle.octets.specs.Bytes.{Bytes, number_at}
use Rattle.octets.proofs.Strings.{and_right}
use Rattle.packet.specs.declared.Shape.TheVariants.{Echo}
use Rattle.packet.specs.Layout.{rules_of, request_shape, response_shape, separators_of}
use Rattle.packet.specs.Packet.{Reading, refused, got, header, read, requests}
use Rattle.packet.specs.Opaque.{ends_opaque, has_zeros, past, hides, seen, visible, opaque, masked, with_last, with_opaque}
use Rattle.packet_laws.proofs.Packets.{requests_well, header_good, Got, read_got}
use Rattle.packet_laws.proofs.Separators.{Heads, heads}
use Rattle.packet_laws.proofs.Blindness.{read_masked, got_hides, opaque_none}
use Rattle.server.specs.Requests.{Event, sends, Work, echo, work, from_reading, request_in}
use Rattle.server.specs.Server.{shown_by, opaque_of}
use Rattle.server_laws.proofs.Shapes.{Named, named}
use Rattle.server_calls.proofs.Packets.{data_short}

-- ---- the request itself

-- what the copies, of this type, of an event's packet are
pub record Forwarded (e : Event) (kind : ℕ) : Type 0 where
  pub low : kind < 2 ^ 32
  pub small : length (shown_by e) + length (opaque_of e) ≤ 1024
  pub heads : ends_opaque (rules_of (response_shape kind)) ≡ true → Heads (separators_of (response_shape kind)) (shown_by e)
  pub none : ends_opaque (rules_of (response_shape kind)) ≡ false → opaque_of e ≡ []

module _ (c : ℕ) (b : Bytes) (kind : ℕ) (args : List Bytes) (r : read requests b ≡ got kind args) where
  has_zeros_lem : Got requests b kind args → hides requests b ≡ true → has_zeros (separators_of (request_shape kind)) (drop 12 b) ≡ true
  unfolding hides
  has_zeros_lem g h =
      subst (λ (m : ℕ). has_zeros (separators_of (request_shape m)) (drop 12 b) ≡ true) g.typed
      (and_right (ends_opaque (rules_of (request_shape (number_at b 4)))) _ (and_right (eqb (header requests.magic requests.most b) 0) _ h))

  -- a request whose last argument is opaque shows its data up to the last separator
  shown_heads : ends_opaque (rules_of (request_shape kind)) ≡ true → Heads (separators_of (request_shape kind)) (shown_by (sends c b))
  unfolding shown_by visible seen
  shown_heads e =
      let g : Got requests b kind args = read_got requests b kind args r in
      let k : ℕ = separators_of (request_shape kind) in
      let d : Bytes = drop 12 b in
      let long : length (take 12 b) ≡ 12 = length-take-le 12 b (header_good _ _ b g.headed).long in
      let cut : drop 12 (take (12 + past k d) b) ≡ take (past k d) d = ap (drop 12) (take-add 12 (past k d) b) ∙ drop_at (take 12 b) (take (past k d) d) 12 long in
      let h = got_hides requests b kind args g e in
      rw (h, g.typed, cut) (heads k d (has_zeros_lem g h))

  -- a copy of the request's shape
  passed_on : (to : ℕ) → to < 2 ^ 32 → response_shape to ≡ request_shape kind → length (shown_by (sends c b)) + length (opaque_of (sends c b)) ≤ 1024 → Forwarded (sends c b) to
  unfolding opaque_of
  passed_on to low q small =
      record {
        low = low;
        small = small;
        heads = λ e. rw q (shown_heads (rw q at e));
        none = λ e. opaque_none requests requests_well b kind args r (rw q at e);
      }

-- what is read with the opaque bytes set to zero is read as it came, but for them
reads_as_came : (b : Bytes) (kind : ℕ) (args : List Bytes) → read requests (masked requests b) ≡ got kind args
    → read requests b ≡ got kind (cond (ends_opaque (rules_of (request_shape kind))) (with_last (opaque requests b) args) args)
unfolding with_opaque
reads_as_came b kind args e = read_masked requests requests_well b ∙ ap (with_opaque requests (opaque requests b)) e

-- ---- what an event passes on

echo_shape : response_shape 17 ≡ Echo
unfolding response_shape
echo_shape = refl

module _ (c : ℕ) (b : Bytes) where
  work_reading : (how : Work) (kind : ℕ) (h n d : Bytes) (r : Reading) → read requests (masked requests b) ≡ r → from_reading r ≡ work how kind h n d → request_in b ≡ work how kind h n d
      → Forwarded (sends c b) kind
  work_reading how kind h n d (refused m) e q a = let z : ◌≡◌ {A = ℕ} 0 1 = cc in absurd (omega arith)
  work_reading how kind h n d (got k args) e q a =
      let (i, shape, first) = subst (Named k (get_or args 0 []) (request_shape k) (response_shape k)) q (named k _ _ _) in
      let g = read_got requests b k _ (reads_as_came b k args e) in
      let low : kind < 2 ^ 32 = rw i (requests_well.low k g.own) in
      passed_on c b k _ (reads_as_came b k args e) kind low (rw i shape) (data_short c b (work how kind h n d) a refl)

  echo_reading : (r : Reading) → read requests (masked requests b) ≡ r → from_reading r ≡ echo → request_in b ≡ echo → Forwarded (sends c b) 17
  echo_reading (refused m) e q a = let z : ◌≡◌ {A = ℕ} 0 1 = cc in absurd (omega arith)
  echo_reading (got k args) e q a =
      let p : request_shape k ≡ Echo = subst (Named k (get_or args 0 []) (request_shape k) (response_shape k)) q (named k _ _ _) in
      passed_on c b k _ (reads_as_came b k args e) 17 (omega arith) (echo_shape ∙ sym p) (data_short c b echo a refl)

  pub work_forwarded : (how : Work) (kind : ℕ) (h n d : Bytes) → request_in b ≡ work how kind h n d → Forwarded (sends c b) kind
  unfolding request_in
  work_forwarded how kind h n d q = work_reading how kind h n d _ refl q q

  pub echo_forwarded : request_in b ≡ echo → Forwarded (sends c b) 17
  unfolding request_in
  echo_forwarded q = echo_reading _ refl q q

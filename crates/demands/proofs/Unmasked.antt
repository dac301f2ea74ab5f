-- What a packet asks is what its type asks of the arguments that the packet layer reads in it: that the server reads it with its opaque
-- bytes set to zero changes nothing. Assumes nothing.
use Prim.Native.Nat.{ℕ, zero, suc}
use mathlib.Core.Path.{◌≡◌, refl, ap, sym, ◌∙◌}
use mathlib.Core.Bool.{Bool, true, false, cond}
use mathlib.Core.List.{List, [], ◌∷◌}
use lib.ListN.{length, get_or, drop}
use Rattle.octets.specs.Bytes.{Bytes}
use Rattle.packet.specs.declared.Shape.{Shape}
use Rattle.packet.specs.declared.Shape.TheVariants.{Foreign, Submission, WorkData}
use Rattle.packet.specs.Layout.{rules_of, request_shape, separators_of, priority_of, background_of}
use Rattle.packet.specs.Packet.{Reading, refused, got, read, requests}
use Rattle.packet.specs.Opaque.{ends_opaque, opaque, masked, with_last, with_opaque}
use Rattle.packet_laws.proofs.Splitting.{split_join, fit_length}
use Rattle.packet_laws.proofs.Packets.{requests_well, read_got}
use Rattle.packet_laws.proofs.Separators.{first_kept, size_kept}
use Rattle.packet_laws.proofs.Blindness.{read_masked, masked_length, opaque_at}
use Rattle.lists.proofs.Rows.{clash}
use Rattle.server.specs.Requests.{Work, tells, ends, throws, Request, bad, submit, work, requested, from_reading, request_in}

-- ---- the table of what is asked, twice, beside the table of shapes

data Beside (R : Shape → Request → Request → Type 0) : List Shape → List Request → List Request → Type 0 where
  beyond : {ss : List Shape} → Beside R ss [] []
  line : {s : Shape} {a b : Request} {ss : List Shape} {as' bs : List Request} → R s a b → Beside R ss as' bs → Beside R (s ∷ ss) (a ∷ as') (b ∷ bs)

beside_at : {R : Shape → Request → Request → Type 0} {ss : List Shape} {as' bs : List Request} → ((s : Shape) → R s (bad 9) (bad 9)) → Beside R ss as' bs
    → (i : ℕ) → R (get_or ss i Foreign) (get_or as' i (bad 9)) (get_or bs i (bad 9))
beside_at f beyond i = f _
beside_at f (line r rs) zero = r
beside_at f (line r rs) (suc i) = beside_at f rs i

-- ---- another opaque argument of the same length

-- what a type asks of a list of arguments
abbrev asks : ℕ → List Bytes → Request
asks kind args = requested kind (get_or args 0 []) (get_or args 1 []) (get_or args 2 [])

module _ (kind : ℕ) (o : Bytes) (args : List Bytes) where
  -- a type of this shape asks the same with the last argument replaced, if that is opaque
  abbrev Unseen : Shape → Request → Request → Type 0
  Unseen shape a b = ends_opaque (rules_of shape) ≡ true → length args ≡ length (rules_of shape) → length (get_or args (separators_of shape) []) ≡ length o → a ≡ b

  abbrev Submits : ℕ → Type 0
  Submits k = Unseen Submission (submit (priority_of k) (background_of k) (get_or (with_last o args) 0 []) (get_or (with_last o args) 1 []) (length (get_or (with_last o args) 2 [])))
      (submit (priority_of k) (background_of k) (get_or args 0 []) (get_or args 1 []) (length (get_or args 2 [])))

  submitted : (k : ℕ) → Submits k
  unfolding rules_of
  submitted k e n l = size_kept (submit (priority_of k) (background_of k)) o args n l

  worked : (how : Work) (k : ℕ) → Unseen WorkData (work how k (get_or (with_last o args) 0 []) [] []) (work how k (get_or args 0 []) [] [])
  unfolding rules_of
  worked how k e n l = ap (λ (h : Bytes). work how k h [] []) (first_kept o args n)

  unseen : Unseen (request_shape kind) (asks kind (with_last o args)) (asks kind args)
  unfolding requested request_shape rules_of
  unseen =
      beside_at {R = Unseen} (λ s e n l. refl)
      (line (λ e n l. clash e refl) (line (λ e n l. clash e refl) (line (λ e n l. clash e refl) (line (λ e n l. clash e refl) (line (λ e n l. clash e refl) (line (λ e n l. clash e refl) (line (λ e n l. clash e refl) (line (submitted kind)  -- 0 to 7
      (line (λ e n l. clash e refl) (line (λ e n l. clash e refl) (line (λ e n l. clash e refl) (line (λ e n l. clash e refl) (line (λ e n l. clash e refl) (line (worked ends kind) (line (λ e n l. clash e refl) (line (λ e n l. clash e refl) (line (λ e n l. refl)  -- 8 to 16
      (line (λ e n l. clash e refl) (line (submitted kind) (line (λ e n l. clash e refl) (line (λ e n l. clash e refl) (line (submitted kind) (line (λ e n l. clash e refl) (line (λ e n l. clash e refl) (line (λ e n l. clash e refl)  -- 17 to 24
      (line (worked throws kind) (line (λ e n l. clash e refl) (line (λ e n l. clash e refl) (line (worked tells kind) (line (worked tells kind) (line (λ e n l. clash e refl) (line (λ e n l. clash e refl)  -- 25 to 31
      (line (submitted kind) (line (submitted kind) (line {ss = Foreign ∷ Foreign ∷ []} (submitted kind) beyond)))))))))))))))))))))))))))))))))))
      kind

-- ---- what a packet asks

pub request_read : (b : Bytes) → request_in b ≡ from_reading (read requests b)
unfolding request_in with_opaque
request_read b = by (read requests (masked requests b)) refl ∙ ap from_reading (sym (read_masked requests requests_well b))
  where
    by : (r : Reading) → read requests (masked requests b) ≡ r → from_reading (read requests (masked requests b)) ≡ from_reading (with_opaque requests (opaque requests b) (read requests (masked requests b)))
    by (refused n) e = rw e
    by (got kind args) e = rw e (last (ends_opaque (rules_of (request_shape kind))) refl)
      where
        last : (t : Bool) → ends_opaque (rules_of (request_shape kind)) ≡ t → asks kind args ≡ asks kind (cond t (with_last (opaque requests b) args) args)
        last false q = refl
        last true q =
            let g = read_got requests (masked requests b) kind args e in
            let f = (split_join (rules_of (request_shape kind)) (drop 12 (masked requests b)) args g.splits).1 in
            let l : length (get_or args (separators_of (request_shape kind)) []) ≡ length (opaque requests b)
            = ap length (opaque_at requests requests_well (masked requests b) kind args e q) ∙ masked_length requests requests_well b in
            sym (unseen kind (opaque requests b) args q (fit_length _ args f) l)

-- The job of a hub that a packet concerns does not depend on opaque bytes: no handle is an opaque argument, so packets with the same
-- visible bytes and as many opaque ones concern the same job. Assumes nothing.
use Prim.Native.Nat.{◌≤◌}
use mathlib.Core.Path.{◌≡◌, refl, ap, ap₂, sym, ◌∙◌}
use mathlib.Core.Bool.{cond}
use mathlib.Core.List.{List, [], ◌∷◌, map}
use native.Mathlib.Omega.{arith}
use lib.ListN.{length, get_or, drop}
use Rattle.octets.specs.Bytes.{Bytes}
use Rattle.packet.specs.declared.Shape.{Shape}
use Rattle.packet.specs.declared.Shape.TheVariants.{Foreign, Empty, Function, Submission, WorkStatus, WorkData, Handle, Echo, OptionName, ClientId, Assignment, UniqueAssignment, Error, StatusAnswer}
use Rattle.packet.specs.Layout.{rules_of}
use Rattle.packet.specs.Packet.{Direction, Reading, refused, got, read, requests, responses}
use Rattle.packet.specs.Opaque.{ends_opaque, masked, opaque, visible, with_last, with_opaque}
use Rattle.packet_laws.proofs.Splitting.{fit_length, split_join}
use Rattle.packet_laws.proofs.Packets.{read_got, Well, requests_well, responses_well}
use Rattle.packet_laws.proofs.Blindness.{alike_masked, read_masked}
use Rattle.handle.specs.Handle.{serial_of}
use Rattle.server.specs.Server.{Sent, addressed}
use Rattle.lists.proofs.Cases.{All2}
use Rattle.server_blind.proofs.OpaqueParts.{packet_of}
use Rattle.server_blind.proofs.Outputs.{AlikeSent}
use Rattle.show_job.specs.Concerned.{concerned, first_sent, handle_in, job_named, named_by, or_else}

-- ---- the handle, with another last argument

first_kept : (x : Bytes) (args : List Bytes) → 2 ≤ length args → get_or (with_last x args) 0 [] ≡ get_or args 0 []
first_kept x [] h = absurd (omega arith)
first_kept x (a ∷ []) h = absurd (omega arith)
first_kept x (a ∷ (b ∷ bs)) h = refl

module _ (hub : Bytes) where
  -- a type that names a job and hides something has the handle first and what it hides last
  handle_kept : (shape : Shape) (x : Bytes) (args : List Bytes) → length args ≡ length (rules_of shape)
      → handle_in hub shape (get_or (cond (ends_opaque (rules_of shape)) (with_last x args) args) 0 []) ≡ handle_in hub shape (get_or args 0 [])
  unfolding handle_in rules_of
  handle_kept Foreign x args n = refl
  handle_kept Empty x args n = refl
  handle_kept Function x args n = refl
  handle_kept Submission x args n = refl
  handle_kept WorkStatus x args n = refl
  handle_kept WorkData x args n = ap (serial_of hub) (first_kept x args (omega arith))
  handle_kept Handle x args n = refl
  handle_kept Echo x args n = refl
  handle_kept OptionName x args n = refl
  handle_kept ClientId x args n = refl
  handle_kept Assignment x args n = ap (serial_of hub) (first_kept x args (omega arith))
  handle_kept UniqueAssignment x args n = ap (serial_of hub) (first_kept x args (omega arith))
  handle_kept Error x args n = refl
  handle_kept StatusAnswer x args n = refl

  -- ---- the job that a packet names

  module _ (w : Direction) (well : Well w) where
    named_other : (s x : Bytes) (r : Reading) → read w s ≡ r → named_by hub w.shape (with_opaque w x r) ≡ named_by hub w.shape r
    unfolding named_by with_opaque
    named_other s x (refused n) e = refl
    named_other s x (got k args) e = handle_kept (w.shape k) x args (fit_length _ args (split_join _ (drop 12 s) args (read_got w s k args e).splits).1)

    -- it is named with each opaque byte set to zero
    named_masked : (s : Bytes) → job_named hub w s ≡ job_named hub w (masked w s)
    unfolding job_named
    named_masked s = ap (named_by hub w.shape) (read_masked w well s) ∙ named_other (masked w s) (opaque w s) (read w (masked w s)) refl

    named_alike : (s t : Bytes) → visible w s ≡ visible w t → length (opaque w s) ≡ length (opaque w t) → job_named hub w s ≡ job_named hub w t
    named_alike s t v l = named_masked s ∙ ap (job_named hub w) (alike_masked w well s t v l) ∙ sym (named_masked t)

  -- ---- the job that is concerned

  first_alike : {ps qs : List Sent} → All2 AlikeSent ps qs → job_named hub responses (first_sent (map addressed ps)) ≡ job_named hub responses (first_sent (map addressed qs))
  first_alike All2.none = refl
  first_alike (All2.more {a = p} {b = q} a rest) = named_alike responses responses_well (packet_of p) (packet_of q) a.visible a.size

  pub concerned_alike : (a b : Bytes) → visible requests a ≡ visible requests b → length (opaque requests a) ≡ length (opaque requests b)
      → {ps qs : List Sent} → All2 AlikeSent ps qs → concerned hub a (map addressed ps) ≡ concerned hub b (map addressed qs)
  unfolding concerned
  concerned_alike a b v l r = ap₂ or_else (named_alike requests requests_well a b v l) (first_alike r)

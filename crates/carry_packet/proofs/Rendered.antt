-- The bytes that the code lays are those of the packets that the server's definitions send: for each list of packets that an event
-- sends, and for lists one after the other. Assumes nothing.
use Prim.Native.Nat.{ℕ, ◌≤◌}
use mathlib.Core.Path.{◌≡◌, refl, ap, ◌∙◌, sym}
use mathlib.Core.Bool.{Bool, true, false, cond}
use mathlib.Core.List.{List, [], ◌∷◌, ◌++◌, map, append-nil, append_assoc}
use lib.ListN.{length, get_or, drop}
use Rattle.octets.specs.Bytes.{Bytes, same}
use Rattle.octets.proofs.Strings.{same_is}
use Rattle.packet.specs.Arguments.{join}
use Rattle.packet.specs.Packet.{requests}
use Rattle.packet_laws.proofs.Blindness.{data_whole}
use Rattle.lists.specs.Lists.{fit}
use Rattle.server.specs.Table.{function_at, job_at}
use Rattle.server.specs.Requests.{Event, sends}
use Rattle.server.specs.Events.{Send, plain, copy, assign, error, created, exceptions_name, flag}
use Rattle.server.specs.Server.{Server, addressed, opaque_of, render, shown_by}
use Rattle.server.specs.Call.{sent_bytes}
use Rattle.carry_packet.specs.Messages.{message, error_arguments, handle_arguments, option_arguments, status_arguments, assign_arguments}

-- the workload is the last argument of an assignment
assign_data : (uniq : Bool) (h f u w : Bytes) → join (h ∷ f ∷ cond uniq (u ∷ w ∷ []) (w ∷ [])) ≡ join (h ∷ f ∷ cond uniq (u ∷ [] ∷ []) ([] ∷ [])) ++ w
unfolding join
assign_data true h f u w = simp append_assoc
assign_data false h f u w = simp append_assoc

module _ (e : Event) (s : Server) where
  -- the bytes of these packets, as they are sent
  abbrev pub bytes_for : List Send → Bytes
  bytes_for ss = sent_bytes (map (render e s) ss)

  -- ---- lists of packets

  pub none_rendered : bytes_for [] ≡ []
  unfolding sent_bytes
  none_rendered = refl

  pub appended_rendered : (ss rs : List Send) → bytes_for (ss ++ rs) ≡ bytes_for ss ++ bytes_for rs
  unfolding sent_bytes
  appended_rendered [] rs = refl
  appended_rendered (x ∷ ss) rs = ap (λ (r : Bytes). addressed (render e s x) ++ r) (appended_rendered ss rs) ∙ sym (append_assoc (addressed (render e s x)) _ _)

  -- ---- one packet

  pub plain_rendered : (to kind : ℕ) (as' : List Bytes) → message to kind (join as') ≡ bytes_for (plain to kind as' ∷ [])
  unfolding sent_bytes render message
  plain_rendered to kind as' = ap (message to kind) (sym (append-nil (join as'))) ∙ sym (append-nil _)

  pub error_rendered : (c n : ℕ) → message c 19 (join (error_arguments n)) ≡ bytes_for (error c n ∷ [])
  unfolding error_arguments
  error_rendered c n = plain_rendered c 19 _

  pub created_rendered : (hub : Bytes) (c serial : ℕ) → message c 8 (join (handle_arguments hub serial)) ≡ bytes_for (created hub c serial ∷ [])
  unfolding handle_arguments
  created_rendered hub c serial = plain_rendered c 8 _

  pub no_job_rendered : (c : ℕ) → message c 10 [] ≡ bytes_for (plain c 10 [] ∷ [])
  unfolding join
  no_job_rendered c = plain_rendered c 10 []

  pub option_rendered : (c : ℕ) (name : Bytes) → same name exceptions_name ≡ true → message c 27 (join option_arguments) ≡ bytes_for (plain c 27 (name ∷ []) ∷ [])
  unfolding option_arguments
  option_rendered c name h = rw (same_is name exceptions_name h) (plain_rendered c 27 _)

  pub status_rendered : (c : ℕ) (h n d : Bytes) (known running : Bool)
      → message c 20 (join (status_arguments h known running n d)) ≡ bytes_for (plain c 20 (h ∷ flag known ∷ flag running ∷ n ∷ d ∷ []) ∷ [])
  unfolding status_arguments
  status_rendered c h n d known running = plain_rendered c 20 _

  -- the job at place p as the table and the workloads before the event have it
  module _ (p serial : ℕ) (hub f u w : Bytes) (eh : hub ≡ s.table.hub) (es : serial ≡ (job_at s.table p).row.serial) (ef : f ≡ (function_at s.table (job_at s.table p).row.function).name)
      (eu : u ≡ (job_at s.table p).unique) (ew : w ≡ fit (job_at s.table p).row.size (get_or s.workloads p [])) where
    pub assign_rendered : (uniq : Bool) (to : ℕ) → message to (cond uniq 31 11) (join (assign_arguments hub uniq serial f u w)) ≡ bytes_for (assign uniq to p ∷ [])
    unfolding sent_bytes render assign_arguments message
    assign_rendered uniq to = rw (eh, es, ef, eu, ew) (ap (message to (cond uniq 31 11)) (assign_data uniq _ _ _ _) ∙ sym (append-nil _))

module _ (c : ℕ) (p : Bytes) (s : Server) (long : 12 ≤ length p) where
  pub copy_rendered : (to kind : ℕ) → message to kind (drop 12 p) ≡ addressed (render (sends c p) s (copy to kind))
  unfolding render shown_by opaque_of message
  copy_rendered to kind = ap (message to kind) (sym (data_whole requests p long))

  -- 01: an echo goes back to its sender
  pub echo_rendered : message c 17 (drop 12 p) ≡ bytes_for (sends c p) s (copy c 17 ∷ [])
  unfolding sent_bytes
  echo_rendered = copy_rendered c 17 ∙ sym (append-nil _)

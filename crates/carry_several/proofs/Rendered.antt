-- The bytes of one packet for each of several connections are those of the packets that the server's definitions send. Assumes nothing.
use Prim.Native.Nat.{ℕ, ◌≤◌}
use mathlib.Core.Path.{◌≡◌, refl, ap, ap₂, ◌∙◌, sym}
use mathlib.Core.Bool.{Bool, true, false, cond}
use mathlib.Core.List.{List, [], ◌∷◌, ◌++◌, map, append-nil}
use lib.ListN.{length, drop}
use Rattle.octets.specs.Bytes.{Bytes}
use Rattle.packet.specs.Arguments.{join}
use Rattle.handle.specs.Handle.{handle}
use Rattle.sets.specs.Sets.{has}
use Rattle.server.specs.Requests.{Event, sends}
use Rattle.server.specs.Events.{copy, noop, failure}
use Rattle.server.specs.Server.{Server, addressed, render}
use Rattle.server.specs.Call.{sent_bytes}
use Rattle.carry_packet.specs.Messages.{message, handle_arguments}
use Rattle.carry_packet.proofs.Rendered.{bytes_for, copy_rendered}
use Rattle.carry_several.specs.Several.{messages, told_message, told_messages}

module _ (e : Event) (s : Server) where
  pub noops_rendered : (ls : List ℕ) → messages ls 6 [] ≡ bytes_for e s (map noop ls)
  unfolding messages sent_bytes render join message
  noops_rendered [] = refl
  noops_rendered (l ∷ ls) = ap (λ (r : Bytes). message l 6 [] ++ r) (noops_rendered ls)

module _ (c : ℕ) (p : Bytes) (s : Server) (long : 12 ≤ length p) where
  pub copies_rendered : (kind : ℕ) (ls : List ℕ) → messages ls kind (drop 12 p) ≡ bytes_for (sends c p) s (map (λ l. copy l kind) ls)
  unfolding messages sent_bytes
  copies_rendered kind [] = refl
  copies_rendered kind (l ∷ ls) = ap (λ (r : Bytes). r ++ messages ls kind (drop 12 p)) (copy_rendered c p s long l kind) ∙ ap (λ (r : Bytes). addressed (render (sends c p) s (copy l kind)) ++ r) (copies_rendered kind ls)

  -- 02: to each the copy, or WORK_FAIL with the handle
  told_rendered : (to heard kind : ℕ) (hub : Bytes) (serial : ℕ) → told_message heard kind (drop 12 p) (join (handle_arguments hub serial)) to ≡ addressed (render (sends c p) s (cond (has heard to) (copy to kind) (failure hub serial to)))
  unfolding told_message render message handle_arguments
  told_rendered to heard kind hub serial = by (has heard to)
    where
      by : (b : Bool) → cond b (message to kind (drop 12 p)) (message to 14 (join (handle hub serial ∷ []))) ≡ addressed (render (sends c p) s (cond b (copy to kind) (failure hub serial to)))
      by true = copy_rendered c p s long to kind
      by false = ap (message to 14) (sym (append-nil _))

  pub all_told_rendered : (heard kind : ℕ) (hub : Bytes) (serial : ℕ) (ls : List ℕ)
      → told_messages ls heard kind (drop 12 p) (join (handle_arguments hub serial)) ≡ bytes_for (sends c p) s (map (λ l. cond (has heard l) (copy l kind) (failure hub serial l)) ls)
  unfolding told_messages sent_bytes
  all_told_rendered heard kind hub serial [] = refl
  all_told_rendered heard kind hub serial (l ∷ ls) = ap₂ (λ (x y : Bytes). x ++ y) (told_rendered l heard kind hub serial) (all_told_rendered heard kind hub serial ls)

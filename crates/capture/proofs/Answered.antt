-- How answering a frame meets the definition: the frame's event, and what its call left. Assumes nothing.
use Prim.Native.Nat.{ℕ, ◌-◌, ◌≤◌}
use mathlib.Core.Path.{◌≡◌, sym, ap, ◌∙◌}
use Rattle.std.specs.Prelude.{Option, Some, None}
use lib.ListN.{take, drop}
use Rattle.octets.specs.Bytes.{Bytes}
use Rattle.server.specs.Sizes.{connection_count}
use Rattle.server.specs.Requests.{Event, opens, closes, sends}
use Rattle.server.specs.Call.{Result, refused_by, call, left}
use Rattle.capture.specs.declared.Frame as F
use Rattle.capture.specs.declared.Frame.TheVariants as FV
use Rattle.capture.specs.Frames.{Bounded, event_of, frame_size}
use Rattle.capture.specs.Spoken.{answered_to}

-- the event of each kind of frame, from its connection k as a wider number
module _ (f : Option F.Frame) (b : Bytes) (c k : ℕ) (w : k ≡ c) where
  pub open_event : f ≡ Some (FV.Open c) → event_of f b ≡ Some (opens k)
  open_event e = ap (λ (g : Option F.Frame). event_of g b) e ∙ ap (λ (n : ℕ). Some (opens n)) (sym w)

  pub close_event : f ≡ Some (FV.Close c) → event_of f b ≡ Some (closes k)
  close_event e = ap (λ (g : Option F.Frame). event_of g b) e ∙ ap (λ (n : ℕ). Some (closes n)) (sym w)

  pub packet_event : (end : ℕ) → f ≡ Some (FV.Packet c end) → event_of f b ≡ Some (sends k (take (end - 2) (drop 2 b)))
  packet_event end e = ap (λ (g : Option F.Frame). event_of g b) e ∙ ap (λ (n : ℕ). Some (sends n (take (end - 2) (drop 2 b)))) (sym w)

pub packet_bounded : (f : Option F.Frame) (c end : ℕ) → f ≡ Some (FV.Packet c end) → Bounded f → (2 ≤ end) × (end ≤ frame_size)
packet_bounded f c end e h = rw e at h

module _ (t w o : Bytes) where
  pub frame_answered : (e : Event) (r : Result) → r ≡ call connection_count e t w o → (v : Option Event) → v ≡ Some e → r ≡ answered_to v t w o
  unfolding answered_to
  frame_answered e r q v f = rw f q

  pub not_a_frame : (f : Option F.Frame) (b : Bytes) → f ≡ None → left 16 0 o t w ≡ answered_to (event_of f b) t w o
  unfolding answered_to refused_by
  not_a_frame f b e = rw e

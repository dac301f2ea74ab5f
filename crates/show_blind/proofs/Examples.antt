-- Two captures that differ in the bytes of a workload and of an echo, computed: their lines are alike, so they are shown by the same
-- bytes, whatever the hub's name. Assumes nothing.
use Prim.Native.Nat.{ℕ}
use mathlib.Core.Path.{◌≡◌, refl, ap}
use mathlib.Core.Bool.{true}
use mathlib.Core.List.{List, [], ◌∷◌}
use native.Mathlib.Omega.{arith}
use lib.ListN.{get_or}
use Rattle.octets.specs.Bytes.{Bytes, starts_with, first_zero}
use Rattle.hexadecimal.specs.Hex.{unhex, hex}
use Rattle.handle.specs.Handle.{is_hub_name}
use Rattle.packet.specs.Layout.{rules_of, request_shape}
use Rattle.packet.specs.Packet.{requests, header, packet}
use Rattle.packet.specs.Opaque.{has_zeros, past, hides, seen, visible, opaque}
use Rattle.server.specs.Sizes.{connection_count}
use Rattle.server.specs.Server.{start}
use Rattle.server.specs.Replay.{frame}
use Rattle.lists.proofs.Cases.{All2}
use Rattle.server_blind.proofs.Alike.{opening, sending}
use Rattle.show_line.specs.Shown.{answered_text}
use Rattle.show_blind.proofs.Captures.{nothing, alike, AlikeLines, show_blind}

-- one name that opens all that is computed
unfoldable compute : Bytes → Bytes
unfolding frame unhex hex packet visible opaque seen hides header has_zeros past rules_of request_shape starts_with first_zero
compute l = l

-- function `reverse`, an empty unique, and a workload
abbrev submission : Bytes → Bytes
submission workload = 114 ∷ 101 ∷ 118 ∷ 101 ∷ 114 ∷ 115 ∷ 101 ∷ 0 ∷ 0 ∷ workload

abbrev test : Bytes
test = 116 ∷ 101 ∷ 115 ∷ 116 ∷ []

abbrev zeros : Bytes
zeros = 0 ∷ 0 ∷ 0 ∷ 0 ∷ []

-- `0100`, SUBMIT_JOB with the workload, ECHO_REQ of it, both from connection 0, and a line that is no frame
abbrev capture : Bytes → List Bytes
capture b =
    hex (1 ∷ 0 ∷ []) ∷ hex (3 ∷ 0 ∷ packet requests.magic 7 (submission b)) ∷ hex (3 ∷ 0 ∷ packet requests.magic 16 b) ∷ (103 ∷ []) ∷ []

-- the first digit of the workload is 7 in the one and 0 in the other
captures_differ : ¬ (capture test ≡ capture zeros)
unfolding compute
captures_differ e = let q : ◌≡◌ {A = ℕ} 55 48 = ap (λ (ls : List Bytes). get_or (get_or ls 1 []) 46 0) e in omega arith

captures_alike : All2 AlikeLines (capture test) (capture zeros)
unfolding compute
captures_alike = All2.more (alike opening) (All2.more (alike (sending refl refl)) (All2.more (alike (sending refl refl)) (All2.more nothing All2.none)))

-- they are shown by the same bytes
captures_shown : (hub : Bytes) → is_hub_name hub ≡ true → answered_text (capture test) (start connection_count hub) ≡ answered_text (capture zeros) (start connection_count hub)
captures_shown hub good = show_blind hub good (capture test) (capture zeros) captures_alike

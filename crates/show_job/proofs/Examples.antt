-- Jobs that packets concern, computed by the definitions: by the packet's own handle, by the first packet sent, and none, also where the
-- handle is another hub's. Assumes nothing.
use Prim.Native.Nat.{ℕ}
use mathlib.Core.Path.{◌≡◌, refl}
use mathlib.Core.List.{List, [], ◌∷◌, ◌++◌}
use Rattle.octets.specs.Bytes.{Bytes, same, starts_with, first_zero, every, text}
use Rattle.packet.specs.Layout.{rules_of, request_shape, response_shape}
use Rattle.packet.specs.Arguments.{fits, split}
use Rattle.packet.specs.Packet.{requests, responses, header, body, read, packet}
use Rattle.std.specs.Prelude.{Option, Some, None}
use Rattle.handle.specs.Handle.{decimal, decimal_in, handle, lap, serial_of, value}
use Rattle.show_job.specs.Concerned.{concerned, handle_in, job_named, named_by}

-- one name that opens all that is computed
unfoldable compute : Bytes → Bytes → List Bytes → Option ℕ
unfolding concerned job_named named_by handle_in serial_of handle value decimal decimal_in packet read header body split fits rules_of request_shape response_shape starts_with first_zero every same
compute hub b ps = concerned hub b ps

-- `H:lap:` and a digit
abbrev job : ℕ → Bytes
job digit = 72 ∷ 58 ∷ 108 ∷ 97 ∷ 112 ∷ 58 ∷ digit ∷ []

abbrev reverse : Bytes
reverse = 114 ∷ 101 ∷ 118 ∷ 101 ∷ 114 ∷ 115 ∷ 101 ∷ []

abbrev test : Bytes
test = 116 ∷ 101 ∷ 115 ∷ 116 ∷ []

-- WORK_COMPLETE of H:lap:1, whatever is sent
work_complete : (sent : List Bytes) → concerned lap (packet requests.magic 13 (job 49 ++ (0 ∷ test))) sent ≡ Some 1
unfolding compute
work_complete sent = refl

-- SUBMIT_JOB, where JOB_CREATED H:lap:2 is sent to connection 5
submit_job : concerned lap (packet requests.magic 7 (reverse ++ (0 ∷ 0 ∷ test))) ((5 ∷ packet responses.magic 8 (job 50)) ∷ []) ≡ Some 2
unfolding compute
submit_job = refl

-- CAN_DO H:lap:3: the name of a function is no handle
can_do_lem : concerned lap (packet requests.magic 1 (job 51)) [] ≡ None
unfolding compute
can_do_lem = refl

-- WORK_COMPLETE of H:lap:1 at another hub: its handle is none there
other_hub : concerned (text "quay7") (packet requests.magic 13 (job 49 ++ (0 ∷ test))) [] ≡ None
unfolding compute
other_hub = refl

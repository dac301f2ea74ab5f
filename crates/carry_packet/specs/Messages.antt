-- Addressed packets as bytes, and the arguments of those that the server makes itself. Assumes nothing.
use Rattle.std.specs.Prelude.{ℕ, ◌+◌, ◌/◌, ◌%◌, ◌≤◌, ◌≡◌, Bool, true, cond, List, [], ◌∷◌, ◌++◌, length}
use Rattle.octets.specs.Bytes.{Bytes, big_endian}
use Rattle.packet.specs.declared.Ends.{Ends}
use Rattle.packet.specs.Layout.{is_own, request_shape, response_shape, rules_of}
use Rattle.packet.specs.Arguments.{ends_of, fit_all, join}
use Rattle.packet.specs.Packet.{got, packet, read, requests, responses}
use Rattle.handle.specs.Handle.{handle}
use Rattle.server.specs.Events.{exceptions_name, flag}
use Rattle.server.specs.Refusals.{error_text}

-- 01: "An addressed packet is one connection byte and then the packet."
unfoldable pub message : ℕ → ℕ → Bytes → Bytes
message to kind d = to ∷ packet responses.magic kind d

-- what stands before its data: the connection byte and the header, which says how long the data is
unfoldable pub heading : ℕ → ℕ → ℕ → Bytes
heading to kind size = to ∷ (responses.magic ++ (big_endian kind ++ big_endian size))

-- an argument and the zero byte after it
abbrev pub ended : Bytes → Bytes
ended a = a ++ (0 ∷ [])

-- the arguments are those that a response of this type asks for, and not too much data
pub record Sendable (kind : ℕ) (as' : List Bytes) : Type 0 where
  pub own : is_own (response_shape kind) ≡ true
  pub fit : fit_all (rules_of (response_shape kind)) as' ≡ true
  pub limited : length (join as') ≤ 1088

-- the packet was read as a request with these ends, and a response of this type has the shape of that request
pub record Forwards (p : Bytes) (ends : Ends) (kind : ℕ) : Type 0 where
  pub from : ℕ
  pub arguments : List Bytes
  pub reads : read requests p ≡ got from arguments
  pub marked : ends ≡ ends_of 12 arguments
  pub alike : response_shape kind ≡ request_shape from

-- ---- the arguments of the packets that the server makes itself

-- 01: "the number as two decimal digits, a zero byte, the text"
unfoldable pub error_arguments : ℕ → List Bytes
error_arguments n = ((n / 10 + 48) ∷ (n % 10 + 48) ∷ []) ∷ error_text n ∷ []

-- 8 JOB_CREATED and 14 WORK_FAIL, from the hub of this name
unfoldable pub handle_arguments : Bytes → ℕ → List Bytes
handle_arguments hub serial = handle hub serial ∷ []

-- 20 STATUS_RES
unfoldable pub status_arguments : Bytes → Bool → Bool → Bytes → Bytes → List Bytes
status_arguments h known running n d = h ∷ flag known ∷ flag running ∷ n ∷ d ∷ []

-- 11 JOB_ASSIGN and 31 JOB_ASSIGN_UNIQ
unfoldable pub assign_arguments : Bytes → Bool → ℕ → Bytes → Bytes → Bytes → List Bytes
assign_arguments hub uniq serial f u w = handle hub serial ∷ f ∷ cond uniq (u ∷ w ∷ []) (w ∷ [])

-- 27 OPTION_RES: the one option there is
unfoldable pub option_arguments : List Bytes
option_arguments = exceptions_name ∷ []

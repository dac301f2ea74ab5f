-- What a packet asks, by its type: submissions and options have types of their own. Assumes nothing.
use Prim.Native.Nat.{ℕ}
use mathlib.Core.Path.{◌≡◌, refl, ap, ◌∙◌, subst, sym}
use mathlib.Core.Bool.{Bool, true, false}
use mathlib.Core.List.{[]}
use lib.ListN.{get_or}
use lib.Dec.{eqb}
use Rattle.octets.specs.Bytes.{Bytes}
use Rattle.packet.specs.Layout.{is_own, request_shape}
use Rattle.packet.specs.Packet.{Reading, refused, got, read, requests}
use Rattle.packet_laws.proofs.Packets.{read_got}
use Rattle.lists.proofs.Rows.{clash}
use Rattle.server.specs.Requests.{Request, reset, pre_sleep, echo, can_do, cant_do, identify, grab, submit, work, get_status, option, requested, from_reading, request_in}
use Rattle.server.specs.Requests as R
use Rattle.demands.specs.Conditions.{type_of, is_submission}
use Rattle.demands.proofs.Unmasked.{request_read}
use Rattle.demands.proofs.Numbers.{Asks, asks_at}

-- a submission, an option, or something else
pub data Sort : Type 0 where
  submission : Sort
  an_option : Sort
  other : Sort

abbrev pub sort_of : Request → Sort
sort_of (submit priority background f u size) = submission
sort_of (option name) = an_option
sort_of (R.bad n) = other
sort_of reset = other
sort_of pre_sleep = other
sort_of echo = other
sort_of (can_do f) = other
sort_of (cant_do f) = other
sort_of (identify i) = other
sort_of (grab uniq) = other
sort_of (work how kind h n d) = other
sort_of (get_status h) = other

abbrev pub is_submit_sort : Sort → Bool
is_submit_sort submission = true
is_submit_sort an_option = false
is_submit_sort other = false

abbrev pub is_option_sort : Sort → Bool
is_option_sort submission = false
is_option_sort an_option = true
is_option_sort other = false

abbrev pub is_submit : Request → Bool
is_submit a = is_submit_sort (sort_of a)

abbrev pub is_option : Request → Bool
is_option a = is_option_sort (sort_of a)

-- the type is a submission's, or OPTION_REQ's, exactly if that is asked
pub record Sorted (kind : ℕ) (a : Request) : Type 0 where
  pub submits : is_submission kind ≡ is_submit a
  pub sets : eqb kind 26 ≡ is_option a

-- of a type that is served
pub asks_sorted : (kind : ℕ) (a b c : Bytes) → is_own (request_shape kind) ≡ true → Sorted kind (requested kind a b c)
asks_sorted kind a b c o = by (requested kind a b c) (asks_at kind a b c)
  where
    by : (q : Request) → Asks a b kind (request_shape kind) q → Sorted kind q
    by (R.bad n) h = clash o h
    by (submit priority background f u size) h = record { submits = h.0.is_new; sets = h.0.is_option }
    by (option name) h = record { submits = h.0.is_new; sets = h.0.is_option }
    by (can_do f) h = record { submits = h.0.is_new; sets = h.0.is_option }
    by (work how k x n d) h = record { submits = h.0.is_new; sets = h.0.is_option }
    by reset h = record { submits = h.is_new; sets = h.is_option }
    by pre_sleep h = record { submits = h.is_new; sets = h.is_option }
    by echo h = record { submits = h.is_new; sets = h.is_option }
    by (cant_do f) h = record { submits = h.is_new; sets = h.is_option }
    by (identify i) h = record { submits = h.is_new; sets = h.is_option }
    by (grab uniq) h = record { submits = h.is_new; sets = h.is_option }
    by (get_status x) h = record { submits = h.is_new; sets = h.is_option }

-- of a packet: it could not be read, or its type says what is asked
pub data Typed (b : Bytes) : Type 0 where
  unread : (n : ℕ) → request_in b ≡ R.bad n → Typed b
  typed : Sorted (type_of b) (request_in b) → Typed b

pub packet_typed : (b : Bytes) → Typed b
packet_typed b = by (read requests b) refl
  where
    by : (r : Reading) → read requests b ≡ r → Typed b
    by (refused n) e = unread n (request_read b ∙ ap from_reading e)
    by (got kind args) e =
        let g = read_got requests b kind args e in
        let s : Sorted kind (request_in b) = subst (Sorted kind) (sym (request_read b ∙ ap from_reading e)) (asks_sorted kind (get_or args 0 []) (get_or args 1 []) (get_or args 2 []) g.own) in
        typed (rw g.typed s)

-- Histories to compute: how to write an event, and what a history answers. Assumes nothing.
use Prim.Native.Nat.{ℕ}
use mathlib.Core.List.{List, ◌∷◌, map}
use Rattle.octets.specs.Bytes.{Bytes, same, starts_with, first_zero, every}
use Rattle.sets.specs.Sets.{has, insert, remove, members}
use Rattle.handle.specs.Handle.{handle, decimal, decimal_in, lap}
use Rattle.packet.specs.Layout.{rules_of, request_shape, response_shape, priority_of, background_of}
use Rattle.packet.specs.Arguments.{fits, fit_all, join, split}
use Rattle.packet.specs.Packet.{packet, header, body, read, requests, responses}
use Rattle.packet.specs.Opaque.{has_zeros, past, hides, seen, visible, opaque, masked}
use Rattle.server.specs.Sizes.{connection_count}
use Rattle.server.specs.Table.{Table, fresh, has_handle, rank, best_row, free_row, joined}
use Rattle.server.specs.Requests.{Event, sends, requested, request_in}
use Rattle.server.specs.Refusals.{is_told}
use Rattle.server.specs.Events.{silence, refuse, dropped, woken_in, to_wake_in, forgot, settle, opening, closing, can_do_at, cant_do_at, unable_to_all, sleeping, grab_at, submit_new, submit_to, holds_handle, to_listeners, work_at, status_at, option_if, served, only_if_open, only_if_closed}
use Rattle.server.specs.Server.{Server, Answer, Sent, addressed, shown_by, opaque_of, render, decided, next, answer, start, after, answers}

-- a request with these arguments, from connection c
unfoldable pub request : ℕ → ℕ → List Bytes → Event
unfolding packet join
request c kind as' = sends c (packet requests.magic kind (join as'))

-- the addressed packet of a response
unfoldable pub response : ℕ → ℕ → List Bytes → Bytes
unfolding packet join
response c kind as' = c ∷ packet responses.magic kind (join as')

-- what a history of a fresh server of the product answers: the number of each event, and the packets
abbrev number_of : Answer → ℕ
number_of a = a.number

abbrev sent_of : Answer → List Sent
sent_of a = a.sent

-- from any server on: the answers, and the server afterwards
unfoldable pub ran_from : Server → List Event → List Answer × Server
unfolding same starts_with first_zero every has insert remove members handle decimal decimal_in rules_of request_shape response_shape priority_of background_of fits fit_all join split packet header body read has_zeros past hides seen visible opaque masked has_handle rank best_row free_row joined requested request_in is_told silence refuse dropped woken_in to_wake_in forgot settle opening closing can_do_at cant_do_at unable_to_all sleeping grab_at submit_new submit_to holds_handle to_listeners work_at status_at option_if served only_if_open only_if_closed shown_by opaque_of render decided next answer after answers
ran_from s h = (answers s h, after s h)

unfoldable pub answered_from : Server → List Event → List Answer
unfolding ran_from
answered_from s h = (ran_from s h).0

-- the table that a history of a fresh server of the product leaves
unfoldable pub table_after : List Event → Table
unfolding ran_from fresh start
table_after h = (ran_from (start connection_count lap) h).1.table

-- the hub of a name, and document 01's
unfoldable pub answered_at : Bytes → List Event → List Answer
unfolding answered_from fresh start
answered_at hub h = answered_from (start connection_count hub) h

unfoldable pub answered : List Event → List Answer
unfolding answered_at
answered h = answered_at lap h

unfoldable pub numbers_of : Bytes → List Event → List ℕ
unfolding answered_at
numbers_of hub h = map number_of (answered_at hub h)

unfoldable pub packets_of : Bytes → List Event → List (List Bytes)
unfolding answered_at packet
packets_of hub h = map (λ a. map addressed (sent_of a)) (answered_at hub h)

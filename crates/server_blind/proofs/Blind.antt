-- Demand 3, its first sentence: two histories that differ in opaque bytes alone have the same numbers, and packets with the same
-- addresses, types, lengths and other bytes, and the same tables. For any number of connections. Assumes nothing.
use Prim.Native.Nat.{ℕ}
use mathlib.Core.Path.{◌≡◌, refl, ap}
use Rattle.octets.specs.Bytes.{Bytes}
use mathlib.Core.List.{List, [], ◌∷◌, map}
use Rattle.server.specs.Requests.{Event}
use Rattle.server.specs.Events.{Send, Decision}
use Rattle.server.specs.Server.{Server, render, decided, next, answer, start, after, answers}
use Rattle.lists.proofs.Cases.{All2}
use Rattle.server_blind.proofs.Alike.{Alike, Like, Agree, decided_alike, like_render}

-- ---- one event, at two servers with equal tables

module _ {e f : Event} (a : Alike e f) (s r : Server) (q : s.table ≡ r.table) where
  pub decided_same : decided e s ≡ decided f r
  decided_same = decided_alike a s r q

  like_renders : (xs : List Send) → All2 Like (map (render e s) xs) (map (render f r) xs)
  like_renders [] = All2.none
  like_renders (x ∷ xs) = All2.more (like_render a s r q x) (like_renders xs)

  pub answer_alike : Agree (answer e s) (answer f r)
  unfolding answer
  answer_alike = record {
    number = ap (λ (d : Decision). d.number) decided_same;
    sent = rw decided_same (like_renders (decided f r).packets);
  }

  pub table_alike : (next e s).table ≡ (next f r).table
  unfolding next
  table_alike = ap (λ (d : Decision). d.table) decided_same

-- ---- histories

pub agree_from : {h k : List Event} → All2 Alike h k → (s r : Server) → s.table ≡ r.table → All2 Agree (answers s h) (answers r k)
unfolding answers
agree_from All2.none s r q = All2.none
agree_from (All2.more {a = e} {b = f} a rest) s r q = All2.more (answer_alike a s r q) (agree_from rest (next e s) (next f r) (table_alike a s r q))

pub tables_from : {h k : List Event} → All2 Alike h k → (s r : Server) → s.table ≡ r.table → (after s h).table ≡ (after r k).table
unfolding after
tables_from All2.none s r q = q
tables_from (All2.more {a = e} {b = f} a rest) s r q = tables_from rest (next e s) (next f r) (table_alike a s r q)

-- from a fresh table for n connections on; 02: "Demand 3 takes the names as equal"
pub blind : (n : ℕ) (hub : Bytes) {h k : List Event} → All2 Alike h k
    → All2 Agree (answers (start n hub) h) (answers (start n hub) k) × ((after (start n hub) h).table ≡ (after (start n hub) k).table)
blind n hub rest = (agree_from rest (start n hub) (start n hub) refl, tables_from rest (start n hub) (start n hub) refl)

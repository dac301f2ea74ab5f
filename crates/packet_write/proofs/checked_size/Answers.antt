-- `packet_write::checked_size` meets its contract: each test is the definition's, in its order. A length above the limit stays above it
-- when it is capped. Assumes nothing.
use Prim.Native.Nat.{◌+◌, ◌<◌, ◌≤◌}
use native.Mathlib.Omega.{arith}
use borrow.Author.Rules.{rules}
use Rattle.packet.specs.Packet.{direction_of}
use Rattle.packet.proofs.Sides.{side_most}
use Rattle.packet_write.proofs.Refusals.{foreign, unfit, too_much, too_short, no_refusal}
use Rattle.packet_write.proofs.checked_size.Goals as goal

pub returns-then-not-is_own : goal.returns-then-not-is_own
returns-then-not-is_own c = search (rules, foreign)

pub returns-then-not-fit_all : goal.returns-then-not-fit_all
returns-then-not-fit_all c = search (rules, unfit)

pub returns-then-most-size : goal.returns-then-most-size
returns-then-most-size c =
    let h : (direction_of c.args.side).most < c.joined_length-size.result = omega arith in
    search (rules, too_much, side_most)

pub returns-then-room-size : goal.returns-then-room-size
returns-then-room-size c =
    let h : c.joined_length-size.result ≤ (direction_of c.args.side).most = omega arith in
    let k : c.args.room < 12 + c.joined_length-size.result = omega arith in
    search (rules, too_short, side_most)

pub returns : goal.returns
returns c =
    let h : c.joined_length-size.result ≤ (direction_of c.args.side).most = omega arith in
    let k : 12 + c.joined_length-size.result ≤ c.args.room = omega arith in
    search (rules, no_refusal, side_most)

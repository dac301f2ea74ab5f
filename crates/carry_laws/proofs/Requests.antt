-- The words of a request are its arguments, whatever its type. Assumes nothing.
use Prim.Native.Nat.{ℕ, zero, suc}
use mathlib.Core.List.{List, []}
use native.Mathlib.Omega.{arith}
use lib.ListN.{get_or}
use Rattle.octets.specs.Bytes.{Bytes}
use Rattle.lists.proofs.Cases.{All}
use Rattle.server.specs.Requests.{bad, requested}
use Rattle.plan_laws.proofs.Decides.{Words, that_tells, that_reports, that_ends, that_throws, Suits, for_reset, for_sleep, for_echo, for_bad, for_can, for_cannot, for_id, for_grab, for_submit, for_work, for_status, for_option}

-- what the code passes on for a request of this type with these arguments
abbrev pub words_given : ℕ → Bytes → Bytes → Bytes → Words
words_given kind x y z = record { first = x; second = y; third = z; kind = kind; job = x }

-- what holds of each entry of a table, and beyond it, holds at every place
each_at : {A : Type 0} {P : A → Type 0} {l : List A} (d : A) → P d → All P l → (i : ℕ) → P (get_or l i d)
each_at d p All.none i = p
each_at d p (All.more q qs) zero = q
each_at d p (All.more q qs) (suc i) = each_at d p qs i

module _ (kind : ℕ) (x y z : Bytes) where
  unserved : Suits (words_given kind x y z) (bad 9)
  unserved = for_bad 9 (omega arith) (omega arith)

  -- by the table of types
  pub request_suits : Suits (words_given kind x y z) (requested kind x y z)
  unfolding requested
  request_suits =
      each_at {P = Suits (words_given kind x y z)} (bad 9) unserved
      (All.more unserved (All.more for_can (All.more (for_cannot x) (All.more for_reset (All.more for_sleep  -- 0 to 4
      (All.more unserved (All.more unserved (All.more (for_submit _ _ _) (All.more unserved (All.more (for_grab _)  -- 5 to 9
      (All.more unserved (All.more unserved (All.more (for_work x that_reports) (All.more (for_work x (that_ends [] [])) (All.more (for_work x (that_ends [] []))  -- 10 to 14
      (All.more for_status (All.more for_echo (All.more unserved (All.more (for_submit _ _ _) (All.more unserved  -- 15 to 19
      (All.more unserved (All.more (for_submit _ _ _) (All.more for_id (All.more unserved (All.more unserved  -- 20 to 24
      (All.more (for_work x (that_throws [] [])) (All.more (for_option x) (All.more unserved (All.more (for_work x (that_tells [] [])) (All.more (for_work x (that_tells [] []))  -- 25 to 29
      (All.more (for_grab _) (All.more unserved (All.more (for_submit _ _ _) (All.more (for_submit _ _ _) (All.more (for_submit _ _ _) All.none)))))))))))))))))))))))))))))))))))
      kind

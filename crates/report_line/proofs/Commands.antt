-- As much of a command as is looked at is answered as all of it, since what is longer than each command is none; and its line, laid and read
-- back. Assumes nothing.
use Prim.Native.Nat.{ℕ, ◌+◌, ◌<◌, ◌≤◌}
use mathlib.Core.Path.{◌≡◌, refl, sym, ap, ◌∙◌}
use mathlib.Core.Bool.{Bool, true, false}
use mathlib.Core.List.{◌++◌}
use native.Mathlib.Nat.{zero-add}
use native.Mathlib.Omega.{arith}
use borrow.Author.Tests.{leb-true, leb-false}
use lib.Dec.{leb}
use lib.ListN.{length, take, length-append}
use lib.Seq.{take_all, length-take-le}
use Rattle.octets.specs.Bytes.{Bytes}
use Rattle.octets.specs.Put.{put}
use Rattle.octets.proofs.Laying.{length_put}
use Rattle.octets.proofs.Runs.{laid_as, laid_then}
use Rattle.server.specs.Table.{Table}
use Rattle.command.specs.Texts.{line_feed}
use Rattle.command_laws.proofs.Lines.{long_told}
use Rattle.capture.proofs.Texts.{laid_start}
use Rattle.report_line.specs.Reported.{answer_to, command_line, command_size}

-- nothing is cut off, or n bytes are left; with a line feed no command has more than nine
module _ (n : ℕ) (command : Bytes) where
  pub cut_length : length (take n command) ≤ n
  cut_length = go (leb (length command) n) refl
    where
      go : (b : Bool) → leb (length command) n ≡ b → length (take n command) ≤ n
      go true e = rw (take_all n command (leb-true (length command) n e)) (leb-true (length command) n e)
      go false e = let l : n < length command = leb-false (length command) n e in omega (arith, length-take-le n command (omega arith))

  pub cut_command : 9 ≤ n → (t : Table) → answer_to (take n command) t ≡ answer_to command t
  cut_command h t = go (leb (length command) n) refl
    where
      go : (b : Bool) → leb (length command) n ≡ b → answer_to (take n command) t ≡ answer_to command t
      go true e = ap (λ (c : Bytes). answer_to c t) (take_all n command (leb-true (length command) n e))
      go false e =
          let l : n < length command = leb-false (length command) n e in
          long_told (take n command ++ line_feed) t (omega (arith, length-append (take n command) line_feed, length-take-le n command (omega arith)))
          ∙ sym (long_told (command ++ line_feed) t (omega (arith, length-append command line_feed)))

-- ---- the command's line, laid over z

module _ (held command : Bytes) (q : held ≡ take command_size command) where
  pub held_room : (n : ℕ) → command_size < n → 0 + length held ≤ n
  held_room n h = omega (arith, ap length q, cut_length command_size command)

  module _ (z : Bytes) where
    pub feed_room : command_size < length z → (end : ℕ) (y : Bytes) → (end ≡ 0 + length held) × (y ≡ put 0 held z) → end + length line_feed ≤ length y
    feed_room h end y e = omega (arith, e.0, ap length e.1 ∙ length_put 0 held z, ap length q, cut_length command_size command)

    pub line_laid : (end : ℕ) (y : Bytes) → (end ≡ 0 + length held) × (y ≡ put 0 held z) → (r : ℕ) (v : Bytes) → (r ≡ end + length line_feed) × (v ≡ put end line_feed y)
        → (r ≡ 0 + length (command_line command)) × (v ≡ put 0 (command_line command) z)
    unfolding command_line
    line_laid end y e r v f = laid_then 0 (take command_size command) line_feed z end y (laid_as held (take command_size command) q 0 end y z e) r v f

-- and read back
module _ (command z : Bytes) (h : command_size < length z) (y : Bytes) (end : ℕ) (p : (end ≡ 0 + length (command_line command)) × (y ≡ put 0 (command_line command) z)) where
  pub line_back : take end y ≡ command_line command
  unfolding command_line
  line_back =
      rw (p.0, zero-add, p.1)
      (laid_start (command_line command) z (omega (arith, length-append (take command_size command) line_feed, cut_length command_size command)))

  pub line_counted : end ≡ length (take end y)
  line_counted = p.0 ∙ zero-add (length (command_line command)) ∙ sym (ap length line_back)

-- Which line is answered by what: the three commands with a line feed, or a carriage return and a line feed, behind them; every other line by
-- `ERR unknown`, so one of more than nine bytes and one that does not end with a line feed. 02, ask 1. Assumes nothing.
use Prim.Native.Nat.{◌-◌, ◌<◌}
use mathlib.Core.Path.{◌≡◌, refl}
use mathlib.Core.Bool.{Bool, true, false, cond, ◌||◌}
use mathlib.Core.List.{[], ◌∷◌, ◌++◌}
use native.Mathlib.Omega.{arith}
use lib.ListN.{length, get_or}
use Rattle.octets.specs.Bytes.{Bytes, same, text}
use Rattle.octets.proofs.Strings.{same_is, same_lengths}
use Rattle.lists.proofs.Rows.{clash, never}
use Rattle.server.specs.Table.{Table}
use Rattle.command.specs.Texts.{line_feed, says, status_text, text_for, workers_text}

abbrev pub carriage_return : Bytes
carriage_return = 13 ∷ []

abbrev pub version_text : Bytes
version_text = text "lap 1" ++ line_feed

abbrev pub unknown_text : Bytes
unknown_text = text "ERR unknown" ++ line_feed

-- ---- the commands

module _ (t : Table) where
  pub status_told : text_for (text "status" ++ line_feed) t ≡ status_text t
  unfolding text_for says same
  status_told = refl

  pub status_told_return : text_for (text "status" ++ (carriage_return ++ line_feed)) t ≡ status_text t
  unfolding text_for says same
  status_told_return = refl

  pub workers_told : text_for (text "workers" ++ line_feed) t ≡ workers_text t
  unfolding text_for says same
  workers_told = refl

  pub workers_told_return : text_for (text "workers" ++ (carriage_return ++ line_feed)) t ≡ workers_text t
  unfolding text_for says same
  workers_told_return = refl

  pub version_told : text_for (text "version" ++ line_feed) t ≡ version_text
  unfolding text_for says same
  version_told = refl

  pub version_told_return : text_for (text "version" ++ (carriage_return ++ line_feed)) t ≡ version_text
  unfolding text_for says same
  version_told_return = refl

-- ---- every other line

-- the line is one of the three commands
abbrev pub is_command : Bytes → Bool
is_command line = says (text "status") line || (says (text "workers") line || says (text "version") line)

module _ (line : Bytes) (t : Table) where
  pub unknown_told : is_command line ≡ false → text_for line t ≡ unknown_text
  unfolding text_for
  unknown_told e = go (says (text "status") line) (says (text "workers") line) (says (text "version") line) e
    where
      go : (a b c : Bool) → a || (b || c) ≡ false → cond a (status_text t) (cond b (workers_text t) (cond c version_text unknown_text)) ≡ unknown_text
      go true b c h = clash refl h
      go false true c h = clash refl h
      go false false true h = clash refl h
      go false false false h = refl

  -- a command has at most nine bytes: no line of more needs a test of its own. 02: "lines of up to 128 bytes"
  pub long_told : 9 < length line → text_for line t ≡ unknown_text
  unfolding says
  long_told h =
      unknown_told
      (rw (
        same_lengths line (text "status" ++ line_feed) (λ e. omega arith),
        same_lengths line (text "status" ++ (carriage_return ++ line_feed)) (λ e. omega arith),
        same_lengths line (text "workers" ++ line_feed) (λ e. omega arith),
        same_lengths line (text "workers" ++ (carriage_return ++ line_feed)) (λ e. omega arith),
        same_lengths line (text "version" ++ line_feed) (λ e. omega arith),
        same_lengths line (text "version" ++ (carriage_return ++ line_feed)) (λ e. omega arith),
      ))

  -- 02: "with no line feed included"
  pub unended_told : (get_or line (length line - 1) 0 ≡ 10 → ⊥) → text_for line t ≡ unknown_text
  unfolding says
  unended_told n =
      let other : (s : Bytes) → get_or s (length s - 1) 0 ≡ 10 → same line s ≡ false = λ s e. never (same line s) (λ q. n (rw (same_is line s q) e)) in
      unknown_told
      (rw (
        other (text "status" ++ line_feed) refl,
        other (text "status" ++ (carriage_return ++ line_feed)) refl,
        other (text "workers" ++ line_feed) refl,
        other (text "workers" ++ (carriage_return ++ line_feed)) refl,
        other (text "version" ++ line_feed) refl,
        other (text "version" ++ (carriage_return ++ line_feed)) refl,
      ))

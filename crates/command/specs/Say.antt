-- The text entry as one function of the lent bytes: number, length, output, table, workloads. 02, ask 1, "on a separate entry". It is no
-- event: it changes nothing. Assumes nothing.
use Rattle.std.specs.Prelude.{ℕ, not, cond, ◌||◌, ◌∷◌, length}
use Rattle.octets.specs.Bytes.{Bytes}
use Rattle.octets.specs.Put.{put}
use Rattle.server.specs.Rules.{is_open}
use Rattle.server.specs.Events.{is_connection}
use Rattle.server.specs.Layout.{table_of}
use Rattle.server.specs.Call.{Result, left, too_short, is_sound, refused_by}
use Rattle.command.specs.Texts.{text_for}

-- 02: "The output holds the connection byte and one text."
unfoldable pub told : ℕ → Bytes → Bytes → Bytes → Bytes → Result
told c said t w o = left 0 (length (c ∷ said)) (put 0 (c ∷ said) o) t w

-- 02: "Refusals 1 to 3 hold here too."
unfoldable pub say : ℕ → ℕ → Bytes → Bytes → Bytes → Bytes → Result
say n c line t w o =
    cond (too_short n t w o || not (is_sound n t)) (refused_by 1 t w o)
    (cond (not (is_connection (table_of n t) c)) (refused_by 2 t w o)
    (cond (not (is_open (table_of n t) c)) (refused_by 3 t w o)
    (told c (text_for line (table_of n t)) t w o)))

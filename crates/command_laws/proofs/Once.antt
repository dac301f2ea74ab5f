-- No second outcome: what the text entry answers and leaves is a function of the connection, the line and the lent bytes; and the text is
-- one of the line and the table alone. Assumes nothing.
use Prim.Native.Nat.{ℕ}
use mathlib.Core.Path.{◌≡◌, sym, ◌∙◌}
use Rattle.octets.specs.Bytes.{Bytes}
use Rattle.server.specs.Call.{Result}
use Rattle.command.specs.Say.{say}

pub say_once : (n c : ℕ) (line t w o : Bytes) (r q : Result) → r ≡ say n c line t w o → q ≡ say n c line t w o → r ≡ q
say_once n c line t w o r q p g = p ∙ sym g

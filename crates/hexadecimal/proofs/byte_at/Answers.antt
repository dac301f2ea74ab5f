-- `hexadecimal::byte_at` meets its contract: both of its bytes are digits, and the byte is the pair's. Assumes nothing.
use Prim.Native.Nat.{◌+◌, ◌*◌}
use mathlib.Core.Path.{sym, ap, ◌∙◌}
use native.Mathlib.Omega.{arith}
use Rattle.std.specs.Option.{unwrap_or}
use Rattle.hexadecimal.proofs.Reading.{digit_found, pairs_at}
use Rattle.hexadecimal.proofs.byte_at.Goals as goal

pub returns : goal.returns
returns c =
    let d = c.args.digits.now in
    let h = c.unwrap_or-high.ensures ∙ ap (λ v. unwrap_or v 0) (digit_found d (2 * c.args.i) c.requires.1 (omega arith) _ c.digit_value.ensures) in
    let l = c.unwrap_or-low.ensures ∙ ap (λ v. unwrap_or v 0) (digit_found d (2 * c.args.i + 1) c.requires.1 (omega arith) _ c.digit_value-2.ensures) in
    c.pair_value.ensures ∙ rw (h, l) (sym (pairs_at d c.args.i c.requires.0))

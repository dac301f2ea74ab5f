-- The zeros behind a name, byte by byte, and with them the rules of the hub's name. Assumes nothing.
use Prim.Native.Nat.{ℕ, ◌+◌, ◌-◌, ◌≤◌}
use mathlib.Core.Path.{◌≡◌, sym, ap, ◌∙◌}
use mathlib.Core.Bool.{Bool, true, false}
use mathlib.Core.List.{◌++◌}
use native.Mathlib.Omega.{arith}
use lib.ListN.{length, drop}
use lib.Seq.{drop_at, length-take-le}
use Rattle.octets.specs.Bytes.{Bytes, first_zero, every}
use Rattle.octets.proofs.Strings.{zero_le_length}
use Rattle.lists.specs.Lists.{all, numbers}
use Rattle.handle.specs.Handle.{is_hub_name}
use Rattle.server.specs.Sizes.{connection_count, hub_size}
use Rattle.server.specs.Layout.{text_at, table_of, table_size, hub_at}
use Rattle.table_laws.specs.Tests.{part, is_zero, is_padded}
use Rattle.table_laws.proofs.Same.{part_add, length_part}
use Rattle.check_image.specs.Padded.{zero_at}
use Rattle.check_image.proofs.Places.{every_each}
use Rattle.check_hub.specs.Hub.{hub_rules}

-- a text is as long as its place has bytes before the first zero
length_text : (k : ℕ) (b : Bytes) (at : ℕ) → length (text_at k b at) ≡ first_zero (part k b at)
unfolding text_at
length_text k b at = length-take-le (first_zero (part k b at)) (part k b at) (zero_le_length (part k b at))

pub text_inside : (k : ℕ) (b : Bytes) (at : ℕ) → at + k ≤ length b → length (text_at k b at) ≤ k
text_inside k b at h = omega (arith, length_text k b at, zero_le_length (part k b at), length_part k b at h)

-- the bytes of a place behind its text
padded_behind : (k : ℕ) (b : Bytes) (at : ℕ) → at + k ≤ length b → let z = length (text_at k b at) in
    is_padded k b at ≡ all (zero_at b (at + z)) (numbers 0 (k - z))
unfolding is_padded
padded_behind k b at h =
    let z = length (text_at k b at) in
    let l = text_inside k b at h in
    let both : z + (k - z) ≡ k = omega arith in
    let cut : part k b at ≡ part z b at ++ part (k - z) b (at + z) = ap (λ (i : ℕ). part i b at) (sym both) ∙ part_add z (k - z) b at in
    let behind : drop z (part k b at) ≡ part (k - z) b (at + z) = ap (drop z) cut ∙ drop_at (part z b at) (part (k - z) b (at + z)) z (length_part z b at (omega arith)) in
    ap (λ (i : ℕ). every is_zero (drop i (part k b at))) (sym (length_text k b at)) ∙ ap (every is_zero) behind ∙ every_each is_zero (k - z) b (at + z) (omega arith)

module _ (b : Bytes) (long : table_size connection_count ≤ length b) (name : Bytes) (is : name ≡ (table_of connection_count b).hub) where
  is_text : name ≡ text_at hub_size b hub_at
  unfolding table_of
  is_text = is

  pub name_inside : length name ≤ hub_size
  name_inside = omega (arith, ap length is_text, text_inside hub_size b hub_at (omega arith))

  slack : (z : Bool) → z ≡ all (zero_at b (hub_at + length name)) (numbers 0 (hub_size - length name)) → z ≡ is_padded hub_size b hub_at
  slack z e = e ∙ sym (padded_behind hub_size b hub_at (omega arith) ∙ ap (λ (s : Bytes). all (zero_at b (hub_at + length s)) (numbers 0 (hub_size - length s))) (sym is_text))

  pub slack_bad : (z : Bool) → z ≡ all (zero_at b (hub_at + length name)) (numbers 0 (hub_size - length name)) → z ≡ false → false ≡ hub_rules b
  unfolding hub_rules
  slack_bad z e q = rw (sym (slack z e) ∙ q)

  pub name_decides : (z r : Bool) → z ≡ all (zero_at b (hub_at + length name)) (numbers 0 (hub_size - length name)) → z ≡ true → r ≡ is_hub_name name → r ≡ hub_rules b
  unfolding hub_rules
  name_decides z r e q f = rw (sym (slack z e) ∙ q) (f ∙ ap is_hub_name is)

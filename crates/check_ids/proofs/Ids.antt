-- Ids in groups of eight: zeros throughout hold, and so do places whose bytes are each followed by a zero where one ends a text. All of them
-- are the rules of ids. Assumes nothing.
use Prim.Native.Nat.{ℕ, suc, ◌+◌, ◌-◌, ◌*◌, ◌<◌, ◌≤◌}
use mathlib.Core.Path.{◌≡◌, refl, sym, ap, ap₂, ◌∙◌}
use mathlib.Core.Bool.{Bool, true, ◌&&◌, ◌||◌}
use mathlib.Core.List.{[]}
use native.Mathlib.Omega.{arith}
use lib.ListN.{length, get_or}
use lib.Dec.{eqb}
use Rattle.octets.specs.Bytes.{Bytes, same}
use Rattle.octets.proofs.Strings.{and_both}
use Rattle.lists.specs.Lists.{all, numbers}
use Rattle.server.specs.declared.Connection.{Connection}
use Rattle.server.specs.Sizes.{connection_count, id_size}
use Rattle.server.specs.Layout.{table_of, opened_at, ids_at, table_size}
use Rattle.server.specs.Rules.{id_open}
use Rattle.table_laws.specs.Tests.{is_padded, are_padded}
use Rattle.lists.proofs.Rows.{below_at, below_by}
use Rattle.table_passes.proofs.Tests.{or_right, and_same, same_below, all_and, all_shift}
use Rattle.table_passes.proofs.Rows.{connections_length, connection_at_lem, id_at_lem}
use Rattle.check_image.specs.Padded.{zero_at, is_followed, last_or_followed}
use Rattle.check_image.proofs.Places.{empty_text, padded_each, empty_each}
use Rattle.check_ids.specs.Ids.{id_rules, open_or_none, id_holds, last_before}

-- a place, from the byte before it on
before_of_64 : (last b : Bytes) (at : ℕ) → last ≡ last_before → at + 64 < length b → all (last_or_followed last b at) (numbers 0 64) ≡ is_padded id_size b (suc at)
before_of_64 last b at e h =
    ap (λ (m : Bytes). all (last_or_followed m b at) (numbers 0 64)) e
    ∙ all_shift (λ k. is_followed b (at + k)) 1 0 63
    ∙ same_below (λ k. is_followed b (at + (1 + k))) (λ k. is_followed b (suc at + k)) 63 (λ k _. let m : at + (1 + k) ≡ suc at + k = omega arith in ap (is_followed b) m)
    ∙ sym (padded_each 63 b (suc at) (omega arith))

module _ (b : Bytes) (long : table_size connection_count ≤ length b) (c : ℕ) (h : c + 8 ≤ connection_count) where
  abbrev at : ℕ
  at = ids_at connection_count + id_size * c

  -- eight places of zeros
  pub zeros_hold : all (zero_at b at) (numbers 0 512) ≡ true → true ≡ all (λ i. id_holds b (c + i)) (numbers 0 8)
  zeros_hold z = sym (below_by (λ i. id_holds b (c + i)) 8 one)
    where
      is_zero : (i j : ℕ) → i < 8 → j < 64 → zero_at b (ids_at connection_count + id_size * (c + i)) j ≡ true
      is_zero i j g k =
          let m : at + (64 * i + j) ≡ ids_at connection_count + id_size * (c + i) + j = omega arith in
          ap (λ (x : ℕ). eqb (get_or b x 0) 0) (sym m) ∙ below_at (zero_at b at) 512 (64 * i + j) z (omega arith)

      first : (i : ℕ) → i < 8 → eqb (get_or b (ids_at connection_count + id_size * (c + i)) 0) 0 ≡ true
      first i g = let m : ids_at connection_count + id_size * (c + i) + 0 ≡ ids_at connection_count + id_size * (c + i) = omega arith in
          ap (λ (x : ℕ). eqb (get_or b x 0) 0) (sym m) ∙ is_zero i 0 g (omega arith)

      one : (i : ℕ) → i < 8 → id_holds b (c + i) ≡ true
      one i g =
          and_both (is_padded id_size b (ids_at connection_count + id_size * (c + i))) (open_or_none b (c + i))
          (empty_each 63 b (ids_at connection_count + id_size * (c + i)) (omega arith) (first i g)
          ∙ below_by (zero_at b (ids_at connection_count + id_size * (c + i))) 64 (λ j k. is_zero i j g k))
          (or_right (eqb (get_or b (opened_at connection_count + (c + i)) 0) 1) _ (first i g))

  -- eight places, byte by byte
  pub followed_hold : (last : Bytes) (p q : Bool) → last ≡ last_before
      → p ≡ all (λ i. all (last_or_followed last b (at - 1 + 64 * i)) (numbers 0 64)) (numbers 0 8) → q ≡ all (λ i. open_or_none b (c + i)) (numbers 0 8)
      → p && q ≡ all (λ i. id_holds b (c + i)) (numbers 0 8)
  followed_hold last p q e f g =
      and_same (f ∙ same_below (λ i. all (last_or_followed last b (at - 1 + 64 * i)) (numbers 0 64)) (λ i. is_padded id_size b (ids_at connection_count + id_size * (c + i))) 8 one) g
      ∙ sym (all_and (λ i. is_padded id_size b (ids_at connection_count + id_size * (c + i))) (λ i. open_or_none b (c + i)) (numbers 0 8))
    where
      one : (i : ℕ) → i < 8 → all (last_or_followed last b (at - 1 + 64 * i)) (numbers 0 64) ≡ is_padded id_size b (ids_at connection_count + id_size * (c + i))
      one i k =
          let m : suc (at - 1 + 64 * i) ≡ ids_at connection_count + id_size * (c + i) = omega arith in
          before_of_64 last b (at - 1 + 64 * i) e (omega arith) ∙ ap (is_padded id_size b) m

-- all places
pub all_hold : (b : Bytes) → table_size connection_count ≤ length b → all (id_holds b) (numbers 0 connection_count) ≡ id_rules b
unfolding id_rules are_padded
all_hold b long =
    let t = table_of connection_count b in
    all_and (λ c. is_padded id_size b (ids_at connection_count + id_size * c)) (open_or_none b) (numbers 0 connection_count)
    ∙ and_same {a = all (λ c. is_padded id_size b (ids_at connection_count + id_size * c)) (numbers 0 connection_count)} refl
    (same_below (open_or_none b) (id_open t) connection_count one ∙ ap (λ (n : ℕ). all (id_open t) (numbers 0 n)) (sym (connections_length connection_count b)))
  where
    one : (c : ℕ) → c < connection_count → open_or_none b c ≡ id_open (table_of connection_count b) c
    one c h =
        sym (ap₂ (λ (x : Connection) (i : Bytes). x.opened || same i []) (connection_at_lem connection_count b c h) (id_at_lem connection_count b c h)
        ∙ ap (λ (t : Bool). eqb (get_or b (opened_at connection_count + c) 0) 1 || t) (empty_text 63 b (ids_at connection_count + id_size * c) (omega arith)))

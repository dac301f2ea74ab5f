-- What the text entry says, by the refusal that a packet of the connection would meet at once; and the room for its answer. Assumes nothing.
use Prim.Native.Nat.{ℕ, ◌+◌, ◌≤◌}
use mathlib.Core.Path.{◌≡◌, refl, sym, ap, ◌∙◌}
use mathlib.Core.Bool.{Bool, true, false, not, cond, ◌||◌}
use mathlib.Core.List.{[], ◌∷◌}
use native.Mathlib.Omega.{arith}
use lib.Dec.{ltb}
use lib.ListN.{length, get_or, set, length-set}
use Rattle.octets.specs.Bytes.{Bytes}
use Rattle.octets.specs.Put.{over, put}
use Rattle.server.specs.Sizes.{connection_count, output_size}
use Rattle.server.specs.Table.{closed}
use Rattle.server.specs.Events.{is_connection}
use Rattle.server.specs.Layout.{table_of}
use Rattle.server.specs.Call.{Result, left, is_sound, refused_by, too_short}
use Rattle.table_passes.proofs.Rows.{connections_length}
use Rattle.call_admit.specs.Admission.{admission, state_refusal}
use Rattle.command.specs.Texts.{text_for}
use Rattle.command.specs.Say.{say, told}
use Rattle.command_laws.proofs.Bounds.{text_room}

-- ---- the room

pub said_room : (t line o : Bytes) (x : ℕ) → is_sound connection_count t ≡ true → output_size connection_count ≤ length o
    → 1 + length (text_for line (table_of connection_count t)) ≤ length (set o 0 x)
said_room t line o x s h = simp length-set (omega (arith, text_room connection_count t s 0 line))

-- ---- the first byte, and the text after it

byte_then : (x : ℕ) (s o : Bytes) → put 1 s (set o 0 x) ≡ put 0 (x ∷ s) o
unfolding put over
byte_then x s [] = refl
byte_then x s (y ∷ o) = refl

-- ---- by the tests

module _ (c : ℕ) (line t w o : Bytes) where
  abbrev is_open : Bool
  is_open = (get_or (table_of connection_count t).connections c closed).opened

  abbrev answered : Result
  answered = told c (text_for line (table_of connection_count t)) t w o

  refused_by_lem : (bad inside opened : Bool) (n : ℕ) → n ≡ cond bad 1 (cond (not inside) 2 (state_refusal opened false)) → (n ≡ 0 → ⊥)
      → left n 0 o t w ≡ cond bad (refused_by 1 t w o) (cond (not inside) (refused_by 2 t w o) (cond (not opened) (refused_by 3 t w o) answered))
  unfolding refused_by state_refusal
  refused_by_lem true inside opened n e z = rw e
  refused_by_lem false false opened n e z = rw e
  refused_by_lem false true true n e z = absurd (z e)
  refused_by_lem false true false n e z = rw e

  told_by : (bad inside opened : Bool) → cond bad 1 (cond (not inside) 2 (state_refusal opened false)) ≡ 0
      → answered ≡ cond bad (refused_by 1 t w o) (cond (not inside) (refused_by 2 t w o) (cond (not opened) (refused_by 3 t w o) answered))
  unfolding state_refusal
  told_by true inside opened e = absurd (omega (arith, e))
  told_by false false opened e = absurd (omega (arith, e))
  told_by false true true e = refl
  told_by false true false e = absurd (omega (arith, e))

  module _ (n : ℕ) (e : n ≡ admission false c t w o) where
    inside_is : ltb c connection_count ≡ is_connection (table_of connection_count t) c
    inside_is = sym (ap (ltb c) (connections_length connection_count t))

    pub refused_said : (n ≡ 0 → ⊥) → left n 0 o t w ≡ say connection_count c line t w o
    unfolding say admission
    refused_said z =
        rw (← inside_is) (refused_by_lem (too_short connection_count t w o || not (is_sound connection_count t)) (ltb c connection_count) is_open n e z)

    pub told_said : n ≡ 0 → (r : ℕ) (v : Bytes) → (r ≡ 1 + length (text_for line (table_of connection_count t)))
        × (v ≡ put 1 (text_for line (table_of connection_count t)) (set o 0 c)) → left n r v t w ≡ say connection_count c line t w o
    unfolding say admission told
    told_said z r v h =
        let s : Bytes = text_for line (table_of connection_count t) in
        let l : r ≡ length (c ∷ s) = omega (arith, h.0) in
        let p : v ≡ put 0 (c ∷ s) o = h.1 ∙ byte_then c s o in
        (λ i. left (z i) (l i) (p i) t w)
        ∙ rw (← inside_is) (told_by (too_short connection_count t w o || not (is_sound connection_count t)) (ltb c connection_count) is_open (sym e ∙ z))

-- The rules that the text commands lean on, of a table that obeys all: names and ids within sizes, names distinct, and each ability
-- one of an open connection. Assumes nothing.
use Prim.Native.Nat.{ℕ, ◌^◌, ◌<◌, ◌≤◌}
use mathlib.Core.Path.{◌≡◌, refl}
use mathlib.Core.Bool.{true}
use mathlib.Core.List.{[]}
use borrow.Author.Tests.{leb-true, ltb-true, lt-ltb}
use lib.Dec.{leb, ltb}
use lib.ListN.{length}
use lib.Pow.{pow_pos}
use Rattle.octets.specs.Bytes.{Bytes, first_zero}
use Rattle.octets.proofs.Strings.{and_left, and_right}
use Rattle.lists.proofs.Rows.{all_imp, all_row}
use Rattle.server.specs.Sizes.{name_size, id_size}
use Rattle.server.specs.Table.{Table, no_function, function_at, id_at}
use Rattle.server.specs.Layout.{is_image, table_of}
use Rattle.server.specs.Call.{is_sound}
use Rattle.server.specs.Rules.{text_within, names_within, functions_distinct, only_open, abilities_open, ids_within, obeys}
use Rattle.server_laws.proofs.Obeyed.{obeyed}

pub record Printable (t : Table) : Type 0 where
  pub names : names_within t ≡ true
  pub distinct : functions_distinct t ≡ true
  pub abilities : abilities_open t ≡ true
  pub ids : ids_within t ≡ true

pub printable : (t : Table) → obeys t ≡ true → Printable t
printable t e = let s = (obeyed t e).sound in record { names = s.names; distinct = s.functions; abilities = s.abilities; ids = s.ids }

-- of a table that lent bytes hold
pub sound_prints : (n : ℕ) (b : Bytes) → is_sound n b ≡ true → Printable (table_of n b)
unfolding is_sound
sound_prints n b e = printable (table_of n b) (and_right (is_image n b) (obeys (table_of n b)) e)

module _ (t : Table) (h : Printable t) where
  pub name_short : (q : ℕ) → length (function_at t q).name ≤ name_size
  unfolding first_zero
  name_short q =
      leb-true (length (function_at t q).name) name_size
      (and_left (leb (length (function_at t q).name) name_size) _ (all_row (λ x. text_within name_size x.name) t.functions q no_function h.names refl))

  pub id_short : (c : ℕ) → length (id_at t c) ≤ id_size
  unfolding first_zero
  id_short c = leb-true (length (id_at t c)) id_size (and_left (leb (length (id_at t c)) id_size) _ (all_row (text_within id_size) t.ids c [] h.ids refl))

  -- a set of connections is a number below 2 to the power of their count
  pub able_small : (q : ℕ) → (function_at t q).able < 2 ^ length t.connections
  able_small q =
      let n : ℕ = length t.connections in
      ltb-true _ (2 ^ n) (all_row (λ x. ltb x.able (2 ^ n)) t.functions q no_function
      (all_imp (λ x. only_open t x.able) (λ x. ltb x.able (2 ^ n)) (λ x e. and_left (ltb x.able (2 ^ n)) _ e) t.functions h.abilities)
      (lt-ltb 0 (2 ^ n) (pow_pos n)))

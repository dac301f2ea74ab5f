-- The refusals that an event meets at once, in number order. Assumes nothing.
use Rattle.std.specs.Prelude.{Result, Ok, Err}
use native.Mathlib.Omega.{arith}
use Prim.Native.Nat.{ℕ, ◌+◌, ◌<◌, ◌≤◌}
use mathlib.Core.Path.{◌≡◌, refl, sym, ap, ◌∙◌}
use mathlib.Core.Bool.{Bool, true, false, not, ◌||◌}
use borrow.Author.Tests.{lt-ltb, le-ltb}
use lib.ListN.{get_or}
use lib.Dec.{eqb}
use Rattle.octets.specs.Bytes.{Bytes}
use Rattle.server.specs.declared.Connection.{Connection}
use Rattle.server.specs.Sizes.{connection_count}
use Rattle.server.specs.Table.{closed}
use Rattle.server.specs.Layout.{connection_in, table_of, opened_at}
use Rattle.server.specs.Call.{too_short, is_sound}
use Rattle.table_laws.proofs.Columns.{places_at}
use Rattle.server_calls.proofs.Refusals.{Taken, taken}
use Rattle.call_admit.specs.declared.Refusal.{Refusal}
use Rattle.call_admit.specs.declared.Refusal.TheVariants as RV
use Rattle.call_admit.specs.Admission.{admission, answer_number, refusal_number, state_refusal}

-- ---- the answer

-- an answer that is no refusal has number 0, and no refusal has
pub none_refused : (r : Result Unit Refusal) (n : ℕ) → ((x : Refusal) → r ≡ Err x → ⊥) → answer_number r ≡ n → 0 ≡ n
none_refused (Ok u) n f e = e
none_refused (Err x) n f e = absurd (f x refl)

pub refused_not_0 : (x : Refusal) → refusal_number x ≡ 0 → ⊥
refused_not_0 RV.Lent e = absurd (omega (arith, e))
refused_not_0 RV.Connection e = absurd (omega (arith, e))
refused_not_0 RV.NotOpen e = absurd (omega (arith, e))
refused_not_0 RV.Open e = absurd (omega (arith, e))

-- ---- the lent bytes

twice : (b : Bool) → b ≡ not (not b)
twice true = refl
twice false = refl

module _ (t w o : Bytes) where
  -- the bytes are refused by 1
  abbrev pub unusable : Bool
  unusable = too_short connection_count t w o || not (is_sound connection_count t)

-- ---- the connection's state

pub open_at : (t : Bytes) (c : ℕ) → c < connection_count → eqb (get_or t (opened_at connection_count + c) 0) 1 ≡ (get_or (table_of connection_count t).connections c closed).opened
unfolding table_of
open_at t c h = sym (ap (λ (x : Connection). x.opened) (places_at (connection_in connection_count t) closed connection_count c h))

-- ---- in number order

-- the code tests the opposite
tested : (t w o : Bytes) (u b : Bool) → u ≡ not (unusable t w o) → not u ≡ b → unusable t w o ≡ b
tested t w o u b e f = twice (unusable t w o) ∙ ap not (sym e) ∙ f

pub usable_bytes : (t w o : Bytes) (u : Bool) → u ≡ not (unusable t w o) → not u ≡ false → Taken connection_count t w o
usable_bytes t w o u e f = taken connection_count t w o (tested t w o u false e f)

module _ (to_open : Bool) (c : ℕ) (t w o : Bytes) (u : Bool) (e : u ≡ not (unusable t w o)) where
  pub refused_1 : not u ≡ true → 1 ≡ admission to_open c t w o
  unfolding admission
  refused_1 f = rw (tested t w o u true e f)

  pub refused_2 : not u ≡ false → connection_count ≤ c → 2 ≡ admission to_open c t w o
  unfolding admission
  refused_2 f h = rw (tested t w o u false e f, le-ltb c connection_count h)

  pub refused_state : (r : ℕ) (s : Bool) → not u ≡ false → c < connection_count → s ≡ (get_or (table_of connection_count t).connections c closed).opened → r ≡ state_refusal s to_open
      → r ≡ admission to_open c t w o
  unfolding admission
  refused_state r s f h q g = rw (tested t w o u false e f, lt-ltb c connection_count h, ← q) g

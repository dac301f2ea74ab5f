-- Two names compared, and the name that stands at a place. Assumes nothing.
use Prim.Native.Nat.{ℕ, ◌<◌, ◌≤◌}
use Rattle.std.specs.Ordering.{is_lt, nat_cmp}
use Rattle.std.specs.declared.cmp.Ordering.{Ordering}
use Rattle.std.specs.Cmp.Lexicographic.{slice_cmp}
use Rattle.std.proofs.lemmas.Cmp.{same_from_slice_cmp}
use Rattle.std.proofs.lemmas.Bool.Decides.{nat_tests}
use mathlib.Core.Path.{◌≡◌, refl, sym, ap, ◌∙◌}
use mathlib.Core.Bool.{Bool}
use mathlib.Core.List.{[]}
use native.Mathlib.Omega.{arith}
use Rattle.octets.specs.Bytes.{Bytes}
use Rattle.server.specs.Sizes.{connection_count, function_count}
use Rattle.server.specs.Table.{Function, function_at}
use Rattle.server.specs.Layout.{function_in, table_of}
use Rattle.table_passes.proofs.Rows.{function_at_lem, no_function_lem}
use Rattle.command.specs.Order.{before}

-- `cmp` of two slices tells the order
pub before_of_cmp : (s t : Bytes) (o : Ordering) (r : Bool) → o ≡ slice_cmp nat_cmp s t → r ≡ is_lt o → r ≡ before s t
unfolding before
before_of_cmp s t o r e f = f ∙ same_from_slice_cmp nat_cmp is_lt before refl (λ _ _. refl) (λ _ _. refl) (λ x y xs ys o h. grind (arith, nat_tests)) s t o e

-- ---- what stands at a place

module _ (b : Bytes) (q : ℕ) where
  pub name_inside : q < function_count → (function_in connection_count b q).name ≡ (function_at (table_of connection_count b) q).name
  name_inside h = sym (ap (λ (x : Function). x.name) (function_at_lem connection_count b q h))

  pub name_beyond : function_count ≤ q → [] ≡ (function_at (table_of connection_count b) q).name
  name_beyond h = sym (ap (λ (x : Function). x.name) (no_function_lem connection_count b q h))

-- Sets of connections of which all are open, and client ids of open connections alone: what the rule's test says of each, and how it
-- stays so while sets and connections change. Assumes nothing.
use Prim.Native.Nat.{ℕ, zero, suc, ◌^◌, ◌<◌}
use mathlib.Core.Path.{◌≡◌, refl, sym, ◌∙◌, subst}
use mathlib.Core.Logic.{◌≢◌}
use mathlib.Core.List.{[]}
use mathlib.Core.Bool.{Bool, true, false, ◌||◌}
use native.Mathlib.Decide.{ℕ_discrete}
use native.Mathlib.Omega.{arith}
use borrow.Author.Tests.{lt-ltb, ltb-true, ltb-false}
use lib.ListN.{length, set}
use lib.Pow.{pow_pos}
use lib.Dec.{ltb}
use Rattle.octets.specs.Bytes.{same}
use Rattle.octets.proofs.Strings.{and_left, and_right, and_both}
use Rattle.sets.specs.Sets.{has, insert, remove}
use Rattle.sets.proofs.Laws.{has_insert_other, has_remove_same, has_remove_other, has_above, insert_below, remove_le, zero_has}
use Rattle.server.specs.declared.Connection.{Connection}
use Rattle.server.specs.Table.{Table, closed, id_at, with_connections}
use Rattle.lists.specs.Lists.{implies}
use Rattle.server.specs.Rules.{is_open, only_open, holder_open, id_open, ids_open}
use Rattle.lists.proofs.Rows.{clash, implies_by, implies_use, or_left, or_right, below_at, below_by, row_set}

-- the set has only connections of the table, and they are open
pub record Among (t : Table) (s : ℕ) : Type 0 where
  pub small : s < 2 ^ length t.connections
  pub opened : (c : ℕ) → has s c ≡ true → is_open t c ≡ true

pub among : (t : Table) (s : ℕ) → only_open t s ≡ true → Among t s
among t s e = record { small = less; opened = λ c h. go c h (ltb c (length t.connections)) refl }
  where
    less : s < 2 ^ length t.connections
    less = ltb-true _ _ (and_left (ltb s (2 ^ length t.connections)) _ e)

    go : (c : ℕ) → has s c ≡ true → (b : Bool) → ltb c (length t.connections) ≡ b → is_open t c ≡ true
    go c h true q =
        implies_use (has s c) _
        (below_at (λ k. implies (has s k) (is_open t k)) (length t.connections) c (and_right (ltb s (2 ^ length t.connections)) _ e) (ltb-true _ _ q)) h
    go c h false q = clash h (has_above s (length t.connections) c less (ltb-false _ _ q))

pub only_open_lem : (t : Table) (s : ℕ) → Among t s → only_open t s ≡ true
only_open_lem t s a =
    and_both (ltb s (2 ^ length t.connections)) _ (lt-ltb _ _ a.small)
    (below_by (λ k. implies (has s k) (is_open t k)) (length t.connections) (λ k h. implies_by (has s k) (is_open t k) (a.opened k)))

pub none_open : (t : Table) → only_open t 0 ≡ true
none_open t = only_open_lem t 0 (record { small = pow_pos (length t.connections); opened = λ c h. clash h (zero_has c) })

-- one open connection more
pub open_insert : (t : Table) (s c : ℕ) → c < length t.connections → is_open t c ≡ true → only_open t s ≡ true → only_open t (insert s c) ≡ true
open_insert t s c h o e = only_open_lem t (insert s c) (record { small = insert_below s c _ h a.small; opened = λ x. go x (ℕ_discrete x c) })
  where
    a : Among t s
    a = among t s e

    go : (x : ℕ) → Dec (x ≡ c) → has (insert s c) x ≡ true → is_open t x ≡ true
    go x (yes q) g = subst (λ (k : ℕ). is_open t k ≡ true) (sym q) o
    go x (no n) g = a.opened x (sym (has_insert_other s c x n) ∙ g)

-- one less
pub open_remove : (t : Table) (s c : ℕ) → only_open t s ≡ true → only_open t (remove s c) ≡ true
open_remove t s c e = only_open_lem t (remove s c) (record { small = omega (arith, remove_le s c, a.small); opened = λ x. go x (ℕ_discrete x c) })
  where
    a : Among t s
    a = among t s e

    go : (x : ℕ) → Dec (x ≡ c) → has (remove s c) x ≡ true → is_open t x ≡ true
    go x (yes q) g = clash g (subst (λ (k : ℕ). has (remove s c) k ≡ false) (sym q) (has_remove_same s c))
    go x (no n) g = a.opened x (sym (has_remove_other s c x n) ∙ g)

-- ---- other connections

-- the table with these connections
pub holder_more : (t u : Table) → ((c : ℕ) → is_open t c ≡ true → is_open u c ≡ true) → (h : ℕ) → holder_open t h ≡ true → holder_open u h ≡ true
holder_more t u more zero e = refl
holder_more t u more (suc c) e = more c e

module _ (t u : Table) (long : length u.connections ≡ length t.connections) where
  -- no connection was closed
  pub open_more : ((c : ℕ) → is_open t c ≡ true → is_open u c ≡ true) → (s : ℕ) → only_open t s ≡ true → only_open u s ≡ true
  open_more more s e = let a = among t s e in only_open_lem u s (record { small = rw long a.small; opened = λ c h. more c (a.opened c h) })

  -- connection c was closed, and was taken out
  pub open_without : (c : ℕ) → ((x : ℕ) → x ≢ c → is_open u x ≡ is_open t x) → (s : ℕ) → only_open t s ≡ true → only_open u (remove s c) ≡ true
  open_without c others s e = only_open_lem u (remove s c) (record { small = rw long (omega (arith, remove_le s c, a.small)); opened = λ x. go x (ℕ_discrete x c) })
    where
      a : Among t s
      a = among t s e

      go : (x : ℕ) → Dec (x ≡ c) → has (remove s c) x ≡ true → is_open u x ≡ true
      go x (yes q) g = clash g (subst (λ (k : ℕ). has (remove s c) k ≡ false) (sym q) (has_remove_same s c))
      go x (no n) g = others x n ∙ a.opened x (sym (has_remove_other s c x n) ∙ g)

-- a connection's row anew, if it is open afterwards
pub still_open : (t : Table) (c : ℕ) (x : Connection) → x.opened ≡ true → (k : ℕ) → is_open t k ≡ true → is_open (with_connections (set t.connections c x) t) k ≡ true
still_open t c x o k e = row_set (λ (y : Connection). y.opened ≡ true) t.connections c x k closed o e

-- ---- client ids

-- the connection has no client id
abbrev no_id : Table → ℕ → Bool
no_id t c = same (id_at t c) []

pub bearers_by : (t : Table) → ((c : ℕ) → c < length t.connections → id_open t c ≡ true) → ids_open t ≡ true
bearers_by t f = below_by (id_open t) (length t.connections) f

pub bearer_at : (t : Table) (c : ℕ) → ids_open t ≡ true → c < length t.connections → id_open t c ≡ true
bearer_at t c e l = below_at (id_open t) (length t.connections) c e l

-- no connection was closed, and the ids are as they were
pub bearers_more : (t u : Table) → length u.connections ≡ length t.connections → ((c : ℕ) → is_open t c ≡ true → is_open u c ≡ true) → u.ids ≡ t.ids → ids_open t ≡ true → ids_open u ≡ true
bearers_more t u long more same e = bearers_by u (λ c l. go c (is_open t c) refl (bearer_at t c e (rw long at l)))
  where
    go : (c : ℕ) (b : Bool) → is_open t c ≡ b → b || no_id t c ≡ true → id_open u c ≡ true
    go c true o q = or_left (is_open u c) _ (more c o)
    go c false o q = or_right (is_open u c) _ (rw same q)

-- Every byte of every answer is one that a terminal shows or lays out: 32 to 126, a tab or a line feed, whatever names and ids hold. 02, ask
-- 1: "In names and ids a byte outside 33 to 126 prints as `?`." Assumes nothing.
use Prim.Native.Nat.{ℕ, ◌≤◌}
use mathlib.Core.Path.{◌≡◌, refl}
use mathlib.Core.Bool.{true}
use mathlib.Core.List.{List, [], ◌∷◌, ◌++◌, map}
use native.Mathlib.Omega.{arith}
use borrow.Author.Tests.{le-leb, leb-true}
use lib.Dec.{leb}
use lib.ListN.{length}
use Rattle.octets.specs.Bytes.{Bytes, within, every, text}
use Rattle.octets.proofs.Strings.{and_both, and_left, and_right}
use Rattle.handle.specs.Handle.{decimal}
use Rattle.handle.proofs.Decimal.{decimal_digits}
use Rattle.prints.specs.Printed.{is_readable, printed, printed_or}
use Rattle.prints.proofs.Printed.{printed_readable}
use Rattle.lists.specs.Lists.{filter, numbers, concat}
use Rattle.lists.proofs.Cases.{cond_both}
use Rattle.server.specs.Table.{Table, function_at, id_at}
use Rattle.server.specs.Rules.{is_open}
use Rattle.command.specs.Order.{in_order}
use Rattle.command.specs.Texts.{able_of, functions_of, held_of, jobs_of, line_feed, period_line, says, spaced, status_line, status_text, tab, text_for, workers_line, workers_text}

abbrev Readable : Bytes → Type 0
Readable s = every is_readable s ≡ true

-- ---- fixed bytes

nothing : Readable []
unfolding every
nothing = refl

a_tab : Readable tab
unfolding every
a_tab = refl

a_feed : Readable line_feed
unfolding every
a_feed = refl

a_space : Readable (32 ∷ [])
unfolding every
a_space = refl

a_dash : Readable (text "-")
unfolding every
a_dash = refl

a_colon : Readable (text ":")
unfolding every
a_colon = refl

a_period : Readable period_line
unfolding every
a_period = refl

a_version : Readable (text "lap 1" ++ line_feed)
unfolding every
a_version = refl

unknown : Readable (text "ERR unknown" ++ line_feed)
unfolding every
unknown = refl

-- ---- runs

both : (s r : Bytes) → Readable s → Readable r → Readable (s ++ r)
unfolding every
both [] r p q = q
both (x ∷ s) r p q =
    and_both (is_readable x) (every is_readable (s ++ r)) (and_left (is_readable x) (every is_readable s) p)
    (both s r (and_right (is_readable x) (every is_readable s) p) q)

each : (g : ℕ → Bytes) → ((i : ℕ) → Readable (g i)) → (l : List ℕ) → Readable (concat (map g l))
each g h [] = nothing
each g h (x ∷ l) = both (g x) (concat (map g l)) (h x) (each g h l)

-- bytes of a range within 32 to 126
module _ (lo hi : ℕ) (l : 32 ≤ lo) (h : hi ≤ 126) where
  one : (x : ℕ) → within lo hi x ≡ true → is_readable x ≡ true
  one x e =
      let a : lo ≤ x = leb-true lo x (and_left (leb lo x) (leb x hi) e) in
      let b : x ≤ hi = leb-true x hi (and_right (leb lo x) (leb x hi) e) in
      rw (le-leb 32 x (omega arith), le-leb x 126 (omega arith))

  among : (s : Bytes) → every (within lo hi) s ≡ true → Readable s
  unfolding every
  among [] e = refl
  among (x ∷ s) e =
      and_both (is_readable x) (every is_readable s) (one x (and_left (within lo hi x) (every (within lo hi) s) e))
      (among s (and_right (within lo hi x) (every (within lo hi) s) e))

number : (n : ℕ) → Readable (decimal n)
number n = among 48 57 (omega arith) (omega arith) (decimal n) (decimal_digits n)

name : (s : Bytes) → Readable (printed s)
name s = among 33 126 (omega arith) (omega arith) (printed s) (printed_readable s)

name_or : (none s : Bytes) → Readable none → Readable (printed_or none s)
unfolding printed_or
name_or none [] p = p
name_or none (x ∷ s) p = name (x ∷ s)

-- ---- status

-- a count after a tab, and what follows
counted : (n : ℕ) (s : Bytes) → Readable s → Readable (tab ++ (decimal n ++ s))
counted n s p = both tab (decimal n ++ s) a_tab (both (decimal n) s (number n) p)

module _ (t : Table) where
  status_line_lem : (q : ℕ) → Readable (status_line t q)
  unfolding status_line
  status_line_lem q =
      both (printed (function_at t q).name) (tab ++ (decimal (jobs_of t q) ++ (tab ++ (decimal (held_of t q) ++ (tab ++ (decimal (able_of t q) ++ line_feed))))))
      (name (function_at t q).name)
      (counted (jobs_of t q) (tab ++ (decimal (held_of t q) ++ (tab ++ (decimal (able_of t q) ++ line_feed))))
      (counted (held_of t q) (tab ++ (decimal (able_of t q) ++ line_feed))
      (counted (able_of t q) line_feed a_feed)))

  status_text_lem : Readable (status_text t)
  unfolding status_text
  status_text_lem = both (concat (map (status_line t) (in_order t.functions))) period_line (each (status_line t) status_line_lem (in_order t.functions)) a_period

-- ---- workers

-- a word, a space, and what follows
further : (w s : Bytes) → Readable w → Readable s → Readable (w ++ (32 ∷ s))
further w s p q = both w (32 ∷ s) p (both (32 ∷ []) s a_space q)

-- a word and further words, one space between each two
apart : (g : ℕ → Bytes) → ((i : ℕ) → Readable (g i)) → (w : Bytes) → Readable w → (l : List ℕ) → Readable (spaced (w ∷ map g l))
apart g h w p [] = p
apart g h w p (x ∷ l) = further w (spaced (g x ∷ map g l)) p (apart g h (g x) (h x) l)

module _ (t : Table) where
  workers_line_lem : (c : ℕ) → Readable (workers_line t c)
  unfolding workers_line
  workers_line_lem c =
      let id : Bytes = printed_or (text "-") (id_at t c) in
      let g : ℕ → Bytes = λ q. printed (function_at t q).name in
      let functions : Bytes = spaced (text ":" ∷ map g (functions_of t c)) in
      both (spaced (decimal c ∷ text "-" ∷ id ∷ text ":" ∷ map g (functions_of t c))) line_feed
      (further (decimal c) (text "-" ++ (32 ∷ (id ++ (32 ∷ functions)))) (number c)
      (further (text "-") (id ++ (32 ∷ functions)) a_dash
      (further id functions (name_or (text "-") (id_at t c) a_dash)
      (apart g (λ q. name (function_at t q).name) (text ":") a_colon (functions_of t c)))))
      a_feed

  workers_text_lem : Readable (workers_text t)
  unfolding workers_text
  workers_text_lem =
      let cs : List ℕ = filter (is_open t) (numbers 0 (length t.connections)) in
      both (concat (map (workers_line t) cs)) period_line (each (workers_line t) workers_line_lem cs) a_period

-- ---- any line

pub text_readable : (line : Bytes) (t : Table) → every is_readable (text_for line t) ≡ true
unfolding text_for
text_readable line t =
    cond_both Readable (says (text "status") line) (status_text_lem t)
    (cond_both Readable (says (text "workers") line) (workers_text_lem t)
    (cond_both Readable (says (text "version") line) a_version unknown))

-- The answer to `workers` from the parts that the code lays: a name if the connection is able to do the function, the head of a line, the
-- whole line, and the lines of the connections that are open. Assumes nothing.
use Prim.Native.Nat.{ℕ}
use mathlib.Core.Path.{◌≡◌, ap, sym, ◌∙◌}
use mathlib.Core.Bool.{Bool, true, false}
use mathlib.Core.List.{List, [], ◌∷◌, ◌++◌, map, append_assoc, append-nil}
use native.Mathlib.Omega.{arith}
use lib.Seq.{take_all}
use lib.ListN.{length, get_or, get_or-map}
use Rattle.octets.specs.Bytes.{Bytes, text}
use Rattle.handle.specs.Handle.{decimal}
use Rattle.sets.specs.Sets.{has}
use Rattle.lists.specs.Lists.{concat, filter, numbers}
use Rattle.server.specs.declared.Connection.{Connection}
use Rattle.server.specs.Table.{Function, Table, no_function, function_at, id_at}
use Rattle.server.specs.Rules.{is_open}
use Rattle.plan.specs.Values.{values_of}
use Rattle.plan.specs.Parts as P
use Rattle.prints.specs.Pieces.{pieces}
use Rattle.prints.specs.Printed.{printed, printed_or}
use Rattle.prints.proofs.Chosen.{chosen_numbers, chosen_pieces}
use Rattle.command.specs.Order.{in_order}
use Rattle.command.specs.Texts.{functions_of, period_line, spaced, workers_line, workers_text}
use Rattle.command_workers.specs.Parts.{head_text, is_able, line_text, lines_text, name_text, names_text, open_text, spaced_name}

-- ---- one name, by what the code asks

module _ (t : Table) (c q s : ℕ) (b : Bool) (es : s ≡ get_or (values_of t).able q 0) (eb : b ≡ has s c) where
  able_is : b ≡ is_able t c q
  unfolding values_of
  able_is = eb ∙ ap (λ (k : ℕ). has k c) (es ∙ get_or-map (λ (x : Function). x.able) t.functions q no_function)

  pub name_is : (name : Bytes) → name ≡ (function_at t q).name → b ≡ true → text " " ++ printed name ≡ name_text t c q
  name_is name e h = rw (← able_is, h, e)

  pub name_none : b ≡ false → [] ≡ name_text t c q
  name_none h = rw (← able_is, h)

-- ---- the names of the functions that are listed

abbrev pub name_for : Table → ℕ → List ℕ → ℕ → Bytes
name_for t c places i = name_text t c (get_or places i 0)

pub names_are : (t : Table) (c : ℕ) (l m : List ℕ) → l ≡ m → pieces (name_for t c l) (length l) ≡ names_text t m c
unfolding names_text
names_are t c l m e =
    chosen_pieces (is_able t c) (spaced_name t) l (length l) (omega arith) ∙ ap (λ (x : List ℕ). concat (map (spaced_name t) (filter (is_able t c) x))) (rw (take_all (length l) l (omega arith)) e)

-- ---- a line

pub head_is : (t : Table) (c : ℕ) (i : Bytes) → i ≡ id_at t c → decimal c ++ (text " - " ++ (printed_or (text "-") i ++ text " :")) ≡ head_text t c
unfolding head_text
head_is t c i e = rw e

spaced_is : (g : ℕ → Bytes) (w : Bytes) (l : List ℕ) → spaced (w ∷ map g l) ≡ w ++ concat (map (λ q. 32 ∷ g q) l)
spaced_is g w [] = sym (append-nil w)
spaced_is g w (x ∷ l) = ap (λ (s : Bytes). w ++ (32 ∷ s)) (spaced_is g (g x) l)

line_is : (t : Table) (c : ℕ) → line_text t (in_order t.functions) c ≡ workers_line t c
unfolding line_text head_text names_text workers_line functions_of
line_is t c =
    rw (spaced_is (λ q. printed (function_at t q).name) (text ":") (filter (is_able t c) (in_order t.functions))) (simp append_assoc)

-- ---- all lines

module _ (t : Table) (l : List ℕ) where
  -- whether a connection is open, as the code reads it
  module _ (c : ℕ) (x : Connection) (e : x ≡ P.connection_in (values_of t) c) where
    pub open_is : x.opened ≡ true → line_text t l c ≡ open_text t l c
    unfolding values_of
    open_is h = let o : is_open t c ≡ true = rw e at h in rw o

    pub open_none : x.opened ≡ false → [] ≡ open_text t l c
    unfolding values_of
    open_none h = let o : is_open t c ≡ false = rw e at h in rw o

  pub lines_are : (n : ℕ) → length t.connections ≡ n → pieces (open_text t l) n ≡ lines_text t l
  unfolding lines_text
  lines_are n e = rw e (chosen_numbers (is_open t) (line_text t l) n)

  pub workers_is : l ≡ in_order t.functions → lines_text t l ++ period_line ≡ workers_text t
  unfolding lines_text workers_text
  workers_is e =
      rw e (λ i. concat (map (λ c. line_is t c i) (filter (is_open t) (numbers 0 (length t.connections)))) ++ period_line)

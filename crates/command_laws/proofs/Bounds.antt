-- How long an answer is at the most: with the connection byte it fits an output of the size that refusal 1 asks for, whatever the line
-- and however many connections there are. Assumes nothing.
use Prim.Native.Nat.{ℕ, suc, ◌+◌, ◌*◌, ◌≤◌}
use mathlib.Core.Path.{◌≡◌, refl}
use mathlib.Core.Bool.{Bool, true, false, not, cond, ◌||◌}
use mathlib.Core.List.{List, [], ◌∷◌, map}
use native.Mathlib.Omega.{arith}
use lib.ListN.{length, length-append}
use Rattle.octets.specs.Bytes.{Bytes, text}
use Rattle.handle.proofs.Decimal.{decimal_most}
use Rattle.prints.specs.Printed.{printed, printed_or}
use Rattle.prints.proofs.Printed.{length_printed}
use Rattle.sets.specs.Sets.{has}
use Rattle.lists.specs.Lists.{filter, numbers, concat}
use Rattle.lists.proofs.Cases.{cond_both}
use Rattle.lists.proofs.Lists.{length_numbers}
use Rattle.server.specs.Sizes.{function_count, id_size, name_size, output_size}
use Rattle.server.specs.Table.{Table, function_at, id_at}
use Rattle.server.specs.Rules.{is_known, is_open}
use Rattle.server.specs.Events.{is_connection}
use Rattle.server.specs.Layout.{table_of, connection_in, function_in}
use Rattle.server.specs.Call.{too_short, is_sound, refused_by}
use Rattle.table_laws.proofs.Columns.{length_places}
use Rattle.command.specs.Order.{in_order}
use Rattle.command.specs.Texts.{able_of, functions_of, held_of, jobs_of, says, spaced, status_line, status_text, text_for, workers_line, workers_text}
use Rattle.command.specs.Say.{told, say}
use Rattle.command_laws.proofs.Rising.{listed_all}
use Rattle.command_laws.proofs.Rules.{Printable, sound_prints, id_short, name_short}

-- ---- lists

filter_short : {A : Type 0} (f : A → Bool) (l : List A) → length (filter f l) ≤ length l
filter_short f [] = omega arith
filter_short f (x ∷ l) = cond_both (λ (r : List _). length r ≤ suc (length l)) (f x) (omega (arith, filter_short f l)) (omega (arith, filter_short f l))

-- texts of at most k bytes each
concat_short : (g : ℕ → Bytes) (k : ℕ) → ((i : ℕ) → length (g i) ≤ k) → (l : List ℕ) → length (concat (map g l)) ≤ k * length l
concat_short g k h [] = omega arith
concat_short g k h (x ∷ l) = rw length-append (omega (arith, h x, concat_short g k h l))

spaced_short : (g : ℕ → Bytes) (k : ℕ) → ((i : ℕ) → length (g i) ≤ k) → (w : Bytes) (l : List ℕ) → length (spaced (w ∷ map g l)) ≤ length w + suc k * length l
spaced_short g k h w [] = omega arith
spaced_short g k h w (x ∷ l) = rw length-append (omega (arith, h x, spaced_short g k h (g x) l))

-- ---- lines

-- a name, and three numbers of at most ten digits, each after a tab, and a line feed
abbrev status_room : ℕ
status_room = name_size + 34

-- a number of at most ten digits, ` - `, an id, ` :`, a space and a name for each function, and a line feed
abbrev workers_room : ℕ
workers_room = id_size + suc name_size * function_count + 16

module _ (t : Table) (p : Printable t) where
  name_printed : (q : ℕ) → length (printed (function_at t q).name) ≤ name_size
  name_printed q = rw length_printed (name_short t p q)

  id_printed : (c : ℕ) → length (printed_or (text "-") (id_at t c)) ≤ id_size
  unfolding printed_or
  id_printed c = go (id_at t c) (id_short t p c)
    where
      go : (i : Bytes) → length i ≤ id_size → length (printed_or (text "-") i) ≤ id_size
      go [] h = omega arith
      go (x ∷ i) h = rw length_printed h

  status_line_short : (q : ℕ) → length (status_line t q) ≤ status_room
  unfolding status_line
  status_line_short q =
      simp length-append (omega (arith, name_printed q, decimal_most (jobs_of t q), decimal_most (held_of t q), decimal_most (able_of t q)))

  module _ (few : length t.functions ≡ function_count) where
    listed_few : length (in_order t.functions) ≤ function_count
    listed_few = omega (arith, listed_all t.functions, filter_short is_known t.functions)

    functions_few : (c : ℕ) → length (functions_of t c) ≤ function_count
    unfolding functions_of
    functions_few c = omega (arith, listed_few, filter_short (λ q. has (function_at t q).able c) (in_order t.functions))

    workers_line_short : (c : ℕ) → length (workers_line t c) ≤ workers_room
    unfolding workers_line
    workers_line_short c =
        simp length-append (omega (
          arith,
          decimal_most c,
          id_printed c,
          functions_few c,
          spaced_short (λ q. printed (function_at t q).name) name_size name_printed (text ":") (functions_of t c),
        ))

    status_short : length (status_text t) ≤ status_room * function_count + 2
    unfolding status_text
    status_short = rw length-append (omega (arith, listed_few, concat_short (status_line t) status_room status_line_short (in_order t.functions)))

    workers_short : length (workers_text t) ≤ workers_room * length t.connections + 2
    unfolding workers_text
    workers_short =
        let cs : List ℕ = filter (is_open t) (numbers 0 (length t.connections)) in
        rw length-append (omega (
          arith,
          concat_short (workers_line t) workers_room workers_line_short cs,
          filter_short (is_open t) (numbers 0 (length t.connections)),
          length_numbers 0 (length t.connections),
        ))

    -- 02: "The output holds the connection byte and one text."
    pub text_fits : (line : Bytes) → 1 + length (text_for line t) ≤ output_size (length t.connections)
    unfolding text_for
    text_fits line =
        let Fits : Bytes → Type 0 = λ s. 1 + length s ≤ output_size (length t.connections) in
        cond_both Fits (says (text "status") line) (omega (arith, status_short))
        (cond_both Fits (says (text "workers") line) (omega (arith, workers_short))
        (cond_both Fits (says (text "version") line) (omega arith) (omega arith)))

-- ---- of lent bytes

module _ (n : ℕ) (t : Bytes) where
  connections_are : length (table_of n t).connections ≡ n
  unfolding table_of
  connections_are = length_places (connection_in n t) 0 n

  functions_are : length (table_of n t).functions ≡ function_count
  unfolding table_of
  functions_are = length_places (function_in n t) 0 function_count

  pub text_room : is_sound n t ≡ true → (c : ℕ) (line : Bytes) → length (c ∷ text_for line (table_of n t)) ≤ output_size n
  text_room sound c line =
      let f : 1 + length (text_for line (table_of n t)) ≤ output_size n = rw connections_are at (text_fits (table_of n t) (sound_prints n t sound) functions_are line) in
      omega arith

-- what the text entry reports
pub say_fits : (n c : ℕ) (line t w o : Bytes) → (say n c line t w o).length' ≤ output_size n
unfolding say told refused_by
say_fits n c line t w o = by (too_short n t w o) (is_sound n t) refl (is_connection (table_of n t) c) (is_open (table_of n t) c)
  where
    by : (x z : Bool) → is_sound n t ≡ z → (y v : Bool)
        → (cond (x || not z) (refused_by 1 t w o) (cond (not y) (refused_by 2 t w o) (cond (not v) (refused_by 3 t w o) (told c (text_for line (table_of n t)) t w o)))).length' ≤ output_size n
    by true z e y v = omega arith
    by false false e y v = omega arith
    by false true e false v = omega arith
    by false true e true false = omega arith
    by false true e true true = text_room n t e c line

-- Every call, on any lent bytes: no buffer changes its length; the output is unchanged beyond the reported length, the table beyond
-- the layout and the workloads beyond their 32 places; and a table that is sound stays sound. Assumes nothing.
use Prim.Native.Nat.{ℕ, zero, suc, ◌≤◌}
use mathlib.Core.Path.{◌≡◌, refl}
use mathlib.Core.Bool.{true, not, ◌||◌}
use mathlib.Core.List.{[], ◌∷◌}
use native.Mathlib.Nat.{not-suc-le-zero, le_of_suc-le-suc}
use native.Mathlib.Omega.{arith}
use lib.ListN.{length, drop}
use Rattle.octets.specs.Bytes.{Bytes}
use Rattle.octets.specs.Put.{over, put}
use Rattle.octets.proofs.Laying.{length_put}
use Rattle.lists.specs.Lists.{concat}
use Rattle.server.specs.Sizes.{workloads_size, output_size}
use Rattle.server.specs.Requests.{Event}
use Rattle.server.specs.Server.{Server, next, answer}
use Rattle.server.specs.Layout.{table_size, table_of, bytes_of}
use Rattle.server.specs.Call.{Result, server_in, too_short, is_sound, sent_bytes, refused_by, performed, call}
use Rattle.lists.proofs.Cases.{cond_cases}
use Rattle.table_laws.proofs.Columns.{length_places}
use Rattle.server_calls.proofs.Workloads.{wide_places}
use Rattle.server_calls.proofs.Refusals.{Taken, taken}
use Rattle.server_calls.proofs.Follows.{Running, running_next, length_table_lem, length_workloads_lem, sound_with}
use Rattle.server_calls.proofs.Output.{output_fits}

-- ---- the server in bytes that a call takes

pub taken_running : (n : ℕ) (t w o : Bytes) → Taken n t w o → Running n (server_in n t w)
unfolding server_in table_of
taken_running n t w o k =
    record {
      shaped = record { connections = length_places _ 0 n; ids = length_places _ 0 n; functions = refl; jobs = refl; workloads = refl; whole = wide_places 1024 32 w k.long_workloads 0 32 (omega arith) };
      rules = k.rules;
    }

-- ---- a run laid over the start of a buffer

drop_over : (k : ℕ) (s b : Bytes) → length s ≤ k → drop k (over s b) ≡ drop k b
unfolding over
drop_over k [] b h = refl
drop_over zero (x ∷ s) b h = absurd (not-suc-le-zero h)
drop_over (suc k) (x ∷ s) [] h = refl
drop_over (suc k) (x ∷ s) (y ∷ b) h = drop_over k s b (le_of_suc-le-suc h)

-- beyond it the buffer is unchanged
pub drop_put : (k : ℕ) (s b : Bytes) → length s ≤ k → drop k (put 0 s b) ≡ drop k b
unfolding put
drop_put k s b h = drop_over k s b h

-- ---- what every call leaves

pub record Left (n : ℕ) (t w o : Bytes) (r : Result) : Type 0 where
  pub length_table : length r.table ≡ length t
  pub length_workloads : length r.workloads ≡ length w
  pub length_output : length r.output ≡ length o
  pub beyond_table : drop (table_size n) r.table ≡ drop (table_size n) t
  pub beyond_workloads : drop workloads_size r.workloads ≡ drop workloads_size w
  pub beyond_output : drop r.length' r.output ≡ drop r.length' o
  pub stays_sound : is_sound n t ≡ true → is_sound n r.table ≡ true

left_refused : (n : ℕ) (t w o : Bytes) → Left n t w o (refused_by 1 t w o)
unfolding refused_by
left_refused n t w o =
    record { length_table = refl; length_workloads = refl; length_output = refl; beyond_table = refl; beyond_workloads = refl; beyond_output = refl; stays_sound = λ h. h }

left_performed : (n : ℕ) → n ≤ 256 → (e : Event) (s : Server) → Running n s → (t w o : Bytes) → table_size n ≤ length t → Left n t w o (performed e s t w o)
unfolding performed
left_performed n few e s h t w o l =
    let k = running_next n e s h in
    record {
      length_table = length_put 0 _ t;
      length_workloads = length_put 0 _ w;
      length_output = length_put 0 _ o;
      beyond_table = drop_put (table_size n) (bytes_of (next e s).table) t (omega (arith, length_table_lem n few (next e s) k));
      beyond_workloads = drop_put workloads_size (concat (next e s).workloads) w (omega (arith, length_workloads_lem n few (next e s) k));
      beyond_output = drop_put (length (sent_bytes (answer e s).sent)) (sent_bytes (answer e s).sent) o (omega arith);
      stays_sound = λ _. sound_with n few (next e s) k t l;
    }

pub every_call : (n : ℕ) → n ≤ 256 → (e : Event) (t w o : Bytes) → Left n t w o (call n e t w o)
unfolding call
every_call n few e t w o =
    cond_cases (Left n t w o) (too_short n t w o || not (is_sound n t)) (λ _. left_refused n t w o)
    (λ q. let k = taken n t w o q in left_performed n few e (server_in n t w) (taken_running n t w o k) t w o k.long_table)

-- the reported length is at most the output that a host lends
length_performed : (n : ℕ) → n ≤ 256 → (e : Event) (s : Server) → Running n s → (t w o : Bytes) → (performed e s t w o).length' ≤ output_size n
unfolding performed
length_performed n few e s h t w o = output_fits n few e s h

length_refused : (n : ℕ) (t w o : Bytes) → (refused_by 1 t w o).length' ≤ output_size n
unfolding refused_by
length_refused n t w o = omega arith

pub call_fits : (n : ℕ) → n ≤ 256 → (e : Event) (t w o : Bytes) → (call n e t w o).length' ≤ output_size n
unfolding call
call_fits n few e t w o =
    cond_cases (λ (r : Result). r.length' ≤ output_size n) (too_short n t w o || not (is_sound n t)) (λ _. length_refused n t w o)
    (λ q. length_performed n few e (server_in n t w) (taken_running n t w o (taken n t w o q)) t w o)

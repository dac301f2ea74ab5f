-- Demand 1, of calls on lent bytes: a call whose number is not 0 leaves table and workloads as they were. By one without a text
-- nothing is written and the length is 0; by one with a text the output begins with one ERROR packet to the sender, and is unchanged beyond it.
-- Assumes nothing.
use Prim.Native.Nat.{ℕ, zero, suc, ◌≤◌}
use mathlib.Core.Path.{◌≡◌, refl, sym, ap, ◌∙◌}
use mathlib.Core.Bool.{Bool, true, false, not, cond, ◌&&◌, ◌||◌}
use mathlib.Core.List.{List, [], ◌∷◌, ◌++◌, append-nil}
use native.Mathlib.Omega.{arith}
use borrow.Author.Tests.{ltb-false, leb-true, not-false}
use lib.ListN.{length, get_or, drop, length-append}
use lib.Dec.{ltb, leb}
use Rattle.octets.specs.Bytes.{Bytes, same}
use Rattle.octets.specs.Put.{put}
use Rattle.octets.proofs.Strings.{and_left, and_right}
use Rattle.octets.proofs.Laying.{put_start, put_none}
use Rattle.packet.specs.Packet.{packet}
use Rattle.lists.specs.Lists.{all, concat}
use Rattle.server.specs.Sizes.{workloads_size, output_size}
use Rattle.server.specs.Rules.{obeys}
use Rattle.server.specs.Requests.{Event, sends}
use Rattle.server.specs.Refusals.{refusal_texts, last_number, is_told}
use Rattle.server.specs.Server.{Server, Sent, addressed, answer}
use Rattle.server.specs.Layout.{table_size, table_of, bytes_of, is_image}
use Rattle.server.specs.Call.{Result, server_in, too_short, is_sound, sent_bytes, refused_by, performed, call}
use Rattle.lists.proofs.Cases.{cond_cases}
use Rattle.server_laws.proofs.Refusals.{error_packet, Refusal, refusal, Fate, is_done, is_refused, fate}
use Rattle.lists.proofs.Rows.{or_false, clash}
use Rattle.table_laws.proofs.Image.{image_back}
use Rattle.server_calls.proofs.Workloads.{own_places}

-- ---- buffers that a call takes

-- long enough, and the table is the image of one that obeys the rules
pub record Taken (n : ℕ) (t w o : Bytes) : Type 0 where
  pub long_table : table_size n ≤ length t
  pub long_workloads : workloads_size ≤ length w
  pub long_output : output_size n ≤ length o
  pub image : is_image n t ≡ true
  pub rules : obeys (table_of n t) ≡ true

pub taken : (n : ℕ) (t w o : Bytes) → too_short n t w o || not (is_sound n t) ≡ false → Taken n t w o
unfolding too_short is_sound
taken n t w o e =
    let a = or_false (too_short n t w o) (not (is_sound n t)) e in
    let b = or_false (ltb (length t) (table_size n)) (ltb (length w) workloads_size || ltb (length o) (output_size n)) a.0 in
    let c = or_false (ltb (length w) workloads_size) (ltb (length o) (output_size n)) b.1 in
    let s : is_image n t && obeys (table_of n t) ≡ true = not-false (is_sound n t) a.1 in
    record {
      long_table = ltb-false _ _ b.0;
      long_workloads = ltb-false _ _ c.0;
      long_output = ltb-false _ _ c.1;
      image = and_left (is_image n t) (obeys (table_of n t)) s;
      rules = and_right (is_image n t) (obeys (table_of n t)) s;
    }

-- ---- one ERROR packet is short

pub short_at : (k : ℕ) (xs : List Bytes) (i : ℕ) → all (λ x. leb (length x) k) xs ≡ true → length (get_or xs i []) ≤ k
short_at k [] i e = omega arith
short_at k (x ∷ xs) zero e = leb-true (length x) k (and_left (leb (length x) k) _ e)
short_at k (x ∷ xs) (suc i) e = short_at k xs i (and_right (leb (length x) k) _ e)

pub error_short : (c n : ℕ) → length (addressed (error_packet c n)) ≤ 25
unfolding packet
error_short c n = simp length-append (omega (arith, short_at 9 refusal_texts n refl))

-- the server refuses nothing by 1
pub never_one_lem : (e : Event) (s : Server) → ¬ ((answer e s).number ≡ 1)
never_one_lem e s q = by (fate e s)
  where
    by : Fate e s → ⊥
    by (is_done z) = absurd (omega arith)
    by (is_refused r) = absurd (omega (arith, r.least))

-- ---- what a refusal leaves

-- the sender of a packet is told: the output begins with the ERROR packet, and is unchanged beyond it
pub record ToldOf (e : Event) (o : Bytes) (r : Result) : Type 0 where
  pub sender : ℕ
  pub bytes : Bytes
  pub is : e ≡ sends sender bytes
  pub length' : r.length' ≡ length (addressed (error_packet sender r.number))
  pub output : r.output ≡ addressed (error_packet sender r.number) ++ drop (length (addressed (error_packet sender r.number))) o

pub record Refused (e : Event) (t w o : Bytes) (r : Result) : Type 0 where
  pub table : r.table ≡ t
  pub workloads : r.workloads ≡ w
  pub most : r.number ≤ last_number
  pub silent : is_told r.number ≡ false → (r.length' ≡ 0) × (r.output ≡ o)
  pub tells : is_told r.number ≡ true → ToldOf e o r

module _ (n : ℕ) (e : Event) (t w o : Bytes) where
  -- the server read from the bytes, laid over them, changes nothing
  own_table : Taken n t w o → put 0 (bytes_of (server_in n t w).table) t ≡ t
  unfolding server_in
  own_table k = image_back n t k.image

  own_workloads : put 0 (concat (server_in n t w).workloads) w ≡ w
  unfolding server_in
  own_workloads = own_places 1024 w 32

  pub refused_by_lem : Taken n t w o → Refusal e (server_in n t w) → Refused e t w o (performed e (server_in n t w) t w o)
  unfolding performed sent_bytes
  refused_by_lem k r =
      let s = server_in n t w in
      record {
        table = ap (λ (x : Server). put 0 (bytes_of x.table) t) r.keeps ∙ own_table k;
        workloads = ap (λ (x : Server). put 0 (concat x.workloads) w) r.keeps ∙ own_workloads;
        most = r.most;
        silent = λ h. (ap (λ (ps : List Sent). length (sent_bytes ps)) (r.silent h), ap (λ (ps : List Sent). put 0 (sent_bytes ps) o) (r.silent h) ∙ put_none 0 o);
        tells = λ h.
            let u = r.tells h in
            let p = addressed (error_packet u.sender (answer e s).number) in
            let q : sent_bytes (answer e s).sent ≡ p = ap sent_bytes u.sent ∙ append-nil p in
            let l : length p ≤ length o = omega (arith, error_short u.sender (answer e s).number, k.long_output) in
            record { sender = u.sender; bytes = u.bytes; is = u.is; length' = ap length q; output = ap (λ (x : Bytes). put 0 x o) q ∙ put_start p o l };
      }

  refused_by_one : Refused e t w o (refused_by 1 t w o)
  unfolding refused_by is_told same
  refused_by_one = record { table = refl; workloads = refl; most = omega arith; silent = λ h. (refl, refl); tells = λ h. clash h refl }

  number_of : ¬ ((performed e (server_in n t w) t w o).number ≡ 0) → ¬ ((answer e (server_in n t w)).number ≡ 0)
  unfolding performed
  number_of z = z

  -- a call whose number is not 0 refuses
  pub call_refused : ¬ ((call n e t w o).number ≡ 0) → Refused e t w o (call n e t w o)
  unfolding call
  call_refused =
      cond_cases (λ (r : Result). ¬ (r.number ≡ 0) → Refused e t w o r) (too_short n t w o || not (is_sound n t))
      (λ _ _. refused_by_one) (λ h z. refused_by_lem (taken n t w o h) (refusal e (server_in n t w) (number_of z)))

  -- ---- the numbers

  performed_number : (performed e (server_in n t w) t w o).number ≡ (answer e (server_in n t w)).number
  unfolding performed
  performed_number = refl

  -- every number is one of the table
  pub number_most : (call n e t w o).number ≤ last_number
  number_most = by (call n e t w o).number refl
    where
      by : (k : ℕ) → (call n e t w o).number ≡ k → k ≤ last_number
      by zero q = omega arith
      by (suc k) q = omega (arith, (call_refused (λ z. absurd (omega arith))).most)

  -- "1: a lent buffer is too short, or the table breaks a table rule", and by 1 nothing else is refused
  pub one_if : too_short n t w o || not (is_sound n t) ≡ true → call n e t w o ≡ refused_by 1 t w o
  unfolding call
  one_if q = rw q

  pub one_only : (call n e t w o).number ≡ 1 → too_short n t w o || not (is_sound n t) ≡ true
  unfolding call
  one_only = by (too_short n t w o || not (is_sound n t))
    where
      by : (b : Bool) → (cond b (refused_by 1 t w o) (performed e (server_in n t w) t w o)).number ≡ 1 → b ≡ true
      by true q = refl
      by false q = absurd (never_one_lem e (server_in n t w) (sym performed_number ∙ q))

-- Closing a connection keeps a sound table sound: it leaves all listener sets, its jobs return to the queue, and its abilities and its
-- client id are cleared. Assumes nothing.
use Prim.Native.Nat.{ℕ, zero, suc, ◌<◌}
use mathlib.Core.Path.{◌≡◌, refl, ap, sym, ◌∙◌, subst}
use mathlib.Core.Logic.{◌≢◌}
use mathlib.Core.Bool.{Bool, true, false, ◌&&◌}
use mathlib.Core.List.{List, [], ◌∷◌, map}
use native.Mathlib.Decide.{ℕ_discrete}
use native.Mathlib.Omega.{arith}
use borrow.Author.Tests.{eq-eqb}
use lib.ListN.{length, get_or, set, length-set, get_or-map}
use lib.Seq.{get_or-set_other}
use Rattle.octets.specs.Bytes.{same, first_zero, every}
use Rattle.octets.proofs.Strings.{and_left, and_right}
use Rattle.sets.proofs.Laws.{zero_remove}
use Rattle.server.specs.declared.Connection.{Connection}
use Rattle.server.specs.Table.{Job, Table, closed, no_job, with_row, with_texts, with_holder, live, held_by, with_ids, with_functions, with_jobs, with_listeners, no_row}
use Rattle.server.specs.Events.{closing, unable, deaf_to, left_by}
use Rattle.server.specs.Sizes.{id_size}
use Rattle.server.specs.Rules.{text_within, is_open, only_open, holder_open, id_open, ids_open}
use Rattle.lists.proofs.Cases.{cond_cases, cond_both, all2_map}
use Rattle.lists.proofs.Rows.{clash, or_right, all_both, all_map, all_set, set_default}
use Rattle.server.proofs.Rows.{range_holder}
use Rattle.server_laws.proofs.Openness.{open_remove, open_without, bearers_by, bearer_at}
use Rattle.server_laws.proofs.Sound.{Sound, row_means, free_none, sound_connections, sound_ids}
use Rattle.server_laws.proofs.Jobs.{stored_both, Still, Goes, on, sound_jobs}
use Rattle.server_laws.proofs.Functions.{Less, less_unable, sound_less}
use Rattle.server_laws.proofs.Going.{live_means}

-- an empty place stays empty
pub left_none : (c : ℕ) → left_by c no_job ≡ no_job
left_none c = ap (λ (s : ℕ). with_row (with_listeners s no_row) no_job) (zero_remove c)

pub left_at : (c : ℕ) (js : List Job) (p : ℕ) → get_or (map (left_by c) js) p no_job ≡ left_by c (get_or js p no_job)
left_at c js p = ap (λ (d : Job). get_or (map (left_by c) js) p d) (sym (left_none c)) ∙ get_or-map (left_by c) js p no_job

-- a job keeps its serial
pub left_serial : (c : ℕ) (j : Job) → (left_by c j).row.serial ≡ j.row.serial
left_serial c j = cond_both (λ (k : Job). k.row.serial ≡ j.row.serial) (held_by c j.row) refl refl

module _ (t : Table) (c : ℕ) where
  left_means : (j : Job) → row_means t j ≡ true → row_means t (left_by c j) ≡ true
  unfolding same
  left_means j e = go (live j.row) refl
    where
      go : (b : Bool) → live j.row ≡ b → row_means t (left_by c j) ≡ true
      go true l =
          cond_both (λ (k : Job). row_means t k ≡ true) (held_by c j.row)
          (live_means t j (with_texts (48 ∷ []) (48 ∷ []) (with_row (with_holder 0 (deaf_to c j.row)) j)) l refl (range_holder (length t.functions) (length t.connections) j.row 0 (omega arith)) e)
          (live_means t j (with_row (deaf_to c j.row) j) l refl (λ q. q) e)
      go false l =
          let n : j ≡ no_job = free_none j l (rw l at e) in
          subst (λ (k : Job). row_means t k ≡ true) (sym (ap (left_by c) n ∙ left_none c)) refl

  still_left : (j : Job) → Still t j (left_by c j)
  unfolding every
  still_left j =
      record {
        serial = left_serial c j;
        function = cond_both (λ (k : Job). k.row.function ≡ j.row.function) (held_by c j.row) refl refl;
        size = cond_both (λ (k : Job). k.row.size ≡ j.row.size) (held_by c j.row) refl refl;
        unique = cond_both (λ (k : Job). k.unique ≡ j.unique) (held_by c j.row) refl refl;
        texts = λ e. cond_both (λ (k : Job). stored_both k ≡ true) (held_by c j.row) refl e;
        means = left_means j;
        listeners = λ e. cond_both (λ (k : Job). only_open t k.row.listeners ≡ true) (held_by c j.row) (open_remove t j.row.listeners c e) (open_remove t j.row.listeners c e);
        holder = λ e. cond_both (λ (k : Job). holder_open t k.row.holder ≡ true) (held_by c j.row) refl e;
      }

-- ---- nobody has to do with a closed connection

-- a job's holder is another connection, or nobody
left_holder : (t u : Table) (c : ℕ) → ((x : ℕ) → x ≢ c → is_open u x ≡ is_open t x) → (j : Job) → (holder_open t j.row.holder && row_means t j) ≡ true → holder_open u (left_by c j).row.holder ≡ true
left_holder t u c others j e = cond_cases (λ (k : Job). holder_open u k.row.holder ≡ true) (held_by c j.row) (λ q. refl) (λ q. go (live j.row) refl j.row.holder refl q)
  where
    o : holder_open t j.row.holder ≡ true
    o = and_left (holder_open t j.row.holder) _ e

    go : (b : Bool) → live j.row ≡ b → (h : ℕ) → j.row.holder ≡ h → held_by c j.row ≡ false → holder_open u j.row.holder ≡ true
    go false l h r q =
        let n : j ≡ no_job = free_none j l (rw l at (and_right (holder_open t j.row.holder) _ e)) in
        subst (λ (k : Job). holder_open u k.row.holder ≡ true) (sym n) refl
    go true l zero r q = rw r
    go true l (suc x) r q =
        let d : x ≢ c = λ i. clash (rw l (eq-eqb j.row.holder (suc c) (r ∙ ap suc i))) q in
        rw r (others x d ∙ (rw r at o))

-- who else has a client id is open
bearers_without : (t u : Table) (c : ℕ) → length u.connections ≡ length t.connections → u.ids ≡ set t.ids c [] → ((x : ℕ) → x ≢ c → is_open u x ≡ is_open t x) → ids_open t ≡ true → ids_open u ≡ true
unfolding same
bearers_without t u c long is others e = bearers_by u (λ x l. go x (ℕ_discrete x c) (rw long at l))
  where
    go : (x : ℕ) → Dec (x ≡ c) → x < length t.connections → id_open u x ≡ true
    go x (yes q) l = or_right (is_open u x) _ (rw (is, q, set_default t.ids c []))
    go x (no n) l = rw (is, get_or-set_other t.ids c x [] [] n, others x n) (bearer_at t x e l)

pub sound_closing : (c : ℕ) (t : Table) → Sound t → Sound (closing c t)
unfolding closing first_zero
sound_closing c t h =
    let u = closing c t in
    let long = length-set t.connections c closed in
    let others : (x : ℕ) → x ≢ c → is_open u x ≡ is_open t x = λ x d. ap (λ (y : Connection). y.opened) (get_or-set_other t.connections c x closed closed d) in
    let t₁ = with_jobs (map (left_by c) t.jobs) t in
    let h₁ : Sound t₁ = sound_jobs t (all2_map (Goes t) (left_by c) (λ j. on (still_left t c j)) t.jobs) h in
    let t₂ = with_functions (map (unable c) t.functions) t₁ in
    let h₂ : Sound t₂ = sound_less t₁ (all2_map (Less t₁) (unable c) (less_unable t₁ c) t.functions) h₁ in
    let t₃ = with_ids (set t.ids c []) t₂ in
    let h₃ : Sound t₃ = sound_ids t₂ (set t.ids c []) (all_set (text_within id_size) t.ids c [] h.ids refl) (bearers_without t t₃ c refl refl (λ x d. refl) h.bearers) h₂ in
    sound_connections t₃ (set t.connections c closed) long
    (all_map (λ x. only_open t x.able) _ (unable c) (λ x e. open_without t u long c others x.able e) t.functions h.abilities)
    (all_map (λ j. only_open t j.row.listeners) _ (left_by c)
    (λ j e. cond_both (λ (k : Job). only_open u k.row.listeners ≡ true) (held_by c j.row) (open_without t u long c others j.row.listeners e) (open_without t u long c others j.row.listeners e))
    t.jobs h.listeners)
    (all_map (λ j. holder_open t j.row.holder && row_means t j) _ (left_by c) (left_holder t u c others) t.jobs (all_both _ _ t.jobs h.holders h.rows))
    (all_set _ t.connections c closed h.clear refl)
    (bearers_without t u c long refl others h.bearers)
    h₃

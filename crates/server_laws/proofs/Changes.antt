-- Every change that an event makes before the table is settled keeps a sound table sound. What is done to jobs has one clause for each
-- fate (`Places`), what is done to the rest one for each case of `Change`. Assumes nothing.
use Prim.Native.Nat.{ℕ, ◌<◌}
use mathlib.Core.Path.{◌≡◌, refl, ap, sym, ◌∙◌}
use mathlib.Core.Bool.{Bool, true, false}
use mathlib.Core.List.{List, []}
use native.Mathlib.Decide.{ℕ_discrete}
use native.Mathlib.Omega.{arith}
use lib.ListN.{length, set, length-set}
use lib.Dec.{leb}
use lib.Seq.{get_or-set_same, get_or-set_other}
use Rattle.octets.specs.Bytes.{Bytes, zero_free, within}
use Rattle.octets.proofs.Strings.{and_left, and_right, and_both}
use Rattle.packet.specs.Layout.{client_id}
use Rattle.packet.specs.Arguments.{fits}
use Rattle.server.specs.declared.Connection.{Connection}
use Rattle.server.specs.Table.{Job, Table, closed, no_function, no_job, connection_at, function_at, job_at, set_id, with_connections, with_jobs}
use Rattle.server.specs.Requests.{sends, Request, request_in}
use Rattle.server.specs.Events.{Send, opening, able_to, unable, unable_to_all, sleeping}
use Rattle.server.specs.Sizes.{id_size}
use Rattle.server.specs.Rules.{text_within, is_open, only_open, id_open}
use Rattle.lists.proofs.Cases.{all2_set, all2_map, all2_by}
use Rattle.server_laws.proofs.Outcome.{Change, Stands}
use Rattle.lists.proofs.Rows.{or_left, all_row, all_set}
use Rattle.server_laws.proofs.Requests.{Good}
use Rattle.server_laws.proofs.Openness.{none_open, open_insert, bearers_by, bearer_at}
use Rattle.server_laws.proofs.Sound.{Sound, sound_ids}
use Rattle.server_laws.proofs.Jobs.{Goes, on, sound_jobs}
use Rattle.server_laws.proofs.Functions.{Less, less_same, less_unable, sound_less, room, sound_name}
use Rattle.server_laws.proofs.Going.{sound_connection, sound_sleeping, still_same, grabbed_live, joined_found, held_found, still_grabbed, still_submitted, goes_worked}
use Rattle.server_laws.proofs.Lengths.{long_change}
use Rattle.server_laws.proofs.Places.{Becomes, stays, begins, joins, taken, told, becomes}
use Rattle.server_laws.proofs.Accepting.{sound_accepted}

pub sound_opening : (c : ℕ) (t : Table) → Sound t → Sound (opening c t)
unfolding opening
sound_opening c t h = sound_connection t c _ refl h

-- the connection that asks stays open when only its sleep changes
asker_open : (c : ℕ) (t : Table) (b : Bool) → c < length t.connections → (connection_at t c).opened ≡ true → (connection_at (sleeping b c t) c).opened ≡ true
unfolding sleeping
asker_open c t b i o = ap (λ (x : Connection). x.opened) (get_or-set_same t.connections c _ closed i) ∙ o

asker_inside : (c : ℕ) (t : Table) (b : Bool) → c < length t.connections → c < length (sleeping b c t).connections
unfolding sleeping
asker_inside c t b i = rw length-set i

-- ---- jobs, place by place: each goes on or is over, if none is made, whatever becomes of the connections meanwhile

module _ (c : ℕ) (t : Table) (b : Bytes) (cs : List Connection) (inside : c < length cs) (opened : is_open (with_connections cs t) c ≡ true) where
  abbrev v : Table
  v = with_connections cs t

  goes : {last p : ℕ} {k : Job} → Good (request_in b) → last ≡ t.last → Becomes t last p (job_at t p) (sends c b) k → Goes v (job_at t p) k
  goes g e (stays d z) = on (still_same v _)
  goes g e (begins c b priority background f u size i o q z r₁ r₂ r₃ l n) = absurd (omega arith)
  goes {p = p} g e (joins c b priority background f u size o q r) = on (still_submitted v c inside opened (job_at t p) (joined_found t f u p r) background)
  goes {p = p} g e (taken c b uniq o q r) = on (still_grabbed v c inside opened (job_at t p) (grabbed_live t c p r))
  goes {p = p} g e (told c b how kind h n d o q r) = goes_worked v c inside opened (job_at t p) (held_found t c h p r) how n d (rw q at g)

  sound_places : {a : Request} {ss : List Send} {u : Table} → Stands t c true → request_in b ≡ a → Good a → Change c t a ss u → u.last ≡ t.last → Sound v → Sound (with_jobs u.jobs v)
  sound_places {u = u} o q g m e h = sound_jobs v (all2_by t.jobs u.jobs no_job no_job (sym (long_change c t m).jobs) (λ p. goes (rw q g) e (becomes o q m p))) h

-- ---- client ids

id_within : (i : Bytes) → fits client_id i ≡ true → text_within id_size i ≡ true
unfolding fits
id_within i e = and_both (leb (length i) 64) (zero_free i) (and_right (leb 1 (length i)) _ (and_left (within 1 64 (length i)) (zero_free i) e)) (and_right (within 1 64 (length i)) (zero_free i) e)

-- an id of an open connection
sound_identified : (c : ℕ) (t : Table) (i : Bytes) → is_open t c ≡ true → fits client_id i ≡ true → Sound t → Sound (set_id t c i)
sound_identified c t i o g h =
    sound_ids t (set t.ids c i) (all_set (text_within id_size) t.ids c i h.ids (id_within i g)) (bearers_by (set_id t c i) (λ x l. go x (ℕ_discrete x c) l)) h
  where
    go : (x : ℕ) → Dec (x ≡ c) → x < length t.connections → id_open (set_id t c i) x ≡ true
    go x (yes q) l = or_left (is_open t x) _ (rw q o)
    go x (no n) l = rw (get_or-set_other t.ids c x i [] n) (bearer_at t x h.bearers l)

-- ---- every change

pub sound_change : (c : ℕ) (t : Table) (b : Bytes) {a : Request} {ss : List Send} {u : Table} → Stands t c true → request_in b ≡ a → Good a → Sound t → Change c t a ss u → Sound u
unfolding sleeping unable_to_all
sound_change c t b o q g h (Change.able f i e) =
    sound_name t f i (able_to c f (function_at t i)) (room t f i e) refl g
    (open_insert t (function_at t i).able c o.inside o.state (all_row (λ x. only_open t x.able) t.functions i no_function h.abilities (none_open t))) h
sound_change c t b o q g h (Change.unknown f e) = h
sound_change c t b o q g h (Change.disabled f i e) = sound_less t (all2_set (Less t) (less_same t) t.functions i no_function (unable c (function_at t i)) (less_unable t c (function_at t i))) h
sound_change c t b o q g h (Change.identified i) = sound_identified c t i o.state g h
sound_change c t b o q g h Change.cleared = sound_less t (all2_map (Less t) (unable c) (less_unable t c) t.functions) h
sound_change c t b o q g h Change.slept = sound_sleeping t c true o.state h
sound_change c t b o q g h (Change.no_job_for uniq e) = sound_sleeping t c false o.state h
sound_change c t b o q g h (Change.grabbed uniq p e) =
    sound_places c t b (sleeping false c t).connections (asker_inside c t false o.inside) (asker_open c t false o.inside o.state) o q g (Change.grabbed uniq p e) refl
    (sound_sleeping t c false o.state h)
sound_change c t b o q g h (Change.joins priority background f v size p e) = sound_places c t b t.connections o.inside o.state o q g (Change.joins priority background f v size p e) refl h
sound_change c t b o q g h (Change.accepts priority background f v size i p e₁ e₂ e₃ l) = sound_accepted c t o.inside o.state priority background f v size i p g e₁ e₂ h l
sound_change c t b o q g h (Change.worker how kind k n d p e) = sound_places c t b t.connections o.inside o.state o q g (Change.worker how kind k n d p e) refl h
sound_change c t b o q g h (Change.status k p e) = h
sound_change c t b o q g h (Change.optioned name e) = sound_connection t c _ o.state h
sound_change c t b o q g h Change.echoed = h

-- The parts of a plan: numbers put anew, the texts after a change, the packets of an order, and the table that numbers and texts make
-- once it is settled. Assumes nothing.
use Rattle.std.specs.Prelude.{ℕ, suc, cond, Bool, List, [], ◌∷◌, map, get_or, set, Some, None}
use Rattle.octets.specs.Bytes.{Bytes}
use Rattle.sets.specs.Sets.{has, remove, members}
use Rattle.server.specs.declared.Connection.{Connection}
use Rattle.server.specs.declared.JobRow.{JobRow}
use Rattle.server.specs.Table.{Function, Job, Table, no_row, no_job, no_function, closed, job_at, function_at, set_id, set_function, set_job, with_row, with_texts, with_holder, live, held_by, with_last_serial, with_connections, with_functions, with_jobs, with_name, with_able, fresh_row, unstarted}
use Rattle.server.specs.Events.{Send, plain, copy, assign, created, failure, status_of, exceptions_name, submitted_by, deaf_to}
use Rattle.plan.specs.declared.Values as V'
use Rattle.plan.specs.declared.Change as C'
use Rattle.plan.specs.declared.Change.TheVariants as CV
use Rattle.plan.specs.declared.Order as O'
use Rattle.plan.specs.declared.Order.TheVariants as OV
use Rattle.plan.specs.Values.{with_connection_rows, with_ables, with_rows}
use Rattle.plan.specs.Settling.{settled_values, wanted_in}

-- ---- numbers put anew

abbrev pub connection_in : V'.Values → ℕ → Connection
connection_in v c = get_or v.connections c closed

abbrev pub row_in : V'.Values → ℕ → JobRow
row_in v p = get_or v.rows p no_row

abbrev pub with_connection : ℕ → Connection → V'.Values → V'.Values
with_connection c x v = with_connection_rows (set v.connections c x) v

abbrev pub put_row : ℕ → JobRow → V'.Values → V'.Values
put_row p r v = with_rows (set v.rows p r) v

-- connection c leaves a row
abbrev pub left_row : ℕ → JobRow → JobRow
left_row c r = cond (held_by c r) (with_holder 0 (deaf_to c r)) (deaf_to c r)

abbrev pub closed_in : ℕ → V'.Values → V'.Values
closed_in c v = with_rows (map (left_row c) v.rows) (with_ables (map (λ s. remove s c) v.able) (with_connection c closed v))

-- the listeners that set the option: the others leave the set
abbrev pub heard_from : ℕ → List Connection → ℕ → ℕ
heard_from c [] s = s
heard_from c (x ∷ xs) s = heard_from (suc c) xs (cond x.exceptions s (remove s c))

unfoldable pub heard : List Connection → ℕ → ℕ
heard cs s = heard_from 0 cs s

-- a new job's row, with its submitter
abbrev pub new_row : ℕ → ℕ → Bool → ℕ → ℕ → ℕ → JobRow
new_row c priority background q size serial =
    submitted_by c background (fresh_row serial q priority size)

-- ---- texts, tables and packets

-- the texts after a change, from the packet's arguments
unfoldable pub changed : C'.Change → Bytes → Bytes → Bytes → Table → Table
changed CV.Nothing a b d t = t
changed (CV.Name q) a b d t = set_function t q (with_name a (function_at t q))
changed (CV.Job p q) a b d t =
    set_job (set_function t q (with_name a (function_at t q))) p (unstarted (job_at t p).row b)
changed (CV.Texts p) a b d t = set_job t p (with_texts b d (job_at t p))
changed (CV.Id c) a b d t = set_id t c a
changed (CV.Left c) a b d t = set_id (with_jobs (map (λ j. cond (held_by c j.row) (with_texts (48 ∷ []) (48 ∷ []) j) j) t.jobs) t) c []

-- a free row has no texts
abbrev pub rowed : JobRow → Job → Job
rowed r j = cond (live r) (with_row r j) no_job

abbrev pub rowed_all : List JobRow → List Job → List Job
rowed_all [] js = []
rowed_all (r ∷ rs) [] = []
rowed_all (r ∷ rs) (j ∷ js) = rowed r j ∷ rowed_all rs js

-- a function that nobody wants has no name
abbrev pub able_all : List ℕ → List JobRow → ℕ → List ℕ → List Function → List Function
able_all ables rs q [] xs = []
able_all ables rs q (s ∷ ss) [] = []
able_all ables rs q (s ∷ ss) (x ∷ xs) = cond (wanted_in ables rs q) (with_able s x) no_function ∷ able_all ables rs (suc q) ss xs

-- the table that these numbers and texts make once it is settled
unfoldable pub final_table : V'.Values → Table → Table
final_table v t =
    let u = settled_values v in
    with_last_serial u.last (with_connections u.connections
    (with_functions (able_all u.able u.rows 0 u.able t.functions) (with_jobs (rowed_all u.rows t.jobs) t)))

-- the packets of an order, to connection c of n, from the table before the event
unfoldable pub ordered : O'.Order → ℕ → ℕ → ℕ → Bytes → Table → List Send
ordered OV.Nothing n c kind h t = []
ordered (OV.Created serial) n c kind h t = created t.hub c serial ∷ []
ordered OV.NoJob n c kind h t = plain c 10 [] ∷ []
ordered (OV.Assign uniq p) n c kind h t = assign uniq c p ∷ []
ordered (OV.Copies to) n c kind h t = map (λ l. copy l kind) (members n to)
ordered (OV.Told to heard serial) n c kind h t = map (λ l. cond (has heard l) (copy l kind) (failure t.hub serial l)) (members n to)
ordered OV.Echo n c kind h t = copy c 17 ∷ []
ordered (OV.Status p) n c kind h t = plain c 20 (status_of (Some p) h t) ∷ []
ordered OV.Unknown n c kind h t = plain c 20 (status_of None h t) ∷ []
ordered OV.Optioned n c kind h t = plain c 27 (exceptions_name ∷ []) ∷ []

-- A call's number is that of the first row of document 01's table whose condition holds. Assumes nothing.
use Prim.Native.Nat.{ℕ, zero, suc, ◌+◌}
use mathlib.Core.Path.{◌≡◌, refl, ap, ◌∙◌, subst}
use mathlib.Core.Bool.{Bool, true, false, not, cond, ◌&&◌, ◌||◌}
use Rattle.std.specs.Prelude.{Option, Some, None}
use mathlib.Core.List.{List, [], ◌∷◌, map}
use native.Mathlib.Nat.{zero-add}
use native.Mathlib.Omega.{arith}
use lib.ListN.{length, get_or, drop}
use lib.Dec.{ltb, eqb}
use Rattle.octets.specs.Bytes.{Bytes, same, number_at}
use Rattle.packet.specs.declared.Shape.{Shape}
use Rattle.packet.specs.declared.Shape.TheVariants.{Foreign}
use Rattle.packet.specs.Layout.{is_own, request_shape}
use Rattle.packet.specs.Arguments.{Parts, bad, parts}
use Rattle.packet.specs.Packet.{Reading, refused, header, argued, body, after_header, read}
use Rattle.lists.specs.Lists.{any, all, find, up}
use Rattle.lists.proofs.Rows.{clash}
use Rattle.server.specs.Table.{Function, Job, Table, live, joins, joined, known, room_for, or_else, free_function, free_place, free_row, rows_of}
use Rattle.server.specs.Requests.{Event, opens, closes, sends, Work, tells, reports, ends, throws, Request, reset, pre_sleep, echo, can_do, cant_do, identify, grab, submit, work, get_status, option, requested, from_reading, request_in}
use Rattle.server.specs.Requests as R
use Rattle.server.specs.Events as E
use Rattle.server.specs.Events.{Decision, silence, refuse, settle, can_do_at, cant_do_at, grab_at, submit_new, submit_to, work_at, status_at, option_if, holds_handle, exceptions_name, only_if_open, only_if_closed, held_job_of}
use Rattle.server.specs.Rules.{is_known, is_open}
use Rattle.server.specs.Server.{answer, decided}
use Rattle.server.specs.Layout.{table_of}
use Rattle.server.specs.Call.{server_in, refused_by, performed, call}
use Rattle.table_laws.proofs.Columns.{length_places}
use Rattle.server_laws.proofs.Fates.{ends_job}
use Rattle.demands.specs.Handles.{is_work, is_ending}
use Rattle.demands.specs.Conditions.{first, is_submission, asked_rows, bad_memory, under_twelve, other_magic, size_above, splits, unsplit, argument_in, type_of, packet_rows, conditions}
use Rattle.demands.proofs.Unmasked.{request_read}

-- ---- what each type asks, by the tests of its number

-- CAN_DO, a submission, a worker packet, OPTION_REQ, or none of them
pub record Tests (kind : ℕ) (able new work' option' : Bool) : Type 0 where
  pub is_able : eqb kind 1 ≡ able
  pub is_new : is_submission kind ≡ new
  pub is_work' : is_work kind ≡ work'
  pub is_option : eqb kind 26 ≡ option'

-- an exception is thrown
abbrev pub throwing : Work → Bool
throwing tells = false
throwing reports = false
throwing ends = false
throwing throws = true

module _ (a b : Bytes) where
  abbrev pub Asks : ℕ → Shape → Request → Type 0
  Asks k s (R.bad n) = is_own s ≡ false
  Asks k s (can_do f) = Tests k true false false false × (f ≡ a)
  Asks k s (submit priority background f u size) = Tests k false true false false × (f ≡ a) × (u ≡ b)
  Asks k s (work how kind h n d) = Tests k false false true false × (h ≡ a) × (throwing how ≡ eqb k 25) × (ends_job how ≡ is_ending k)
  Asks k s (option name) = Tests k false false false true × (name ≡ a)
  Asks k s reset = Tests k false false false false
  Asks k s pre_sleep = Tests k false false false false
  Asks k s echo = Tests k false false false false
  Asks k s (cant_do f) = Tests k false false false false
  Asks k s (identify i) = Tests k false false false false
  Asks k s (grab uniq) = Tests k false false false false
  Asks k s (get_status h) = Tests k false false false false

  -- the tables of shapes and of what is asked, from number i on; beyond the second two foreign numbers
  data From : ℕ → List Shape → List Request → Type 0 where
    beyond : {i : ℕ} → From i (Foreign ∷ Foreign ∷ []) []
    line : {i : ℕ} {s : Shape} {q : Request} {ss : List Shape} {qs : List Request} → Asks i s q → From (suc i) ss qs → From i (s ∷ ss) (q ∷ qs)

  from_at : {i : ℕ} {ss : List Shape} {qs : List Request} → From i ss qs → (k : ℕ) → Asks (i + k) (get_or ss k Foreign) (get_or qs k (R.bad 9))
  from_at beyond zero = refl
  from_at beyond (suc zero) = refl
  from_at beyond (suc (suc k)) = refl
  from_at {i} (line {s = s} {q = q} r rs) zero = subst (λ (m : ℕ). Asks m s q) (omega arith) r
  from_at {i} (line {ss = ss} {qs = qs} r rs) (suc k) = subst (λ (m : ℕ). Asks m (get_or ss k Foreign) (get_or qs k (R.bad 9))) (omega arith) (from_at rs k)

tests : (k : ℕ) → Tests k (eqb k 1) (is_submission k) (is_work k) (eqb k 26)
tests k = record { is_able = refl; is_new = refl; is_work' = refl; is_option = refl }

pub asks_at : (kind : ℕ) (a b c : Bytes) → Asks a b kind (request_shape kind) (requested kind a b c)
unfolding requested request_shape
asks_at kind a b c =
    subst (λ (m : ℕ). Asks a b m (request_shape kind) (requested kind a b c)) (zero-add kind)
    (from_at a b {i = 0}
    (line refl (line (tests 1, refl) (line (tests 2) (line (tests 3) (line (tests 4) (line refl (line refl  -- 0 to 6
    (line (tests 7, refl, refl) (line refl (line (tests 9) (line refl (line refl  -- 7 to 11
    (line (tests 12, refl, refl, refl) (line (tests 13, refl, refl, refl) (line (tests 14, refl, refl, refl) (line (tests 15) (line (tests 16) (line refl  -- 12 to 17
    (line (tests 18, refl, refl) (line refl (line refl (line (tests 21, refl, refl) (line (tests 22) (line refl (line refl  -- 18 to 24
    (line (tests 25, refl, refl, refl) (line (tests 26, refl) (line refl (line (tests 28, refl, refl, refl) (line (tests 29, refl, refl, refl)  -- 25 to 29
    (line (tests 30) (line refl (line (tests 32, refl, refl) (line (tests 33, refl, refl) (line (tests 34, refl, refl) beyond)))))))))))))))))))))))))))))))))))  -- 30 to 34
    kind)

-- ---- searches

abbrev is_some : Option ℕ → Bool
is_some None = false
is_some (Some i) = true

some_up : (o : Option ℕ) → is_some (up o) ≡ is_some o
some_up None = refl
some_up (Some i) = refl

-- a search finds a place exactly if some entry passes
find_any : {A : Type 0} (p : A → Bool) (l : List A) → is_some (find p l) ≡ any p l
find_any p [] = refl
find_any p (x ∷ l) = go (p x) (some_up (find p l) ∙ find_any p l)
  where
    go : (b : Bool) → is_some (up (find p l)) ≡ any p l → is_some (cond b (Some 0) (up (find p l))) ≡ b || any p l
    go true q = refl
    go false q = q

any_not : {A : Type 0} (p : A → Bool) (l : List A) → any p l ≡ not (all (λ x. not (p x)) l)
any_not p [] = refl
any_not p (x ∷ l) = go (p x) (any_not p l)
  where
    go : (b : Bool) → any p l ≡ not (all (λ x. not (p x)) l) → b || any p l ≡ not (not b && all (λ x. not (p x)) l)
    go true q = refl
    go false q = q

not_not : (b : Bool) → not (not b) ≡ b
not_not true = refl
not_not false = refl

some_else : (x y : Option ℕ) → is_some (or_else x y) ≡ is_some x || is_some y
some_else None y = refl
some_else (Some i) y = refl

-- there is room for a function: it is known, or a place is free
room_some : (fs : List Function) (f : Bytes) → is_some (room_for fs f) ≡ not (not (any (λ x. same x.name f) fs) && all is_known fs)
room_some fs f =
    some_else (known fs f) (free_function fs)
    ∙ both (is_some (known fs f)) (any (λ x. same x.name f) fs) (is_some (free_function fs)) (all is_known fs) (find_any (λ x. same x.name f) fs) (find_any (λ x. same x.name []) fs ∙ any_not (λ x. same x.name []) fs)
  where
    both : (a b c d : Bool) → a ≡ b → c ≡ not d → a || c ≡ not (not b && d)
    both a true c d p q = rw p
    both a false c d p q = rw (p, q)

-- a place is free: not all jobs are live
all_rows : (js : List Job) → all (λ r. not (not (live r))) (map (λ j. j.row) js) ≡ all (λ j. live j.row) js
all_rows [] = refl
all_rows (j ∷ js) = rw (not_not (live j.row), all_rows js)

free_some : (t : Table) → is_some (free_place t) ≡ not (all (λ j. live j.row) t.jobs)
unfolding free_row
free_some t = find_any (λ r. not (live r)) (rows_of t) ∙ any_not (λ r. not (live r)) (rows_of t) ∙ ap not (all_rows t.jobs)

-- ---- what is asked

module _ (c : ℕ) (t : Table) where
  can_do_number : (o : Option ℕ) (f : Bytes) → (can_do_at o c f t).number ≡ cond (not (is_some o)) 11 0
  unfolding can_do_at refuse settle
  can_do_number None f = refl
  can_do_number (Some q) f = refl

  cant_do_number : (o : Option ℕ) → (cant_do_at o c t).number ≡ 0
  unfolding cant_do_at settle
  cant_do_number None = refl
  cant_do_number (Some q) = refl

  grab_number : (o : Option ℕ) (uniq : Bool) (u : Table) → (grab_at o uniq c u).number ≡ 0
  unfolding grab_at settle
  grab_number None uniq u = refl
  grab_number (Some p) uniq u = refl

  work_number : (o : Option ℕ) (how : Work) (kind : ℕ) (n d : Bytes) → (work_at o how kind c n d t).number ≡ cond (not (is_some o)) 14 0
  unfolding work_at refuse settle
  work_number None how kind n d = refl
  work_number (Some p) how kind n d = refl

  option_number : (b : Bool) (name : Bytes) → (option_if b c name t).number ≡ cond (not b) 15 0
  unfolding option_if refuse settle
  option_number true name = refl
  option_number false name = refl

  new_number : (o r : Option ℕ) (priority : ℕ) (background : Bool) (f u : Bytes) (size : ℕ)
      → (submit_new o r c priority background f u size t).number ≡ cond (not (is_some o)) 11 (cond (not (is_some r)) 12 (cond (not (ltb t.last 4294967295)) 13 0))
  unfolding submit_new refuse settle
  new_number None r priority background f u size = refl
  new_number (Some q) None priority background f u size = refl
  new_number (Some q) (Some p) priority background f u size = go (ltb t.last 4294967295) _ refl
    where
      go : (b : Bool) (d : Decision) → d.number ≡ 0 → (cond b d (refuse c 13 t)).number ≡ cond (not b) 13 0
      go true d e = e
      go false d e = refl

  submit_number : (o : Option ℕ) (priority : ℕ) (background : Bool) (f u : Bytes) (size : ℕ)
      → (submit_to o c priority background f u size t).number ≡ cond (is_some o) 0 (submit_new (room_for t.functions f) (free_place t) c priority background f u size t).number
  unfolding submit_to settle
  submit_number None priority background f u size = refl
  submit_number (Some p) priority background f u size = refl

  joined_some : (f u : Bytes) → is_some (joined t f u) ≡ any (joins t.functions f u) t.jobs
  unfolding joined
  joined_some f u = find_any (joins t.functions f u) t.jobs

  -- the rows of what is asked, by the tests of the type
  module _ (kind : ℕ) (a b : Bytes) where
    abbrev Number : ℕ → Type 0
    Number n = n ≡ first (asked_rows t c kind a b)

    -- nothing that rows 11 to 15 are about
    none_number : Tests kind false false false false → Number 0
    unfolding first
    none_number h = rw (h.is_able, h.is_new, h.is_work', h.is_option)

    able_number : Tests kind true false false false → Number (can_do_at (room_for t.functions a) c a t).number
    unfolding first
    able_number h =
        rw (h.is_able, h.is_new, h.is_work', h.is_option)
        (can_do_number (room_for t.functions a) a ∙ ap (λ (x : Bool). cond (not x) 11 0) (room_some t.functions a) ∙ ap (λ (x : Bool). cond x 11 0) (not_not (not (any (λ x. same x.name a) t.functions) && all is_known t.functions)))

    held_number : (how : Work) (k : ℕ) (n d : Bytes) → Tests kind false false true false → Number (work_at (held_job_of t c a) how k c n d t).number
    unfolding first
    held_number how k n d h =
        rw (h.is_able, h.is_new, h.is_work', h.is_option)
        (work_number (held_job_of t c a) how k n d ∙ ap (λ (x : Bool). cond (not x) 14 0) (find_any (λ j. holds_handle t.hub c a j.row) t.jobs))

    named_number : Tests kind false false false true → Number (option_if (same a exceptions_name) c a t).number
    unfolding first
    named_number h = rw (h.is_able, h.is_new, h.is_work', h.is_option) (option_number (same a exceptions_name) a)

    new_job_number : (priority : ℕ) (background : Bool) (size : ℕ) → Tests kind false true false false → Number (submit_to (joined t a b) c priority background a b size t).number
    unfolding first
    new_job_number priority background size h =
        rw (h.is_able, h.is_new, h.is_work', h.is_option)
        (submit_number (joined t a b) priority background a b size
        ∙ ap (λ (n : ℕ). cond (is_some (joined t a b)) 0 n) (new_number (room_for t.functions a) (free_place t) priority background a b size)
        ∙ rw (joined_some a b)
        (go (any (joins t.functions a b) t.jobs) (any (λ x. same x.name a) t.functions) (all is_known t.functions) (all (λ j. live j.row) t.jobs) (not (ltb t.last 4294967295))
        (is_some (room_for t.functions a)) (is_some (free_place t)) (room_some t.functions a) (free_some t)))
      where
        go : (j x y z f o r : Bool) → o ≡ not (not x && y) → r ≡ not z
            → ◌≡◌ {A = ℕ} (cond j 0 (cond (not o) 11 (cond (not r) 12 (cond f 13 0)))) (cond (not j && (not x && y)) 11 (cond (not j && z) 12 (cond (not j && f) 13 0)))
        go true x y z f o r p q = refl
        go false x y z f o r p q = rw (p, q, not_not (not x && y), not_not z)

    asked_number : (q : Request) → is_own (request_shape kind) ≡ true → Asks a b kind (request_shape kind) q → Number (E.served c q t).number
    unfolding E.served settle status_at
    asked_number (R.bad n) o h = clash o h
    asked_number (can_do f) o h = rw h.1 (able_number h.0)
    asked_number (submit priority background f u size) o h = rw (h.1, h.2) (new_job_number priority background size h.0)
    asked_number (work how k x n d) o h = rw h.1 (held_number how k n d h.0)
    asked_number (option name) o h = rw h.1 (named_number h.0)
    asked_number (identify i) o h = none_number h
    asked_number reset o h = none_number h
    asked_number pre_sleep o h = none_number h
    asked_number echo o h = none_number h
    asked_number (cant_do f) o h = cant_do_number (known t.functions f) ∙ none_number h
    asked_number (grab uniq) o h = grab_number _ uniq _ ∙ none_number h
    asked_number (get_status x) o h = none_number h

  -- ---- packets

  -- what a reading comes to
  abbrev number_of : Reading → ℕ
  number_of r = (E.served c (from_reading r) t).number

  -- the header
  headed_number : (u m z l : Bool) (r : Reading) (n : ℕ) → number_of r ≡ n
      → number_of (after_header (cond u 5 (cond m 6 (cond z 7 (cond l 0 8)))) r) ≡ cond u 5 (cond m 6 (cond z 7 (cond (not l) 8 n)))
  unfolding E.served refuse
  headed_number true m z l r n e = refl
  headed_number false true z l r n e = refl
  headed_number false false true l r n e = refl
  headed_number false false false true r n e = e
  headed_number false false false false r n e = refl

  -- the type and the arguments
  body_number : (kind : ℕ) (ps : Parts) (o : Bool) → is_own (request_shape kind) ≡ o
      → number_of (cond o (argued kind ps) (refused 9)) ≡ cond (not o) 9 (cond (unsplit ps) 10 (first (asked_rows t c kind (argument_in ps 0) (argument_in ps 1))))
  unfolding E.served refuse
  body_number kind ps false q = refl
  body_number kind bad true q = refl
  body_number kind (parts args) true q =
      asked_number kind (get_or args 0 []) (get_or args 1 []) (requested kind (get_or args 0 []) (get_or args 1 []) (get_or args 2 [])) q (asks_at kind (get_or args 0 []) (get_or args 1 []) (get_or args 2 []))

  packet_number : (b : Bytes) → (E.served c (request_in b) t).number ≡ first (packet_rows t (sends c b))
  unfolding read header body first
  packet_number b =
      ap (λ (q : Request). (E.served c q t).number) (request_read b)
      ∙ headed_number (under_twelve b) (other_magic b) (size_above b) (eqb (length b) (12 + number_at b 8)) _ _ (body_number (type_of b) (splits b) (is_own (request_shape (type_of b))) refl)

-- ---- every event

-- one that only an open connection may bring, and one that only a closed one may
open_number : (i o : Bool) (t : Table) (d : Decision) → (only_if_open i o t d).number ≡ cond (not i) 2 (cond (not o) 3 d.number)
unfolding only_if_open silence
open_number false o t d = refl
open_number true false t d = refl
open_number true true t d = refl

closed_number : (i o : Bool) (t : Table) (d : Decision) → (only_if_closed i o t d).number ≡ cond (not i) 2 (cond o 4 d.number)
unfolding only_if_closed silence
closed_number false o t d = refl
closed_number true true t d = refl
closed_number true false t d = refl

module _ (n : ℕ) (t w o : Bytes) where
  connections_are : length (table_of n t).connections ≡ n
  unfolding table_of
  connections_are = length_places _ 0 n

  -- rows 2 to 15
  event_number : (e : Event) → (answer e (server_in n t w)).number ≡ first (drop 1 (conditions n e t w o))
  unfolding answer decided server_in conditions first settle
  event_number (opens c) = closed_number (ltb c (length (table_of n t).connections)) (is_open (table_of n t) c) (table_of n t) _ ∙ rw connections_are
  event_number (closes c) = open_number (ltb c (length (table_of n t).connections)) (is_open (table_of n t) c) (table_of n t) _ ∙ rw connections_are
  event_number (sends c b) =
      open_number (ltb c (length (table_of n t).connections)) (is_open (table_of n t) c) (table_of n t) _
      ∙ rw (connections_are, packet_number c (table_of n t) b)

  pub number_first : (e : Event) → (call n e t w o).number ≡ first (conditions n e t w o)
  unfolding call conditions first refused_by performed
  number_first e = by (bad_memory n t w o)
    where
      by : (x : Bool) → (cond x (refused_by 1 t w o) (performed e (server_in n t w) t w o)).number ≡ cond x 1 (first (drop 1 (conditions n e t w o)))
      by true = refl
      by false = event_number e

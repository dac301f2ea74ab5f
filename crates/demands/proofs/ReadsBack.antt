-- Each packet that a running server sends reads back, by the packet layer, to its type and its arguments. Assumes nothing.
use Prim.Native.Nat.{ℕ, ◌+◌, ◌/◌, ◌%◌, ◌<◌, ◌≤◌}
use mathlib.Core.Path.{◌≡◌, refl, ap, sym, ◌∙◌}
use mathlib.Core.Bool.{Bool, true, false, not, cond, ◌&&◌}
use Rattle.std.specs.Prelude.{Option, Some, None}
use mathlib.Core.List.{List, [], ◌∷◌, ◌++◌, append-nil, append_assoc}
use native.Mathlib.Omega.{arith}
use borrow.Author.Tests.{le-leb, leb-true, ltb-true, ltb-false}
use lib.ListN.{length, get_or, drop, length-append, length-drop, get_or-eq_default}
use lib.Dec.{leb, ltb, eqb}
use Rattle.octets.specs.Bytes.{Bytes, same, within, zero_free, every, first_zero}
use Rattle.octets.proofs.Strings.{and_left, and_right, and_both, same_is}
use Rattle.handle.specs.Handle.{handle, is_hub_name}
use Rattle.handle.proofs.Handles.{handle_least, handle_bounded, handle_clean}
use Rattle.packet.specs.Layout.{rules_of, request_shape, response_shape, is_own}
use Rattle.packet.specs.Layout as L
use Rattle.packet.specs.declared.Shape.TheVariants.{Handle}
use Rattle.packet.specs.declared.Rule.TheVariants.{Text, Flag, Opaque}
use Rattle.packet.specs.Arguments.{fits, fit_all, join}
use Rattle.packet.specs.Packet.{got, read, requests, responses}
use Rattle.packet.specs.Opaque.{visible, opaque}
use Rattle.packet_laws.proofs.Packets.{responses_well, Headed, header_good, Got, read_got}
use Rattle.packet_laws.proofs.Splitting.{split_join, text_short}
use Rattle.packet_laws.proofs.RoundTrip.{packet_reads}
use Rattle.packet_laws.proofs.Blindness.{data_whole}
use Rattle.lists.specs.Lists.{fit}
use Rattle.lists.proofs.Lists.{length_fit}
use Rattle.lists.proofs.Searches.{found}
use Rattle.lists.proofs.Rows.{clash, implies_use, all_at, all_row}
use Rattle.lists.proofs.Cases.{All, all_more}
use Rattle.server.specs.Sizes.{name_size, unique_size}
use Rattle.server.specs.Table.{Table, no_function, no_job, function_at, job_at, live, queued, has_handle, job_of}
use Rattle.server.specs.Rules.{text_within, stored_number, together, hub_named}
use Rattle.server.specs.Requests.{Event, sends, Work, request_in, get_status, echo, work}
use Rattle.server.specs.Refusals.{is_told, error_text, refusal_texts}
use Rattle.server.specs.Events.{Send, plain, copy, assign, error, created, flag, status_of, exceptions_name}
use Rattle.server.specs.Server.{Server, Sent, render, shown_by, opaque_of, decided}
use Rattle.server_laws.proofs.Packets.{Sends, why_sent}
use Rattle.server_laws.proofs.Going.{best_found}
use Rattle.server_laws.proofs.Obeyed.{obeyed}
use Rattle.server_laws.proofs.Sound.{job_named}
use Rattle.server_calls.proofs.Follows.{Running}
use Rattle.server_calls.proofs.Refusals.{short_at}
use Rattle.server_blind.proofs.OpaqueParts.{packet_of}
use Rattle.demands.specs.Messages.{arguments_in, arguments_of, message_of}
use Rattle.demands.proofs.Arguments.{work_read, echo_read, status_read}

-- arguments that may be sent by this type
record Sendable (kind : ℕ) (args : List Bytes) : Type 0 where
  own : is_own (response_shape kind) ≡ true
  fit : fit_all (rules_of (response_shape kind)) args ≡ true
  limited : length (join args) ≤ 1088

reads_by : (p : Sent) (args : List Bytes) → p.shown ++ p.opaque_part ≡ join args → Sendable p.kind args → read responses (packet_of p) ≡ got p.kind args
reads_by p args q h = rw q (packet_reads responses responses_well p.kind args h.own h.fit h.limited)

-- ---- arguments

module _ (hub : Bytes) (good : is_hub_name hub ≡ true) where
  handle_fits : (n : ℕ) → fits L.handle (handle hub n) ≡ true
  unfolding fits
  handle_fits n =
      let a = handle_least hub n in
      let b = handle_bounded hub good n in
      and_both (within 1 63 (length (handle hub n))) _ (and_both (leb 1 (length (handle hub n))) _ (le-leb 1 (length (handle hub n)) (omega arith)) (le-leb (length (handle hub n)) 63 (omega arith))) (handle_clean hub good n)

  -- 8 JOB_CREATED and 14 WORK_FAIL: a handle alone
  handle_sendable : (kind : ℕ) → response_shape kind ≡ Handle → (n : ℕ) → Sendable kind (handle hub n ∷ [])
  unfolding rules_of fit_all join
  handle_sendable kind e n =
      record { own = rw e; fit = rw e (and_both (fits L.handle (handle hub n)) true (handle_fits n) refl); limited = omega (arith, handle_bounded hub good n) }

empty_sendable : (kind : ℕ) → is_own (response_shape kind) ≡ true → rules_of (response_shape kind) ≡ [] → Sendable kind []
unfolding fit_all join
empty_sendable kind o r = record { own = o; fit = rw r; limited = omega arith }

-- 19 ERROR: a number that has a text is in the table, and the texts have no zero byte
told_small : (n : ℕ) → is_told n ≡ true → n ≤ 15
unfolding is_told same
told_small n t = by (ltb n 16) refl
  where
    by : (b : Bool) → ltb n 16 ≡ b → n ≤ 15
    by true e = let h = ltb-true n 16 e in omega arith
    by false e = let q : error_text n ≡ [] = get_or-eq_default refusal_texts [] (ltb-false n 16 e) in clash t (rw q)

error_sendable : (n : ℕ) → is_told n ≡ true → Sendable 19 (((n / 10 + 48) ∷ (n % 10 + 48) ∷ []) ∷ error_text n ∷ [])
unfolding rules_of response_shape fit_all fits every join first_zero
error_sendable n t =
    let h = told_small n t in
    let x = n / 10 + 48 in
    let y = n % 10 + 48 in
    let f : zero_free (error_text n) ≡ true = all_row zero_free refusal_texts n [] refl refl in
    let d : within 48 57 x && (within 48 57 y && true) ≡ true
    = and_both (within 48 57 x) _ (and_both (leb 48 x) _ (le-leb 48 x (omega arith)) (le-leb x 57 (omega arith)))
    (and_both (within 48 57 y) true (and_both (leb 48 y) _ (le-leb 48 y (omega arith)) (le-leb y 57 (omega arith))) refl) in
    record { own = refl; fit = and_both (within 48 57 x && (within 48 57 y && true)) _ d (and_both (zero_free (error_text n)) true f refl); limited = omega (arith, short_at 9 refusal_texts n refl) }

-- 27 OPTION_RES
option_sendable : (name : Bytes) → same name exceptions_name ≡ true → Sendable 27 (name ∷ [])
unfolding rules_of response_shape fit_all fits join first_zero
option_sendable name e = rw (same_is name exceptions_name e) (record { own = refl; fit = refl; limited = omega arith })

-- 20 STATUS_RES
flag_fits : (b : Bool) → fits Flag (flag b) ≡ true
unfolding fits same
flag_fits true = refl
flag_fits false = refl

number_short : (a : Bytes) → stored_number a ≡ true → length a ≤ 10
number_short a e = leb-true (length a) 10 (and_right (leb 1 (length a)) _ (and_left (within 1 10 (length a)) _ e))

status_sendable : (h n d : Bytes) (known running : Bool) → fits L.handle h ≡ true → stored_number n ≡ true → stored_number d ≡ true
    → Sendable 20 (h ∷ flag known ∷ flag running ∷ n ∷ d ∷ [])
unfolding rules_of response_shape fit_all fits join
status_sendable h n d known running f en ed =
    let a = number_short n en in
    let b = number_short d ed in
    let c = text_short 1 63 h f in
    record {
      own = refl;
      fit = and_both (fits L.handle h) _ f (and_both (fits Flag (flag known)) _ (flag_fits known) (and_both (fits Flag (flag running)) _ (flag_fits running) (and_both (stored_number n) _ en (and_both (stored_number d) true ed refl))));
      limited = rw (length-append h (0 ∷ (flag known ++ (0 ∷ (flag running ++ (0 ∷ (n ++ (0 ∷ d))))))), length-append n (0 ∷ d)) (omega arith);
    }

-- the handle that a status request names
status_fits : (b h : Bytes) → request_in b ≡ get_status h → fits L.handle h ≡ true
unfolding rules_of fit_all
status_fits b h q =
    let r = status_read b h q in
    let g : Got requests b r.kind r.args = read_got requests b r.kind r.args r.reads in
    let f : fit_all (rules_of (request_shape r.kind)) r.args ≡ true = (split_join _ (drop 12 b) r.args g.splits).1 in
    rw r.first (first r.args (rw r.shape at f))
  where
    first : (args : List Bytes) → fit_all (L.handle ∷ []) args ≡ true → fits L.handle (get_or args 0 []) ≡ true
    first [] e = clash e refl
    first (a ∷ as') e = and_left (fits L.handle a) _ e

-- ---- packets that are passed on

-- a packet that was read as a request may go out by a type of the same shape, with its arguments as they came
record Passed (b : Bytes) (kind : ℕ) (args : List Bytes) : Type 0 where
  sendable : Sendable kind args
  whole : drop 12 (visible requests b) ++ opaque requests b ≡ join args

passed : (b : Bytes) (k kind : ℕ) (args : List Bytes) → read requests b ≡ got k args → response_shape kind ≡ request_shape k → Passed b kind args
passed b k kind args e q =
    let g : Got requests b k args = read_got requests b k args e in
    let j = split_join (rules_of (request_shape k)) (drop 12 b) args g.splits in
    let h : Headed requests.magic requests.most b = header_good _ _ b g.headed in
    record {
      sendable = record { own = rw q g.own; fit = rw q j.1; limited = rw (j.0, length-drop) (omega (arith, h.limited, h.whole)) };
      whole = data_whole requests b h.long ∙ sym j.0;
    }

arguments_are : (c : ℕ) (b : Bytes) (k : ℕ) (args : List Bytes) → read requests b ≡ got k args → arguments_of (sends c b) ≡ args
unfolding arguments_of
arguments_are c b k args e = ap arguments_in e

-- ---- each packet that an event sends

module _ (e : Event) (s : Server) where
  -- it reads back
  abbrev pub Reads : Send → Type 0
  Reads x = read responses (packet_of (render e s x)) ≡ (message_of e s x).says

  reads_plain : (to kind : ℕ) (args : List Bytes) → Sendable kind args → Reads (plain to kind args)
  unfolding render message_of
  reads_plain to kind args h = reads_by (render e s (plain to kind args)) args (append-nil (join args)) h

  pub reads_error : (c n : ℕ) → is_told n ≡ true → Reads (error c n)
  reads_error c n h = reads_plain c 19 _ (error_sendable n h)

  reads_created : hub_named s.table ≡ true → (c n : ℕ) → Reads (created s.table.hub c n)
  unfolding response_shape
  reads_created good c n = reads_plain c 8 _ (handle_sendable s.table.hub good 8 refl n)

-- ---- copies

module _ (c : ℕ) (b : Bytes) (s : Server) where
  reads_copy : (to kind : ℕ) (args : List Bytes) → Passed b kind args → arguments_of (sends c b) ≡ args → Reads (sends c b) s (copy to kind)
  unfolding render message_of shown_by opaque_of
  reads_copy to kind args p q = rw q (reads_by (render (sends c b) s (copy to kind)) args p.whole p.sendable)

  reads_echo : request_in b ≡ echo → Reads (sends c b) s (copy c 17)
  unfolding response_shape
  reads_echo q = let r = echo_read b q in reads_copy c 17 r.args (passed b r.kind 17 r.args r.reads (sym r.shape)) (arguments_are c b r.kind r.args r.reads)

  reads_work : (how : Work) (kind : ℕ) (h n d : Bytes) → request_in b ≡ work how kind h n d → (to : ℕ) → Reads (sends c b) s (copy to kind)
  reads_work how kind h n d q to =
      let r = work_read b how kind h n d q in
      reads_copy to kind r.args (passed b kind kind r.args r.reads r.shape) (arguments_are c b kind r.args r.reads)

-- ---- assignments

-- the hub's name, and the texts of an unfinished job of a running server
record Texts (t : Table) (p : ℕ) : Type 0 where
  hub : hub_named t ≡ true
  function : fits L.function (function_at t (job_at t p).row.function).name ≡ true
  unique : fits L.unique (job_at t p).unique ≡ true
  numerator : stored_number (job_at t p).numerator ≡ true
  denominator : stored_number (job_at t p).denominator ≡ true
  small : together t (job_at t p) ≤ 1022

some_length : (a : Bytes) → not (same a []) ≡ true → 1 ≤ length a
unfolding same
some_length [] e = clash e refl
some_length (x ∷ a) e = omega arith

text_fits : (least most : ℕ) (a : Bytes) → least ≤ length a → text_within most a ≡ true → fits (Text least most) a ≡ true
unfolding fits
text_fits least most a l e =
    and_both (within least most (length a)) _ (and_both (leb least (length a)) _ (le-leb least (length a) l) (and_left (leb (length a) most) _ e)) (and_right (leb (length a) most) _ e)

texts : (n : ℕ) (s : Server) → Running n s → (p : ℕ) → p < length s.table.jobs → live (job_at s.table p).row ≡ true → Texts s.table p
unfolding first_zero
texts n s h p i l =
    let t = s.table in
    let j = job_at t p in
    let o = (obeyed t h.rules).sound in
    let f = (function_at t j.row.function).name in
    let u : text_within unique_size j.unique && (stored_number j.numerator && stored_number j.denominator) ≡ true = implies_use (live j.row) _ (all_at _ t.jobs p no_job o.texts i) l in
    let m = and_right (text_within unique_size j.unique) _ u in
    let k : not (same f []) ≡ true = implies_use (live j.row) _ (all_at (job_named t) t.jobs p no_job o.jobs_known i) l in
    record {
      hub = o.named;
      function = text_fits 1 32 f (some_length f k) (all_row (λ x. text_within name_size x.name) t.functions j.row.function no_function o.names refl);
      unique = text_fits 0 64 j.unique (omega arith) (and_left (text_within unique_size j.unique) _ u);
      numerator = and_left (stored_number j.numerator) _ m;
      denominator = and_right (stored_number j.numerator) _ m;
      small = leb-true _ 1022 (all_at (λ k. leb (together t k) 1022) t.jobs p no_job o.sizes i);
    }

assign_data : (uniq : Bool) (h f u w : Bytes) → join (h ∷ f ∷ cond uniq (u ∷ [] ∷ []) ([] ∷ [])) ++ w ≡ join (h ∷ f ∷ cond uniq (u ∷ w ∷ []) (w ∷ []))
unfolding join
assign_data true h f u w = simp append_assoc
assign_data false h f u w = simp append_assoc

opaque_fits : (w : Bytes) → fits Opaque w && true ≡ true
unfolding fits
opaque_fits w = refl

module _ (e : Event) (s : Server) (to p : ℕ) (x : Texts s.table p) where
  assign_sendable : (uniq : Bool) (w : Bytes) → length w ≡ (job_at s.table p).row.size
      → let j = job_at s.table p in Sendable (cond uniq 31 11) (handle s.table.hub j.row.serial ∷ (function_at s.table j.row.function).name ∷ cond uniq (j.unique ∷ w ∷ []) (w ∷ []))
  unfolding rules_of response_shape fit_all join
  assign_sendable true w l =
      let j = job_at s.table p in
      let h = handle s.table.hub j.row.serial in
      let f = (function_at s.table j.row.function).name in
      let m = handle_bounded s.table.hub x.hub j.row.serial in
      record {
        own = refl;
        fit = and_both (fits L.handle h) _ (handle_fits s.table.hub x.hub _) (and_both (fits L.function f) _ x.function (and_both (fits L.unique j.unique) _ x.unique (opaque_fits w)));
        limited = rw (length-append h (0 ∷ (f ++ (0 ∷ (j.unique ++ (0 ∷ w))))), length-append f (0 ∷ (j.unique ++ (0 ∷ w))), length-append j.unique (0 ∷ w)) (omega (arith, x.small));
      }
  assign_sendable false w l =
      let j = job_at s.table p in
      let h = handle s.table.hub j.row.serial in
      let f = (function_at s.table j.row.function).name in
      let m = handle_bounded s.table.hub x.hub j.row.serial in
      record {
        own = refl;
        fit = and_both (fits L.handle h) _ (handle_fits s.table.hub x.hub _) (and_both (fits L.function f) _ x.function (opaque_fits w));
        limited = rw (length-append h (0 ∷ (f ++ (0 ∷ w))), length-append f (0 ∷ w)) (omega (arith, x.small));
      }

  reads_assigned : (uniq : Bool) → Reads e s (assign uniq to p)
  unfolding render message_of
  reads_assigned uniq =
      let j = job_at s.table p in
      let w = fit j.row.size (get_or s.workloads p []) in
      reads_by (render e s (assign uniq to p)) _ (assign_data uniq (handle s.table.hub j.row.serial) (function_at s.table j.row.function).name j.unique w) (assign_sendable uniq w (length_fit j.row.size _))

-- ---- every event

module _ (n : ℕ) (s : Server) (h : Running n s) where
  named : hub_named s.table ≡ true
  named = (obeyed s.table h.rules).sound.named

  reads_status : (c : ℕ) (b j : Bytes) (o : Option ℕ) → request_in b ≡ get_status j → job_of s.table j ≡ o → Reads (sends c b) s (plain c 20 (status_of o j s.table))
  unfolding has_handle every
  reads_status c b j None q r = reads_plain _ s c 20 _ (status_sendable j _ _ false false (status_fits b j q) refl refl)
  reads_status c b j (Some p) q r =
      let f = found (λ x. has_handle s.table.hub j x.row) no_job s.table.jobs (Some p) r in
      let x = texts n s h p f.inside (and_left (live (job_at s.table p).row) _ f.passes) in
      let k = job_at s.table p in
      reads_plain _ s c 20 _ (status_sendable j k.numerator k.denominator true (not (eqb k.row.holder 0)) (status_fits b j q) x.numerator x.denominator)

  -- each packet, by the reason why it is sent
  reads_sent : {last : ℕ} {e : Event} {x : Send} → Sends s.table last e x → Reads e s x
  unfolding rules_of response_shape
  reads_sent (Sends.an_error c b m r) = reads_error _ s c m r
  reads_sent (Sends.no_job_lem c b uniq q r) = reads_plain _ s c 10 [] (empty_sendable 10 refl refl)
  reads_sent (Sends.the_job c b uniq q p r) =
      let (i, g) = best_found s.table c p r in
      let l = and_left (live (job_at s.table p).row) _ (and_left (queued (job_at s.table p).row) _ g) in
      reads_assigned _ s c p (texts n s h p i l) uniq
  reads_sent (Sends.handle_joined c b priority background f u size q p r) = reads_created _ s named c _
  reads_sent (Sends.handle_made c b priority background f u size q l m) = reads_created _ s named c _
  reads_sent (Sends.a_copy c b how kind j x y q p r l m w) = reads_work c b s how kind j x y q l
  reads_sent (Sends.a_failure c b how kind j x y q p r l m w) = reads_plain _ s l 14 _ (handle_sendable s.table.hub named 14 refl (job_at s.table p).row.serial)
  reads_sent (Sends.a_status c b j q o r) = reads_status c b j o q r
  reads_sent (Sends.an_option_lem c b name q r) = reads_plain _ s c 27 _ (option_sendable name r)
  reads_sent (Sends.an_echo c b q) = reads_echo c b s q
  reads_sent (Sends.a_noop l) = reads_plain _ s l 6 [] (empty_sendable 6 refl refl)

pub all_read : (n : ℕ) (e : Event) (s : Server) → Running n s → All (Reads e s) (decided e s).packets
all_read n e s h = all_more (λ x q. reads_sent n s h q) (why_sent e s)

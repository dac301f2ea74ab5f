-- Demand 3 of calls on lent bytes, its sentences on one packet: one submission, one worker packet or one echo of a history has other
-- opaque bytes, and all other events are equal. What may then differ, at that call and at every later one: which packets, and in them
-- the opaque part alone. Number, length and table are the same at every call. Assumes nothing.
use Prim.Native.Nat.{ℕ, suc, ◌≤◌}
use mathlib.Core.Path.{◌≡◌, refl, ap, ap₂, sym, ◌∙◌, subst}
use mathlib.Core.Bool.{true}
use mathlib.Core.List.{List, [], ◌∷◌, ◌++◌}
use native.Mathlib.Omega.{arith}
use lib.ListN.{length}
use Rattle.octets.specs.Bytes.{Bytes}
use Rattle.handle.specs.Handle.{handle, is_hub_name}
use Rattle.octets.specs.Put.{put}
use Rattle.lists.specs.Lists.{concat}
use Rattle.server.specs.Sizes.{workloads_size, output_size}
use Rattle.server.specs.Requests.{Event}
use Rattle.server.specs.Server.{Server, Sent, Answer, next, answer, start, after, answers}
use Rattle.server.specs.Layout.{table_size}
use Rattle.server.specs.Call.{Result, performed, call, make}
use Rattle.lists.proofs.Cases.{All2}
use Rattle.server_laws.proofs.Serials.{Submits, Creates}
use Rattle.server_calls.specs.History.{Call, Memory, events, calls, leaves}
use Rattle.server_calls.proofs.Follows.{table_with, workloads_with, Running, running_next, call_follows}
use Rattle.server_calls.proofs.Histories.{running_after, LongOutputs, history}
use Rattle.server_blind.proofs.Alike.{Alike, alike_same, Like, like_same}
use Rattle.server_blind.proofs.Blind.{table_alike}
use Rattle.server_blind.proofs.Workloads as Workloads
use Rattle.server_blind.proofs.Workloads.{ButAssigned, AgreeBut, Apart}
use Rattle.server_blind.proofs.Copies as Copies
use Rattle.server_blind.proofs.Copies.{MaySee, ButTo}
use Rattle.server_blind.proofs.Lone as Abstract
use Rattle.server_blind.proofs.Lone.{OnlyTo, Later, lone_created, lone_submission, lone_other}
use Rattle.server_blind.proofs.Outputs.{Match, Both}
use Rattle.server_blind.proofs.Stored.{server_of, created_apart, leaves_apart}
use Rattle.server_blind.proofs.Calls.{AlikeEvents, Related, Finer, match_call, match_calls}

-- ---- where a call stands in a history

abbrev pub call_on : ℕ → Memory → Call → Result
call_on n m x = call n x.event m.table m.workloads x.output

-- the calls of a history: those before one, itself on what they left, and those after it
pub calls_around : (n : ℕ) (before : List Call) (x : Call) (xs : List Call) (t w : Bytes)
    → let r = call_on n (leaves n before t w) x in calls n (before ++ (x ∷ xs)) t w ≡ calls n before t w ++ (r ∷ calls n xs r.table r.workloads)
unfolding calls leaves
calls_around n [] x xs t w = refl
calls_around n (b ∷ before) x xs t w =
    let r = call n b.event t w b.output in
    ap {B = List Result} (λ (rs : List Result). r ∷ rs) (calls_around n before x xs r.table r.workloads)

-- ---- one call alone

-- the calls x and y on one memory, and the calls after each: R relates the packets of x and y, S those of the later calls
pub record Lone (R S : Sent → Sent → Type 0) (n : ℕ) (m : Memory) (x y : Call) (xs ys : List Call) : Type 0 where
  pub itself : Match R x y (call_on n m x) (call_on n m y)
  pub later : Both (Match S) xs ys (calls n xs (call_on n m x).table (call_on n m x).workloads) (calls n ys (call_on n m y).table (call_on n m y).workloads)

-- nothing at all differs later: the workloads are equal too
pub record LoneNow (R : Sent → Sent → Type 0) (n : ℕ) (m : Memory) (x y : Call) (xs ys : List Call) : Type 0 where
  pub lone : Lone R (λ p q. p ≡ q) n m x y xs ys
  pub workloads : (call_on n m x).workloads ≡ (call_on n m y).workloads

-- later only assignments of the job with serial k at this hub differ, in their workload; and of the workloads only that job's place
pub record LoneMade (hub : Bytes) (k : ℕ) (n : ℕ) (m : Memory) (x y : Call) (xs ys : List Call) : Type 0 where
  pub lone : Lone (λ p q. p ≡ q) (ButAssigned (handle hub k)) n m x y xs ys
  pub workloads : Apart k (server_of n (leaves n xs (call_on n m x).table (call_on n m x).workloads)) (server_of n (leaves n ys (call_on n m y).table (call_on n m y).workloads))

-- the same events; whatever outputs are lent
abbrev pub SameEvents : List Call → List Call → Type 0
SameEvents xs ys = All2 (λ (x y : Call). x.event ≡ y.event) xs ys

pub same_alike : {xs ys : List Call} → SameEvents xs ys → AlikeEvents xs ys
same_alike All2.none = All2.none
same_alike (All2.more {a = x} e rest) = All2.more (subst (Alike x.event) e (alike_same x.event)) (same_alike rest)

same_events : {xs ys : List Call} → SameEvents xs ys → events xs ≡ events ys
same_events All2.none = refl
same_events (All2.more e rest) = ap₂ {C = List Event} (λ (a : Event) (es : List Event). a ∷ es) e (same_events rest)

-- ---- relations finer than being alike but for opaque bytes

finer_equal : Finer (λ p q. p ≡ q)
finer_equal p q e = subst (Like p) e (like_same p)

finer_assigned : (h : Bytes) → Finer (ButAssigned h)
finer_assigned h p q (Workloads.equal e) = finer_equal p q e
finer_assigned h p q (Workloads.assigned uniq more e f l) = l

finer_to : (P : ℕ → Type 0) → Finer (ButTo P)
finer_to P p q (Copies.equal e) = finer_equal p q e
finer_to P p q (Copies.differs x l) = l

all_equal : (ps : List Sent) → All2 (λ (p q : Sent). p ≡ q) ps ps
all_equal [] = All2.none
all_equal (p ∷ ps) = All2.more refl (all_equal ps)

one_answer : (a b : Answer) → a ≡ b → Related (λ p q. p ≡ q) a b
one_answer a b e = subst (Related (λ p q. p ≡ q) a) e (record { number = refl; sent = all_equal a.sent })

equal_answers : (as' : List Answer) → All2 (Related (λ p q. p ≡ q)) as' as'
equal_answers [] = All2.none
equal_answers (a ∷ as') = All2.more (one_answer a a refl) (equal_answers as')

related_but : {h : Bytes} {as' bs : List Answer} → All2 (AgreeBut h) as' bs → All2 (Related (ButAssigned h)) as' bs
related_but All2.none = All2.none
related_but (All2.more a rest) = All2.more (record { number = a.number; sent = a.sent }) (related_but rest)

-- ---- two calls on buffers that hold a server, and those after them

module _ (n : ℕ) (few : n ≤ 256) (t w : Bytes) (long_table : table_size n ≤ length t) (long_workloads : workloads_size ≤ length w) (s : Server) (h : Running n s)
    (x y : Call) (a : Alike x.event y.event) (lx : output_size n ≤ length x.output) (ly : output_size n ≤ length y.output)
    {xs ys : List Call} (same : SameEvents xs ys) (lxs : LongOutputs n xs) (lys : LongOutputs n ys) where
  abbrev held : Memory
  held = record { table = table_with s t; workloads = workloads_with s w }

  follow_x : call_on n held x ≡ performed x.event s t w x.output
  follow_x = call_follows n (omega arith) s h t w long_table long_workloads x.event x.output lx

  follow_y : call_on n held y ≡ performed y.event s t w y.output
  follow_y = call_follows n (omega arith) s h t w long_table long_workloads y.event y.output ly

  lone_by : {R S : Sent → Sent → Type 0} → Finer R → Finer S → Related R (answer x.event s) (answer y.event s)
      → All2 (Related S) (answers (next x.event s) (events xs)) (answers (next y.event s) (events ys)) → Lone R S n held x y xs ys
  unfolding performed
  lone_by f g r l =
      let u = table_alike a s s refl in
      record {
        itself = match_call n few t w long_table long_workloads f x y s s h h lx ly r u;
        later = rw (follow_x, follow_y)
            (match_calls n few t w long_table long_workloads g (same_alike same) lxs lys (next x.event s) (next y.event s) (running_next n x.event s h) (running_next n y.event s h) u l);
      }

  -- the servers after the two calls are one
  lone_now : {R : Sent → Sent → Type 0} → Finer R → Related R (answer x.event s) (answer y.event s) → next x.event s ≡ next y.event s → LoneNow R n held x y xs ys
  unfolding performed
  lone_now f r q =
      record {
        lone = lone_by f finer_equal r (rw (q, same_events same) (equal_answers (answers (next y.event s) (events ys))));
        workloads = ap (λ (z : Result). z.workloads) follow_x ∙ ap (λ (z : Server). put 0 (concat z.workloads) w) q ∙ sym (ap (λ (z : Result). z.workloads) follow_y);
      }

  -- the submission made the job with serial k
  lone_made : (k : ℕ) → answer x.event s ≡ answer y.event s → Creates s x.event k → LoneMade s.table.hub k n held x y xs ys
  unfolding performed
  lone_made k q c =
      let e : events xs ≡ events ys = same_events same in
      record {
        lone = lone_by finer_equal (finer_assigned (handle s.table.hub k)) (one_answer _ _ q) (rw (← e) (related_but (lone_created a s k c (events xs))));
        workloads = rw (follow_x, follow_y)
            (leaves_apart n (omega arith) t w long_table long_workloads k (next x.event s) (next y.event s) (running_next n x.event s h) (running_next n y.event s h) (created_apart a s k c) xs ys e lxs lys);
      }

-- ---- in a history from a fresh table

-- what a submission with another workload may change later: nothing, if it made no job, as when it joins one or is refused; or the
-- workload in assignments of the job that it made, which has the next serial
pub data LaterCalls (s : Server) (n : ℕ) (m : Memory) (x y : Call) (xs ys : List Call) : Type 0 where
  made_none : ((k : ℕ) → ¬ Creates s x.event k) → LoneNow (λ p q. p ≡ q) n m x y xs ys → LaterCalls s n m x y xs ys
  made_one : Creates s x.event (suc s.table.last) → LoneMade s.table.hub (suc s.table.last) n m x y xs ys → LaterCalls s n m x y xs ys

module _ (n : ℕ) (few : n ≤ 256) (hub : Bytes) (good : is_hub_name hub ≡ true) (t w : Bytes) (long_table : table_size n ≤ length t) (long_workloads : workloads_size ≤ length w) (before : List Call) (long : LongOutputs n before)
    (x y : Call) (a : Alike x.event y.event) (lx : output_size n ≤ length x.output) (ly : output_size n ≤ length y.output)
    {xs ys : List Call} (same : SameEvents xs ys) (lxs : LongOutputs n xs) (lys : LongOutputs n ys) where
  -- what the calls before left, and the server that it holds
  abbrev pub left : Memory
  left = leaves n before (make n hub t w).table (make n hub t w).workloads

  abbrev pub server : Server
  server = after (start n hub) (events before)

  left_is : left ≡ held n few t w long_table long_workloads server (running_after n hub good (events before)) x y a lx ly same lxs lys
  left_is =
      let h = history n hub good t w long_table long_workloads before long (omega arith) in
      ap₂ {C = Memory} (λ (u v : Bytes). record { table = u; workloads = v }) h.table h.workloads

  now : {P : ℕ → Type 0} → OnlyTo P x.event y.event server → LoneNow (ButTo P) n left x y xs ys
  now {P} o =
      rw left_is
      (lone_now n few t w long_table long_workloads server (running_after n hub good (events before)) x y a lx ly same lxs lys (finer_to P) (record { number = o.number; sent = o.sent }) o.server)

  -- a submission: its own packets are equal, and later ones as said above
  pub submission_calls : {c : ℕ} → Submits x.event c → LaterCalls server n left x y xs ys
  submission_calls i =
      let (q, l) = lone_submission a server i in
      by q l
    where
      by : answer x.event server ≡ answer y.event server → Later x.event y.event server → LaterCalls server n left x y xs ys
      by q (Abstract.made_none z e) =
          made_none z (rw left_is (lone_now n few t w long_table long_workloads server (running_after n hub good (events before)) x y a lx ly same lxs lys finer_equal (one_answer _ _ q) e))
      by q (Abstract.made_one c f) =
          made_one c (rw left_is (lone_made n few t w long_table long_workloads server (running_after n hub good (events before)) x y a lx ly same lxs lys _ q c))

  -- any other event: only packets to those who may see its opaque bytes differ, the sender of an echo and the listeners of the job that a
  -- worker packet names; nothing differs later
  pub other_calls : ((c : ℕ) → ¬ Submits x.event c) → LoneNow (ButTo (MaySee server.table x.event)) n left x y xs ys
  other_calls z = now (lone_other a server z)

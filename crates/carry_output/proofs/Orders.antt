-- The bytes of each order's packets are those that the functions of `carry_packet` and `carry_several` lay, and the NOOPs follow them.
-- Assumes nothing.
use Prim.Native.Nat.{ℕ, ◌+◌, ◌≤◌}
use mathlib.Core.Path.{◌≡◌, refl, ap, sym, ◌∙◌}
use mathlib.Core.Bool.{Bool, false}
use mathlib.Core.List.{List, [], ◌∷◌, ◌++◌, map}
use native.Mathlib.Nat.{zero-add}
use native.Mathlib.Omega.{arith}
use lib.ListN.{length, drop, length-append}
use Rattle.octets.specs.Bytes.{Bytes, same}
use Rattle.octets.specs.Put.{put}
use Rattle.octets.proofs.Laying.{length_put, put_none, put_next}
use Rattle.packet.specs.Arguments.{join}
use Rattle.sets.specs.Sets.{members}
use Rattle.server.specs.declared.Connection.{Connection}
use Rattle.server.specs.declared.JobRow.{JobRow}
use Rattle.server.specs.Sizes.{connection_count}
use Rattle.server.specs.Requests.{sends}
use Rattle.server.specs.Events.{noop, exceptions_name, to_wake_in}
use Rattle.server.specs.Server.{render}
use Rattle.server.specs.Layout.{table_of}
use Rattle.server.specs.Call.{server_in}
use Rattle.plan.specs.declared.Order as O'
use Rattle.plan.specs.declared.Order.TheVariants as OV
use Rattle.plan.specs.declared.Values.{Values}
use Rattle.plan.specs.Settling.{dropped_rows}
use Rattle.plan.specs.Parts.{ordered}
use Rattle.plan.specs.Busy.{busy_set, to_wake_set}
use Rattle.plan_settle.proofs.Sleepers.{to_wake_busy}
use Rattle.carry_packet.specs.Messages.{message, handle_arguments, option_arguments, status_arguments}
use Rattle.carry_packet.proofs.Rendered.{created_rendered, no_job_rendered, option_rendered, status_rendered, echo_rendered, none_rendered, appended_rendered}
use Rattle.carry_several.specs.Several.{messages, told_messages}
use Rattle.carry_several.proofs.Rendered.{noops_rendered, copies_rendered, all_told_rendered}
use Rattle.carry_output.specs.Ordered.{bytes_sent, order_bytes, answer_bytes}

-- ---- what a function of `carry_packet` or `carry_several` lays, by another name

pub room_as : (m b : Bytes) (n : ℕ) → m ≡ b → length b ≤ n → 0 + length m ≤ n
room_as m b n e l = omega (arith, ap length e)

pub laid_as : (m b o x : Bytes) (r : ℕ) → m ≡ b → (r ≡ 0 + length m) × (x ≡ put 0 m o) → (r ≡ length b) × (x ≡ put 0 b o)
laid_as m b o x r e l = (omega (arith, l.0, ap length e), l.1 ∙ ap (λ (s : Bytes). put 0 s o) e)

-- the same, of what this crate's own functions lay
pub fit_as : (m b : Bytes) (n : ℕ) → m ≡ b → length b ≤ n → length m ≤ n
fit_as m b n e l = omega (arith, ap length e)

pub same_as : (m b o x : Bytes) (r : ℕ) → m ≡ b → (r ≡ length m) × (x ≡ put 0 m o) → (r ≡ length b) × (x ≡ put 0 b o)
same_as m b o x r e l = (l.0 ∙ ap length e, l.1 ∙ ap (λ (s : Bytes). put 0 s o) e)

module _ (order : O'.Order) (c kind : ℕ) (h p t w : Bytes) where
  -- the bytes of the order, once it is known which it is
  known : (x : O'.Order) → order ≡ x → order_bytes x c kind h p t w ≡ order_bytes order c kind h p t w
  known x e = ap (λ (o : O'.Order). order_bytes o c kind h p t w) (sym e)

  nothing_order : order ≡ OV.Nothing → [] ≡ order_bytes order c kind h p t w
  unfolding order_bytes bytes_sent ordered
  nothing_order e = sym (none_rendered (sends c p) (server_in connection_count t w)) ∙ known OV.Nothing e

  pub nothing_laid : order ≡ OV.Nothing → (o : Bytes) → (0 ≡ length (order_bytes order c kind h p t w)) × (o ≡ put 0 (order_bytes order c kind h p t w) o)
  nothing_laid e o = (ap length (nothing_order e), sym (put_none 0 o) ∙ ap (λ (s : Bytes). put 0 s o) (nothing_order e))

  pub created_order : (hub : Bytes) → hub ≡ (table_of connection_count t).hub → (serial : ℕ) → order ≡ OV.Created serial → message c 8 (join (handle_arguments hub serial)) ≡ order_bytes order c kind h p t w
  unfolding order_bytes bytes_sent ordered
  created_order hub is serial e = rw is (created_rendered (sends c p) (server_in connection_count t w) (table_of connection_count t).hub c serial ∙ known (OV.Created serial) e)

  pub no_job_order : order ≡ OV.NoJob → message c 10 [] ≡ order_bytes order c kind h p t w
  unfolding order_bytes bytes_sent ordered
  no_job_order e = no_job_rendered (sends c p) (server_in connection_count t w) c ∙ known OV.NoJob e

  pub unknown_order : order ≡ OV.Unknown → message c 20 (join (status_arguments h false false (48 ∷ []) (48 ∷ []))) ≡ order_bytes order c kind h p t w
  unfolding order_bytes bytes_sent ordered
  unknown_order e = status_rendered (sends c p) (server_in connection_count t w) c h (48 ∷ []) (48 ∷ []) false false ∙ known OV.Unknown e

  pub optioned_order : order ≡ OV.Optioned → message c 27 (join option_arguments) ≡ order_bytes order c kind h p t w
  unfolding order_bytes bytes_sent ordered same
  optioned_order e = option_rendered (sends c p) (server_in connection_count t w) c exceptions_name refl ∙ known OV.Optioned e

  -- of a packet that has a header
  pub copies_order : (to : ℕ) → 12 ≤ length p → order ≡ OV.Copies to → messages (members connection_count to) kind (drop 12 p) ≡ order_bytes order c kind h p t w
  unfolding order_bytes bytes_sent ordered
  copies_order to long e = copies_rendered c p (server_in connection_count t w) long kind (members connection_count to) ∙ known (OV.Copies to) e

  pub told_order : (hub : Bytes) → hub ≡ (table_of connection_count t).hub → (to heard serial : ℕ) → 12 ≤ length p → order ≡ OV.Told to heard serial
      → told_messages (members connection_count to) heard kind (drop 12 p) (join (handle_arguments hub serial)) ≡ order_bytes order c kind h p t w
  unfolding order_bytes bytes_sent ordered
  told_order hub is to heard serial long e =
      rw is (all_told_rendered c p (server_in connection_count t w) long heard kind (table_of connection_count t).hub serial (members connection_count to) ∙ known (OV.Told to heard serial) e)

  pub echo_order : 12 ≤ length p → order ≡ OV.Echo → message c 17 (drop 12 p) ≡ order_bytes order c kind h p t w
  unfolding order_bytes bytes_sent ordered
  echo_order long e = echo_rendered c p (server_in connection_count t w) long ∙ known OV.Echo e

  -- an assignment and a status do not depend on the packet
  pub assign_order : (uniq : Bool) (q : ℕ) → order ≡ OV.Assign uniq q → order_bytes (OV.Assign uniq q) c 0 [] [] t w ≡ order_bytes order c kind h p t w
  unfolding order_bytes bytes_sent ordered render
  assign_order uniq q e = known (OV.Assign uniq q) e

  pub status_order : (q : ℕ) → order ≡ OV.Status q → order_bytes (OV.Status q) c 0 h [] t [] ≡ order_bytes order c kind h p t w
  unfolding order_bytes bytes_sent ordered render
  status_order q e = known (OV.Status q) e

  -- ---- the NOOPs after the order

  module _ (v : Values) where
    abbrev noops : Bytes
    noops = bytes_sent c p t w (map noop (to_wake_in v.able (dropped_rows v.rows) v.connections))

    parts : answer_bytes order v c kind h p t w ≡ order_bytes order c kind h p t w ++ noops
    unfolding order_bytes answer_bytes bytes_sent
    parts = appended_rendered (sends c p) (server_in connection_count t w) (ordered order connection_count c kind h (table_of connection_count t)) _

    pub order_room : (n : ℕ) → length (answer_bytes order v c kind h p t w) ≤ n → length (order_bytes order c kind h p t w) ≤ n
    order_room n l = omega (arith, ap length parts, length-append (order_bytes order c kind h p t w) noops)

    module _ (s : ℕ) (wakes : members connection_count s ≡ to_wake_in v.able (dropped_rows v.rows) v.connections) where
      noops_are : messages (members connection_count s) 6 [] ≡ noops
      unfolding bytes_sent
      noops_are = noops_rendered (sends c p) (server_in connection_count t w) (members connection_count s) ∙ ap (λ (l : List ℕ). bytes_sent c p t w (map noop l)) wakes

      pub noop_room : (at : ℕ) (o m : Bytes) → at ≡ length (order_bytes order c kind h p t w) → m ≡ put 0 (order_bytes order c kind h p t w) o
          → length (answer_bytes order v c kind h p t w) ≤ length o → at + length (messages (members connection_count s) 6 []) ≤ length m
      noop_room at o m e laid l =
          omega (arith, ap length parts, ap length noops_are, length-append (order_bytes order c kind h p t w) noops, ap length laid, length_put 0 (order_bytes order c kind h p t w) o)

      pub answered : (at r : ℕ) (o m x : Bytes) → at ≡ length (order_bytes order c kind h p t w) → m ≡ put 0 (order_bytes order c kind h p t w) o
          → (r ≡ at + length (messages (members connection_count s) 6 [])) × (x ≡ put at (messages (members connection_count s) 6 []) m)
          → (r ≡ length (answer_bytes order v c kind h p t w)) × (x ≡ put 0 (answer_bytes order v c kind h p t w) o)
      answered at r o m x e laid l = (
        omega (arith, l.0, ap length parts, ap length noops_are, length-append (order_bytes order c kind h p t w) noops),
        l.1 ∙ rw (← zero-add at, e, laid, noops_are, parts) (put_next 0 (order_bytes order c kind h p t w) noops o _ refl),
      )

-- ---- who wakes

pub wake_set : (cs : List Connection) (ables : List ℕ) (before rows : List JobRow) (busy s : ℕ) → length cs ≡ connection_count → rows ≡ dropped_rows before → busy ≡ busy_set ables rows
    → s ≡ to_wake_set busy cs → members connection_count s ≡ to_wake_in ables (dropped_rows before) cs
wake_set cs ables before rows busy s n d b e = rw (e, b, d, ← n) (to_wake_busy ables (dropped_rows before) cs)

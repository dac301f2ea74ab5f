-- `show` shows no opaque byte: two captures whose lines differ in opaque bytes alone are shown by the same bytes. From a fresh table
-- for 16 connections, of one hub: 02, "Demand 3 takes the names as equal." Assumes nothing.
use Prim.Native.Nat.{ℕ, suc, ◌≤◌}
use mathlib.Core.Path.{◌≡◌, refl, ap, ap₂, sym, ◌∙◌}
use mathlib.Core.Bool.{true}
use Rattle.std.specs.Prelude.{Option, Some, None}
use mathlib.Core.List.{List, [], ◌++◌}
use lib.ListN.{length}
use Rattle.octets.specs.Bytes.{Bytes}
use Rattle.handle.specs.Handle.{is_hub_name}
use Rattle.server.specs.Sizes.{connection_count, workloads_size, output_size}
use Rattle.server.specs.Requests.{Event}
use Rattle.server.specs.Table.{Table}
use Rattle.server.specs.Server.{Server, start}
use Rattle.server.specs.Layout.{table_size}
use Rattle.server.specs.Call.{make}
use Rattle.server.specs.Replay.{frame, server_after}
use Rattle.lists.proofs.Cases.{All2}
use Rattle.server_calls.proofs.Follows.{Running, running_next}
use Rattle.server_calls.proofs.Histories.{running_start}
use Rattle.server_blind.proofs.Alike.{Alike}
use Rattle.server_blind.proofs.Blind.{table_alike}
use Rattle.capture.specs.Spoken.{spoken_to, spoken}
use Rattle.show_line.specs.Shown.{answered_text, line_text, shown_text, text_size}
use Rattle.show_line.proofs.Texts.{show_text}
use Rattle.show_blind.proofs.Words.{words_alike}

-- ---- what it is to differ in opaque bytes alone

pub data AlikeFrames : Option Event → Option Event → Type 0 where
  nothing : AlikeFrames None None
  alike : {e f : Event} → Alike e f → AlikeFrames (Some e) (Some f)

-- both lines are no frame, or their frames differ in opaque bytes alone
abbrev pub AlikeLines : Bytes → Bytes → Type 0
AlikeLines l m = AlikeFrames (frame l) (frame m)

-- ---- one line, at two running servers with equal tables

record Pair (s r : Server) : Type 0 where
  first : Running connection_count s
  second : Running connection_count r
  tables : s.table ≡ r.table

module _ (s r : Server) (p : Pair s r) where
  spoken_alike : {f g : Option Event} → AlikeFrames f g → (k : ℕ) → spoken_to (line_text k) f s ≡ spoken_to (line_text k) g r
  spoken_alike nothing k = ap (λ (t : Table). line_text k None [] 16 t t) p.tables
  spoken_alike (alike a) k = words_alike a s r p.first p.second p.tables k

  pair_after : {f g : Option Event} → AlikeFrames f g → Pair (server_after f s) (server_after g r)
  pair_after nothing = p
  pair_after (alike {e = e} {f = f} a) =
      record { first = running_next connection_count e s p.first; second = running_next connection_count f r p.second; tables = table_alike a s r p.tables }

-- ---- captures

captures_alike : {ls ms : List Bytes} → All2 AlikeLines ls ms → (k : ℕ) (s r : Server) → Pair s r → spoken line_text k ls s ≡ spoken line_text k ms r
unfolding spoken
captures_alike All2.none k s r p = refl
captures_alike (All2.more {a = l} {b = m} a rest) k s r p =
    ap₂ {C = Bytes} (λ (x y : Bytes). x ++ y) (spoken_alike s r p a k) (captures_alike rest (suc k) (server_after (frame l) s) (server_after (frame m) r) (pair_after s r p a))

-- by the definitions
pub show_blind : (hub : Bytes) → is_hub_name hub ≡ true → (ls ms : List Bytes) → All2 AlikeLines ls ms → answered_text ls (start connection_count hub) ≡ answered_text ms (start connection_count hub)
show_blind hub good ls ms a =
    let s = start connection_count hub in
    let h = running_start connection_count hub good in
    captures_alike a 1 s s (record { first = h; second = h; tables = refl })

-- ---- on lent bytes

-- the bytes lent to show a capture are long enough
pub record Lent (t w o x : Bytes) : Type 0 where
  pub table : table_size connection_count ≤ length t
  pub workloads : workloads_size ≤ length w
  pub output : output_size connection_count ≤ length o
  pub text : text_size ≤ length x

-- by the code, from a fresh table in whatever bytes are lent to each
pub shown_blind : (hub : Bytes) → is_hub_name hub ≡ true → (ls ms : List Bytes) → All2 AlikeLines ls ms → (t w o x : Bytes) → Lent t w o x → (u v p y : Bytes) → Lent u v p y
    → shown_text ls (make connection_count hub t w).table (make connection_count hub t w).workloads o x ≡ shown_text ms (make connection_count hub u v).table (make connection_count hub u v).workloads p y
shown_blind hub good ls ms a t w o x h u v p y g =
    show_text hub good t w h.table h.workloads ls o x h.output h.text
    ∙ show_blind hub good ls ms a
    ∙ sym (show_text hub good u v g.table g.workloads ms p y g.output g.text)

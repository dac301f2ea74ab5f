-- The parts of a line laid one after the other: what is said of packets that fit into the output fits into the text, and so each part
-- has its room. Assumes nothing.
use Prim.Native.Nat.{ℕ, ◌+◌, ◌*◌, ◌≤◌}
use mathlib.Core.Path.{◌≡◌, ap, ◌∙◌}
use mathlib.Core.Bool.{true}
use Rattle.std.specs.Prelude.{Option}
use mathlib.Core.List.{List, ◌++◌}
use native.Mathlib.Omega.{arith}
use lib.ListN.{length}
use Rattle.octets.specs.Bytes.{Bytes}
use Rattle.octets.specs.Put.{put}
use Rattle.octets.proofs.Laying.{length_put}
use Rattle.server.specs.declared.JobRow.{JobRow}
use Rattle.server.specs.Sizes.{connection_count, output_size}
use Rattle.server.specs.Table.{Table}
use Rattle.server.specs.Rules.{hub_named}
use Rattle.server.specs.Requests.{Event}
use Rattle.capture.specs.Packets.{Packed, packets_in}
use Rattle.capture.proofs.Cutting.{packets_in_lem}
use Rattle.octets.proofs.Runs.{laid_then, laid_third, room_first, room_second, room_then, room_third}
use Rattle.show_parts.specs.Parts.{answer_text, heading_text, table_text}
use Rattle.show_parts.proofs.Bounds.{heading_short}
use Rattle.show_line.specs.Shown.{line_end, line_with, text_size}
use Rattle.show_line.proofs.Bounds.{line_short}

module _ (k : ℕ) (f : Option Event) (b : Bytes) (n : ℕ) (before : List JobRow) (t : Table) (x : Bytes) where
  abbrev heading : Bytes
  heading = heading_text k f

  abbrev answer : Bytes
  answer = answer_text (packets_in b) n

  abbrev standing : Bytes
  standing = table_text f (packets_in b) n before t

  -- x is laid over the text from `at` on, up to the place p
  abbrev Laid : ℕ → Bytes → Bytes → ℕ → Bytes → Type 0
  Laid at y z p o = (p ≡ at + length y) × (o ≡ put at y z)

  module _ (named : (n ≡ 1 → ⊥) → (n ≡ 16 → ⊥) → hub_named t ≡ true) (packed : Packed b) (few : length b ≤ output_size connection_count) (long : text_size ≤ length x) where
    all : 0 + length (line_with k f (packets_in b) n before t) ≤ length x
    all =
        let q : packets_in b ≡ packed.packets = packets_in_lem b packed.packets packed.formed packed.whole in
        let l : length (line_with k f (packets_in b) n before t) ≤ text_size = rw q (line_short k f packed.packets n before t named packed.formed (omega (arith, ap length packed.whole))) in
        omega (arith, l)

    pub heading_room : 0 + length heading ≤ length x
    unfolding line_with
    heading_room = room_first 0 heading (answer ++ (standing ++ line_end)) (length x) all

    module _ (p : ℕ) (o : Bytes) (e : Laid 0 heading x p o) where
      pub packets_room : p + length b * 14 ≤ length o
      packets_room = omega (arith, e.0, ap length e.1 ∙ length_put 0 heading x, heading_short k f)

      pub answer_room : p + length answer ≤ length o
      unfolding line_with
      answer_room = room_second 0 heading answer (standing ++ line_end) x p o e all

      module _ (q : ℕ) (u : Bytes) (g : Laid p answer o q u) where
        rest_room : q + length (standing ++ line_end) ≤ length u
        unfolding line_with
        rest_room = room_third 0 heading answer (standing ++ line_end) x p o e q u g all

        pub table_room : q + length standing ≤ length u
        table_room = room_first q standing line_end (length u) rest_room

        pub end_room : (r : ℕ) (v : Bytes) → Laid q standing u r v → r + length line_end ≤ length v
        end_room r v h = room_then q standing line_end u r v h rest_room

  pub line_laid : (p : ℕ) (o : Bytes) → Laid 0 heading x p o → (q : ℕ) (u : Bytes) → Laid p answer o q u → (r : ℕ) (v : Bytes) → Laid q standing u r v → (i : ℕ) (z : Bytes) → Laid r line_end v i z
      → Laid 0 (line_with k f (packets_in b) n before t) x i z
  unfolding line_with
  line_laid p o e q u g r v h i z l = laid_third 0 heading answer (standing ++ line_end) x p o e q u g i z (laid_then q standing line_end u r v h i z l)

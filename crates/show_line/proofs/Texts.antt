-- A whole capture shown, from a fresh table of any hub: what is printed is what the server says and does, in words. Assumes nothing.
use Prim.Native.Nat.{◌<◌, ◌≤◌}
use mathlib.Core.Path.{◌≡◌}
use mathlib.Core.Bool.{true}
use mathlib.Core.List.{List}
use lib.ListN.{length}
use Rattle.octets.specs.Bytes.{Bytes}
use Rattle.handle.specs.Handle.{is_hub_name}
use Rattle.lines.specs.Text.{run_of}
use Rattle.server.specs.Sizes.{connection_count, workloads_size, output_size}
use Rattle.server.specs.Server.{start}
use Rattle.server.specs.Layout.{table_size}
use Rattle.server.specs.Call.{make}
use Rattle.server.specs.Replay.{longest_line}
use Rattle.capture.specs.Spoken.{texts_seen}
use Rattle.capture.proofs.Texts.{text_said}
use Rattle.capture.proofs.Whole.{whole_said}
use Rattle.show_line.specs.Shown.{answered_text, line_text, shown_text, show_of, text_size}
use Rattle.show_line.proofs.Bounds.{line_fits}

-- of the hub of this name, in any bytes that are long enough
module _ (hub : Bytes) (good : is_hub_name hub ≡ true) (t w : Bytes) (lt : table_size connection_count ≤ length t) (lw : workloads_size ≤ length w) where
  pub show_text : (lines : List Bytes) (o x : Bytes) → output_size connection_count ≤ length o → text_size ≤ length x
      → shown_text lines (make connection_count hub t w).table (make connection_count hub t w).workloads o x ≡ answered_text lines (start connection_count hub)
  show_text lines o x lo lx = text_said text_size line_text line_fits t w lt lw hub good 1 lines o x lo lx

  -- from text to text, with a buffer for a line that holds one digit more than a frame has
  pub show_whole : (buffer text o x : Bytes) → longest_line < length buffer → output_size connection_count ≤ length o → text_size ≤ length x
      → shown_text (texts_seen (run_of buffer text)) (make connection_count hub t w).table (make connection_count hub t w).workloads o x ≡ show_of hub text
  show_whole buffer text o x lb lo lx = whole_said hub good t w lt lw text_size line_text line_fits buffer text o x lb lo lx

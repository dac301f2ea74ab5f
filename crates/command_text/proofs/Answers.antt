-- Which answer a line has, by the tests of the code. Assumes nothing.
use mathlib.Core.Path.{◌≡◌}
use mathlib.Core.Bool.{Bool, true, false, ◌||◌}
use Rattle.octets.specs.Bytes.{Bytes, same, text}
use Rattle.server.specs.Table.{Table}
use Rattle.command.specs.Texts.{says, status_text, text_for, workers_text}

module _ (line : Bytes) (t : Table) (s : Bool) (es : s ≡ same line (text "status\n") || same line (text "status\r\n")) where
  pub status_here : s ≡ true → status_text t ≡ text_for line t
  unfolding text_for says
  status_here h = rw (← es, h)

  module _ (ns : s ≡ false) (w : Bool) (ew : w ≡ same line (text "workers\n") || same line (text "workers\r\n")) where
    pub workers_here : w ≡ true → workers_text t ≡ text_for line t
    unfolding text_for says
    workers_here h = rw (← es, ns, ← ew, h)

    module _ (nw : w ≡ false) (v : Bool) (ev : v ≡ same line (text "version\n") || same line (text "version\r\n")) where
      pub version_here : v ≡ true → text "lap 1\n" ≡ text_for line t
      unfolding text_for says
      version_here h = rw (← es, ns, ← ew, nw, ← ev, h)

      pub unknown_here : v ≡ false → text "ERR unknown\n" ≡ text_for line t
      unfolding text_for says
      unknown_here h = rw (← es, ns, ← ew, nw, ← ev, h)

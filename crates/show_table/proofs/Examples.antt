-- Lines computed by the definitions, one for each kind of line that docs/SHOW.md shows of the table. Assumes nothing.
use Prim.Native.Nat.{ℕ}
use mathlib.Core.Path.{◌≡◌, refl}
use mathlib.Core.List.{List, [], ◌∷◌}
use lib.ListN.{replicate}
use Rattle.octets.specs.Bytes.{Bytes, text}
use Rattle.sets.specs.Sets.{has}
use Rattle.handle.specs.Handle.{decimal, decimal_in, handle, lap}
use Rattle.server.specs.declared.JobRow.{JobRow}
use Rattle.server.specs.Sizes.{connection_count}
use Rattle.server.specs.Table.{closed, no_row, fresh_row, in_background, with_holder, with_listeners}
use Rattle.plan.specs.Values.{serial_row}
use Rattle.prints.specs.Pieces.{pieces}
use Rattle.show_table.specs.Standing.{absent_text, connections_text, each, found_text, gone_one, gone_text, handle_line, holder_text, job_text, marks_text, or_none, serial_text, sleepers_text, unfound_text}

-- one name that opens all that a line uses
unfoldable compute : Bytes → ℕ → List JobRow → Bytes
unfolding sleepers_text connections_text each or_none serial_text found_text absent_text unfound_text gone_text gone_one serial_row job_text handle_line marks_text holder_text handle decimal decimal_in has pieces
compute hub serial rs = serial_text hub connection_count serial [] rs

-- held by connection 1; 0 and 2 listen
abbrev held : JobRow
held = with_holder 2 (with_listeners 5 (fresh_row 1 0 1 4))

-- queued in the background with the highest priority; nobody listens
abbrev urgent : JobRow
urgent = in_background (fresh_row 3 0 2 4)

nobody_asleep : sleepers_text connection_count (replicate connection_count closed) ≡ text "\n    asleep none"
unfolding compute
nobody_asleep = refl

held_job : serial_text lap connection_count 1 [] (no_row ∷ held ∷ []) ≡ text "\n    job H:lap:1 holder 1 listeners 0 2"
unfolding compute
held_job = refl

urgent_job : serial_text lap connection_count 3 [] (urgent ∷ held ∷ []) ≡ text "\n    job H:lap:3 high background holder none listeners none"
unfolding compute
urgent_job = refl

-- at another hub
named_job : serial_text (text "quay7") connection_count 1 [] (no_row ∷ held ∷ []) ≡ text "\n    job H:quay7:1 holder 1 listeners 0 2"
unfolding compute
named_job = refl

no_job_lem : serial_text lap connection_count 7 (no_row ∷ held ∷ []) (no_row ∷ held ∷ []) ≡ text "\n    no job H:lap:7"
unfolding compute
no_job_lem = refl

-- a job that stood there before the event is named as gone, and as nothing else
gone_job : serial_text lap connection_count 1 (urgent ∷ held ∷ []) (no_row ∷ []) ≡ []
unfolding compute
gone_job = refl

gone_jobs : gone_text lap (text "dropped ") (urgent ∷ no_row ∷ held ∷ []) (no_row ∷ no_row ∷ no_row ∷ []) ≡ text "\n    dropped H:lap:3\n    dropped H:lap:1"
unfolding compute
gone_jobs = refl

-- one that has another place after the event is not gone
kept_job : gone_text lap (text "ended ") (urgent ∷ held ∷ []) (held ∷ no_row ∷ []) ≡ text "\n    ended H:lap:3"
unfolding compute
kept_job = refl

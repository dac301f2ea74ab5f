-- Lines and answers computed by the definitions: lines that are nearly a command, and a table whose functions have names that begin with
-- one another and bytes outside 33 to 126. Assumes nothing.
use Prim.Native.Nat.{ℕ}
use mathlib.Core.Path.{◌≡◌, refl}
use mathlib.Core.Bool.{true}
use mathlib.Core.List.{List, [], ◌∷◌}
use lib.ListN.{replicate}
use Rattle.octets.specs.Bytes.{Bytes, every, first_zero, same, text}
use Rattle.handle.specs.Handle.{decimal, decimal_in, is_hub_name, lap}
use Rattle.prints.specs.Printed.{printed, printed_or}
use Rattle.sets.specs.Sets.{has, members}
use Rattle.server.specs.Table.{Function, Job, Table, closed, no_function, no_job, just_opened, fresh_row, in_background, with_holder, with_listeners, unstarted}
use Rattle.server.specs.Rules.{obeys}
use Rattle.command.specs.Order.{before, in_order, placed, rising}
use Rattle.command.specs.Texts.{able_of, functions_of, held_of, jobs_of, says, status_line, status_text, text_for, workers_line, workers_text}

-- ---- lines that are no command, whatever the table

module _ (t : Table) where
  empty_line : text_for [] t ≡ text "ERR unknown\n"
  unfolding text_for says same
  empty_line = refl

  upper_case : text_for (text "STATUS\n") t ≡ text "ERR unknown\n"
  unfolding text_for says same
  upper_case = refl

  no_line_feed : text_for (text "status") t ≡ text "ERR unknown\n"
  unfolding text_for says same
  no_line_feed = refl

  return_alone : text_for (text "status\r") t ≡ text "ERR unknown\n"
  unfolding text_for says same
  return_alone = refl

  two_returns : text_for (text "status\r\r\n") t ≡ text "ERR unknown\n"
  unfolding text_for says same
  two_returns = refl

  line_feed_inside : text_for (text "stat\nus\n") t ≡ text "ERR unknown\n"
  unfolding text_for says same
  line_feed_inside = refl

  bytes_behind : text_for (text "status\nx") t ≡ text "ERR unknown\n"
  unfolding text_for says same
  bytes_behind = refl

  two_lines : text_for (text "status\n\n") t ≡ text "ERR unknown\n"
  unfolding text_for says same
  two_lines = refl

  space_behind : text_for (text "version \n") t ≡ text "ERR unknown\n"
  unfolding text_for says same
  space_behind = refl

  line_feed_alone : text_for (text "\n") t ≡ text "ERR unknown\n"
  unfolding text_for says same
  line_feed_alone = refl

-- ---- a table

abbrev function : Bytes → ℕ → Function
function name able = record { name = name; able = able }

-- `aa`, `a`, `a!`, a free place, a space and `~`, and bytes 127, 255 and 33: connections 1 and 2 are able
abbrev functions : List Function
functions =
    function (text "aa") 2
    ∷ function (text "a") 6
    ∷ function (text "a!") 2
    ∷ no_function
    ∷ function (32 ∷ 126 ∷ []) 4
    ∷ function (127 ∷ 255 ∷ 33 ∷ []) 0
    ∷ replicate 10 no_function

-- of `a` one that connection 1 holds and one that waits; of the last function one in the background, whom nobody can do
abbrev jobs : List Job
jobs =
    unstarted (with_holder 2 (with_listeners 1 (fresh_row 1 1 1 4))) []
    ∷ no_job
    ∷ unstarted (with_listeners 1 (fresh_row 3 1 2 0)) []
    ∷ unstarted (in_background (fresh_row 2 5 0 1)) []
    ∷ replicate 28 no_job

-- 0 to 3 are open, 4 is not; 0 and 1 have ids
abbrev edge : Table
edge =
    record {
      last = 3;
      connections = just_opened ∷ just_opened ∷ just_opened ∷ just_opened ∷ closed ∷ [];
      ids = text "board" ∷ (32 ∷ 33 ∷ 126 ∷ 127 ∷ 255 ∷ []) ∷ [] ∷ [] ∷ [] ∷ [];
      functions = functions;
      jobs = jobs;
      hub = lap;
    }

-- one name that opens all that an answer uses
unfoldable compute : Table → Bytes → Bytes
unfolding text_for says same status_text status_line jobs_of held_of able_of members has workers_text workers_line functions_of printed_or in_order rising placed before printed decimal decimal_in
compute t line = text_for line t

edge_obeys : obeys edge ≡ true
unfolding obeys is_hub_name same first_zero every has
edge_obeys = refl

-- by the true bytes: `?` is put in afterwards
edge_status : text_for (text "status\n") edge ≡ text "?~\t0\t0\t1\na\t2\t1\t2\na!\t0\t0\t1\naa\t0\t0\t1\n??!\t1\t0\t0\n.\n"
unfolding compute
edge_status = refl

edge_workers : text_for (text "workers\r\n") edge ≡ text "0 - board :\n1 - ?!~?? : a a! aa\n2 - - : ?~ a\n3 - - :\n.\n"
unfolding compute
edge_workers = refl

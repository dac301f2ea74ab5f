-- Texts in a table that obeys the rules: a place of the table holds its text followed by zeros, so to compare places is to compare
-- texts. A name has room where it stands, or else at the lowest free place. Assumes nothing.
use Prim.Native.Nat.{ℕ, ◌+◌, ◌*◌, ◌<◌, ◌≤◌}
use Rattle.std.specs.Prelude.{Option}
use mathlib.Core.Path.{◌≡◌, refl, sym, ap, ◌∙◌}
use mathlib.Core.Bool.{true}
use mathlib.Core.List.{List, [], ◌++◌}
use native.Mathlib.Omega.{arith}
use borrow.Author.Tests.{leb-true, eqb-true, le-leb}
use lib.ListN.{length, get_or, take, drop, take-append-drop}
use lib.Dec.{leb}
use Rattle.octets.specs.Bytes.{Bytes, same, first_zero, zero_free}
use Rattle.octets.proofs.Strings.{and_left, and_right, and_both, same_is, same_refl}
use Rattle.lists.specs.Lists.{fit}
use Rattle.server.specs.Sizes.{connection_count, function_count, job_count, name_size, unique_size}
use Rattle.server.specs.Table.{Function, Job, no_function, no_job, function_at, job_at, live, known, or_else, room_for}
use Rattle.server.specs.Rules.{text_within}
use Rattle.server.specs.Layout.{names_at, uniques_at, table_of, bytes_of, function_in, job_in, is_image, table_size}
use Rattle.server.specs.Call.{is_sound}
use Rattle.lists.proofs.Lists.{length_fit}
use Rattle.table_laws.proofs.Fields.{Lies, lies_part, before_zero, fit_text}
use Rattle.table_laws.proofs.Columns.{length_places, places_at, column_lies}
use Rattle.table_laws.proofs.Laid.{laid}
use Rattle.table_laws.proofs.Image.{image_is}
use Rattle.lists.proofs.Rows.{iff, implies_use, all_at}
use Rattle.server_laws.proofs.Sound.{Sound}
use Rattle.server_laws.proofs.Obeyed.{obeyed}
use Rattle.lists.proofs.Alike.{find_numbers}
use Rattle.table_texts.specs.Places.{agree, name_in, names_in, place_of}
use Rattle.table_texts.proofs.Names.{agree_same}

-- ---- places and texts

-- a text that its place may hold
pub within_by : (k : ℕ) (s : Bytes) → length s ≤ k → zero_free s ≡ true → text_within k s ≡ true
within_by k s h z = and_both (leb (length s) k) (zero_free s) (le-leb (length s) k h) z

-- two texts that fit their places are equal if the places are
fit_same : (k : ℕ) (s t : Bytes) → text_within k s ≡ true → text_within k t ≡ true → same (fit k s) (fit k t) ≡ same s t
fit_same k s t a b =
    iff (same (fit k s) (fit k t)) (same s t)
    (λ e. let q : s ≡ t = sym (text s a) ∙ ap before_zero (same_is (fit k s) (fit k t) e) ∙ text t b in rw q (same_refl t))
    (λ e. let q : s ≡ t = same_is s t e in rw q (same_refl (fit k t)))
  where
    text : (s : Bytes) → text_within k s ≡ true → before_zero (fit k s) ≡ s
    text s a = fit_text k s (leb-true (length s) k (and_left (leb (length s) k) (zero_free s) a)) (eqb-true _ _ (and_right (leb (length s) k) (zero_free s) a))

-- a place that holds s, compared with the padded text f
pub place_agrees : (k : ℕ) (place s f : Bytes) → place ≡ fit k s → text_within k s ≡ true → text_within k f ≡ true → agree k place (fit k f) ≡ same s f
place_agrees k place s f e a b = rw e (agree_same k (fit k s) (fit k f) (length_fit k s) (length_fit k f) ∙ fit_same k s f a b)

-- ---- the texts of a table

module _ (b : Bytes) where
  pub sixteen : length (table_of connection_count b).functions ≡ 16
  unfolding table_of
  sixteen = length_places (function_in connection_count b) 0 16

  thirty_two : length (table_of connection_count b).jobs ≡ 32
  unfolding table_of
  thirty_two = length_places (job_in connection_count b) 0 32

  function_in_lem : (q : ℕ) → q < function_count → function_at (table_of connection_count b) q ≡ function_in connection_count b q
  unfolding table_of
  function_in_lem q h = places_at (function_in connection_count b) no_function 16 q h

  job_in_lem : (p : ℕ) → p < job_count → job_at (table_of connection_count b) p ≡ job_in connection_count b p
  unfolding table_of
  job_in_lem p h = places_at (job_in connection_count b) no_job 32 p h

module _ (b : Bytes) (sound : is_sound connection_count b ≡ true) where
  sound_image : is_image connection_count b ≡ true
  unfolding is_sound
  sound_image = and_left (is_image connection_count b) _ sound

  pub sound_table : Sound (table_of connection_count b)
  unfolding is_sound
  sound_table = (obeyed (table_of connection_count b) (and_right (is_image connection_count b) _ sound)).sound

  lies_image : Lies b 0 (bytes_of (table_of connection_count b))
  lies_image = record { before = []; after = drop (table_size connection_count) b; whole = sym (take-append-drop (table_size connection_count) b) ∙ ap (λ (s : Bytes). s ++ drop (table_size connection_count) b) (sym (image_is connection_count b sound_image)); place = refl }

  -- a place holds the name and zeros
  name_place : (q : ℕ) → q < function_count → name_in b q ≡ fit name_size (function_in connection_count b q).name
  name_place q h =
      let t = table_of connection_count b in
      let l = column_lies (λ (x : Function). fit name_size x.name) 32 (λ x. length_fit 32 x.name) b names_at t.functions q no_function (laid t b (sixteen b) (thirty_two b) lies_image).name (omega (arith, sixteen b)) in
      lies_part b (names_at + name_size * q) (fit name_size (function_at t q).name) 32 l (length_fit 32 (function_at t q).name) ∙ ap (λ (x : Function). fit name_size x.name) (function_in_lem b q h)

  name_within : (q : ℕ) → q < function_count → text_within name_size (function_in connection_count b q).name ≡ true
  name_within q h =
      let t = table_of connection_count b in
      rw (function_in_lem b q h) at (all_at (λ x. text_within name_size x.name) t.functions q no_function sound_table.names (omega (arith, sixteen b)))

  -- a place holds the unique and zeros
  pub unique_place : (p : ℕ) → p < job_count → take 64 (drop (uniques_at + unique_size * p) b) ≡ fit unique_size (job_in connection_count b p).unique
  unique_place p h =
      let t = table_of connection_count b in
      let l = column_lies (λ (j : Job). fit unique_size j.unique) 64 (λ j. length_fit 64 j.unique) b uniques_at t.jobs p no_job (laid t b (sixteen b) (thirty_two b) lies_image).unique (omega (arith, thirty_two b)) in
      lies_part b (uniques_at + unique_size * p) (fit unique_size (job_at t p).unique) 64 l (length_fit 64 (job_at t p).unique) ∙ ap (λ (j : Job). fit unique_size j.unique) (job_in_lem b p h)

  pub unique_within : (p : ℕ) → p < job_count → live (job_in connection_count b p).row ≡ true → text_within unique_size (job_in connection_count b p).unique ≡ true
  unique_within p h v =
      let t = table_of connection_count b in
      let w = rw (job_in_lem b p h) at (all_at _ t.jobs p no_job sound_table.texts (omega (arith, thirty_two b))) in
      and_left (text_within unique_size (job_in connection_count b p).unique) _ (implies_use (live (job_in connection_count b p).row) _ w v)

  -- the place that holds the padded name is the place of the name
  name_found : (f : Bytes) → text_within name_size f ≡ true → place_of (names_in b) (fit name_size f) ≡ known (table_of connection_count b).functions f
  unfolding names_in table_of
  name_found f e =
      find_numbers (λ q. agree 32 (get_or (names_in b) q []) (fit name_size f)) (λ x. same x.name f) (function_in connection_count b) 16
      (λ q h. place_agrees 32 (get_or (names_in b) q []) (function_in connection_count b q).name f (places_at (name_in b) [] 16 q h ∙ name_place q h) (name_within q h) e)

-- ---- what the code finds among the names that it reads

module _ (b : Bytes) (names : List Bytes) (sound : is_sound connection_count b ≡ true) (e : names ≡ names_in b)
    (f name : Bytes) (h : length f ≤ 32) (z : zero_free f ≡ true) (g : name ≡ fit name_size f) (p : Option ℕ) (k : p ≡ place_of names name) where
  pub known_place : p ≡ known (table_of connection_count b).functions f
  known_place = k ∙ rw (e, g) (name_found b sound f (within_by 32 f h z))

  -- a free place is one with the empty name
  pub room_place : (r : Option ℕ) → r ≡ or_else p (place_of names (fit name_size [])) → r ≡ room_for (table_of connection_count b).functions f
  unfolding first_zero
  room_place r m =
      let free : place_of names (fit name_size []) ≡ known (table_of connection_count b).functions [] = rw e (name_found b sound [] refl) in
      m ∙ rw (known_place, free)

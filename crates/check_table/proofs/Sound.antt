-- The parts of the check together are soundness: an image of the layout whose table obeys every rule. Four rules hold of any bytes, those of
-- the next serial, and of names, uniques and ids within their places; the rules of whole jobs are those of numbers, uniques and stored numbers.
-- Assumes nothing.
use Prim.Native.Nat.{ℕ, suc, ◌+◌, ◌*◌, ◌<◌, ◌≤◌}
use mathlib.Core.Path.{◌≡◌, refl, sym, ap, ◌∙◌}
use mathlib.Core.Bool.{Bool, true, false, not, cond, ◌&&◌, ◌||◌}
use mathlib.Core.List.{[], ◌∷◌}
use native.Mathlib.Omega.{arith}
use borrow.Author.Tests.{lt-ltb, le-leb, eq-eqb}
use lib.ListN.{length, get_or, take, drop}
use lib.Seq.{length-take-le}
use lib.Dec.{eqb, leb}
use Rattle.octets.specs.Bytes.{Bytes, same, first_zero, zero_free}
use Rattle.octets.proofs.Strings.{and_left, and_right, and_both, zero_le_length}
use Rattle.sets.specs.Sets.{is_empty}
use Rattle.lists.specs.Lists.{all, numbers, implies}
use Rattle.server.specs.Sizes.{connection_count, function_count, job_count, name_size, unique_size, number_size, id_size, hub_size}
use Rattle.server.specs.Table.{live, queued}
use Rattle.server.specs.Layout.{little_at, text_at, id_in, function_in, row_in, job_in, table_of, backgrounds_at, names_at, uniques_at, numerators_at, denominators_at, hub_at, opened_at, ids_at, table_size}
use Rattle.server.specs.Rules.{next_small, serials_below, serials_distinct, text_within, stored_number, names_within, texts_within, sizes_within, numbers_free, numbers_in_range, row_is_free, row_has_meaning, rows_have_meaning, functions_distinct, functions_as_defined, abilities_open, listeners_open, holders_open, closed_clear, queued_awaited, uniques_distinct, sleepers_idle, ids_within, ids_open, hub_named, obeys}
use Rattle.server.specs.Call.{is_sound}
use Rattle.table_laws.specs.Tests.{are_flags, is_padded, are_padded, image_tests}
use Rattle.table_laws.proofs.Image.{image_tests_lem}
use Rattle.lists.proofs.Rows.{below_by}
use Rattle.table_passes.proofs.Tests.{iff, and_same, all_and, same_below}
use Rattle.table_passes.proofs.Rows.{jobs_all, functions_all, ids_all, functions_length, connections_length}
use Rattle.check_image.proofs.Places.{empty_text}
use Rattle.check_rows.specs.Rows.{numbers_mean, is_awaited, rows_mean}
use Rattle.check_survey.specs.Surveyed.{free_or_job}
use Rattle.check_numbers.specs.Numbers.{connection_rules, number_rules}
use Rattle.check_exact.proofs.Texts.{text_within_lem}
use Rattle.check_texts.specs.Stored.{stored_at, stored_rules}
use Rattle.check_ids.specs.Ids.{id_rules}
use Rattle.check_hub.specs.Hub.{hub_rules}
use Rattle.check_table.specs.Parts.{byte_rules, text_rules}

-- ---- rules that any bytes obey

clean_step : (x n : ℕ) (s : Bytes) (t : Bool) → eqb x 0 ≡ t → first_zero (take n s) ≡ n → first_zero (take (cond t 0 (suc n)) (x ∷ s)) ≡ cond t 0 (suc n)
unfolding first_zero
clean_step x n s true e h = refl
clean_step x n s false e h = rw e (ap suc h)

clean_front : (s : Bytes) → first_zero (take (first_zero s) s) ≡ first_zero s
unfolding first_zero
clean_front [] = refl
clean_front (x ∷ s) = clean_step x (first_zero s) s (eqb x 0) refl (clean_front s)

-- a text ends before the first zero byte of its place
text_clean : (k : ℕ) (b : Bytes) (at : ℕ) → zero_free (text_at k b at) ≡ true
unfolding text_at
text_clean k b at =
    let p = take k (drop at b) in
    eq-eqb (first_zero (take (first_zero p) p)) (length (take (first_zero p) p)) (clean_front p ∙ sym (length-take-le (first_zero p) p (zero_le_length p)))

text_fits : (k : ℕ) (b : Bytes) (at : ℕ) → text_within k (text_at k b at) ≡ true
text_fits k b at = and_both (leb (length (text_at k b at)) k) _ (le-leb (length (text_at k b at)) k (text_within_lem (text_at k b at) k b at refl)) (text_clean k b at)

names_within_lem : (b : Bytes) → names_within (table_of connection_count b) ≡ true
names_within_lem b =
    functions_all connection_count b (λ x. text_within name_size x.name) ∙ below_by (λ q. text_within name_size (function_in connection_count b q).name) function_count (λ q _. text_fits 32 b (names_at + name_size * q))

ids_within_lem : (b : Bytes) → ids_within (table_of connection_count b) ≡ true
ids_within_lem b =
    ids_all connection_count b (text_within id_size) ∙ below_by (λ c. text_within id_size (id_in connection_count b c)) connection_count (λ c _. text_fits id_size b (ids_at connection_count + id_size * c))

next_small_lem : (b : Bytes) → ((i : ℕ) → get_or b i 0 < 256) → next_small (table_of connection_count b) ≡ true
unfolding table_of little_at
next_small_lem b small =
    let w = small 0 in
    let x = small 1 in
    let y = small 2 in
    let z = small 3 in
    let h : little_at 4 b 0 < 4294967296 = omega arith in
    lt-ltb (little_at 4 b 0) 4294967296 h

-- ---- the rules of one job

-- a job: whether the numbers f and the texts u n d of a free one are empty; whether a live one's numbers have a meaning, m, and its texts, s;
-- whether it is awaited, a
free_row_lem : (f u n d a : Bool) → (f && a) && (u && (n && d)) ≡ (true && (f && (u && (n && d)))) && a
free_row_lem false u n d a = refl
free_row_lem true u n d true = go u (n && d)
  where
    go : (x y : Bool) → x && y ≡ (x && y) && true
    go true true = refl
    go true false = refl
    go false y = refl
free_row_lem true u n d false = go u (n && d)
  where
    go : (x y : Bool) → false ≡ (x && y) && false
    go true true = refl
    go true false = refl
    go false y = refl

live_row : (m a s : Bool) → (m && a) && (true && s) ≡ (s && m) && a
live_row true true true = refl
live_row true true false = refl
live_row true false true = refl
live_row true false false = refl
live_row false a true = refl
live_row false a false = refl

module _ (b : Bytes) (long : table_size connection_count ≤ length b) where
  job_rules : ℕ → Bool
  job_rules k = (implies (live (row_in connection_count b k)) (text_within unique_size (job_in connection_count b k).unique && (stored_number (job_in connection_count b k).numerator && stored_number (job_in connection_count b k).denominator))
      && cond (live (row_in connection_count b k)) (row_has_meaning (table_of connection_count b) (job_in connection_count b k)) (row_is_free (job_in connection_count b k))) && implies (queued (row_in connection_count b k)) ((row_in connection_count b k).background || not (is_empty (row_in connection_count b k).listeners))

  one_job_lem : (k : ℕ) → k < job_count → (numbers_mean (row_in connection_count b k) && is_awaited (row_in connection_count b k)) && (free_or_job b k && stored_at b k) ≡ job_rules k
  unfolding job_rules
  one_job_lem k h =
      rw (functions_length connection_count b, connections_length connection_count b, text_fits 64 b (uniques_at + unique_size * k), ← empty_text 63 b (uniques_at + unique_size * k) (omega arith)) (go (live (row_in connection_count b k)))
    where
      go : (t : Bool) → (cond t (numbers_in_range function_count connection_count (row_in connection_count b k)) (numbers_free (row_in connection_count b k)) && is_awaited (row_in connection_count b k))
          && ((t || same (job_in connection_count b k).unique []) && cond t (stored_number (job_in connection_count b k).numerator && stored_number (job_in connection_count b k).denominator) (same (job_in connection_count b k).numerator [] && same (job_in connection_count b k).denominator []))
          ≡ (implies t (true && (stored_number (job_in connection_count b k).numerator && stored_number (job_in connection_count b k).denominator))
          && cond t (numbers_in_range function_count connection_count (row_in connection_count b k)) (row_is_free (job_in connection_count b k))) && is_awaited (row_in connection_count b k)
      go true = live_row (numbers_in_range function_count connection_count (row_in connection_count b k)) (is_awaited (row_in connection_count b k)) (stored_number (job_in connection_count b k).numerator && stored_number (job_in connection_count b k).denominator)
      go false =
          free_row_lem (numbers_free (row_in connection_count b k)) (same (job_in connection_count b k).unique []) (same (job_in connection_count b k).numerator []) (same (job_in connection_count b k).denominator []) (is_awaited (row_in connection_count b k))

  -- the tests of all rows are the rules of all jobs
  jobs_hold : rows_mean b && (all (free_or_job b) (numbers 0 job_count) && all (stored_at b) (numbers 0 job_count)) ≡ (texts_within (table_of connection_count b) && rows_have_meaning (table_of connection_count b)) && queued_awaited (table_of connection_count b)
  unfolding rows_mean job_rules
  jobs_hold =
      and_same {a = all (λ k. numbers_mean (row_in connection_count b k) && is_awaited (row_in connection_count b k)) (numbers 0 job_count)} refl (sym (all_and (free_or_job b) (stored_at b) (numbers 0 job_count)))
      ∙ sym (all_and (λ k. numbers_mean (row_in connection_count b k) && is_awaited (row_in connection_count b k)) (λ k. free_or_job b k && stored_at b k) (numbers 0 job_count))
      ∙ same_below (λ k. (numbers_mean (row_in connection_count b k) && is_awaited (row_in connection_count b k)) && (free_or_job b k && stored_at b k)) job_rules 32 one_job_lem
      ∙ all_and (λ k. texts k && meaning k) awaited (numbers 0 job_count)
      ∙ and_same (all_and texts meaning (numbers 0 job_count) ∙ and_same (sym (jobs_all connection_count b (λ j. implies (live j.row) (text_within unique_size j.unique && (stored_number j.numerator && stored_number j.denominator)))))
      (sym (jobs_all connection_count b (λ j. cond (live j.row) (row_has_meaning (table_of connection_count b) j) (row_is_free j)))))
      (sym (jobs_all connection_count b (λ j. implies (queued j.row) (j.row.background || not (is_empty j.row.listeners)))))
    where
      texts : ℕ → Bool
      texts k = implies (live (row_in connection_count b k)) (text_within unique_size (job_in connection_count b k).unique && (stored_number (job_in connection_count b k).numerator && stored_number (job_in connection_count b k).denominator))

      meaning : ℕ → Bool
      meaning k = cond (live (row_in connection_count b k)) (row_has_meaning (table_of connection_count b) (job_in connection_count b k)) (row_is_free (job_in connection_count b k))

      awaited : ℕ → Bool
      awaited k = implies (queued (row_in connection_count b k)) ((row_in connection_count b k).background || not (is_empty (row_in connection_count b k).listeners))

-- ---- all rules, in the order of the check and in that of document 01

-- in the order of the check: flags of jobs and of connections, padded names, uniques and ids, ids of open connections, the hub's name padded
-- and one; rows, uniques of free ones, serials below the last and distinct, connections, functions known as defined; padded numbers, stored
-- ones, sizes, functions distinct, uniques of others. Then the three rules of any bytes and the three of whole jobs
module _ (backgrounds flags names uniques ids ids_open_lem hub hub_named_lem rows free below distinct abilities listeners holders closed sleepers known numerators denominators stored sizes functions others next_serial names_within_places ids_within_places texts meaning awaited : Bool) (next : next_serial ≡ true) (names_fit : names_within_places ≡ true) (ids_fit : ids_within_places ≡ true) (whole_jobs : rows && (free && stored) ≡ (texts && meaning) && awaited) where
  checked : Bool
  checked = ((backgrounds && flags) && (names && (uniques && ((ids && ids_open_lem) && (hub && hub_named_lem))))) && ((rows && (free && ((below && distinct) && ((abilities && (listeners && (holders && (closed && sleepers)))) && known)))) && (((numerators && denominators) && stored) && (sizes && (functions && others))))

  defined : Bool
  defined =
      (backgrounds && (names && (uniques && (numerators && (denominators && (hub && (flags && ids))))))) && (next_serial && (below && (distinct && (names_within_places && (texts && (sizes && (meaning && (functions && (known && (abilities && (listeners && (holders && (closed && (awaited && (others && (sleepers && (ids_within_places && (ids_open_lem && hub_named_lem))))))))))))))))))

  to : checked ≡ true → defined ≡ true
  unfolding checked defined
  to h =
      let byte_part = and_left ((backgrounds && flags) && (names && (uniques && ((ids && ids_open_lem) && (hub && hub_named_lem))))) _ h in
      let both_flags = and_left (backgrounds && flags) (names && (uniques && ((ids && ids_open_lem) && (hub && hub_named_lem)))) byte_part in
      let both_texts = and_right (backgrounds && flags) (names && (uniques && ((ids && ids_open_lem) && (hub && hub_named_lem)))) byte_part in
      let x9 = and_right names (uniques && ((ids && ids_open_lem) && (hub && hub_named_lem))) both_texts in
      let texts_by_place = and_right uniques ((ids && ids_open_lem) && (hub && hub_named_lem)) x9 in
      let both_ids = and_left (ids && ids_open_lem) (hub && hub_named_lem) texts_by_place in
      let both_hubs = and_right (ids && ids_open_lem) (hub && hub_named_lem) texts_by_place in
      let rest = and_right ((backgrounds && flags) && (names && (uniques && ((ids && ids_open_lem) && (hub && hub_named_lem))))) _ h in
      let number_part = and_left (rows && (free && ((below && distinct) && ((abilities && (listeners && (holders && (closed && sleepers)))) && known)))) _ rest in
      let last = and_right (rows && (free && ((below && distinct) && ((abilities && (listeners && (holders && (closed && sleepers)))) && known)))) _ rest in
      let x1 = and_right rows _ number_part in
      let x2 = and_right free _ x1 in
      let serials = and_left (below && distinct) _ x2 in
      let x3 = and_right (below && distinct) ((abilities && (listeners && (holders && (closed && sleepers)))) && known) x2 in
      let set_part = and_left (abilities && (listeners && (holders && (closed && sleepers)))) known x3 in
      let x4 = and_right abilities _ set_part in
      let x5 = and_right listeners _ x4 in
      let x6 = and_right holders (closed && sleepers) x5 in
      let stored_part = and_left ((numerators && denominators) && stored) _ last in
      let both_padded = and_left (numerators && denominators) stored stored_part in
      let x7 = and_right ((numerators && denominators) && stored) _ last in
      let x8 = and_right sizes (functions && others) x7 in
      let whole : (texts && meaning) && awaited ≡ true = sym whole_jobs ∙ and_both rows (free && stored) (and_left rows _ number_part) (and_both free stored (and_left free _ x1) (and_right (numerators && denominators) stored stored_part)) in
      let pair = and_left (texts && meaning) awaited whole in
      rw (
        next,
        names_fit,
        ids_fit,
        and_left backgrounds flags both_flags,
        and_right backgrounds flags both_flags,
        and_left names _ both_texts,
        and_left uniques ((ids && ids_open_lem) && (hub && hub_named_lem)) x9,
        and_left ids ids_open_lem both_ids,
        and_right ids ids_open_lem both_ids,
        and_left hub hub_named_lem both_hubs,
        and_right hub hub_named_lem both_hubs,
        and_left below distinct serials,
        and_right below distinct serials,
        and_left abilities _ set_part,
        and_left listeners _ x4,
        and_left holders (closed && sleepers) x5,
        and_left closed sleepers x6,
        and_right closed sleepers x6,
        and_right (abilities && (listeners && (holders && (closed && sleepers)))) known x3,
        and_left numerators denominators both_padded,
        and_right numerators denominators both_padded,
        and_left sizes (functions && others) x7,
        and_left functions others x8,
        and_right functions others x8,
        and_left texts meaning pair,
        and_right texts meaning pair,
        and_right (texts && meaning) awaited whole,
      )

  from : defined ≡ true → checked ≡ true
  unfolding checked defined
  from h =
      let image = and_left (backgrounds && (names && (uniques && (numerators && (denominators && (hub && (flags && ids))))))) _ h in
      let i1 = and_right backgrounds _ image in
      let i2 = and_right names _ i1 in
      let i3 = and_right uniques _ i2 in
      let i4 = and_right numerators _ i3 in
      let i5 = and_right denominators (hub && (flags && ids)) i4 in
      let i6 = and_right hub (flags && ids) i5 in
      let x0 = and_right (backgrounds && (names && (uniques && (numerators && (denominators && (hub && (flags && ids))))))) _ h in
      let x1 = and_right next_serial _ x0 in
      let x2 = and_right below _ x1 in
      let x3 = and_right distinct _ x2 in
      let x4 = and_right names_within_places _ x3 in
      let x5 = and_right texts _ x4 in
      let x6 = and_right sizes _ x5 in
      let x7 = and_right meaning _ x6 in
      let x8 = and_right functions _ x7 in
      let x9 = and_right known _ x8 in
      let y0 = and_right abilities _ x9 in
      let y1 = and_right listeners _ y0 in
      let y2 = and_right holders _ y1 in
      let y3 = and_right closed _ y2 in
      let y4 = and_right awaited _ y3 in
      let y5 = and_right others _ y4 in
      let y6 = and_right sleepers (ids_within_places && (ids_open_lem && hub_named_lem)) y5 in
      let y7 = and_right ids_within_places (ids_open_lem && hub_named_lem) y6 in
      let whole : rows && (free && stored) ≡ true = whole_jobs ∙ and_both (texts && meaning) awaited (and_both texts meaning (and_left texts _ x4) (and_left meaning _ x6)) (and_left awaited _ y3) in
      let pair = and_right rows (free && stored) whole in
      rw (
        and_left backgrounds _ image,
        and_left names _ i1,
        and_left uniques _ i2,
        and_left numerators _ i3,
        and_left denominators (hub && (flags && ids)) i4,
        and_left hub (flags && ids) i5,
        and_left flags ids i6,
        and_right flags ids i6,
        and_left below _ x1,
        and_left distinct _ x2,
        and_left sizes _ x5,
        and_left functions _ x7,
        and_left known _ x8,
        and_left abilities _ x9,
        and_left listeners _ y0,
        and_left holders _ y1,
        and_left closed _ y2,
        and_left others _ y4,
        and_left sleepers (ids_within_places && (ids_open_lem && hub_named_lem)) y5,
        and_left ids_open_lem hub_named_lem y7,
        and_right ids_open_lem hub_named_lem y7,
        and_left rows (free && stored) whole,
        and_left free stored pair,
        and_right free stored pair,
      )

  reorder : checked ≡ defined
  reorder = iff checked defined to from

pub sound_is : (b : Bytes) → ((k : ℕ) → get_or b k 0 < 256) → table_size connection_count ≤ length b → byte_rules b && ((rows_mean b && number_rules b) && text_rules b) ≡ is_sound connection_count b
unfolding byte_rules id_rules hub_rules number_rules connection_rules text_rules stored_rules is_sound image_tests obeys checked defined
sound_is b small long =
    let t = table_of connection_count b in
    reorder (are_flags job_count b backgrounds_at) (are_flags (3 * connection_count) b (opened_at connection_count)) (are_padded name_size function_count b names_at) (are_padded unique_size job_count b uniques_at) (are_padded id_size connection_count b (ids_at connection_count)) (ids_open t) (is_padded hub_size b hub_at) (hub_named t) (rows_mean b) (all (free_or_job b) (numbers 0 job_count)) (serials_below t) (serials_distinct t)
    (abilities_open t) (listeners_open t) (holders_open t) (closed_clear t) (sleepers_idle t) (functions_as_defined t) (are_padded number_size job_count b numerators_at) (are_padded number_size job_count b denominators_at) (all (stored_at b) (numbers 0 job_count))
    (sizes_within t) (functions_distinct t) (uniques_distinct t) (next_small t) (names_within t) (ids_within t) (texts_within t) (rows_have_meaning t) (queued_awaited t) (next_small_lem b small) (names_within_lem b) (ids_within_lem b) (jobs_hold b long)
    ∙ ap (λ (x : Bool). x && obeys t) (sym (image_tests_lem connection_count b small long))

-- what the later parts ask of flags and texts
pub each_of : (b : Bytes) → byte_rules b ≡ true → (are_flags job_count b backgrounds_at ≡ true) × (are_flags (3 * connection_count) b (opened_at connection_count) ≡ true) × (are_padded name_size function_count b names_at ≡ true) × (are_padded unique_size job_count b uniques_at ≡ true)
unfolding byte_rules
each_of b e =
    let flags = and_left (are_flags job_count b backgrounds_at && are_flags (3 * connection_count) b (opened_at connection_count)) (are_padded name_size function_count b names_at && (are_padded unique_size job_count b uniques_at && (id_rules b && hub_rules b))) e in
    let texts = and_right (are_flags job_count b backgrounds_at && are_flags (3 * connection_count) b (opened_at connection_count)) (are_padded name_size function_count b names_at && (are_padded unique_size job_count b uniques_at && (id_rules b && hub_rules b))) e in (
      and_left (are_flags job_count b backgrounds_at) (are_flags (3 * connection_count) b (opened_at connection_count)) flags,
      and_right (are_flags job_count b backgrounds_at) (are_flags (3 * connection_count) b (opened_at connection_count)) flags,
      and_left (are_padded name_size function_count b names_at) _ texts,
      and_left (are_padded unique_size job_count b uniques_at) (id_rules b && hub_rules b) (and_right (are_padded name_size function_count b names_at) _ texts),
    )

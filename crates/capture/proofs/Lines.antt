-- How a loop over the output's packets that lays a line for each meets the definition, whatever a line is: what is laid so far, the next
-- packet, and the end. Assumes nothing.
use Prim.Native.Nat.{ℕ, ◌+◌, ◌-◌, ◌*◌, ◌<◌, ◌≤◌}
use mathlib.Core.Path.{◌≡◌, refl, sym, ap, ap₂, ◌∙◌}
use mathlib.Core.List.{List, [], ◌∷◌, ◌++◌, append-nil, append_assoc}
use native.Mathlib.Nat.{add-mul, mul-le-mul_right}
use native.Mathlib.Omega.{arith}
use lib.ListN.{length, take, drop, length-append, length-drop}
use lib.Seq.{take_at, drop_at, drop-drop}
use Rattle.octets.specs.Bytes.{Bytes}
use Rattle.octets.specs.Put.{put}
use Rattle.octets.proofs.Strings.{rest_part}
use Rattle.octets.proofs.Laying.{put_put, put_none, length_put}
use Rattle.lists.specs.Lists.{concat}
use Rattle.capture.specs.Packets.{packet_length, Addressed, Packed, packets_in, packet_lines}
use Rattle.capture.proofs.Cutting.{first_length, packets_in_lem}

-- ---- the packet at hand

-- the first of the packets still to come
record Ahead (rest : List Bytes) : Type 0 where
  packet : Bytes
  others : List Bytes
  formed : length packet ≡ packet_length packet
  addressed : Addressed others
  is : rest ≡ packet ∷ others

ahead : (b : Bytes) (i : ℕ) → i < length b → (rest : List Bytes) → Addressed rest → drop i b ≡ concat rest → Ahead rest
ahead b i h [] f e = absurd (omega (arith, ap length e, length-drop i b))
ahead b i h (p ∷ ps) f e = record { packet = p; others = ps; formed = f.0; addressed = f.1; is = refl }

module _ (line : Bytes → Bytes) where
  pub lines_more : (p : Bytes) (ps : List Bytes) → packet_lines line (p ∷ ps) ≡ line p ++ packet_lines line ps
  unfolding packet_lines
  lines_more p ps = refl

  -- lines that are at most k times their packets
  pub lines_short : (k : ℕ) → ((p : Bytes) → 13 ≤ length p → length (line p) ≤ length p * k) → (ps : List Bytes) → Addressed ps → length (packet_lines line ps) ≤ length (concat ps) * k
  unfolding packet_lines
  lines_short k h [] f = omega arith
  lines_short k h (p ∷ ps) f =
      let l : length (line p) ≤ length p * k = h p (omega (arith, f.0)) in
      let m : length (p ++ concat ps) * k ≡ length p * k + length (concat ps) * k = rw length-append (add-mul (length p) (length (concat ps)) k) in
      omega (arith, length-append (line p) (packet_lines line ps), lines_short k h ps f.1, m)

  -- ---- the lines under way

  -- the bytes from i on are packets still to come, and the lines of those before lie over the text from `start` to `at`
  record Under (start : ℕ) (b x₀ x : Bytes) (at i : ℕ) : Type 0 where
    rest : List Bytes
    said : Bytes
    formed : Addressed rest
    tail : drop i b ≡ concat rest
    laid : x ≡ put start said x₀
    place : at ≡ start + length said
    lines : said ++ packet_lines line rest ≡ packet_lines line (packets_in b)

  module _ (start : ℕ) (b x₀ x : Bytes) (at i : ℕ) (u : Under start b x₀ x at i) where
    module _ (h : i < length b) where
      next : Ahead u.rest
      next = ahead b i h u.rest u.formed u.tail

      abbrev here : Bytes
      here = take (length b - i) (drop i b)

      next_tail : drop i b ≡ next.packet ++ concat next.others
      next_tail = u.tail ∙ ap concat next.is

      next_here : here ≡ next.packet ++ concat next.others
      next_here = rest_part b i ∙ next_tail

      next_length : packet_length here ≡ length next.packet
      next_length = rw next_here (first_length next.packet (concat next.others) next.formed)

      tail_length : length here ≡ length next.packet + length (concat next.others)
      tail_length = ap length next_here ∙ length-append next.packet (concat next.others)

      whole_header : 13 ≤ length here
      whole_header = omega (arith, tail_length, next.formed)

      module _ (n : ℕ) (q : n ≡ packet_length here) where
        first_part : take n here ≡ next.packet
        first_part = rw next_here (take_at next.packet (concat next.others) n (sym (q ∙ next_length)))

        under_more : (y : Bytes) (end : ℕ) → (end ≡ at + length (line (take n here))) × (y ≡ put at (line (take n here)) x) → Under start b x₀ y end (i + n)
        under_more y end e =
            let l : line (take n here) ≡ line next.packet = ap line first_part in
            let f : y ≡ put (start + length u.said) (line next.packet) (put start u.said x₀) = e.1 ∙ ap (λ (t : Bytes). put at t x) l ∙ ap₂ {C = Bytes} (λ (a : ℕ) (z : Bytes). put a (line next.packet) z) u.place u.laid in
            record {
              rest = next.others;
              said = u.said ++ line next.packet;
              formed = next.addressed;
              tail = sym (drop-drop n i b) ∙ ap (drop n) next_tail ∙ drop_at next.packet (concat next.others) n (sym (q ∙ next_length));
              laid = f ∙ put_put start u.said (line next.packet) x₀;
              place = omega (arith, e.0, ap length l, u.place, length-append u.said (line next.packet));
              lines = append_assoc u.said (line next.packet) (packet_lines line next.others) ∙ rw (← lines_more next.packet next.others, ← next.is) u.lines;
            }

    -- no packet is left
    module _ (h : length b ≤ i) where
      under_all : (rest : List Bytes) → Addressed rest → drop i b ≡ concat rest → rest ≡ []
      under_all [] f e = refl
      under_all (p ∷ ps) f e = absurd (omega (arith, ap length e, length-drop i b, length-append p (concat ps), f.0))

      all_said : u.said ≡ packet_lines line (packets_in b)
      unfolding packet_lines
      all_said = sym (append-nil u.said) ∙ rw (under_all u.rest u.formed u.tail) at u.lines

      under_end : (at ≡ start + length (packet_lines line (packets_in b))) × (x ≡ put start (packet_lines line (packets_in b)) x₀)
      under_end = (u.place ∙ ap (λ (s : Bytes). start + length s) all_said, u.laid ∙ ap (λ (s : Bytes). put start s x₀) all_said)

  -- ---- the loop

  module _ (k : ℕ) (short : (p : Bytes) → 13 ≤ length p → length (line p) ≤ length p * k) (start : ℕ) (b x₀ : Bytes) where
    -- the invariant: so far the lines are at most k times their packets, and so they stay inside the text, whose length stays
    pub record Turning (x : Bytes) (at i : ℕ) : Type 0 where
      pub inside : i ≤ length b
      pub near : at ≤ start + i * k
      pub room : start + length b * k ≤ length x₀
      pub same : length x ≡ length x₀
      under : Under start b x₀ x at i

    pub turning_start : Packed b → start + length b * k ≤ length x₀ → Turning x₀ start 0
    turning_start p h =
        record {
          inside = omega arith;
          near = omega arith;
          room = h;
          same = refl;
          under = record {
            rest = p.packets;
            said = [];
            formed = p.formed;
            tail = p.whole;
            laid = sym (put_none start x₀);
            place = omega arith;
            lines = ap (packet_lines line) (sym (packets_in_lem b p.packets p.formed p.whole));
          };
        }

    module _ (x : Bytes) (at i : ℕ) (t : Turning x at i) where
      module _ (h : i < length b) where
        pub header_whole : 13 ≤ length (take (length b - i) (drop i b))
        header_whole = whole_header start b x₀ x at i t.under h

        -- the next packet is the first n bytes of those from i on
        module _ (n : ℕ) (q : n ≡ packet_length (take (length b - i) (drop i b))) where
          abbrev packet : Bytes
          packet = take n (take (length b - i) (drop i b))

          pub counted : n ≡ length packet
          counted = q ∙ next_length start b x₀ x at i t.under h ∙ sym (ap length (first_part start b x₀ x at i t.under h n q))

          pub reach : i + n ≤ length b
          reach = omega (arith, tail_length start b x₀ x at i t.under h, next_length start b x₀ x at i t.under h, ap length (rest_part b i), length-drop i b)

          pub positive : 13 ≤ n
          positive = omega (arith, next_length start b x₀ x at i t.under h, (next start b x₀ x at i t.under h).formed)

          near_more : at + length (line packet) ≤ start + (i + n) * k
          near_more =
              let l : length (line packet) ≤ n * k = rw (← counted) at (short packet (omega (arith, counted, positive))) in
              rw (add-mul i n k) (omega (arith, t.near))

          pub turning_room : at + length (line packet) ≤ length x
          turning_room =
              let m : (i + n) * k ≤ length b * k = mul-le-mul_right k reach in
              omega (arith, near_more, m, t.room, t.same)

          pub turning_more : (y : Bytes) (end : ℕ) → (end ≡ at + length (line packet)) × (y ≡ put at (line packet) x) → Turning y end (i + n)
          turning_more y end e =
              record {
                inside = reach;
                near = omega (arith, e.0, near_more);
                room = t.room;
                same = ap length e.1 ∙ length_put at (line packet) x ∙ t.same;
                under = under_more start b x₀ x at i t.under h n q y end e;
              }

      pub turning_end : length b ≤ i → (at ≡ start + length (packet_lines line (packets_in b))) × (x ≡ put start (packet_lines line (packets_in b)) x₀)
      turning_end h = under_end start b x₀ x at i t.under h

-- What reading a packet depends on: its visible bytes and the number of its opaque ones. Other opaque bytes of the same number
-- change the last argument and nothing else. For any direction. Assumes nothing.
use Prim.Native.Nat.{ℕ, suc, ◌+◌, ◌-◌, ◌<◌, ◌≤◌}
use mathlib.Core.Path.{◌≡◌, refl, ap, ◌∙◌, sym, subst}
use mathlib.Core.Bool.{Bool, true, false, cond, ◌&&◌}
use mathlib.Core.List.{List, [], ◌∷◌, ◌++◌, append_assoc, append-nil}
use native.Mathlib.Nat.{le_of_suc-le-suc, not-suc-le-zero}
use native.Mathlib.Omega.{arith}
use borrow.Author.Tests.{eqb-true}
use lib.ListN.{length, get_or, take, drop, replicate, length-append, length-take, length-replicate, take-append-drop, get_or-append}
use lib.Seq.{take-length, drop-length, length-take-le, drop-append-le, take_at, drop_at}
use lib.Dec.{eqb}
use Rattle.octets.specs.Bytes.{Bytes, starts_with, number_at}
use Rattle.octets.proofs.Strings.{and_left, and_right}
use Rattle.packet.specs.declared.Rule.{Rule}
use Rattle.packet.specs.Layout.{rules_of, is_own, separators_of}
use Rattle.packet.specs.Arguments.{fit_all, ends_from, ends_of}
use Rattle.packet.specs.Packet.{Direction, Reading, refused, got, header, body, read}
use Rattle.packet.specs.Opaque.{ends_opaque, has_zeros, past, hides, seen, visible, opaque, masked, with_last, with_opaque}
use Rattle.packet.specs.Answers.{answer_of, found}
use Rattle.packet_laws.proofs.Splitting.{split_join, fit_length}
use Rattle.packet_laws.proofs.Packets.{Well, header_good, Got, read_got}
use Rattle.packet_laws.proofs.Separators.{Heads, heads, heads_past, Fate, broken, kept, fate, split_zeros, last_replaced, last_at, last_ends}

-- ---- a string's front

starts_front : (f r p : Bytes) → length p ≤ length f → starts_with (f ++ r) p ≡ starts_with f p
unfolding starts_with
starts_front f r [] h = refl
starts_front [] r (y ∷ p) h = absurd (not-suc-le-zero h)
starts_front (x ∷ f) r (y ∷ p) h = rw (starts_front f r p (le_of_suc-le-suc h))

pub number_front : (f r : Bytes) (at : ℕ) → at + 3 < length f → number_at (f ++ r) at ≡ number_at f at
number_front f r at h =
    let g : (i : ℕ) → i < length f → get_or (f ++ r) i 0 ≡ get_or f i 0 = get_or-append f r 0 in
    rw (g at (omega arith), g (at + 1) (omega arith), g (at + 2) (omega arith), g (at + 3) (omega arith))

-- two packets with the same first twelve bytes and the same length are refused alike by their headers
header_front : (magic : Bytes) (most : ℕ) (f x y : Bytes) → length magic ≡ 4 → length f ≡ 12 → length x ≡ length y
    → header magic most (f ++ x) ≡ header magic most (f ++ y)
unfolding header
header_front magic most f x y m h l =
    let n : length (f ++ x) ≡ length (f ++ y) = omega (arith, length-append f x, length-append f y) in
    let s : starts_with (f ++ x) magic ≡ starts_with (f ++ y) magic = starts_front f x magic (omega arith) ∙ sym (starts_front f y magic (omega arith)) in
    let z : number_at (f ++ x) 8 ≡ number_at (f ++ y) 8 = number_front f x 8 (omega arith) ∙ sym (number_front f y 8 (omega arith)) in
    rw (n, s, z)

-- ---- a packet in three parts: header, data up to the last separator, opaque bytes

some_rule : (rs : List Rule) → ends_opaque rs ≡ true → length rs ≡ suc (length rs - 1)
some_rule [] e = let z : ◌≡◌ {A = ℕ} 0 1 = cc in absurd (omega arith)
some_rule (r ∷ rs) e = omega arith

module _ (w : Direction) where
  -- the rules of the type that the header f names
  abbrev pub rules_at : Bytes → List Rule
  rules_at f = rules_of (w.shape (number_at f 4))

  -- f is a header whose type ends in an opaque argument, and v has the separators that the type demands
  pub record Parted (f v : Bytes) : Type 0 where
    pub head : length f ≡ 12
    pub closes : ends_opaque (rules_at f) ≡ true
    pub pieces : Heads (length (rules_at f) - 1) v

  -- such a packet with a good header: what of it is visible, what is opaque, and what is read
  module _ (f v x : Bytes) (p : Parted f v) (g : header w.magic w.most (f ++ (v ++ x)) ≡ 0) where
    typed_front : number_at (f ++ (v ++ x)) 4 ≡ number_at f 4
    typed_front = number_front f (v ++ x) 4 (omega (arith, p.head))

    parted_seen : seen w (f ++ (v ++ x)) ≡ length (f ++ v)
    unfolding seen hides
    parted_seen =
        let h = heads_past _ v x p.pieces in
        rw (g, typed_front, p.closes, drop_at f (v ++ x) 12 p.head, h.0, h.1) (omega (arith, length-append f v, p.head))

    pub parted_visible : visible w (f ++ (v ++ x)) ≡ f ++ v
    unfolding visible
    parted_visible = rw (parted_seen, ← append_assoc) (take_at (f ++ v) x _ refl)

    pub parted_opaque : opaque w (f ++ (v ++ x)) ≡ x
    unfolding opaque
    parted_opaque = rw (parted_seen, ← append_assoc) (drop_at (f ++ v) x _ refl)

    pub parted_read : read w (f ++ (v ++ x)) ≡ body (w.shape (number_at f 4)) (number_at f 4) (v ++ x)
    unfolding read
    parted_read = rw (g, typed_front, drop_at f (v ++ x) 12 p.head)

  parted_fate : (f v : Bytes) → Parted f v → Fate (rules_at f) v
  parted_fate f v p = fate (rules_at f) _ v (some_rule (rules_at f) p.closes) p.closes p.pieces

  -- every packet with an opaque part is such a one
  pub record Hidden (s : Bytes) : Type 0 where
    pub f : Bytes
    pub v : Bytes
    pub x : Bytes
    pub is : s ≡ f ++ (v ++ x)
    pub parted : Parted f v
    pub good : header w.magic w.most (f ++ (v ++ x)) ≡ 0

  pub hides_parts : (s : Bytes) → hides w s ≡ true → Hidden s
  unfolding hides
  hides_parts s e =
      let d : Bytes = drop 12 s in
      let k : ℕ = separators_of (w.shape (number_at s 4)) in
      let o : Bool × Bool × Bool = (eqb (header w.magic w.most s) 0, ends_opaque (rules_at s), has_zeros k d) in
      let g : header w.magic w.most s ≡ 0 = eqb-true _ 0 (and_left o.0 (o.1 && o.2) e) in
      let c : ends_opaque (rules_at s) ≡ true = and_left o.1 o.2 (and_right o.0 (o.1 && o.2) e) in
      let z : has_zeros k d ≡ true = and_right o.1 o.2 (and_right o.0 (o.1 && o.2) e) in
      let l : length (take 12 s) ≡ 12 = length-take-le 12 s (header_good _ _ s g).long in
      let n : number_at s 4 ≡ number_at (take 12 s) 4
      = ap (λ (b : Bytes). number_at b 4) (sym (take-append-drop 12 s)) ∙ number_front (take 12 s) d 4 (omega arith) in
      let h : Heads (length (rules_at s) - 1) (take (past k d) d) = heads k d z in
      let i : s ≡ take 12 s ++ (take (past k d) d ++ drop (past k d) d) = sym (rw (take-append-drop (past k d) d) (take-append-drop 12 s)) in
      record {
        f = take 12 s;
        v = take (past k d) d;
        x = drop (past k d) d;
        is = i;
        parted = record {
          head = l;
          closes = subst (λ (m : ℕ). ends_opaque (rules_of (w.shape m)) ≡ true) n c;
          pieces = subst (λ (m : ℕ). Heads (length (rules_of (w.shape m)) - 1) (take (past k d) d)) n h;
        };
        good = subst (λ (t : Bytes). header w.magic w.most t ≡ 0) i g;
      }

  -- ---- a packet without an opaque part

  pub unhidden_visible : (s : Bytes) → hides w s ≡ false → visible w s ≡ s
  unfolding visible seen
  unhidden_visible s e = rw e (take-length s)

  pub unhidden_opaque : (s : Bytes) → hides w s ≡ false → opaque w s ≡ []
  unfolding opaque seen
  unhidden_opaque s e = rw e (drop-length s)

  -- a packet that is read, and whose type ends in an opaque argument, has an opaque part
  pub got_hides : (s : Bytes) (kind : ℕ) (args : List Bytes) → Got w s kind args → ends_opaque (rules_of (w.shape kind)) ≡ true → hides w s ≡ true
  unfolding hides
  got_hides s kind args g e = rw (g.headed, g.typed, e) (split_zeros (rules_of (w.shape kind)) _ (drop 12 s) args (some_rule (rules_of (w.shape kind)) e) g.splits)

  unhidden_read : (s x : Bytes) (r : Reading) → read w s ≡ r → hides w s ≡ false → r ≡ with_opaque w x r
  unfolding with_opaque
  unhidden_read s x (refused n) e h = refl
  unhidden_read s x (got kind args) e h = last_kept (ends_opaque (rules_of (w.shape kind))) refl where
    last_kept : (b : Bool) → ends_opaque (rules_of (w.shape kind)) ≡ b → got kind args ≡ got kind (cond b (with_last x args) args)
    last_kept true q = let z : ◌≡◌ {A = ℕ} 0 1 = cc (got_hides s kind args (read_got w s kind args e) q) in absurd (omega arith)
    last_kept false q = refl

  -- a reading of other opaque bytes
  body_other : (kind : ℕ) (v x y : Bytes) (b : Bool) → is_own (w.shape kind) ≡ b → ends_opaque (rules_of (w.shape kind)) ≡ true → Fate (rules_of (w.shape kind)) v
      → body (w.shape kind) kind (v ++ x) ≡ with_opaque w x (body (w.shape kind) kind (v ++ y))
  unfolding body with_opaque
  body_other kind v x y false o e u = rw o
  body_other kind v x y true o e (broken s) = rw (o, s x, s y)
  body_other kind v x y true o e (kept bs s) = rw (o, s x, s y, e, last_replaced)

-- ---- the laws

-- visible and opaque bytes are all bytes
pub visible_opaque : (w : Direction) (s : Bytes) → visible w s ++ opaque w s ≡ s
unfolding visible opaque
visible_opaque w s = take-append-drop (seen w s) s

seen_most : (b : Bool) (m n : ℕ) → 12 ≤ n → 12 ≤ cond b (12 + m) n
seen_most true m n h = omega arith
seen_most false m n h = h

-- of the data: what is shown and what is opaque is all of it
pub data_whole : (w : Direction) (p : Bytes) → 12 ≤ length p → drop 12 (visible w p) ++ opaque w p ≡ drop 12 p
unfolding visible seen
data_whole w p h =
    let l : 12 ≤ length (visible w p) = rw length-take (omega (arith, seen_most (hides w p) (past (separators_of (w.shape (number_at p 4))) (drop 12 p)) (length p) h)) in
    sym (drop-append-le 12 (visible w p) (opaque w p) l) ∙ ap (drop 12) (visible_opaque w p)

-- equal lists of ends are equal ends
ends_same : (bs cs : List Bytes) → ends_from 12 bs ≡ ends_from 12 cs → ends_of 12 bs ≡ ends_of 12 cs
unfolding ends_of
ends_same bs cs e = rw e

-- what holds of a packet if its opaque bytes are replaced by x
pub record Other (w : Direction) (s x : Bytes) : Type 0 where
  pub reads : read w (visible w s ++ x) ≡ with_opaque w x (read w s)
  pub shows : visible w (visible w s ++ x) ≡ visible w s
  pub covers : opaque w (visible w s ++ x) ≡ x

module _ (w : Direction) (well : Well w) where
  parted_other : (f v x y : Bytes) → Parted w f v → header w.magic w.most (f ++ (v ++ x)) ≡ 0 → length y ≡ length x → Other w (f ++ (v ++ x)) y
  parted_other f v x y p g l =
      let n : length (v ++ y) ≡ length (v ++ x) = omega (arith, length-append v x, length-append v y) in
      let h : header w.magic w.most (f ++ (v ++ y)) ≡ 0 = header_front _ _ f (v ++ y) (v ++ x) well.four p.head n ∙ g in
      let e : visible w (f ++ (v ++ x)) ++ y ≡ f ++ (v ++ y) = rw (parted_visible w f v x p g, append_assoc) in
      record {
        reads = rw (e, parted_read w f v y p h, parted_read w f v x p g) (body_other w (number_at f 4) v y x _ refl p.closes (parted_fate w f v p));
        shows = rw e (parted_visible w f v y p h ∙ sym (parted_visible w f v x p g));
        covers = rw e (parted_opaque w f v y p h);
      }

  other_by : (s x : Bytes) (b : Bool) → hides w s ≡ b → length x ≡ length (opaque w s) → Other w s x
  other_by s [] false e l =
      let q : visible w s ++ [] ≡ s = append-nil (visible w s) ∙ unhidden_visible w s e in
      record { reads = rw q (unhidden_read w s [] (read w s) refl e); shows = rw q; covers = rw q (unhidden_opaque w s e) }
  other_by s (y ∷ x) false e l = absurd (omega (arith, ap length (unhidden_opaque w s e)))
  other_by s x true e l =
      let h : Hidden w s = hides_parts w s e in
      let o : opaque w s ≡ h.x = ap (opaque w) h.is ∙ parted_opaque w h.f h.v h.x h.parted h.good in
      subst (λ (t : Bytes). Other w t x) (sym h.is) (parted_other h.f h.v h.x x h.parted h.good (l ∙ ap length o))

  -- other opaque bytes, of the same number: the reading has them in place of the packet's own
  pub other : (s x : Bytes) → length x ≡ length (opaque w s) → Other w s x
  other s x l = other_by s x (hides w s) refl l

  -- the masked packet: the same bytes are visible, and as many are opaque, each of them zero
  masked_other : (s : Bytes) → Other w s (replicate (length (opaque w s)) 0)
  masked_other s = other s _ (length-replicate (length (opaque w s)) 0)

  pub masked_visible : (s : Bytes) → visible w (masked w s) ≡ visible w s
  unfolding masked
  masked_visible s = (masked_other s).shows

  pub masked_opaque : (s : Bytes) → opaque w (masked w s) ≡ replicate (length (opaque w s)) 0
  unfolding masked
  masked_opaque s = (masked_other s).covers

  pub masked_length : (s : Bytes) → length (opaque w (masked w s)) ≡ length (opaque w s)
  masked_length s = ap length (masked_opaque s) ∙ length-replicate (length (opaque w s)) 0

  -- of packets with the same visible bytes and as many opaque ones, the masked packet is the same
  pub alike_masked : (s t : Bytes) → visible w s ≡ visible w t → length (opaque w s) ≡ length (opaque w t) → masked w s ≡ masked w t
  unfolding masked
  alike_masked s t e l = rw (e, l)

  pub masked_masked : (s : Bytes) → masked w (masked w s) ≡ masked w s
  masked_masked s = alike_masked (masked w s) s (masked_visible s) (masked_length s)

  -- reading a packet is reading it masked, with the opaque bytes put back
  pub read_masked : (s : Bytes) → read w s ≡ with_opaque w (opaque w s) (read w (masked w s))
  read_masked s =
      let e : visible w (masked w s) ++ opaque w s ≡ s = rw (masked_visible s) (visible_opaque w s) in
      ap (read w) (sym e) ∙ (other (masked w s) (opaque w s) (sym (masked_length s))).reads

  -- so two packets that look alike are read alike, each with its own opaque bytes
  pub read_alike : (s t : Bytes) → visible w s ≡ visible w t → length (opaque w s) ≡ length (opaque w t)
      → read w t ≡ with_opaque w (opaque w t) (read w (masked w s))
  read_alike s t e l = rw (alike_masked s t e l) (read_masked t)

  -- ---- where the opaque bytes are found

  module _ (s : Bytes) (kind : ℕ) (args : List Bytes) (r : read w s ≡ got kind args) where
    -- the last argument is the opaque part
    pub opaque_last : ends_opaque (rules_of (w.shape kind)) ≡ true → with_last (opaque w s) args ≡ args
    unfolding with_opaque
    opaque_last e =
        let q : read w s ≡ with_opaque w (opaque w s) (read w s) = ap (read w) (sym (visible_opaque w s)) ∙ (other s (opaque w s) refl).reads in
        let t : got kind args ≡ got kind (with_last (opaque w s) args) = rw (r, e) at q in
        cc

    pub opaque_at : ends_opaque (rules_of (w.shape kind)) ≡ true → get_or args (separators_of (w.shape kind)) [] ≡ opaque w s
    opaque_at e =
        let g : Got w s kind args = read_got w s kind args r in
        let f : fit_all (rules_of (w.shape kind)) args ≡ true = (split_join _ (drop 12 s) args g.splits).1 in
        ap (λ (l : List Bytes). get_or l (separators_of (w.shape kind)) []) (sym (opaque_last e))
        ∙ last_at args _ (opaque w s) (fit_length (rules_of (w.shape kind)) args f ∙ some_rule (rules_of (w.shape kind)) e)

    -- a type that does not end in an opaque argument has no opaque part
    pub opaque_none : ends_opaque (rules_of (w.shape kind)) ≡ false → opaque w s ≡ []
    unfolding hides
    opaque_none e =
        let g : Got w s kind args = read_got w s kind args r in
        unhidden_opaque w s (rw (g.headed, g.typed, e))

  -- ---- the answer

  ends_other : (s o : Bytes) (r : Reading) → read w s ≡ r → length o ≡ length (opaque w s) → answer_of (with_opaque w o r) ≡ answer_of r
  unfolding with_opaque answer_of
  ends_other s o (refused n) e l = refl
  ends_other s o (got kind args) e l = same_ends (ends_opaque (rules_of (w.shape kind))) refl where
    same_ends : (b : Bool) → ends_opaque (rules_of (w.shape kind)) ≡ b → found kind (ends_of 12 (cond b (with_last o args) args)) ≡ found kind (ends_of 12 args)
    same_ends true q = ap (found kind) (ends_same _ _ (last_ends args 12 o (opaque w s) l ∙ ap (ends_from 12) (opaque_last s kind args e q)))
    same_ends false q = refl

  -- number, type and ends are those of the masked packet
  pub answer_masked : (s : Bytes) → answer_of (read w s) ≡ answer_of (read w (masked w s))
  answer_masked s = ap answer_of (read_masked s) ∙ ends_other (masked w s) (opaque w s) _ refl (sym (masked_length s))

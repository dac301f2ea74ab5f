-- What it means that a header is good, that a packet is read and that one is written: each as a record of facts, both ways; and
-- the places of a packet's parts. Assumes nothing.
use Prim.Native.Nat.{ℕ, zero, suc, ◌+◌, ◌^◌, ◌<◌, ◌≤◌}
use mathlib.Core.Path.{◌≡◌, refl, ap, ◌∙◌, sym, subst}
use mathlib.Core.Bool.{Bool, true, false, not, cond}
use mathlib.Core.List.{List, [], ◌∷◌, ◌++◌, append-nil}
use native.Mathlib.Nat.{add-zero}
use native.Mathlib.Omega.{arith}
use borrow.Author.Tests.{le-ltb, eq-eqb, eqb-true, ltb-true, ltb-false, not-false}
use lib.ListN.{length, get_or, drop, length-drop, drop_of_length-le, get_or-eq_default}
use lib.Seq.{drop-cons}
use lib.Dec.{ltb, eqb}
use Rattle.octets.specs.Bytes.{Bytes, starts_with, big_endian, number_at}
use Rattle.octets.specs.Put.{put}
use Rattle.octets.proofs.Strings.{starts_self, starts_is, number_written, written_number}
use Rattle.packet.specs.declared.Shape.{Shape}
use Rattle.packet.specs.declared.Shape.TheVariants.{Foreign}
use Rattle.std.specs.Prelude.{Ok}
use Rattle.packet.specs.Layout.{rules_of, is_own, served, sent, request_shape, response_shape}
use Rattle.packet.specs.Arguments.{Parts, bad, parts, split, fit_all, join}
use Rattle.packet.specs.Packet.{Direction, requests, responses, Reading, refused, got, header, argued, body, after_header, read, packet, write_refusal}
use Rattle.packet.specs.Answers.{Writing, finished}

-- ---- directions

-- four bytes of magic; sizes, and the types that the direction has, are numbers of four bytes
pub record Well (w : Direction) : Type 0 where
  pub four : length w.magic ≡ 4
  pub small : w.most < 2 ^ 32
  pub low : (kind : ℕ) → is_own (w.shape kind) ≡ true → kind < 2 ^ 32

-- a number beyond a table of shapes is foreign
own_listed : (shapes : List Shape) (kind : ℕ) (b : Bool) → ltb kind (length shapes) ≡ b → is_own (get_or shapes kind Foreign) ≡ true → kind < length shapes
own_listed shapes kind true e o = ltb-true _ _ e
own_listed shapes kind false e o = let z : ◌≡◌ {A = ℕ} 0 1 = cc (get_or-eq_default shapes Foreign (ltb-false kind (length shapes) e)) in absurd (omega arith)

pub requests_well : Well requests
unfolding request_shape
requests_well = record { four = refl; small = omega arith; low = λ kind o. let h : kind < 37 = own_listed served kind _ refl o in omega arith }

pub responses_well : Well responses
unfolding response_shape
responses_well = record { four = refl; small = omega arith; low = λ kind o. let h : kind < 37 = own_listed sent kind _ refl o in omega arith }

-- ---- a good header

pub record Headed (magic : Bytes) (most : ℕ) (s : Bytes) : Type 0 where
  pub long : 12 ≤ length s
  pub starts : starts_with s magic ≡ true
  pub limited : number_at s 8 ≤ most
  pub whole : length s ≡ 12 + number_at s 8

-- a check that was not refused
unrefused : (b : Bool) (n m : ℕ) → cond b (suc n) m ≡ 0 → (b ≡ false) × (m ≡ 0)
unrefused true n m e = absurd (omega arith)
unrefused false n m e = (refl, e)

accepted_last : (b : Bool) (n : ℕ) → cond b 0 (suc n) ≡ 0 → b ≡ true
accepted_last true n e = refl
accepted_last false n e = absurd (omega arith)

module _ (magic : Bytes) (most : ℕ) (s : Bytes) where
  pub header_good : header magic most s ≡ 0 → Headed magic most s
  unfolding header
  header_good e =
      let a = unrefused (ltb (length s) 12) 4 _ e in
      let b = unrefused (not (starts_with s magic)) 5 _ a.1 in
      let c = unrefused (ltb most (number_at s 8)) 6 _ b.1 in
      record {
        long = ltb-false _ _ a.0;
        starts = not-false _ b.0;
        limited = ltb-false _ _ c.0;
        whole = eqb-true _ _ (accepted_last (eqb (length s) (12 + number_at s 8)) 7 c.1);
      }

  pub good_header : Headed magic most s → header magic most s ≡ 0
  unfolding header
  good_header h = rw (le-ltb _ _ h.long, h.starts, le-ltb _ _ h.limited, eq-eqb _ _ h.whole)

-- ---- a packet that is read

pub record Got (w : Direction) (s : Bytes) (kind : ℕ) (args : List Bytes) : Type 0 where
  pub headed : header w.magic w.most s ≡ 0
  pub typed : number_at s 4 ≡ kind
  pub own : is_own (w.shape kind) ≡ true
  pub splits : split (rules_of (w.shape kind)) (drop 12 s) ≡ parts args

after_good : (n : ℕ) (r : Reading) (kind : ℕ) (args : List Bytes) → after_header n r ≡ got kind args → (n ≡ 0) × (r ≡ got kind args)
after_good zero r kind args e = (refl, e)
after_good (suc n) r kind args e = let z : ◌≡◌ {A = ℕ} 0 1 = cc in absurd (omega arith)

argued_good : (k : ℕ) (p : Parts) (kind : ℕ) (args : List Bytes) → argued k p ≡ got kind args → (k ≡ kind) × (p ≡ parts args)
argued_good k bad kind args e = let z : ◌≡◌ {A = ℕ} 0 1 = cc in absurd (omega arith)
argued_good k (parts bs) kind args e = let p : k ≡ kind = cc in let q : bs ≡ args = cc in (p, ap parts q)

own_good : (b : Bool) (r : Reading) (kind : ℕ) (args : List Bytes) → cond b r (refused 9) ≡ got kind args → (b ≡ true) × (r ≡ got kind args)
own_good true r kind args e = (refl, e)
own_good false r kind args e = let z : ◌≡◌ {A = ℕ} 0 1 = cc in absurd (omega arith)

module _ (w : Direction) (s : Bytes) (kind : ℕ) (args : List Bytes) where
  pub read_got : read w s ≡ got kind args → Got w s kind args
  unfolding read body
  read_got e =
      let a = after_good (header w.magic w.most s) _ kind args e in
      let b = own_good (is_own (w.shape (number_at s 4))) _ kind args a.1 in
      let c = argued_good (number_at s 4) (split (rules_of (w.shape (number_at s 4))) (drop 12 s)) kind args b.1 in
      record { headed = a.0; typed = c.0; own = rw c.0 at b.0; splits = rw c.0 at c.1 }

  pub got_read : Got w s kind args → read w s ≡ got kind args
  unfolding read body
  got_read g = rw (g.headed, g.typed, g.own, g.splits)

-- ---- a packet that is written

pub record Accepted (most room : ℕ) (shape : Shape) (args : List Bytes) : Type 0 where
  pub own : is_own shape ≡ true
  pub fit : fit_all (rules_of shape) args ≡ true
  pub limited : length (join args) ≤ most
  pub fill : 12 + length (join args) ≤ room

module _ (most room : ℕ) (shape : Shape) (args : List Bytes) where
  pub unrefused_accepted : write_refusal most room shape args ≡ 0 → Accepted most room shape args
  unfolding write_refusal
  unrefused_accepted e =
      let a = unrefused (not (is_own shape)) 8 _ e in
      let b = unrefused (not (fit_all (rules_of shape) args)) 9 _ a.1 in
      let c = unrefused (ltb most (length (join args))) 6 _ b.1 in
      let d = unrefused (ltb room (12 + length (join args))) 0 0 c.1 in
      record { own = not-false _ a.0; fit = not-false _ b.0; limited = ltb-false _ _ c.0; fill = ltb-false _ _ d.0 }

  pub accepted_unrefused : Accepted most room shape args → write_refusal most room shape args ≡ 0
  unfolding write_refusal
  accepted_unrefused h = rw (h.own, h.fit, le-ltb _ _ h.limited, le-ltb _ _ h.fill)

-- a length as the answer: nothing was refused, the packet has that length, and it was laid over the output
pub finished_length : (m : ℕ) (p out : Bytes) (n : ℕ) (o : Bytes) → finished m p out ≡ record { answer = Ok n; output = o }
    → (m ≡ 0) × (length p ≡ n) × (put 0 p out ≡ o)
finished_length zero p out n o e = let a : length p ≡ n = cc (ap (λ (x : Writing). x.answer) e) in (refl, a, ap (λ (x : Writing). x.output) e)
finished_length (suc m) p out n o e = let z : ◌≡◌ {A = ℕ} 0 1 = cc (ap (λ (x : Writing). x.answer) e) in absurd (omega arith)

-- ---- the places of a packet's parts

-- n bytes from place i on, one by one
abbrev pub firsts : ℕ → ℕ → List ℕ → List ℕ
firsts zero i s = []
firsts (suc n) i s = get_or s i 0 ∷ firsts n (suc i) s

pub one_by_one : (n i : ℕ) (s : List ℕ) → i + n ≤ length s → drop i s ≡ firsts n i s ++ drop (i + n) s
one_by_one zero i s h = rw add-zero
one_by_one (suc n) i s h =
    let q : suc i + n ≡ i + suc n = omega arith in
    drop-cons s i 0 (omega arith) ∙ rw (one_by_one n (suc i) s (omega arith), q)

four_bytes : (m : Bytes) → length m ≡ 4 → m ≡ firsts 4 0 m
four_bytes m h = one_by_one 4 0 m (omega arith) ∙ rw (drop_of_length-le m {i = 4} (omega arith)) (append-nil (firsts 4 0 m))

-- where the magic, the type, the size and the data stand in a packet
pub record Laid (magic : Bytes) (kind : ℕ) (d : Bytes) : Type 0 where
  pub whole : length (packet magic kind d) ≡ 12 + length d
  pub starts : starts_with (packet magic kind d) magic ≡ true
  pub typed : number_at (packet magic kind d) 4 ≡ kind
  pub sized : number_at (packet magic kind d) 8 ≡ length d
  pub rest : drop 12 (packet magic kind d) ≡ d

laid_after : (m0 m1 m2 m3 kind : ℕ) (d : Bytes) → kind < 2 ^ 32 → length d < 2 ^ 32 → Laid (m0 ∷ m1 ∷ m2 ∷ m3 ∷ []) kind d
unfolding packet
laid_after m0 m1 m2 m3 kind d k l =
    record {
      whole = omega arith;
      starts = starts_self (m0 ∷ m1 ∷ m2 ∷ m3 ∷ []) _;
      typed = number_written kind [] k;
      sized = number_written (length d) [] l;
      rest = refl;
    }

pub packet_laid : (magic : Bytes) (kind : ℕ) (d : Bytes) → length magic ≡ 4 → kind < 2 ^ 32 → length d < 2 ^ 32 → Laid magic kind d
packet_laid magic kind d m k l = subst (λ (x : Bytes). Laid x kind d) (sym (four_bytes magic m)) (laid_after _ _ _ _ kind d k l)

-- bytes with a good header are the packet of their type and data
pub packet_again : (magic : Bytes) (most : ℕ) (s : Bytes) → length magic ≡ 4 → ((i : ℕ) → get_or s i 0 < 256) → Headed magic most s
    → packet magic (number_at s 4) (drop 12 s) ≡ s
unfolding packet
packet_again magic most s m h e =
    let g : ℕ → ℕ = λ i. get_or s i 0 in
    let l : length (drop 12 s) ≡ number_at s 8 = omega (arith, length-drop 12 s) in
    let w4 : big_endian (number_at s 4) ≡ firsts 4 4 s = written_number (g 4) (g 5) (g 6) (g 7) (h 4) (h 5) (h 6) (h 7) in
    let w8 : big_endian (number_at s 8) ≡ firsts 4 8 s = written_number (g 8) (g 9) (g 10) (g 11) (h 8) (h 9) (h 10) (h 11) in
    let x4 : drop 4 s ≡ firsts 4 4 s ++ (firsts 4 8 s ++ drop 12 s) = one_by_one 8 4 s e.long in
    let x0 : s ≡ magic ++ drop 4 s = starts_is s magic e.starts ∙ rw m in
    ap (λ (n : ℕ). magic ++ (big_endian (number_at s 4) ++ (big_endian n ++ drop 12 s))) l
    ∙ ap (λ (b : Bytes). magic ++ (b ++ (big_endian (number_at s 8) ++ drop 12 s))) w4
    ∙ ap (λ (b : Bytes). magic ++ (firsts 4 4 s ++ (b ++ drop 12 s))) w8
    ∙ ap (λ (b : Bytes). magic ++ b) (sym x4)
    ∙ sym x0

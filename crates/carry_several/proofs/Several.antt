-- One packet to each member of a set, in rising order: what one turn of the loop over the connections adds. Assumes nothing.
use Prim.Native.Nat.{ℕ, zero, suc, ◌+◌, ◌-◌, ◌/◌, ◌^◌, ◌<◌, ◌≤◌}
use mathlib.Core.Path.{◌≡◌, refl, ap, ◌∙◌, sym}
use mathlib.Core.Bool.{Bool, true, false, not, cond}
use mathlib.Core.List.{List, [], ◌∷◌, ◌++◌, append-nil, append_assoc}
use native.Mathlib.Nat.{add-zero, zero-div}
use native.Mathlib.Numerals.{add-one}
use native.Mathlib.Omega.{arith}
use borrow.Author.Tests.{not-true, not-false}
use lib.Pow.{shr-shr}
use lib.ListN.{length, length-append}
use Rattle.octets.specs.Bytes.{Bytes}
use Rattle.octets.specs.Put.{put}
use Rattle.octets.proofs.Laying.{put_none, put_put}
use Rattle.sets.specs.Sets.{has, members}
use Rattle.sets.proofs.Members.{map_members}
use Rattle.lists.specs.Lists.{concat}
use Rattle.server.specs.Sizes.{connection_count}
use Rattle.carry_packet.specs.Messages.{message}
use Rattle.carry_several.specs.Several.{messages, message_if, told_message, told_messages}

module _ (s heard kind : ℕ) (d failed : Bytes) where
  abbrev one : ℕ → Bytes
  one c = message_if s heard kind d failed c

  -- to the members below n
  abbrev pub below : ℕ → Bytes
  below n = told_messages (members n s) heard kind d failed

  told_append : (ls ms : List ℕ) → told_messages (ls ++ ms) heard kind d failed ≡ told_messages ls heard kind d failed ++ told_messages ms heard kind d failed
  unfolding told_messages
  told_append [] ms = refl
  told_append (l ∷ ls) ms = ap (λ (r : Bytes). told_message heard kind d failed l ++ r) (told_append ls ms) ∙ sym (append_assoc (told_message heard kind d failed l) _ _)

  one_more : (c : ℕ) (b : Bool) → told_messages (cond b (c ∷ []) []) heard kind d failed ≡ cond b (told_message heard kind d failed c) []
  unfolding told_messages
  one_more c true = append-nil (told_message heard kind d failed c)
  one_more c false = refl

  below_more : (c : ℕ) → below (suc c) ≡ below c ++ one c
  unfolding members message_if
  below_more c = told_append (members c s) _ ∙ ap (λ (r : Bytes). below c ++ r) (one_more c (has s c))

  more_long : (c : ℕ) → length (below (suc c)) ≡ length (below c) + length (one c)
  more_long c = ap length (below_more c) ∙ length-append (below c) (one c)

  -- more members, more bytes
  below_grows : (c k : ℕ) → length (below c) ≤ length (below (c + k))
  below_grows c zero = rw add-zero (omega arith)
  below_grows c (suc k) = let q : c + suc k ≡ suc (c + k) = omega arith in rw (q, more_long (c + k)) (omega (arith, below_grows c k))

  -- ---- none is left

  -- from where the set is empty on there is nobody
  lacks : (c k : ℕ) → s / 2 ^ c ≡ 0 → has s (c + k) ≡ false
  unfolding has
  lacks c k e = rw (← shr-shr s c k, e, zero-div)

  below_same : (c k : ℕ) → s / 2 ^ c ≡ 0 → below c ≡ below (c + k)
  unfolding message_if
  below_same c zero e = rw add-zero
  below_same c (suc k) e =
      let q : c + suc k ≡ suc (c + k) = omega arith in
      let r : one (c + k) ≡ [] = rw (lacks c k e) in
      below_same c k e ∙ rw (q, below_more (c + k), r) (sym (append-nil (below (c + k))))

  -- then all of it are behind
  pub all_below : (c : ℕ) → c ≤ connection_count → s / 2 ^ c ≡ 0 → below c ≡ below connection_count
  all_below c h e = let q : c + (connection_count - c) ≡ connection_count = omega arith in rw q at (below_same c (connection_count - c) e)

  -- ---- one connection, in or not in the set

  module _ (c : ℕ) (b : Bool) (e : b ≡ has s c) where
    pub stranger_place : not b ≡ true → (at : ℕ) → at ≡ at + length (one c)
    unfolding message_if
    stranger_place h at = rw (← e, not-true b h) (omega arith)

    pub stranger_laid : not b ≡ true → (at : ℕ) (out : Bytes) → out ≡ put at (one c) out
    unfolding message_if
    stranger_laid h at out = rw (← e, not-true b h) (sym (put_none at out))

    pub heard_is : not b ≡ false → (a : Bool) → a ≡ has heard c → a ≡ true → one c ≡ message c kind d
    unfolding message_if told_message
    heard_is h a g i = rw (← e, not-false b h, ← g, i)

    pub failed_is : not b ≡ false → (a : Bool) → a ≡ has heard c → a ≡ false → one c ≡ message c 14 failed
    unfolding message_if told_message
    failed_is h a g i = rw (← e, not-false b h, ← g, i)

  -- ---- the loop

  module _ (at : ℕ) (out : Bytes) where
    pub start_place : at ≡ at + length (below 0)
    unfolding members told_messages
    start_place = omega arith

    pub start_laid : out ≡ put at (below 0) out
    unfolding members told_messages
    start_laid = sym (put_none at out)

    module _ (c place : ℕ) (ep : place ≡ at + length (below c)) where
      pub turn_room : (o : Bytes) → c < connection_count → length o ≡ length out → at + length (below connection_count) ≤ length out → place + length (one c) ≤ length o
      turn_room o h l room =
          let q : suc c + (connection_count - suc c) ≡ connection_count = omega arith in
          let g : length (below (suc c)) ≤ length (below connection_count) = rw q at (below_grows (suc c) (connection_count - suc c)) in
          omega (arith, more_long c, g)

      pub turn_place : (r : ℕ) → r ≡ place + length (one c) → r ≡ at + length (below (c + 1))
      turn_place r e = rw (add-one c) (omega (arith, more_long c))

      pub turn_laid : (o p : Bytes) → o ≡ put at (below c) out → p ≡ put place (one c) o → p ≡ put at (below (c + 1)) out
      turn_laid o p eo e = rw (e, eo, ep, add-one c, below_more c) (put_put at (below c) (one c) out)

-- ---- all hear it

-- then each gets the same packet
pub all_hear : (n s kind : ℕ) (d failed : Bytes) → told_messages (members n s) s kind d failed ≡ messages (members n s) kind d
unfolding messages told_messages told_message
all_hear n s kind d failed = ap concat (map_members _ _ n s (λ l h e. ap (λ (b : Bool). cond b (message l kind d) (message l 14 failed)) e))

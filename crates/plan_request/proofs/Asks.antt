-- What a packet that was read asks: what its type asks of its arguments as they came. Of an opaque argument, which is masked before
-- anything is asked, only the length is looked at. Assumes nothing.
use Prim.Native.Nat.{ℕ, ◌<◌, ◌≤◌, zero-le}
use mathlib.Core.Path.{◌≡◌, refl, ap, sym, subst, ◌∙◌}
use mathlib.Core.Bool.{Bool, true, false, not, cond, ◌||◌}
use mathlib.Core.List.{List, [], ◌∷◌}
use mathlib.Core.Logic.{inl, inr}
use native.Mathlib.Omega.{arith}
use lib.Dec.{T}
use lib.ListN.{length, get_or, drop, length-drop}
use mir.Val.{has_key}
use types.Run.{OneOf, hit}
use Rattle.octets.specs.Bytes.{Bytes}
use Rattle.packet.specs.declared.Ends.{Ends}
use Rattle.packet.specs.Layout.{function, is_own, request_shape, rules_of, separators_of, priority_of, background_of}
use Rattle.packet.specs.Arguments.{ends_of, fits, fit_all, join}
use Rattle.packet.specs.Packet.{got, read, requests}
use Rattle.packet.specs.Answers.{answer_of, argument_at, found}
use Rattle.packet.specs.Opaque.{ends_opaque, opaque, masked, with_last, with_opaque}
use Rattle.packet_laws.proofs.Splitting.{split_join, fit_length}
use Rattle.packet_laws.proofs.Packets.{Headed, header_good, Got, read_got, requests_well}
use Rattle.packet_laws.proofs.Places.{argument_read}
use Rattle.packet_laws.proofs.Separators.{first_kept, size_kept}
use Rattle.packet_laws.proofs.Blindness.{read_masked, answer_masked, masked_length, opaque_at}
use Rattle.packet_kinds.proofs.Tests.{bools, range_arm}
use Rattle.server.specs.Requests.{Work, Request, submit, work, requested, from_reading, request_in}
use Rattle.server.specs.Requests as A
use Rattle.server_laws.proofs.Requests.{Good, good_requested}
use Rattle.packet_laws.proofs.Answers.{read_answer}
use Rattle.carry_packet.proofs.Forwarding.{served_below}

-- ---- a statement of numbers, from its proofs at each number of a list

-- a proof at each of the numbers
abbrev pub Each : (ℕ → Type 0) → List ℕ → Type 0
Each P [] = Unit {0}
Each P (k ∷ ks) = P k × Each P ks

-- so there is one at any number that is one of them
pub each_of : (P : ℕ → Type 0) (ks : List ℕ) → Each P ks → (k : ℕ) → OneOf ks k → P k
each_of P [] ps k o = absurd o
each_of P (x ∷ []) ps k o = subst P (sym o) ps.0
each_of P (x ∷ y ∷ ks) ps k (inl e) = subst P (sym e) ps.0
each_of P (x ∷ y ∷ ks) ps k (inr o) = each_of P (y ∷ ks) ps.1 k o

-- ---- the last argument replaced

-- what a type asks of a list of arguments
abbrev asks_of : ℕ → List Bytes → Request
asks_of kind args = requested kind (get_or args 0 []) (get_or args 1 []) (get_or args 2 [])

-- ---- types that end in an opaque argument

-- the submissions, the worker packets with data, and the echo
abbrev opaque_kinds : List ℕ
opaque_kinds = 7 ∷ 13 ∷ 16 ∷ 18 ∷ 21 ∷ 25 ∷ 28 ∷ 29 ∷ 32 ∷ 33 ∷ 34 ∷ []

-- the type is listed, if it ends in an opaque argument
listed : ℕ → Bool
listed k = not (ends_opaque (rules_of (request_shape k))) || has_key opaque_kinds k

is_opaque_lem : (k : ℕ) → k < 37 → ends_opaque (rules_of (request_shape k)) ≡ true → OneOf opaque_kinds k
unfolding listed request_shape rules_of
is_opaque_lem k h e =
    let l : true ≡ listed k = range_arm bools listed [] 0 37 tt k tt zero-le h in
    hit opaque_kinds k (subst T (rw e at l) tt)

-- such a type asks the same with another opaque argument of the same length
abbrev Unseen : ℕ → Type 0
Unseen k = (o : Bytes) (args : List Bytes) → length args ≡ length (rules_of (request_shape k)) → length (get_or args (separators_of (request_shape k)) []) ≡ length o
    → asks_of k (with_last o args) ≡ asks_of k args

unseen : (k : ℕ) → OneOf opaque_kinds k → Unseen k
unfolding requested request_shape rules_of
unseen =
    each_of Unseen opaque_kinds (
      submitted 7,
      (
        worked A.ends 13,
        (
          (λ o args n l. refl),
          (
            submitted 18,
            (
              submitted 21,
              (
                worked A.throws 25,
                (
                  worked A.tells 28,
                  (
                    worked A.tells 29,
                    (submitted 32, (submitted 33, (submitted 34, tt))),
                  ),
                ),
              ),
            ),
          ),
        ),
      ),
    )
  where
    submitted : (k : ℕ) (o : Bytes) (args : List Bytes) → length args ≡ 3 → length (get_or args 2 []) ≡ length o
        → submit (priority_of k) (background_of k) (get_or (with_last o args) 0 []) (get_or (with_last o args) 1 []) (length (get_or (with_last o args) 2 []))
        ≡ submit (priority_of k) (background_of k) (get_or args 0 []) (get_or args 1 []) (length (get_or args 2 []))
    submitted k = size_kept (submit (priority_of k) (background_of k))

    worked : (how : Work) (k : ℕ) (o : Bytes) (args : List Bytes) → length args ≡ 2 → length (get_or args 1 []) ≡ length o
        → work how k (get_or (with_last o args) 0 []) [] [] ≡ work how k (get_or args 0 []) [] []
    worked how k o args n l = ap (λ (h : Bytes). work how k h [] []) (first_kept o args n)

-- ---- a packet that was read

-- the arguments of a packet that is read fit the rules of its type, and are not long
fit_read : (p : Bytes) (kind : ℕ) (args : List Bytes) → read requests p ≡ got kind args → (fit_all (rules_of (request_shape kind)) args ≡ true) × (length (join args) ≤ 1024)
fit_read p kind args r =
    let g : Got requests p kind args = read_got requests p kind args r in
    let j = split_join (rules_of (request_shape kind)) (drop 12 p) args g.splits in
    let h : Headed requests.magic 1024 p = header_good requests.magic 1024 p g.headed in
    (j.1, omega (arith, ap length j.0, length-drop 12 p, h.whole, h.limited))

module _ (p : Bytes) (ends : Ends) (kind : ℕ) (e : answer_of (read requests p) ≡ found kind ends) where
  -- its arguments as they came
  shown : (args : List Bytes) × (read requests p ≡ got kind args) × (ends ≡ ends_of 12 args)
  shown = read_answer (read requests p) kind ends e

  -- its type is served
  pub own_type : is_own (request_shape kind) ≡ true
  own_type = (read_got requests p kind shown.0 shown.1).own

  -- the masked packet is of the same type, and its arguments end at the same places
  hidden : (args : List Bytes) × (read requests (masked requests p) ≡ got kind args) × (ends ≡ ends_of 12 args)
  hidden = read_answer (read requests (masked requests p)) kind ends (sym (answer_masked requests requests_well p) ∙ e)

  -- the arguments are the masked packet's with the opaque one put back
  put_back : shown.0 ≡ cond (ends_opaque (rules_of (request_shape kind))) (with_last (opaque requests p) hidden.0) hidden.0
  unfolding with_opaque
  put_back =
      let q : read requests p ≡ with_opaque requests (opaque requests p) (got kind hidden.0)
      = read_masked requests requests_well p ∙ ap (with_opaque requests (opaque requests p)) hidden.1 in
      cc (q, shown.1)

  -- put back or masked, the arguments ask the same
  asks_same : (b : Bool) → ends_opaque (rules_of (request_shape kind)) ≡ b → asks_of kind (cond b (with_last (opaque requests p) hidden.0) hidden.0) ≡ asks_of kind hidden.0
  asks_same false q = refl
  asks_same true q =
      unseen kind (is_opaque_lem kind (served_below p ends kind e) q) (opaque requests p) hidden.0
      (fit_length _ hidden.0 (fit_read (masked requests p) kind hidden.0 hidden.1).0)
      (ap length (opaque_at requests requests_well (masked requests p) kind hidden.0 hidden.1 q) ∙ masked_length requests requests_well p)

  -- the arguments lie where their ends say
  argument_is : (i : ℕ) → i < 5 → argument_at p ends i ≡ get_or shown.0 i []
  argument_is i h = ap (λ (x : Ends). argument_at p x i) shown.2 ∙ argument_read requests p kind shown.0 shown.1 i h

  -- what a type asks of the arguments where they lie is what it asks of those that were read
  asks_shown : (k : ℕ) → requested k (argument_at p ends 0) (argument_at p ends 1) (argument_at p ends 2) ≡ asks_of k shown.0
  asks_shown k = rw (argument_is 0 (omega arith), argument_is 1 (omega arith), argument_is 2 (omega arith))

  -- the arguments are within document 01's sizes
  pub good_arguments : Good (requested kind (argument_at p ends 0) (argument_at p ends 1) (argument_at p ends 2))
  good_arguments =
      let f = fit_read p kind shown.0 shown.1 in
      subst Good (sym (asks_shown kind)) (good_requested kind shown.0 f.1 f.0)

-- CANT_DO names a function as CAN_DO does
pub cant_do_fits : (p : Bytes) (ends : Ends) → answer_of (read requests p) ≡ found 2 ends → fits function (argument_at p ends 0) ≡ true
unfolding requested request_shape
cant_do_fits p ends e =
    let s = shown p ends 2 e in
    let f = fit_read p 2 s.0 s.1 in
    subst Good (sym (asks_shown p ends 2 e 1)) (good_requested 1 s.0 f.1 f.0)

-- what the packet asks, from the arguments where they lie: masked or not, it is the same
pub asks : (p : Bytes) (ends : Ends) (kind : ℕ) → answer_of (read requests p) ≡ found kind ends
    → request_in p ≡ requested kind (argument_at p ends 0) (argument_at p ends 1) (argument_at p ends 2)
unfolding request_in
asks p ends kind e =
    ap from_reading (hidden p ends kind e).1
    ∙ sym (asks_same p ends kind e _ refl)
    ∙ ap (asks_of kind) (sym (put_back p ends kind e))
    ∙ sym (asks_shown p ends kind e kind)

-- How many units bytes give, and how many answers.
use Prim.Native.Nat.{ℕ, suc, ◌+◌, ◌≤◌}
use mathlib.Core.Bool.{Bool, true, false}
use mathlib.Core.Path.{◌≡◌, refl, subst}
use mathlib.Core.List.{List, [], ◌∷◌, ◌++◌}
use native.Mathlib.Omega.{arith}
use lib.Dec.{ltb, eqb}
use lib.IntN.{ℤ, pos}
use lib.Signed.{lt_z}
use lib.ListN.{length, length-append}
use Rattle.wing_node.proofs.Branches.{branch}
use Rattle.wing_node.specs.Bool.{if}
use Rattle.wing_wire.specs.State.{escape, sound_pending, sound_escape}
use Rattle.wing_wire.specs.Escape.{decode_of, escaped_of, plain_of, other_of}
use Rattle.wing_wire.specs.Units.{pending_units, byte_units, settled, units_of, pending_count, weight}
use Rattle.wing_wire.specs.Stream.{StepEffect, is_more, pending_of, settle_of, given_of, first_of, Fed, handle, fed_pending, fed_byte, fed_from, feed_of}
use Rattle.wing_wire.specs.DecoderLaws.{count}
use Rattle.wing_wire.specs.declared.state.Escape.{Escape}
use Rattle.wing_wire.specs.declared.state.Control.{Control}
use Rattle.wing_wire.specs.declared.escape.Unit.{Unit}
use Rattle.wing_wire.specs.declared.escape.Unit.TheVariants.{Nothing, Bare, Appended}
use Rattle.wing_wire.specs.declared.escape.Decoded.{Decoded}
use Rattle.wing_wire.proofs.Reading.Pieces.{clash, settle-not-pending}
use Rattle.wing_wire.proofs.Reading.Sound.{escape-parts}
use Rattle.std.specs.Prelude.{Option, ℕ, None, Some}

-- what a byte gives and leaves weighs at most one more than what stood before it
abbrev WeighsAtMost : ℕ → Decoded → Type 0
WeighsAtMost n d = length (byte_units d.unit) + weight d.escape ≤ n

module _ (channel : ℤ) (b : ℕ) where
  abbrev waits : Escape
  waits = escape true channel None

  other-weight : WeighsAtMost 2 (other_of waits b)
  unfolding other_of
  other-weight = branch (WeighsAtMost 2) (lt_z channel (pos 0)) _ _ (λ _. omega arith) (λ _. omega arith)

  escaped-weight : WeighsAtMost 2 (escaped_of waits b)
  unfolding escaped_of
  escaped-weight =
      branch (WeighsAtMost 2) (eqb b 0xdf) _ _ (λ _. omega arith)
      (λ _. branch (WeighsAtMost 2) (eqb b 0xde) _ _ (λ _. omega arith)
      (λ _. branch (WeighsAtMost 2) (ltb b 0xd0) _ _ (λ _. other-weight)
      (λ _. branch (WeighsAtMost 2) (ltb b 0xde) _ _ (λ _. omega arith) (λ _. other-weight))))

  plain-weight : WeighsAtMost 1 (plain_of (escape false channel None) b)
  unfolding plain_of
  plain-weight = branch (WeighsAtMost 1) (eqb b 0xdf) _ _ (λ _. omega arith) (λ _. omega arith)

-- one byte
decode-weight : (e : Escape) (b : ℕ) → WeighsAtMost (suc (weight (settled e))) (decode_of (settled e) b)
unfolding decode_of
decode-weight e b = go e.escaped
  where
    go : (t : Bool) → WeighsAtMost (suc (weight (escape t e.channel None))) (decode_of (escape t e.channel None) b)
    go true = escaped-weight e.channel b
    go false = plain-weight e.channel b

pending-weight : (p : Option ℕ) → length (pending_units p) ≡ pending_count p
pending-weight None = refl
pending-weight (Some u) = refl

-- bytes give at most as many units as there are bytes, and what the escapes still held
pub units-few : (e : Escape) (bytes : List ℕ) → length (units_of e bytes).units + weight (units_of e bytes).escape ≤ length bytes + weight e
unfolding units_of
units-few e [] = omega (arith, pending-weight e.pending)
units-few e (b ∷ bs) =
    let d = decode_of (settled e) b in
    let rest = units_of d.escape bs in
    omega (arith, units-few d.escape bs, decode-weight e b, pending-weight e.pending, length-append (pending_units e.pending) (byte_units d.unit ++ rest.units), length-append (byte_units d.unit) rest.units)

-- sound escapes weigh at most 1: a byte is pending only when unescaped
pub sound-weight : (e : Escape) → sound_escape e ≡ true → weight e ≤ 1
unfolding sound_pending
sound-weight e s = go e.pending e.escaped refl (escape-parts e s).pending
  where
    go : (p : Option ℕ) (t : Bool) → e.escaped ≡ t → sound_pending p e ≡ true → (if t 1 0) + pending_count p ≤ 1
    go None true q g = omega arith
    go None false q g = omega arith
    go (Some u) true q g = absurd (clash (rw q at g) refl)
    go (Some u) false q g = omega arith

-- for sound escapes at most one unit more than there are bytes
pub units-sound : (e : Escape) (bytes : List ℕ) → sound_escape e ≡ true → length (units_of e bytes).units ≤ length bytes + 1
units-sound e bytes s = omega (arith, units-few e bytes, sound-weight e s)

-- ---- answers

handle-one : (o : StepEffect) (m : ℕ) → (handle count o m).memo ≤ suc m
handle-one o m = go (is_more o.answered.answer)
  where
    go : (t : Bool) → (if t m (suc m)) ≤ suc m
    go true = omega arith
    go false = omega arith

pending-few : (x : Fed ℕ) → (fed_pending count x).memo + weight (fed_pending count x).control.escape ≤ x.memo + weight x.control.escape
unfolding settle_of
pending-few x = go x.control.escape.pending refl
  where
    go : (p : Option ℕ) → x.control.escape.pending ≡ p →
        (handle count (pending_of p x.control x.store) x.memo).memo + weight (pending_of p x.control x.store).answered.control.escape ≤ x.memo + ((if x.control.escape.escaped 1 0) + pending_count p)
    go None e = rw e (omega arith)
    go (Some u) e = omega (arith, handle-one (pending_of (Some u) x.control x.store) x.memo)

first-few : (c : Control) (s : List ℕ) (b m : ℕ) → c.escape.pending ≡ None →
    (handle count (first_of c s b) m).memo + weight (first_of c s b).answered.control.escape ≤ suc m + weight c.escape
unfolding first_of
first-few c s b m q = go (decode_of c.escape b).unit (decode_of c.escape b).escape weighed
  where
    weighed : WeighsAtMost (suc (weight c.escape)) (decode_of c.escape b)
    weighed = let z : settled c.escape ≡ c.escape = rw q in subst (λ (x : Escape). WeighsAtMost (suc (weight x)) (decode_of x b)) z (decode-weight c.escape b)

    go : (u : Unit) (e : Escape) → length (byte_units u) + weight e ≤ suc (weight c.escape) → (handle count (given_of u e c s) m).memo + weight (given_of u e c s).answered.control.escape ≤ suc m + weight c.escape
    go Nothing e l = omega arith
    go (Bare u) e l = omega (arith, handle-one (given_of (Bare u) e c s) m)
    go (Appended u) e l = omega (arith, handle-one (given_of (Appended u) e c s) m)

fed-few : (x : Fed ℕ) (bytes : List ℕ) → x.control.escape.pending ≡ None →
    (fed_from count x bytes).memo + weight (fed_from count x bytes).control.escape ≤ x.memo + (length bytes + weight x.control.escape)
unfolding fed_from
fed-few x [] q = omega arith
fed-few x (b ∷ bs) q =
    let o = handle count (first_of x.control x.store b) x.memo in
    omega (arith, fed-few (fed_byte count x b) bs (settle-not-pending _ _), pending-few o, first-few x.control x.store b x.memo q)

-- a feed gives at most as many answers as there are bytes, and what the escapes still held
pub answers : (x : Fed ℕ) (bytes : List ℕ) →
    (feed_of count x bytes).memo + weight (feed_of count x bytes).control.escape ≤ x.memo + length bytes + weight x.control.escape
unfolding feed_of
answers x bytes = omega (arith, fed-few (fed_pending count x) bytes (settle-not-pending _ _), pending-few x)

-- for sound escapes at most one answer more than there are bytes
pub answers-sound : (x : Fed ℕ) (bytes : List ℕ) → sound_escape x.control.escape ≡ true → (feed_of count x bytes).memo ≤ x.memo + length bytes + 1
answers-sound x bytes s = omega (arith, answers x bytes, sound-weight x.control.escape s)

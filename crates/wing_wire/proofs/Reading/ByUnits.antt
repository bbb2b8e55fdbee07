-- A feed of bytes is their units taken one after the other: the escapes need no token, and the tokens need no escape.
use Prim.Native.Nat.{ℕ}
use mathlib.Core.Path.{◌≡◌, refl, sym, ◌∙◌, ap}
use lib.IntN.{ℤ}
use mathlib.Core.List.{List, [], ◌∷◌, ◌++◌}
use Rattle.wing_wire.specs.Escape.{decode_of}
use Rattle.wing_wire.specs.Stream.{pending_of, settle_of, given_of, first_of, Fed, handle, fed_pending, fed_byte, fed_from, feed_of}
use Rattle.wing_wire.specs.Units.{StreamUnit, pending_units, byte_units, settled, units_of, with_escape, unit_taken, units_taken}
use Rattle.wing_wire.specs.Tokens.{TakesUnits}
use Rattle.wing_wire.specs.declared.state.Escape.{Escape}
use Rattle.wing_wire.specs.declared.escape.Unit.{Unit}
use Rattle.wing_wire.specs.declared.escape.Unit.TheVariants.{Nothing, Bare, Appended}
use Rattle.wing_wire.specs.declared.unit.Answer.{Answer}
use Rattle.std.specs.Prelude.{Option, ℕ, None, Some}

module _ {M : Type 0} (h : ℤ → Answer → List ℕ → M → M) where
  -- units in two lists
  pub taken-append : (x : Fed M) (a b : List StreamUnit) → units_taken h x (a ++ b) ≡ units_taken h (units_taken h x a) b
  unfolding units_taken
  taken-append x [] b = refl
  taken-append x (g ∷ a) b = taken-append (unit_taken h x g) a b

  pending-units : (e : Escape) (x : Fed M) → fed_pending h (with_escape e x) ≡ with_escape (settled e) (units_taken h x (pending_units e.pending))
  unfolding settle_of units_taken
  pending-units e x = go e.pending refl
    where
      go : (p : Option ℕ) → e.pending ≡ p →
          handle h (pending_of p (with_escape e x).control x.store) x.memo ≡ with_escape (settled e) (units_taken h x (pending_units p))
      go None q = ap (λ (i : Escape). with_escape i x) (same q)
        where
          same : e.pending ≡ None → e ≡ settled e
          same q = rw q
      go (Some u) q = refl

  first-units : (e : Escape) (x : Fed M) (b : ℕ) →
      handle h (first_of (with_escape e x).control x.store b) x.memo ≡ with_escape (decode_of e b).escape (units_taken h x (byte_units (decode_of e b).unit))
  unfolding first_of units_taken
  first-units e x b = go (decode_of e b).unit (decode_of e b).escape
    where
      go : (u : Unit) (i : Escape) → handle h (given_of u i (with_escape e x).control x.store) x.memo ≡ with_escape i (units_taken h x (byte_units u))
      go Nothing i = refl
      go (Bare u) i = refl
      go (Appended u) i = refl

  feed-units-at : (e : Escape) (x : Fed M) (bytes : List ℕ) → feed_of h (with_escape e x) bytes ≡ with_escape (units_of e bytes).escape (units_taken h x (units_of e bytes).units)
  unfolding feed_of fed_from units_of
  feed-units-at e x [] = pending-units e x
  feed-units-at e x (b ∷ bs) =
      let y : Fed M = units_taken h x (pending_units e.pending) in
      let d = decode_of (settled e) b in
      let z : Fed M = units_taken h y (byte_units d.unit) in
      let rest = units_of d.escape bs in
      let all : units_taken h x (pending_units e.pending ++ (byte_units d.unit ++ rest.units)) ≡ units_taken h z rest.units =
      taken-append x (pending_units e.pending) (byte_units d.unit ++ rest.units) ∙ taken-append y (byte_units d.unit) rest.units in
      ap (λ (w : Fed M). fed_from h (fed_byte h w b) bs) (pending-units e x) ∙
      (ap (λ (w : Fed M). fed_from h (fed_pending h w) bs) (first-units (settled e) y b) ∙
      (feed-units-at d.escape z bs ∙ ap (λ (w : Fed M). with_escape rest.escape w) (sym all)))

  -- a feed gives what the units of its bytes give, and its escapes are those after them
  pub feed-units : TakesUnits h
  feed-units x bytes = feed-units-at x.control.escape x bytes

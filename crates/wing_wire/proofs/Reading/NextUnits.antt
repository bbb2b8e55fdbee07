-- The units of bytes are what the decoder's steps give, one after the other.
use Prim.Native.Nat.{ℕ, suc}
use mathlib.Core.Path.{◌≡◌, refl, sym, ◌∙◌, ap}
use mathlib.Core.List.{List, [], ◌∷◌, ◌++◌}
use native.Mathlib.Numerals.{add-one}
use borrow.Author.Tests.{ltb-true}
use lib.Dec.{ltb}
use lib.ListN.{length, drop, get_or}
use lib.Seq.{drop-cons}
use Rattle.wing_node.proofs.Branches.{branch}
use Rattle.wing_wire.specs.Escape.{decode_of, byte_next, pending_next, decode_next_of}
use Rattle.wing_wire.specs.Units.{Units, units, byte_units, settled, units_of, UnitsByStep}
use Rattle.wing_wire.specs.declared.state.Escape.{Escape}
use Rattle.wing_wire.specs.declared.escape.Unit.{Unit}
use Rattle.wing_wire.specs.declared.escape.Unit.TheVariants.{Appended}
use Rattle.wing_wire.specs.declared.escape.NextUnit.{NextUnit}
use Rattle.std.specs.Prelude.{Option, ℕ, None, Some}

-- a unit, if there is one, and then those of more bytes
abbrev before : Unit → Units → Units
before u rest = units (byte_units u ++ rest.units) rest.escape

-- the pending byte comes before the bytes
pending-first : (e : Escape) (bs : List ℕ) (u : ℕ) → e.pending ≡ Some u → units_of e bs ≡ before (Appended u) (units_of (settled e) bs)
unfolding units_of
pending-first e [] u q = rw q
pending-first e (b ∷ bs) u q = rw q

-- with nothing pending a byte comes before the others
byte-first : (e : Escape) (b : ℕ) (bs : List ℕ) → e.pending ≡ None → units_of e (b ∷ bs) ≡ before (decode_of e b).unit (units_of (decode_of e b).escape bs)
unfolding units_of
byte-first e b bs q = rw q

pub units-by-step : UnitsByStep
unfolding decode_next_of byte_next
units-by-step e bytes n = go e.pending refl
  where
    go : (p : Option ℕ) → e.pending ≡ p → units_of e (drop n bytes) ≡ before (pending_next p e bytes n).unit (units_of (pending_next p e bytes n).escape (drop (pending_next p e bytes n).at bytes))
    go (Some u) q = pending-first e (drop n bytes) u q
    go None q =
        branch (λ (d : NextUnit). units_of e (drop n bytes) ≡ before d.unit (units_of d.escape (drop d.at bytes))) (ltb n (length bytes)) _ _
        (λ l.
        let b = get_or bytes n 0 in
        ap (units_of e) (drop-cons bytes n 0 (ltb-true n (length bytes) l)) ∙ byte-first e b (drop (suc n) bytes) q
        ∙ ap (λ (k : ℕ). before (decode_of e b).unit (units_of (decode_of e b).escape (drop k bytes))) (sym (add-one n)))
        (λ _. refl)

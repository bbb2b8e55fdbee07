-- Beside any answer but a body stand zeros.
use mathlib.Core.Path.{◌≡◌, refl}
use mathlib.Core.List.{List}
use Prim.Native.Nat.{ℕ}
use lib.ListN.{replicate}
use Rattle.wing_wire.specs.State.{body_limit}
use Rattle.wing_wire.specs.Reader.{body_beside}
use Rattle.wing_wire.specs.declared.unit.Answer.{Answer}
use Rattle.wing_wire.specs.declared.unit.Answer.TheVariants.{More, Integer, Float, String, Body, End, Refused}
use Rattle.wing_wire.proofs.reader.body_beside.Goals as goal

none : (a : Answer) (s : List ℕ) → ((n : ℕ) → a ≡ Body n → ⊥) → replicate body_limit 0 ≡ body_beside a s
unfolding body_beside
none More s h = refl
none (Integer x) s h = refl
none (Float bits) s h = refl
none (String n) s h = refl
none (Body n) s h = absurd (h n refl)
none End s h = refl
none (Refused why) s h = refl

pub returns-in_default : goal.returns-in_default
returns-in_default c = none c.args.a c.args.store.now c.in_default.not-Body

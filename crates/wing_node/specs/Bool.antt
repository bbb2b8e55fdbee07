-- Choice by a test, for the definitions that branch, and two tests as one.
use Rattle.std.specs.Prelude.{Bool, true, false}

-- a test that chooses
abbrev pub if {ℓ} : {A : Type ℓ} → Bool → A → A → A
if true a b = a
if false a b = b

-- both tests
abbrev pub and : Bool → Bool → Bool
and true b = b
and false b = false

-- one test or the other
abbrev pub or : Bool → Bool → Bool
or true b = true
or false b = b

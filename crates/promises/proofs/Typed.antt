-- What the types of the code's arguments say of their values.
use Prim.Native.Nat.{ℕ, suc, ◌<◌}
use mathlib.Core.List.{List, [], ◌∷◌}
use lib.ListN.{get_or}
use Rattle.wing_wire.specs.Range.{AreBytes, no_bytes, byte_then}

-- the elements of a lent slice of u8 are bytes
pub are-bytes : (s : List ℕ) → ((i : ℕ) → get_or s i 0 < 256) → AreBytes s
are-bytes [] h = no_bytes
are-bytes (b ∷ s) h = byte_then (h 0) (are-bytes s (λ i. h (suc i)))

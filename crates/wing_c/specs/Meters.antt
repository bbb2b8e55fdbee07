-- The meters of a request as pairs of bytes: 01's byte of the kind, and the index.
use Rattle.std.specs.Prelude.{ℕ, ◌+◌, ◌*◌, ◌/◌, ◌<◌, ◌≡◌, List, [], ◌∷◌, ltb, eqb, length, get_or}
use Rattle.wing_node.specs.Bool.{if}
use Rattle.wing_wire.specs.declared.meter.Meter.{Meter}
use Rattle.wing_wire.specs.declared.meter.Meter.TheVariants.{Channel, Aux, Bus, Main, Matrix, Dca, Fx, Source, Output, Monitor, Rta, Channel2, Aux2, Bus2, Main2, Matrix2}

-- 01: a0 to a8 with index, a9 monitor, aa rta, ab to af with index. Any other kind is rta
abbrev pub meter_of : ℕ → ℕ → Meter
meter_of kind n =
    if (eqb kind 0xa0) (Channel n)
    (if (eqb kind 0xa1) (Aux n)
    (if (eqb kind 0xa2) (Bus n)
    (if (eqb kind 0xa3) (Main n)
    (if (eqb kind 0xa4) (Matrix n)
    (if (eqb kind 0xa5) (Dca n)
    (if (eqb kind 0xa6) (Fx n)
    (if (eqb kind 0xa7) (Source n)
    (if (eqb kind 0xa8) (Output n)
    (if (eqb kind 0xa9) Monitor
    (if (eqb kind 0xab) (Channel2 n)
    (if (eqb kind 0xac) (Aux2 n)
    (if (eqb kind 0xad) (Bus2 n)
    (if (eqb kind 0xae) (Main2 n)
    (if (eqb kind 0xaf) (Matrix2 n) Rta))))))))))))))

-- the meters of the pairs, one after the other; an odd last byte is dropped
abbrev pub meters_of : List ℕ → List Meter
meters_of [] = []
meters_of (kind ∷ []) = []
meters_of (kind ∷ n ∷ s) = meter_of kind n ∷ meters_of s

-- the meter of a number; past the end of the pairs it is rta
abbrev pub meter_at : List ℕ → ℕ → Meter
meter_at pairs i = if (ltb i (length pairs / 2)) (meter_of (get_or pairs (2 * i) 0) (get_or pairs (2 * i + 1) 0)) Rta

-- an array of 64 with the meter of each number
abbrev pub HoldsMeters : List ℕ → List Meter → Type 0
HoldsMeters pairs array = (k : ℕ) → k < 64 → get_or array k Rta ≡ meter_at pairs k

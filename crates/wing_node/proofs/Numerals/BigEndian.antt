-- The library's big-endian bytes of a number are its digits in base 256.
use mathlib.Core.Path.{◌≡◌, refl, sym, ◌∙◌, ap}
use mathlib.Core.List.{List, [], ◌∷◌}
use Prim.Native.Nat.{ℕ, ◌/◌, ◌≤◌}
use native.Mathlib.Omega.{arith}
use lib.ListN.{length, get_or}
use Rattle.std.specs.Int.{w16, w32, from_be_bytes, to_be_bytes}
use Rattle.wing_node.specs.Digits.{number_in, number_from, digits_in}
use Rattle.wing_node.specs.Field.{big, bytes_of, field_at}
use Rattle.wing_node.proofs.Numerals.Placed.{field-whole, two_bytes, four_bytes}

-- the number of the first bytes, of which there are enough
pub from_two : (s : List ℕ) → 2 ≤ length s → from_be_bytes w16 (get_or s 0 0 ∷ get_or s 1 0 ∷ []) ≡ field_at 2 s 0
unfolding number_in number_from
from_two s h =
    let e : from_be_bytes w16 (get_or s 0 0 ∷ get_or s 1 0 ∷ []) ≡ big (get_or s 0 0 ∷ get_or s 1 0 ∷ []) = omega arith in
    e ∙ sym (field-whole 2 s 0 (omega arith) ∙ ap big (two_bytes s 0 (omega arith)))

pub from_four : (s : List ℕ) → 4 ≤ length s →
    from_be_bytes w32 (get_or s 0 0 ∷ get_or s 1 0 ∷ get_or s 2 0 ∷ get_or s 3 0 ∷ []) ≡ field_at 4 s 0
unfolding number_in number_from
from_four s h =
    let bs = get_or s 0 0 ∷ get_or s 1 0 ∷ get_or s 2 0 ∷ get_or s 3 0 ∷ [] in
    let e : from_be_bytes w32 bs ≡ big bs = omega arith in
    e ∙ sym (field-whole 4 s 0 (omega arith) ∙ ap big (four_bytes s 0 (omega arith)))

pub to_two : (n : ℕ) → to_be_bytes w16 n ≡ bytes_of 2 n
unfolding digits_in
to_two n = refl

pub to_four : (n : ℕ) → to_be_bytes w32 n ≡ bytes_of 4 n
unfolding digits_in
to_four n =
    let three : n / 256 / 256 / 256 ≡ n / 16777216 = omega arith in
    let two : n / 256 / 256 ≡ n / 65536 = omega arith in
    rw (three, two)

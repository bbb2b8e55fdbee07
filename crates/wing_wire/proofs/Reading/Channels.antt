-- df and a byte of d0 to dd set the channel, and nothing else.
use Prim.Native.Nat.{ℕ, ◌+◌, ◌-◌, ◌≤◌}
use mathlib.Core.Bool.{true, false}
use mathlib.Core.Path.{◌≡◌}
use mathlib.Core.List.{List, [], ◌∷◌}
use native.Mathlib.Omega.{arith}
use borrow.Author.Tests.{ne_eqb, le-ltb, lt-ltb}
use lib.Dec.{ltb, eqb}
use lib.IntN.{ℤ, pos}
use Rattle.wing_wire.specs.Escape.{decode_of, plain_of, escaped_of}
use Rattle.wing_wire.specs.Stream.{settle_of, first_of, fed_from, feed_of}
use Rattle.wing_wire.specs.RoundTrip.{fed_rest}
use Rattle.wing_wire.specs.DecoderLaws.{Handler}

pub channel-set : {M : Type 0} (h : Handler M) (ch node : ℤ) (s : List ℕ) (m : M) (n : ℕ) → n ≤ 13 →
    feed_of h (fed_rest ch node s m) (0xdf ∷ (0xd0 + n) ∷ []) ≡ fed_rest (pos n) node s m
unfolding feed_of fed_from settle_of first_of decode_of plain_of escaped_of
channel-set h ch node s m n l =
    let p : eqb (0xd0 + n) 0xdf ≡ false = ne_eqb (0xd0 + n) 0xdf (λ e. omega arith) in
    let q : eqb (0xd0 + n) 0xde ≡ false = ne_eqb (0xd0 + n) 0xde (λ e. omega arith) in
    let r : ltb (0xd0 + n) 0xd0 ≡ false = le-ltb (0xd0 + n) 0xd0 (omega arith) in
    let t : ltb (0xd0 + n) 0xde ≡ true = lt-ltb (0xd0 + n) 0xde (omega arith) in
    let d : 0xd0 + n - 0xd0 ≡ n = omega arith in
    simp (p, q, r, t, d)

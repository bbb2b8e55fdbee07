-- Four bytes as a number of 32 bits: laid and read, read and laid anew.
use Prim.Native.Nat.{ℕ, zero, suc, ◌^◌, ◌≤◌, ◌<◌}
use mathlib.Core.Path.{◌≡◌, ◌∙◌, ap}
use mathlib.Core.List.{List, [], ◌∷◌}
use native.Mathlib.Omega.{arith}
use lib.IntN.{ℤ, pos, negsuc}
use lib.ListN.{length, take}
use lib.Seq.{length-take-le}
use Rattle.wing_node.specs.Field.{big, bytes_of}
use Rattle.wing_node.specs.Signed.{signed, unsigned, InBits}
use Rattle.wing_node.proofs.Numerals.Numbers.{Digits, digits-take, digits_number, number-below, number_digits}
use Rattle.wing_node.proofs.Numerals.Signs.{signed-unsigned, unsigned_signed}
use Rattle.wing_wire.specs.Range.{AreBytes, no_bytes, byte_then}

-- bytes as digits of base 256
pub are-digits : (s : List ℕ) → AreBytes s → Digits 256 s
are-digits [] no_bytes i = omega arith
are-digits (b ∷ s) (byte_then h hs) zero = h
are-digits (b ∷ s) (byte_then h hs) (suc i) = are-digits s hs i

-- four bytes as a number
pub word_below : (s : List ℕ) → 4 ≤ length s → Digits 256 s → big (take 4 s) < 2 ^ 32
word_below s h b = let l : length (take 4 s) ≡ 4 = length-take-le 4 s h in rw l at (number-below 256 (take 4 s) (digits-take 256 4 s b))

pub unsigned-below : (x : ℤ) → InBits 31 x → unsigned 31 x < 256 ^ 4
unsigned-below (pos n) q = omega arith
unsigned-below (negsuc n) q = omega arith

-- a number laid, and its bytes read
pub word_back : (n : ℕ) → n < 256 ^ 4 → big (bytes_of 4 n) ≡ n
word_back n h = number_digits 256 4 n (omega arith) h

pub int-back : (x : ℤ) → InBits 31 x → signed 31 (big (bytes_of 4 (unsigned 31 x))) ≡ x
int-back x h = ap (signed 31) (word_back (unsigned 31 x) (unsigned-below x h)) ∙ signed-unsigned 31 x h

-- bytes of a number, read and laid anew
pub word-again : (s : List ℕ) → length s ≡ 4 → Digits 256 s → bytes_of 4 (big s) ≡ s
word-again s e b = digits_number 256 4 s e b

pub int-again : (s : List ℕ) → length s ≡ 4 → Digits 256 s → bytes_of 4 (unsigned 31 (signed 31 (big s))) ≡ s
int-again s e b =
    let l : big s < 256 ^ 4 = rw e at (number-below 256 s b) in
    ap (bytes_of 4) (unsigned_signed 31 (big s) (omega arith)) ∙ word-again s e b

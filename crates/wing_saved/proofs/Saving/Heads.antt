-- The fields before the store: how they are laid, and that they read back.
use Prim.Native.Nat.{ℕ, ◌+◌, ◌%◌, ◌^◌, ◌≤◌, ◌<◌}
use mathlib.Core.Bool.{Bool, true, false}
use mathlib.Core.Path.{◌≡◌, refl, sym, ◌∙◌, ap}
use mathlib.Core.List.{List, [], ◌∷◌, ◌++◌}
use native.Mathlib.Omega.{arith}
use borrow.Author.Tests.{leb-true}
use lib.Dec.{eqb}
use lib.IntN.{ℤ, pos, negsuc}
use lib.Signed.{le_z}
use lib.ListN.{length, drop, get_or, set, replicate, length-append, get_or-eq_default}
use Rattle.std.specs.Prelude.{Result, Ok, Err}
use Rattle.std.specs.Result.{result_unwrap_or}
use Rattle.std.specs.Int.{w8, cast_unsigned, from_bool}
use Rattle.wing_node.specs.Digits.{digits_in}
use Rattle.wing_node.specs.Bytes.{placed}
use Rattle.wing_node.specs.Field.{big, bytes_of, field_at, Put, put, put_at}
use Rattle.wing_node.specs.Signed.{signed, unsigned, InBits}
use Rattle.wing_node.proofs.Numerals.Numbers.{number_digits}
use Rattle.wing_node.proofs.Numerals.Placed.{field-whole}
use Rattle.wing_node.proofs.Numerals.Signs.{signed-unsigned}
use Rattle.wing_wire.specs.Token.{classes, class_number, IsNumbered}
use Rattle.wing_wire.specs.State.{escape}
use Rattle.wing_saved.specs.Saved.{flag, pending_flag, pending_byte_of, fields_of, head_under, pending_in, class_in, token_in, fields_in, control_in}
use Rattle.wing_wire.specs.declared.token.Class.{Class}
use Rattle.wing_wire.specs.declared.token.Class.TheVariants.{NoEvent, Integer, String, Length, Int16, Int32, Float, Node, End, Count, LongCount}
use Rattle.wing_wire.specs.declared.state.Token.{Token}
use Rattle.wing_wire.specs.declared.state.Token.TheVariants.{Between, Number, String as InString, Body as InBody}
use Rattle.wing_wire.specs.declared.state.Control.{Control}
use Rattle.wing_saved.specs.declared.TokenFields.{TokenFields}
use Rattle.std.specs.Prelude.{Option, ℕ, None, Some}

-- ---- laid

-- what two writers leave that leave the same
left-bytes : {p q : Put} → p ≡ q → p.bytes ≡ q.bytes
left-bytes e = ap (λ (x : Put). x.bytes) e

-- a number of four bytes at a place
abbrev with-four : ℕ → ℕ → List ℕ → List ℕ
with-four at n s = (put_at (bytes_of 4 n) at s).bytes

-- 27 bytes, the fields of four written one after the other
pub fields-put : (v a b c d node kind class want left stored value : ℕ) {f g h i j : Bool} {s t u x w : List ℕ} →
    put f s ≡ put_at (bytes_of 4 node) 5 (v ∷ a ∷ b ∷ c ∷ d ∷ replicate 22 0) →
    put g t ≡ put_at (bytes_of 4 want) 11 (set (set s 9 kind) 10 class) →
    put h u ≡ put_at (bytes_of 4 left) 15 t →
    put i x ≡ put_at (bytes_of 4 stored) 19 u →
    put j w ≡ put_at (bytes_of 4 value) 23 x →
    w ≡ v ∷ a ∷ b ∷ c ∷ d ∷ (bytes_of 4 node ++ (kind ∷ class ∷ (bytes_of 4 want ++ (bytes_of 4 left ++ (bytes_of 4 stored ++ bytes_of 4 value)))))
unfolding put_at placed digits_in
fields-put v a b c d node kind class want left stored value p q r m n =
    left-bytes n ∙ ap (with-four 23 value)
    (left-bytes m ∙ ap (with-four 19 stored)
    (left-bytes r ∙ ap (with-four 15 left)
    (left-bytes q ∙ ap (λ (l : List ℕ). with-four 11 want (set (set l 9 kind) 10 class)) (left-bytes p))))

pub head-size : (v : ℕ) (c : Control) → length (head_under v c) ≡ 27
unfolding head_under digits_in
head-size v c = refl

-- the library's numbers of a Boolean and of eight bits
pub flag_same : (b : Bool) → from_bool b ≡ flag b
flag_same true = refl
flag_same false = refl

pub bits_same : (x : ℤ) → cast_unsigned w8 x ≡ unsigned 7 x
bits_same (pos n) = refl
bits_same (negsuc n) = refl

-- what comes after them
pub after-head : (v : ℕ) (c : Control) (t : List ℕ) → drop 27 (head_under v c ++ t) ≡ t
unfolding head_under digits_in
after-head v c t = refl

-- ---- read back

flag-back : (b : Bool) → eqb (flag b) 1 ≡ b
flag-back true = refl
flag-back false = refl

pending-back : (p : Option ℕ) → pending_in (pending_flag p) (pending_byte_of p) ≡ p
unfolding pending_in pending_flag pending_byte_of
pending-back None = refl
pending-back (Some b) = refl

class_back : (c : Class) → class_in (class_number c) ≡ c
unfolding class_in
class_back NoEvent = refl
class_back Integer = refl
class_back String = refl
class_back Length = refl
class_back Int16 = refl
class_back Int32 = refl
class_back Float = refl
class_back Node = refl
class_back End = refl
class_back Count = refl
class_back LongCount = refl

-- what stands for a number that no class has is the class that it says
pub class_said : (n : ℕ) (r : Result Class ℕ) → IsNumbered n r → result_unwrap_or r NoEvent ≡ class_in n
unfolding class_in
class_said n (Ok class) h = sym (class_back class) ∙ ap class_in h
class_said n (Err e) h = sym (get_or-eq_default (classes ++ (LongCount ∷ [])) NoEvent (omega arith))

-- the counts of a number and of a string have 16 bits
abbrev pub Narrow : Token → Type 0
Narrow Between = Unit {0}
Narrow (Number class left value) = left < 2 ^ 16
Narrow (InString want left) = (want < 2 ^ 16) × (left < 2 ^ 16)
Narrow (InBody stored want left) = Unit {0}

pub low_same : (n : ℕ) → n < 2 ^ 16 → n % 0x10000 ≡ n
low_same n h = omega arith

token_back : (t : Token) → Narrow t → token_in (fields_of t) ≡ t
unfolding token_in fields_of
token_back Between h = refl
token_back (Number class left value) h = ap (λ (k : Class). Number k (left % 0x10000) value) (class_back class) ∙ ap (λ (n : ℕ). Number class n value) (low_same left h)
token_back (InString want left) (h, k) = rw (low_same want h, low_same left k)
token_back (InBody stored want left) h = refl

-- the numbers are within their fields
pub record FieldsFit (k : TokenFields) : Type 0 where
  pub want : k.want < 2 ^ 32
  pub left : k.left < 2 ^ 32
  pub stored : k.stored < 2 ^ 16
  pub value : k.value < 2 ^ 32

-- and so are those of a token
pub record Fits (t : Token) : Type 0 where
  pub fields : FieldsFit (fields_of t)
  pub narrow : Narrow t

-- 01: channel −1 to 13: a signed byte
pub channel-fits : (z : ℤ) → le_z (negsuc 0) z ≡ true → le_z z (pos 13) ≡ true → InBits 7 z
channel-fits (pos n) a b = let l : n ≤ 13 = leb-true n 13 b in omega arith
channel-fits (negsuc n) a b = let l : n ≤ 0 = leb-true n 0 a in omega arith

four-back : (n : ℕ) → n < 2 ^ 32 → big (bytes_of 4 n) ≡ n
four-back n h = number_digits 256 4 n (omega arith) (omega arith)

two_back : (n : ℕ) → n < 2 ^ 16 → big (bytes_of 2 n) ≡ n
two_back n h = number_digits 256 2 n (omega arith) (omega arith)

unsigned-fits : (x : ℤ) → InBits 31 x → unsigned 31 x < 2 ^ 32
unsigned-fits (pos n) h = omega arith
unsigned-fits (negsuc n) h = omega arith

-- the fields and what follows
abbrev whole : ℕ → Control → List ℕ → List ℕ
whole v c t = head_under v c ++ t

module _ (v : ℕ) (c : Control) (t : List ℕ) (fits : Fits c.token) where
  long : length (whole v c t) ≡ 27 + length t
  long = length-append (head_under v c) t ∙ ap (λ (n : ℕ). n + length t) (head-size v c)

  want-back : field_at 4 (whole v c t) 11 ≡ (fields_of c.token).want
  unfolding head_under digits_in
  want-back = field-whole 4 (whole v c t) 11 (omega (arith, long)) ∙ four-back (fields_of c.token).want fits.fields.want

  left_back : field_at 4 (whole v c t) 15 ≡ (fields_of c.token).left
  unfolding head_under digits_in
  left_back = field-whole 4 (whole v c t) 15 (omega (arith, long)) ∙ four-back (fields_of c.token).left fits.fields.left

  -- of the four bytes of what is stored the last two are read
  stored_back : field_at 2 (whole v c t) 21 ≡ (fields_of c.token).stored
  unfolding head_under digits_in
  stored_back = field-whole 2 (whole v c t) 21 (omega (arith, long)) ∙ two_back (fields_of c.token).stored fits.fields.stored

  value-back : field_at 4 (whole v c t) 23 ≡ (fields_of c.token).value
  unfolding head_under digits_in
  value-back = field-whole 4 (whole v c t) 23 (omega (arith, long)) ∙ four-back (fields_of c.token).value fits.fields.value

  node-back : InBits 31 c.node → signed 31 (field_at 4 (whole v c t) 5) ≡ c.node
  unfolding head_under digits_in
  node-back h =
      ap (signed 31) (field-whole 4 (whole v c t) 5 (omega (arith, long)) ∙ four-back (unsigned 31 c.node) (unsigned-fits c.node h)) ∙ signed-unsigned 31 c.node h

  fields_back : fields_in (whole v c t) ≡ fields_of c.token
  unfolding fields_in head_under digits_in
  fields_back = rw (want-back, left_back, stored_back, value-back)

  escape-back : InBits 7 c.escape.channel →
      escape (eqb (get_or (whole v c t) 1 0) 1) (signed 7 (get_or (whole v c t) 2 0)) (pending_in (get_or (whole v c t) 3 0) (get_or (whole v c t) 4 0)) ≡ c.escape
  unfolding head_under digits_in
  escape-back h = rw (flag-back c.escape.escaped, signed-unsigned 7 c.escape.channel h, pending-back c.escape.pending)

  -- the fields of a control, whatever follows, say that control
  pub control-back : InBits 7 c.escape.channel → InBits 31 c.node → control_in (head_under v c ++ t) ≡ c
  unfolding control_in
  control-back h i = rw (escape-back h, node-back i, fields_back, token_back c.token fits.narrow)

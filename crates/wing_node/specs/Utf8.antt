-- UTF-8 as RFC 3629 defines it, by the ABNF of its section 4.
use Rattle.std.specs.Prelude.{ℕ, zero, suc, ◌+◌, ◌-◌, ◌/◌, ◌%◌, ◌^◌, ◌≤◌, ◌<◌, ◌≡◌, Bool, true, false, leb, eqb, length, take, get_or}
use mathlib.Core.List.{List, [], ◌∷◌, ◌++◌, Memᴰ}
use Rattle.wing_node.specs.Bool.{if}

-- a range of byte values, both ends in it
pub record Range : Type 0 where
  pub low : ℕ
  pub high : ℕ

infixl 20 ◌to◌
-- the ABNF's %xA0-BF
abbrev pub ◌to◌ : ℕ → ℕ → Range
low to high = record { low = low; high = high }

-- the ABNF's %xE0
abbrev pub only : ℕ → Range
only b = b to b

-- UTF8-tail
abbrev pub utf8_tail : Range
utf8_tail = 0x80 to 0xbf

-- UTF8-char: the alternatives of UTF8-1, UTF8-2, UTF8-3 and UTF8-4, a row each
abbrev pub chars : List (List Range)
chars =
    ((0x00 to 0x7f) ∷ []) ∷
    ((0xc2 to 0xdf) ∷ utf8_tail ∷ []) ∷
    (only 0xe0 ∷ (0xa0 to 0xbf) ∷ utf8_tail ∷ []) ∷
    ((0xe1 to 0xec) ∷ utf8_tail ∷ utf8_tail ∷ []) ∷
    (only 0xed ∷ (0x80 to 0x9f) ∷ utf8_tail ∷ []) ∷
    ((0xee to 0xef) ∷ utf8_tail ∷ utf8_tail ∷ []) ∷
    (only 0xf0 ∷ (0x90 to 0xbf) ∷ utf8_tail ∷ utf8_tail ∷ []) ∷
    ((0xf1 to 0xf3) ∷ utf8_tail ∷ utf8_tail ∷ utf8_tail ∷ []) ∷
    (only 0xf4 ∷ (0x80 to 0x8f) ∷ utf8_tail ∷ utf8_tail ∷ []) ∷ []

-- bytes that match a row, one byte to a range
pub data Matches : List Range → List ℕ → Type 0 where
  end : Matches [] []
  byte : {r : Range} {b : ℕ} {rs : List Range} {s : List ℕ} → r.low ≤ b → b ≤ r.high → Matches rs s → Matches (r ∷ rs) (b ∷ s)

-- UTF8-octets: characters one after the other
pub data Octets : List ℕ → Type 0 where
  empty : Octets []
  char : {row : List Range} {c s : List ℕ} → Memᴰ row chars → Matches row c → Octets s → Octets (c ++ s)

-- the same grammar as tests that compute, from here on
unfoldable pub holds : Range → ℕ → Bool
holds r b = if (leb r.low b) (leb b r.high) false

-- whether the front of s matches a row, one byte to a range
unfoldable pub begins : List Range → List ℕ → Bool
begins [] s = true
begins (r ∷ rs) [] = false
begins (r ∷ rs) (b ∷ s) = if (holds r b) (begins rs s) false

-- the first row that passes a test, [] where none does
unfoldable pub first_that : (List Range → Bool) → List (List Range) → List Range
first_that test [] = []
first_that test (row ∷ rows) = if (test row) row (first_that test rows)

-- how many bytes the character at the front of s takes: the length of the row that the front of s matches, 0 where it matches none
unfoldable pub char_length : List ℕ → ℕ
char_length s = length (first_that (λ row. begins row s) chars)

-- the row whose first range holds a lead byte, [] where none does
unfoldable pub row_of : ℕ → List Range
row_of lead = first_that (λ row. begins (take 1 row) (lead ∷ [])) chars

-- the length of the sequence that a lead byte begins, 0 where it begins none
unfoldable pub lead_length : ℕ → ℕ
lead_length lead = length (row_of lead)

-- the leading one bits among the last k bits of b
unfoldable pub ones_in : ℕ → ℕ → ℕ
ones_in zero b = 0
ones_in (suc k) b = if (eqb (b / 2 ^ k % 2) 1) (1 + ones_in k b) 0

-- 01: a lead byte's class is its count of leading one bits
unfoldable pub class : ℕ → ℕ
class lead = ones_in 8 lead

-- how many bytes a sequence of a class has: class 0 is one byte alone, 2 to 4 are as many, the others begin none
abbrev pub class_length : ℕ → ℕ
class_length n = get_or (1 ∷ 0 ∷ 2 ∷ 3 ∷ 4 ∷ []) n 0

-- of a byte that begins a character, the class says how many bytes the character has
abbrev pub ClassesHold : Type 0
ClassesHold = (lead : ℕ) → lead < 256 → (lead_length lead ≡ 0 → ⊥) → lead_length lead ≡ class_length (class lead)

-- the limits of the byte after a lead byte, those of a tail where its row has no second byte
unfoldable pub second : ℕ → Range
second lead = get_or (row_of lead) 1 utf8_tail

-- how many leading bytes form whole characters, once `skip` more bytes of the last one are passed
unfoldable pub good_from : ℕ → List ℕ → ℕ
good_from skip [] = 0
good_from (suc skip) (b ∷ s) = 1 + good_from skip s
good_from zero (b ∷ s) = if (eqb (char_length (b ∷ s)) 0) 0 (1 + good_from (char_length (b ∷ s) - 1) s)

-- 02: how many leading bytes of s form whole characters
unfoldable pub good : List ℕ → ℕ
good s = good_from 0 s

-- 02: the largest such number: the first n bytes are UTF8-octets, and no longer prefix is
pub record Longest (n : ℕ) (s : List ℕ) : Type 0 where
  pub within : n ≤ length s
  pub octets : Octets (take n s)
  pub none_longer : (m : ℕ) → n < m → m ≤ length s → Octets (take m s) → ⊥

-- whether s is UTF8-octets: all of it is good
unfoldable pub utf8 : List ℕ → Bool
utf8 s = eqb (good s) (length s)

-- a test that is true exactly when P holds
pub record Decides (test : Bool) (P : Type 0) : Type 0 where
  pub right : test ≡ true → P
  pub whole : P → test ≡ true

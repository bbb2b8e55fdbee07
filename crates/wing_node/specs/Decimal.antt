-- The decimal of an integer, in its shortest form, in ASCII.
use Rattle.std.specs.Prelude.{ℕ, zero, suc, ◌+◌, ◌-◌, ◌/◌, ◌%◌, List, [], ◌∷◌, ◌++◌, map, ltb, eqb, ℤ, pos, negsuc, neg_ℤ, get_or, drop}
use Rattle.wing_node.specs.Bool.{if}
use Rattle.wing_node.specs.Digits.{number_in, digits_in}

-- the ASCII code of a digit below 10
abbrev pub ascii : ℕ → ℕ
ascii d = 0x30 + d

-- a digit alone, or the digits of n / 10 and then that of n % 10; `most` bounds how many there are
unfoldable pub digits_up_to : ℕ → ℕ → List ℕ
digits_up_to zero n = []
digits_up_to (suc most) n = if (ltb n 10) (ascii n ∷ []) (digits_up_to most (n / 10) ++ (ascii (n % 10) ∷ []))

-- the digits of n: no number has more of them than itself and one
unfoldable pub digits : ℕ → List ℕ
digits n = digits_up_to (suc n) n

-- the decimal of an integer: its digits, after a minus sign where it is below 0
unfoldable pub decimal : ℤ → List ℕ
decimal (pos n) = digits n
decimal (negsuc n) = 0x2d ∷ digits (suc n)

-- the last k digits of n, with zeros in front where it has fewer
unfoldable pub last_digits : ℕ → ℕ → List ℕ
last_digits k n = map ascii (digits_in 10 k n)

-- the number that digits in ASCII spell
unfoldable pub number_spelled : List ℕ → ℕ
number_spelled s = number_in 10 (map (λ a. a - 0x30) s)

-- the integer that a text spells: the number of its digits, negated after a minus sign
unfoldable pub integer_of : List ℕ → ℤ
integer_of s = if (eqb (get_or s 0 0) 0x2d) (neg_ℤ (pos (number_spelled (drop 1 s)))) (pos (number_spelled s))

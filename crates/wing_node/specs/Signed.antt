-- Signed numbers by their bits: two's complement at k + 1 bits.
use Rattle.std.specs.Prelude.{ℕ, suc, ◌+◌, ◌-◌, ◌^◌, ◌<◌, ltb, ℤ, pos, negsuc}
use Rattle.std.specs.Int.Signed.{mag}
use Rattle.wing_node.specs.Bool.{if}

-- the number whose bits are u
abbrev pub signed : ℕ → ℕ → ℤ
signed k u = if (ltb u (2 ^ k)) (pos u) (negsuc (2 ^ (k + 1) - suc u))

-- the bits of x
abbrev pub unsigned : ℕ → ℤ → ℕ
unsigned k (pos n) = n
unsigned k (negsuc n) = 2 ^ (k + 1) - suc n

-- x has k + 1 bits: it is −2^k to 2^k − 1
abbrev pub InBits : ℕ → ℤ → Type 0
InBits k x = mag x < 2 ^ k

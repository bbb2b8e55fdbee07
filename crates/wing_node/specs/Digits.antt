-- Numbers by their digits in a base, the most significant first: bytes are digits in base 256, decimals in base 10.
use Rattle.std.specs.Prelude.{ℕ, zero, suc, ◌+◌, ◌*◌, ◌/◌, ◌%◌, List, [], ◌∷◌, ◌++◌}

-- the number whose digits are those of v and then these
unfoldable pub number_from : ℕ → ℕ → List ℕ → ℕ
number_from base v [] = v
number_from base v (d ∷ ds) = number_from base (v * base + d) ds

-- the number whose digits these are
unfoldable pub number_in : ℕ → List ℕ → ℕ
number_in base ds = number_from base 0 ds

-- the last w digits of n
unfoldable pub digits_in : ℕ → ℕ → ℕ → List ℕ
digits_in base zero n = []
digits_in base (suc w) n = digits_in base w (n / base) ++ (n % base ∷ [])

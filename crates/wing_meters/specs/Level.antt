-- Levels: inside a window a reading is raised by 32,768, so that none is below 0.
use Rattle.std.specs.Prelude.{ℕ, ◌+◌, ◌*◌, max, List, [], ◌∷◌, ℤ, pos, ◌+ℤ◌, nat_abs}
use Rattle.std.proofs.Math.IntN.{sub_ℕ}

-- the level of a reading of 16 bits
abbrev pub level_of : ℤ → ℕ
level_of x = nat_abs (x +ℤ pos 32768)

-- the reading of a level
abbrev pub reading_at : ℕ → ℤ
reading_at level = sub_ℕ level 32768

-- the sum of so many readings, by that of their levels
abbrev pub lowered : ℕ → ℕ → ℤ
lowered sum held = sub_ℕ sum (32768 * held)

-- levels added up
unfoldable pub added : List ℕ → ℕ
added [] = 0
added (l ∷ ls) = l + added ls

-- the greatest level, 0 for none
unfoldable pub greatest : List ℕ → ℕ
greatest [] = 0
greatest (l ∷ ls) = max l (greatest ls)

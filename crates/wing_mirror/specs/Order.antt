-- Search and put as the code has them, over records of any width with the id in their first four bytes.
use Rattle.std.specs.Prelude.{ℕ, ◌*◌, ◌≤◌, Bool, true, false, ◌≡◌, List, length, Result, Ok, Err}
use Rattle.wing_node.specs.Bool.{if}
use Rattle.wing_mirror.specs.Rows.{Table, rows_of, holds, below, rising, takes, store}
use Rattle.wing_mirror.specs.Record.{key_of}
use Rattle.wing_mirror.specs.Puts.{PutEffect}

-- a number that a key is found at, or belongs at
abbrev pub position : ℕ → Bool → Result ℕ ℕ
position number true = Ok number
position number false = Err number

-- how many records have a lower key: found there if one has the key
abbrev pub position_of : (List ℕ → ℕ) → ℕ → List (List ℕ) → Result ℕ ℕ
position_of key k rs = position (below key k rs) (holds key k rs)

-- what search and put ask of a table: its records are there, in strictly rising order
pub record InOrder (w : ℕ) (t : Table) : Type 0 where
  pub wide : 4 ≤ w
  pub room : w * t.count ≤ length t.buffer
  pub up : rising key_of (rows_of w t) ≡ true

-- stored if its key has a record or a place is free; otherwise nothing
unfoldable pub put_row : ℕ → List ℕ → Table → PutEffect
put_row w r t = if (takes w key_of r t) (record { after = store w key_of r t; taken = true }) (record { after = t; taken = false })

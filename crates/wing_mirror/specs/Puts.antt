-- A put: the table after it, and whether the record is in it.
use Rattle.std.specs.Prelude.{ℕ, Bool, true, false, List, Option, Some, None}
use Rattle.wing_node.specs.Bool.{if}
use Rattle.wing_mirror.specs.Rows.{Table, takes, store}
use Rattle.wing_mirror.specs.Layout.{Layout}
use Rattle.wing_mirror.specs.Table.{table}

-- the table after a put, and whether there was a place
pub record PutEffect : Type 0 where
  pub after : Table
  pub taken : Bool

module _ (L : Layout) where
  open L use {width, key_of}

  -- 01: put if its node has a record or a place is free; otherwise nothing
  unfoldable pub put_of : List ℕ → Table → PutEffect
  put_of r t = if (takes width key_of r t) (record { after = store width key_of r t; taken = true }) (record { after = t; taken = false })

-- the same, by the count before, what the code returns and the lent buffer
abbrev pub put_effect : ℕ → Option ℕ → List ℕ → PutEffect
put_effect count (Some now) buffer = record { after = table buffer now; taken = true }
put_effect count None buffer = record { after = table buffer count; taken = false }

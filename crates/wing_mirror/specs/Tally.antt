-- The code's structs of a feed as the records of Mirror.
use Rattle.std.specs.Prelude.{ℕ, List}
use Rattle.wing_mirror.specs.Table.{table}
use Rattle.wing_mirror.specs.Mirror.{TableTally, table_tally}
use Rattle.wing_mirror.specs.declared.keep.Tally.{Tally}

-- the same, by what the code holds and the lent buffer
abbrev pub tally_of : Tally → List ℕ → TableTally
tally_of t buffer = table_tally (table buffer t.count) t.counts

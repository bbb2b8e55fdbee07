-- The contract of `search` tells whether the key is there and at which number, which are the branches of `number_of`.
use Rattle.wing_mirror.specs.Rows.{number_of}
use Rattle.wing_mirror.specs.Query.{answer_of}
use Rattle.wing_mirror.proofs.Tables.Finds.{position-ok, position-err}
use Rattle.wing_mirror.proofs.query.number_of.Goals as goal

pub returns-in-Ok : goal.returns-in-Ok
unfolding number_of answer_of
returns-in-Ok g c = let p = position-ok _ _ _ c.in-Ok.ensures in rw (p.1, p.0)

pub returns-in-Err : goal.returns-in-Err
unfolding number_of answer_of
returns-in-Err g c = let p = position-err _ _ _ c.in-Err.ensures in rw p.1

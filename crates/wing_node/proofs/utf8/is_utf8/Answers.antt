-- What `good_len` answers is all of it exactly where the bytes are UTF-8, and `decides-by` makes it the grammar's answer.
use mathlib.Core.Path.{ap}
use lib.Dec.{eqb}
use lib.ListN.{length}
use Rattle.wing_node.specs.Utf8.{utf8}
use Rattle.wing_node.proofs.Characters.Grammar.{decides-by}
use Rattle.wing_node.proofs.utf8.is_utf8.Goals as goal

pub returns : goal.returns
unfolding utf8
returns c =
    let s = c.args.s.now in
    let p = decides-by s (ap (λ n. eqb n (length s)) c.good_len.ensures.value) in
    record { value = p.0; decides = p.1 }

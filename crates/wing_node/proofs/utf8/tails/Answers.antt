-- `all` tests as many bytes as are wanted (`begins-all`); fewer begin no row of that length (`begins-short`).
use mathlib.Core.Path.{sym, ◌∙◌}
use mathlib.Core.Bool.{◌&&◌}
use native.Mathlib.Omega.{arith}
use borrow.Author.Tests.{lt-leb}
use lib.Dec.{leb}
use lib.ListN.{replicate, take, length-replicate}
use Rattle.std.proofs.Common.{rules, tests}
use Rattle.std.proofs.lemmas.Iterator.{YieldsList-from_slice}
use Rattle.std.proofs.lemmas.Iterator.Search.{all_from_yields_List}
use Rattle.wing_node.specs.Utf8.{Range, utf8_tail}
use Rattle.wing_node.proofs.Characters.Fronts.{begins-all, begins-short}
use Rattle.wing_node.proofs.utf8.tails.Goals as goal

pub returns-then-n-s : goal.returns-then-n-s
returns-then-n-s c =
    let s = c.args.s.now in
    let n = c.args.n in
    all_from_yields_List (λ b. leb 0x80 b && leb b 0xbf) _ _ c.all.result c.all.ensures.ran (YieldsList-from_slice (take n s) cc) (λ x b q k. search (rules, tests)) ∙
    sym (begins-all utf8_tail n s c.if-n-s.true)

pub returns-else-n-s : goal.returns-else-n-s
returns-else-n-s c =
    let s = c.args.s.now in
    let n = c.args.n in
    lt-leb _ _ c.if-n-s.false ∙ sym (begins-short (replicate n utf8_tail) s (omega (arith, length-replicate {A = Range} n utf8_tail)))

-- The laws `longest` and `classes-hold` of wing_node; the test is by its definition that all is good; and the leading one bits are computed at each byte.
use lib.ListN.{length}
use mathlib.Core.Path.{refl}
use borrow.Author.Tests.{eq-eqb, eqb-true}
use Rattle.wing_node.specs.Utf8.{good, utf8}
use Rattle.wing_node.proofs.Characters.Grammar.{longest}
use Rattle.wing_node.proofs.Characters.LeadBytes.{classes-hold}
use Rattle.promises.proofs.Parses.{leading_ones}
use Rattle.promises.proofs.demand_1_goods.Goals as goal

pub returns : goal.returns
unfolding utf8
returns c = record {
  largest = longest;
  all = λ s. (eqb-true (good s) (length s), eq-eqb (good s) (length s));
  string = λ s. refl;
  definition = λ s. refl;
  classes = leading_ones;
  lengths = classes-hold;
}

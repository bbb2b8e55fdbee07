-- The contract of the parser says which of the two it is.
use mathlib.Core.Path.{◌∙◌, ap, sym}
use Rattle.wing_node.specs.Anew.{anew_from, anew_of}
use Rattle.wing_node.specs.Writer.{body_effect}
use Rattle.wing_node.proofs.Refusals.{handed-on}
use Rattle.wing_node.proofs.Bodies.Walks.{items-read}
use Rattle.wing_node.proofs.anew.write_anew.Goals as goal

pub returns-in_err-d : goal.returns-in_err-d
unfolding anew_of
returns-in_err-d c =
    let args = c.args in
    ap (λ r. body_effect r args.out.now) (handed-on _ _ c.from_residual.ensures.1) ∙ ap (λ p. anew_from args.body.now p args.out.now) c.in_err-d.ensures

pub returns : goal.returns
unfolding anew_of
returns c = c.write_read.ensures ∙ simp (← c.in_ok-d.ensures)

pub write_read-requires : goal.write_read-requires
write_read-requires c = items-read c.args.body.now _ (sym c.in_ok-d.ensures)

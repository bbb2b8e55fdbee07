-- Each arm is the entry of `types` with that number, and a number that is none of 0 to 7 is past the list's end (`over-seven`).
use mathlib.Core.Path.{sym}
use lib.ListN.{get_or-eq_default}
use Rattle.wing_node.proofs.Eight.{over-seven}
use Rattle.wing_node.specs.Types.{types, type_of}
use Rattle.wing_node.proofs.node_type.NodeTypeFromU16.from.Goals as goal

pub returns-in-0 : goal.returns-in-0
unfolding type_of
returns-in-0 c = simp c.in-0.is

pub returns-in-1 : goal.returns-in-1
unfolding type_of
returns-in-1 c = simp c.in-1.is

pub returns-in-2 : goal.returns-in-2
unfolding type_of
returns-in-2 c = simp c.in-2.is

pub returns-in-3 : goal.returns-in-3
unfolding type_of
returns-in-3 c = simp c.in-3.is

pub returns-in-4 : goal.returns-in-4
unfolding type_of
returns-in-4 c = simp c.in-4.is

pub returns-in-5 : goal.returns-in-5
unfolding type_of
returns-in-5 c = simp c.in-5.is

pub returns-in-6 : goal.returns-in-6
unfolding type_of
returns-in-6 c = simp c.in-6.is

pub returns-in-7 : goal.returns-in-7
unfolding type_of
returns-in-7 c = simp c.in-7.is

pub returns-in_default : goal.returns-in_default
unfolding type_of
returns-in_default c =
    let r = c.in_default.in_default-own.rest in
    sym (get_or-eq_default types _ (over-seven c.args.n r.0.0.0.0.0.0.0.1 r.0.0.0.0.0.0.1 r.0.0.0.0.0.1 r.0.0.0.0.1 r.0.0.0.1 r.0.0.1 r.0.1 r.1))

use mathlib.Core.Path.{◌≡◌}
use Prim.Native.Nat.{◌+◌, ◌-◌}
use lib.ListN.{drop}
use Rattle.wing_node.specs.Refusal.{first_fault}
use Rattle.wing_node.specs.Standing.{extent}
use Rattle.wing_node.specs.Definition.{items_of}
use Rattle.wing_node.specs.Writer.{texts_fault}
use Rattle.wing_node.proofs.writer.items_fault.Given as goal

abbrev pub invariant-loop : goal.invariant-loop
invariant-loop l =
    let left = l.count - l.counter in
    (l.passed.at + extent (items_of l.kind left) (drop l.passed.at l.items) ≡ extent (items_of l.kind l.count) l.items) ×
    (first_fault l.passed.fault (texts_fault (items_of l.kind left) (drop l.passed.at l.items)) ≡ first_fault l.initial.passed.fault (texts_fault (items_of l.kind l.count) l.items))

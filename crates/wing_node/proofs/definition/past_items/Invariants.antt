use mathlib.Core.Path.{◌≡◌}
use Prim.Native.Nat.{◌-◌}
use Rattle.wing_node.specs.Refusal.{no_fault}
use Rattle.wing_node.specs.Cursor.{cursor, after}
use Rattle.wing_node.specs.Definition.{items_of}
use Rattle.wing_node.proofs.definition.past_items.Given as goal

abbrev pub invariant-loop : goal.invariant-loop
invariant-loop l = after (items_of l.kind l.count) l.body (cursor l.first no_fault) ≡ after (items_of l.kind (l.count - l.counter)) l.body (cursor l.at no_fault)

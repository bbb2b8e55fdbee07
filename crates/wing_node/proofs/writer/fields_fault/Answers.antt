-- A type or a unit over 7 is 16; else the fault is that of the items, by whether the type has them.
use mathlib.Core.Path.{◌≡◌, ◌∙◌, sym}
use mathlib.Core.Bool.{true, false}
use borrow.Author.Tests.{lt-ltb, le-ltb}
use Rattle.wing_node.specs.Types.{type_of, has_items}
use Rattle.wing_node.proofs.Bodies.Checks.{with_items, with-count, with-bytes, without-items}
use Rattle.wing_node.proofs.writer.fields_fault.Goals as goal

pub returns-then-node_type-gt7 : goal.returns-then-node_type-gt7
returns-then-node_type-gt7 c = simp (lt-ltb _ _ c.if-node_type-gt7.true)

pub returns-then-unit-gt7 : goal.returns-then-unit-gt7
returns-then-unit-gt7 c = simp (le-ltb _ _ c.if-node_type-gt7.false, lt-ltb _ _ c.if-unit-gt7.true)

pub returns-then-has_items : goal.returns-then-has_items
returns-then-has_items c =
    let args = c.args in
    let k = c.from-kind.ensures in
    let h : has_items (type_of args.node_type) ≡ true = rw k at (sym c.has_items.ensures ∙ c.if-has_items.true) in
    rw k at c.items_fault.ensures ∙ with_items args.node_type args.unit args.count args.items.now args.names c.if-node_type-gt7.false c.if-unit-gt7.false h

pub returns-then-count-gt0 : goal.returns-then-count-gt0
returns-then-count-gt0 c =
    let args = c.args in
    let h : has_items (type_of args.node_type) ≡ false = rw c.from-kind.ensures at (sym c.has_items.ensures ∙ c.if-has_items.false) in
    with-count args.node_type args.unit args.count args.items.now args.names c.if-node_type-gt7.false c.if-unit-gt7.false h c.if-count-gt0.true

pub returns-then-items-gt0 : goal.returns-then-items-gt0
returns-then-items-gt0 c =
    let args = c.args in
    with-bytes args.node_type args.unit args.count args.items.now args.names c.if-node_type-gt7.false c.if-unit-gt7.false c.if-count-gt0.false c.if-items-gt0.true

pub returns-else-items-gt0 : goal.returns-else-items-gt0
returns-else-items-gt0 c =
    let args = c.args in
    let h : has_items (type_of args.node_type) ≡ false = rw c.from-kind.ensures at (sym c.has_items.ensures ∙ c.if-has_items.false) in
    without-items args.node_type args.unit args.count args.items.now args.names c.if-node_type-gt7.false c.if-unit-gt7.false h c.if-count-gt0.false c.if-items-gt0.false

-- The item walker: the walk of Items, over a lent body.
use Rattle.std.specs.Prelude.{List, ℕ, Ok, Err}
use Rattle.std.specs.Borrow.{Bor}
use Rattle.wing_node.specs.Result.{Result}
use Rattle.wing_node.specs.Items.{begin_of, step_at}
use Rattle.wing_node.specs.declared.items.Walk.{Walk}
use Rattle.wing_node.specs.declared.items.Step.{Step}
use Rattle.wing_node.specs.declared.walker.Walker.{Walker}
use Rattle.wing_node.specs.declared.walker.Stepped.{Stepped}

-- a walker over this body, from what the covered call began with
abbrev pub opened_at : Bor (List ℕ) → Result Walk → Result Walker
opened_at b (Ok w) = Ok (record { body = b; walk = w })
opened_at b (Err why) = Err why

-- 01: it begins at the first item; beginning on a body that the parser refuses gives its 4 or 5
abbrev pub opened_of : Bor (List ℕ) → Result Walker
opened_of b = opened_at b (begin_of b.now)

-- the item, and the walker where the covered call left it: the same body, at the walk's place
abbrev pub stepped_from : Walker → Step → Stepped
stepped_from w s = record { item = s.item; next = record { body = w.body; walk = s.next } }

-- 01: a step gives none when no items are left or the type has none, else the item there, or 4 or 5
abbrev pub stepped_of : Walker → Stepped
stepped_of w = stepped_from w (step_at w.body.now w.walk.at w.walk.left w.walk.kind)

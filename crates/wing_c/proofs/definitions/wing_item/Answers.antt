-- The contract of the call for an item by its number, with the item by numbers.
use Rattle.wing_c.proofs.definitions.wing_item.Goals as goal

pub returns : goal.returns
returns c = simp (← c.item_by_number.ensures, c.item.ensures)

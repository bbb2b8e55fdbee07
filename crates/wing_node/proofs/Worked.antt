-- The tables of cases, each computed at once.
use mathlib.Core.Path.{refl}
use Rattle.wing_node.specs.Digits.{number_from, number_in, digits_in}
use Rattle.wing_node.specs.Utf8.{holds, begins, first_that, char_length, good_from, good, utf8}
use Rattle.wing_node.specs.Types.{type_of, unit_of}
use Rattle.wing_node.specs.Cursor.{size, content, right, held_fault, fault, value_of, content_at, read_at, reads, after}
use Rattle.wing_node.specs.Definition.{definition_of, details_at, item_at, times}
use Rattle.wing_node.specs.Items.{begin_of, step_at, numbered_from, item_numbered}
use Rattle.wing_node.specs.Laid.{laid, laid_all}
use Rattle.wing_node.specs.Writer.{body_given}
use Rattle.wing_node.specs.Cases.{AsWanted, definitions, items, bodies, strings}

pub parsed : AsWanted definitions
unfolding definitions number_from number_in holds begins first_that char_length good_from good utf8 type_of unit_of size content right held_fault fault value_of content_at read_at reads after definition_of details_at times
parsed = refl

pub numbered : AsWanted items
unfolding items item_numbered numbered_from step_at begin_of item_at number_from number_in holds begins first_that char_length good_from good utf8 type_of unit_of size content right held_fault fault value_of content_at read_at reads after definition_of details_at times
numbered = refl

pub written : AsWanted bodies
unfolding bodies digits_in type_of laid laid_all body_given
written = refl

pub counted : AsWanted strings
unfolding strings holds begins first_that char_length good_from good
counted = refl

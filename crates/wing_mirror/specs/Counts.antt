-- 01: a feed counts values stored, values with no place, strings refused, definitions read, definitions refused, and ends.
use Rattle.std.specs.Prelude.{ℕ, ◌+◌, leb, eqb, Ok, Err}
use Rattle.wing_node.specs.Refusal.{refusal_number}
use Rattle.wing_node.specs.Bool.{if}
use Rattle.wing_mirror.specs.declared.answer.Counts.{Counts}
use Rattle.wing_mirror.specs.declared.counts.Mark.{Mark}
use Rattle.wing_mirror.specs.declared.counts.Mark.TheVariants.{Stored, Unplaced, StringRefused, DefinitionRead, DefinitionRefused, Ended, Uncounted}
use Rattle.wing_node.specs.Result.{Result}
use Rattle.wing_node.specs.declared.definition.Definition.{Definition}

-- 01's six counts, all 0
abbrev pub zero_counts : Counts
zero_counts = record { stored = 0; unplaced = 0; strings_refused = 0; definitions_read = 0; definitions_refused = 0; ends = 0 }

-- 01: a refused feed counts nothing
abbrev pub counts_in : Result Counts → Counts
counts_in (Ok c) = c
counts_in (Err why) = zero_counts

-- the six, in 01's order
abbrev pub six : ℕ → ℕ → ℕ → ℕ → ℕ → ℕ → Counts
six a b c d e f = record { stored = a; unplaced = b; strings_refused = c; definitions_read = d; definitions_refused = e; ends = f }

-- the number of a mark among them
unfoldable pub mark_number : Mark → ℕ
mark_number Stored = 0
mark_number Unplaced = 1
mark_number StringRefused = 2
mark_number DefinitionRead = 3
mark_number DefinitionRefused = 4
mark_number Ended = 5
mark_number Uncounted = 6

-- 1 if both marks are the same, else 0
abbrev pub match : Mark → Mark → ℕ
match m k = if (eqb (mark_number m) (mark_number k)) 1 0

-- one of a mark: 1 in its count, 0 in the others
unfoldable pub one : Mark → Counts
one m =
    record {
      stored = match m Stored;
      unplaced = match m Unplaced;
      strings_refused = match m StringRefused;
      definitions_read = match m DefinitionRead;
      definitions_refused = match m DefinitionRefused;
      ends = match m Ended;
    }

-- each of the counts of two together
abbrev pub add_counts : Counts → Counts → Counts
add_counts c d =
    record {
      stored = c.stored + d.stored;
      unplaced = c.unplaced + d.unplaced;
      strings_refused = c.strings_refused + d.strings_refused;
      definitions_read = c.definitions_read + d.definitions_read;
      definitions_refused = c.definitions_refused + d.definitions_refused;
      ends = c.ends + d.ends;
    }

-- one more of a mark
abbrev pub tick : Mark → Counts → Counts
tick m c = add_counts c (one m)

-- 01: refusal 1 is a string's; a definition refused is one with 2 to 5; no other number is counted
unfoldable pub refusal_mark : ℕ → Mark
refusal_mark n = if (eqb n 1) StringRefused (if (leb 2 n) (if (leb n 5) DefinitionRefused Uncounted) Uncounted)

-- 01: each body goes through the parser: one that it takes, or its 4 or 5
unfoldable pub body_mark : Result Definition → Mark
body_mark (Ok d) = DefinitionRead
body_mark (Err why) = refusal_mark (refusal_number why)

-- their sum
abbrev pub total : Counts → ℕ
total c = c.stored + c.unplaced + c.strings_refused + c.definitions_read + c.definitions_refused + c.ends

-- The law `lead`, computed at each of 256 bytes, says that the length is this choice by class, and each return is its branch with that test.
use borrow.Author.Tests.{lt-ltb, le-ltb, ne_eqb}
use borrow.Author.Rules.{rules}
use Rattle.wing_node.proofs.Characters.LeadBytes.{lead}
use Rattle.wing_node.proofs.utf8.lead_length.Goals as goal

pub returns-in-0 : goal.returns-in-0
returns-in-0 c = rw (← (lead c.args.lead (search rules)).long, ← (lead c.args.lead (search rules)).ones, ← c.leading_ones.ensures) (simp c.in-0.is)

pub returns-then-lead-lt194 : goal.returns-then-lead-lt194
returns-then-lead-lt194 c =
    rw (← (lead c.args.lead (search rules)).long, ← (lead c.args.lead (search rules)).ones, ← c.leading_ones.ensures)
    (simp (c.in-2.is, lt-ltb _ _ c.if-lead-lt194.true))

pub returns-else-lead-lt194 : goal.returns-else-lead-lt194
returns-else-lead-lt194 c =
    rw (← (lead c.args.lead (search rules)).long, ← (lead c.args.lead (search rules)).ones, ← c.leading_ones.ensures)
    (simp (c.in-2.is, le-ltb _ _ c.if-lead-lt194.false))

pub returns-in-3 : goal.returns-in-3
returns-in-3 c = rw (← (lead c.args.lead (search rules)).long, ← (lead c.args.lead (search rules)).ones, ← c.leading_ones.ensures) (simp c.in-3.is)

pub returns-then-lead-lt245 : goal.returns-then-lead-lt245
returns-then-lead-lt245 c =
    rw (← (lead c.args.lead (search rules)).long, ← (lead c.args.lead (search rules)).ones, ← c.leading_ones.ensures)
    (simp (c.in-4.is, lt-ltb _ _ c.if-lead-lt245.true))

pub returns-else-lead-lt245 : goal.returns-else-lead-lt245
returns-else-lead-lt245 c =
    rw (← (lead c.args.lead (search rules)).long, ← (lead c.args.lead (search rules)).ones, ← c.leading_ones.ensures)
    (simp (c.in-4.is, le-ltb _ _ c.if-lead-lt245.false))

pub returns-in_default : goal.returns-in_default
returns-in_default c =
    let n = c.in_default.in_default-own.rest in
    rw (← (lead c.args.lead (search rules)).long, ← (lead c.args.lead (search rules)).ones, ← c.leading_ones.ensures)
    (simp (ne_eqb _ _ n.1, ne_eqb _ _ n.0.1, ne_eqb _ _ n.0.0.1, ne_eqb _ _ n.0.0.0.1))

-- The law `lead`, computed at each of 256 bytes, says that the limits are these choices, and each return is their branches with that test.
use mathlib.Core.Path.{◌≡◌}
use native.Mathlib.Omega.{arith}
use borrow.Author.Tests.{ne_eqb}
use borrow.Author.Rules.{rules}
use Rattle.wing_node.proofs.Characters.LeadBytes.{lead}
use Rattle.wing_node.proofs.utf8.second.Goals as goal

pub returns-in-224 : goal.returns-in-224
returns-in-224 c = let l = lead c.args.lead (search rules) in rw (← l.lowest, ← l.highest) (simp c.in-224.is)

pub returns-in-237 : goal.returns-in-237
returns-in-237 c = let l = lead c.args.lead (search rules) in rw (← l.lowest, ← l.highest) (simp c.in-237.is)

pub returns-in-240 : goal.returns-in-240
returns-in-240 c = let l = lead c.args.lead (search rules) in rw (← l.lowest, ← l.highest) (simp c.in-240.is)

pub returns-in-244 : goal.returns-in-244
returns-in-244 c = let l = lead c.args.lead (search rules) in rw (← l.lowest, ← l.highest) (simp c.in-244.is)

pub returns-in_default : goal.returns-in_default
returns-in_default c =
    let l = lead c.args.lead (search rules) in
    let a : c.args.lead ≡ 0xe0 → ⊥ = λ e. omega arith in
    let b : c.args.lead ≡ 0xed → ⊥ = λ e. omega arith in
    let d : c.args.lead ≡ 0xf0 → ⊥ = λ e. omega arith in
    let f : c.args.lead ≡ 0xf4 → ⊥ = λ e. omega arith in
    rw (← l.lowest, ← l.highest) (simp (ne_eqb _ _ a, ne_eqb _ _ b, ne_eqb _ _ d, ne_eqb _ _ f))

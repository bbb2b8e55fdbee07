-- What holds of a choice by whether a value is kept.
use Rattle.wing_node.specs.declared.refusal.Refusal.{Refusal}
use mathlib.Core.Path.{◌≡◌, refl}
use Rattle.wing_mirror.specs.Layout.{Keeping, kept, unkept, unless_kept}
use Rattle.wing_mirror.specs.declared.counts.Mark.{Mark}

-- P of a choice, from P of each side, with what is known of the value in hand
pub keeping-cases : {A : Type 0} (P : A → Type 0) (k : Keeping) (f : Mark → Refusal → A) (a : A) → ((mark : Mark) (why : Refusal) → P (f mark why)) → (k ≡ kept → P a) → P (unless_kept k f a)
keeping-cases P kept f a g h = h refl
keeping-cases P (unkept mark why) f a g h = g mark why

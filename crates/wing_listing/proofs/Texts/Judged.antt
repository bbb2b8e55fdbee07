-- What the code says is wrong with a line, step by step.
use Prim.Native.Nat.{ℕ, ◌-◌, ◌≤◌}
use mathlib.Core.Bool.{Bool, true, false, true≢false}
use mathlib.Core.Path.{◌≡◌, refl, sym, ap, ◌∙◌}
use mathlib.Core.List.{List}
use native.Mathlib.Omega.{arith}
use mir.Syntax.{w32}
use mir.Val.{to_z, of_z}
use lib.IntN.{ℤ}
use Rattle.std.proofs.Common.{Option, Some, None}
use Rattle.std.specs.Option.{MatchOption, IsSome}
use lib.ListN.{length, take, drop}
use Rattle.wing_node.specs.Refusal.{Fault}
use Rattle.wing_mirror.specs.Rows.{Found}
use Rattle.wing_listing.specs.Parts.{comma, part}
use Rattle.wing_listing.specs.Reading.{is_value, value_said, is_line, id_said, entry_said, above, value_fault, line_fault}
use Rattle.wing_listing.specs.Steps.{LineSays, unless_fault, judged_as}
use Rattle.wing_listing.specs.declared.line.Line.{Line}
use Rattle.wing_node.specs.Result.{Result}
use Rattle.std.specs.Prelude.{Err}
use Rattle.wing_node.specs.declared.refusal.Refusal.{Refusal}
use Rattle.wing_listing.proofs.Texts.Drops.{rest-whole}
use Rattle.wing_listing.proofs.Texts.Lines.{formed-fields, formed-said, formed-at}
use Rattle.wing_listing.proofs.Texts.Reads.{said-passed}
use Rattle.wing_node.specs.declared.refusal.Refusal.TheVariants.{IdNotAbove, LineWrong}

-- the value's field of a line in form
module _ (s : List ℕ) (l : Line) (says : LineSays l s) where
  pub value-from : l.from ≤ length s
  value-from = omega (arith, says.from, formed-at s says.formed)

  pub value-field : take (length s - l.from) (drop l.from s) ≡ part comma 2 s
  value-field = rest-whole s l.from ∙ ap (λ n. drop n s) (says.from) ∙ sym (formed-fields s says.formed).1

  pub value-formed : is_value l.kind (take (length s - l.from) (drop l.from s)) ≡ true
  value-formed = ap (is_value l.kind) value-field ∙ ap (λ k. is_value k (part comma 2 s)) (says.kind) ∙ formed-said s says.formed

  pub value_same : value_said l.kind (take (length s - l.from) (drop l.from s)) ≡ (entry_said s).value
  unfolding entry_said
  value_same = ap (value_said l.kind) value-field ∙ ap (λ k. value_said k (part comma 2 s)) (says.kind)

-- a line out of form
pub judged-off : (before : Found ℤ) (s : List ℕ) → is_line s ≡ false → (why : Refusal) → ◌≡◌ {A = Result Line} (Err why) (Err LineWrong) → ◌≡◌ {A = Result ℤ} (Err why) (judged_as before s)
unfolding judged_as line_fault
judged-off before s e why w = let q : why ≡ LineWrong = grind arith in rw (q, e)

module _ (before : Found ℤ) (s : List ℕ) (l : Line) (says : LineSays l s) (up : Bool) (u : up ≡ above before (to_z w32 (of_z w32 l.id))) where
  abbrev id : ℤ
  id = to_z w32 (of_z w32 l.id)

  id-read : id ≡ id_said s
  id-read = said-passed s l.id says.formed says.id

  up-said : up ≡ above before (id_said s)
  up-said = u ∙ ap (above before) id-read

  pub judged-low : up ≡ false → ◌≡◌ {A = Result ℤ} (Err IdNotAbove) (judged_as before s)
  unfolding judged_as line_fault
  judged-low t = rw (says.formed, sym up-said ∙ t)

  pub judged-value : up ≡ true → (v : Fault) → v ≡ value_fault (value_said l.kind (take (length s - l.from) (drop l.from s))) →
      unless_fault v id ≡ judged_as before s
  unfolding judged_as line_fault
  judged-value t v q = rw (q ∙ ap value_fault (value_same s l says), id-read, says.formed, sym up-said ∙ t)

-- a line in form has its fields
pub line-some : (o : Option Line) (s : List ℕ) → MatchOption o (is_line s ≡ false) (λ l. LineSays l s) → is_line s ≡ true → IsSome o
line-some None s m e = absurd (true≢false (sym e ∙ m))
line-some (Some l) s m e = refl

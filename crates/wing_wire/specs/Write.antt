-- Writing: escapes, and what a command leaves in the lent output.
use Rattle.std.specs.Prelude.{ℕ, ◌+◌, ◌≡◌, List, [], ◌∷◌, ◌++◌, ltb, eqb, length, drop, Ok, Err}
use Rattle.std.proofs.lemmas.List.Edits.{sets}
use Rattle.wing_node.specs.Bool.{if}
use Rattle.wing_node.specs.Field.{bytes_of}
use Rattle.wing_node.specs.declared.refusal.Refusal.TheVariants.{OutputShort}
use Rattle.wing_node.specs.Result.{Result}

-- 01: every df in a written id, value, string, length, port, meter index or meter id is followed by de
unfoldable pub escaped : List ℕ → List ℕ
escaped [] = []
escaped (b ∷ s) = if (eqb b 0xdf) (0xdf ∷ 0xde ∷ escaped s) (b ∷ escaped s)

-- a number in w bytes, as it is written
abbrev pub field : ℕ → ℕ → List ℕ
field w n = escaped (bytes_of w n)

-- s laid over the buffer d from a place on, as far as d reaches: e is the buffer left, r the place after s
pub record Laid (s : List ℕ) (at : ℕ) (d e : List ℕ) (r : ℕ) : Type 0 where
  pub bytes : e ≡ sets d at s
  pub next : r ≡ at + length s

-- whatever the buffer, these bytes are laid over its front: the buffer before, the place after them and the buffer after
abbrev pub LaysAlways : (List ℕ → ℕ → List ℕ → Type 0) → List ℕ → Type 0
LaysAlways lays s = (d : List ℕ) (r : ℕ) (e : List ℕ) → lays d r e → Laid s 0 d e r

-- what a call leaves: its answer and the output
pub record WriteEffect : Type 0 where
  pub answer : Result ℕ
  pub out : List ℕ

-- an answer and the output
abbrev pub write_effect : Result ℕ → List ℕ → WriteEffect
write_effect answer out = record { answer = answer; out = out }

-- 01: output too short for the whole is 9, as it was; bytes past what is written are not altered
unfoldable pub write_of : List ℕ → List ℕ → WriteEffect
write_of bytes out =
    if (ltb (length out) (length bytes)) (write_effect (Err OutputShort) out)
    (write_effect (Ok (length bytes)) (bytes ++ drop (length bytes) out))

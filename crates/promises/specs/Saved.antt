-- What is promised of a decoder state as bytes, by each call's arguments, its answer and the lent buffer after it.
use Rattle.std.specs.Prelude.{ℕ, not, ◌≡◌, List, ◌∷◌, take, Ok}
use Rattle.wing_node.specs.declared.refusal.Refusal.{Refusal}
use Rattle.wing_node.specs.Result.{ok, refused, Result}
use Rattle.wing_wire.specs.State.{sound_state}
use Rattle.wing_wire.specs.Earlier.{carried, carry_of}
use Rattle.wing_wire.specs.declared.state.State.{State}
use Rattle.wing_wire.specs.declared.earlier.State.{State as EarlierState}
use Rattle.wing_saved.specs.Saved.{state_bytes, Saves}
use Rattle.wing_saved.specs.Earlier.{EarlierSaves, CarriedSaves}
use Rattle.promises.specs.Refusals.{state_unsound}
use Rattle.promises.specs.Lines.{Line, ◌gives◌, by}
use Rattle.promises.specs.Wire.{carry_lines, command_lines, Writes}

-- a state as bytes: an unsound state, too short an output
abbrev pub save_lines : State → List ℕ → List Line
save_lines s out = (not (sound_state s) gives state_unsound) ∷ command_lines (state_bytes s) out

-- a state as bytes: 8, 9; else its bytes, and they are kept as that state's
pub record SaveCall (s : State) (out : List ℕ) (answer : Result ℕ) (after : List ℕ) : Type 0 where
  pub writes : Writes (save_lines s out) (state_bytes s) out answer after (Unit {0})
  pub saves : (n : ℕ) → answer ≡ Ok n → Saves (take n after) s

-- bytes as a state
pub record LoadCall (bytes : List ℕ) (answer : Result State) : Type 0 where
  -- the bytes of a sound state read back as that state
  pub back : (s : State) → Saves bytes s → answer ≡ ok s
  -- bytes that read as a state are its bytes, and it is sound
  pub again : (s : State) → answer ≡ ok s → Saves bytes s
  -- any others are 8
  pub refusal : (why : Refusal) → answer ≡ refused why → why ≡ state_unsound

-- bytes of version 1 as a state (02)
pub record LoadEarlierCall (bytes : List ℕ) (answer : Result State) : Type 0 where
  -- the bytes of an old sound state are loaded as it is carried over, or sent back as it is
  pub back : (s : EarlierState) → EarlierSaves bytes s → answer ≡ carry_of s
  -- the same by the lines that send an old state back
  pub by_lines : (s : EarlierState) → EarlierSaves bytes s → answer ≡ by (carry_lines s) (carried s)
  -- bytes that are loaded are those of an old sound state, and this is carried over as what they are loaded as
  pub again : (t : State) → answer ≡ ok t → CarriedSaves bytes t
  -- any others are 8
  pub refusal : (why : Refusal) → answer ≡ refused why → why ≡ state_unsound

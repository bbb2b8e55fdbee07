-- Demand 2, on the writers' own answers: the bytes that a set order wrote, read back, give its node and value.
use Rattle.std.specs.Prelude.{ℕ, true, false, ◌≡◌, List, ℤ, length, take, Ok, Err, None}
use Rattle.wing_node.specs.Result.{ok, Result}
use Rattle.wing_node.specs.Value.{NodeValue}
use Rattle.wing_wire.specs.State.{body_limit, sound_state}
use Rattle.wing_wire.specs.Reader.{next_of}
use Rattle.wing_wire.specs.Answers.{value_at, reply_result}
use Rattle.wing_wire.specs.declared.state.Token.TheVariants.{Between}
use Rattle.wing_wire.specs.declared.state.State.{State}

-- a sound state that is unescaped, between tokens and with no byte pending, on any channel and at any node; a store has 4,096 bytes
pub record AtRest (s : State) : Type 0 where
  pub sound : sound_state s ≡ true
  pub store : length s.store ≡ body_limit
  pub unescaped : s.control.escape.escaped ≡ false
  pub pending : s.control.escape.pending ≡ None
  pub between : s.control.token ≡ Between

-- what a next call over n bytes gives: that value at that node, all n bytes taken, and such a state again, at that node
pub record ReadBack (id : ℤ) (v : NodeValue) (n : ℕ) (bytes : List ℕ) (s : State) : Type 0 where
  pub event : reply_result (next_of s bytes) ≡ ok (value_at id v)
  pub taken : (next_of s bytes).taken ≡ n
  pub state : AtRest (next_of s bytes).state
  pub node : (next_of s bytes).state.control.node ≡ id

-- a writer's answer and the output after it: where n bytes were written, the first n bytes of the output are read as that value at
-- that node, in every such state. A refused order wrote nothing to read
abbrev pub ReadsAsSet : ℤ → NodeValue → Result ℕ → List ℕ → Type 0
ReadsAsSet id v (Ok n) out = (s : State) → AtRest s → ReadBack id v n (take n out) s
ReadsAsSet id v (Err why) out = Unit {0}

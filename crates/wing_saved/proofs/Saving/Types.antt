-- What the types of the code say of a decoder state by value.
use Prim.Native.Nat.{ℕ, suc, ◌<◌}
use mathlib.Core.Path.{◌≡◌}
use mathlib.Core.List.{List, [], ◌∷◌}
use mir.Syntax.{w8}
use mir.Val.{Val, Fits}
use denote.Laws.{Is}
use denote.Struct.Declared.{row}
use denote.Enum.Declared.{row as rowᵉ}
use lib.ListN.{length, get_or}
use borrow.Author.Rules.{rules}
use Rattle.wing_node.specs.Signed.{InBits}
use Rattle.wing_wire.specs.State.{body_limit, state_of}
use Rattle.wing_wire.specs.Range.{AreBytes, no_bytes, byte_then, PendingByte, no_pending, pending_byte, NumberIn}
use Rattle.wing_saved.specs.Saved.{CountIn, Typed}
use Rattle.wing_wire.specs.declared.state.Token.{Token}
use Rattle.wing_wire.specs.declared.state.Token.TheVariants.{Between, Number, String, Body}
use Rattle.wing_wire.specs.declared.state.Control.{Control}
use Rattle.wing_wire.specs.declared.state.State.{State}
use Rattle.std.specs.contracts.option.Option as options
use denote.Builtin.{u8}
use Rattle.wing_wire.specs.contracts.state.Token as tokens
use Rattle.wing_wire.specs.contracts.state.Control as controls
use Rattle.wing_wire.specs.contracts.state.State as states
use Rattle.std.specs.Prelude.{Option, ℕ, None, Some}

pending-typed : (p : Option ℕ) (vs : List Val) → Is (rowᵉ (options.the_type u8)) p vs → PendingByte p
pending-typed None vs r = no_pending
pending-typed (Some b) vs r = pending_byte r.1.1.1.1.0.1

number-typed : (t : Token) (vs : List Val) → Is (rowᵉ tokens.the_type) t vs → NumberIn t
number-typed Between vs r = tt
number-typed (Number class left value) vs r = r.1.1.1.1.1.1.0.1
number-typed (String want left) vs r = tt
number-typed (Body stored want left) vs r = tt

count-typed : (t : Token) (vs : List Val) → Is (rowᵉ tokens.the_type) t vs → CountIn t
count-typed Between vs r = tt
count-typed (Number class left value) vs r = tt
count-typed (String want left) vs r = tt
count-typed (Body stored want left) vs r = r.1.1.1.1.1.0.1

-- a list whose elements are bytes at every place
pub are-bytes : (s : List ℕ) → ((i : ℕ) → get_or s i 0 < 256) → AreBytes s
are-bytes [] h = no_bytes
are-bytes (b ∷ s) h = byte_then (h 0) (are-bytes s (λ i. h (suc i)))

-- what the types of the code say of a control
record Controlled (c : Control) : Type 0 where
  pending : PendingByte c.escape.pending
  node : InBits 31 c.node
  number : NumberIn c.token
  count : CountIn c.token

control-typed : (c : Control) (vs : List Val) → Is (row controls.the_type) c vs → Controlled c
control-typed c vs r = record {
  pending = pending-typed c.escape.pending _ r.1.1.0.1.1.1.1.0;
  node = search rules;
  number = number-typed c.token _ r.1.1.1.1.0;
  count = count-typed c.token _ r.1.1.1.1.0;
}

-- a control that the code has and a store of bytes are a state in the range of their types
pub parts_typed : (c : Control) (vs : List Val) → Is (row controls.the_type) c vs → {store : List ℕ} → AreBytes store → length store ≡ body_limit →
    Typed (state_of c store)
parts_typed c vs r are l =
    let k = control-typed c vs r in
    record {
      range = record { pending = k.pending; node = k.node; number = k.number; store = record { size = l; bytes = are } };
      count = k.count;
    }

module _ (s : State) (vs : List Val) (r : Is (row states.the_type) s vs) where
  byte_at : (i : ℕ) → Fits w8 (get_or s.store i 0)
  byte_at i = search rules

  -- and so is a state that the code has
  pub state-typed : Typed s
  state-typed = parts_typed s.control _ r.1.1.0 (are-bytes s.store (λ i. (byte_at i).fits)) (search rules)

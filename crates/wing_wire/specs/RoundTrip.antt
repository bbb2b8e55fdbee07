-- Demand 2: each accepted set order, read back, gives its node and value.
use Rattle.std.specs.Prelude.{ℕ, ◌≤◌, ◌<◌, true, false, ◌≡◌, List, [], ◌∷◌, ℤ, length, None}
use Rattle.wing_node.specs.Bytes.{joined}
use Rattle.wing_node.specs.Signed.{InBits}
use Rattle.wing_node.specs.Utf8.{utf8}
use Rattle.wing_node.specs.Value.{NodeValue, integer, float, string}
use Rattle.wing_wire.specs.Command.{set_bytes}
use Rattle.wing_wire.specs.State.{body_limit, escape, control, sound_state}
use Rattle.wing_wire.specs.Stream.{Fed, feed_of}
use Rattle.wing_wire.specs.Reader.{Event, value, event_of, next_of, event_in}
use Rattle.wing_wire.specs.declared.state.Token.TheVariants.{Between}
use Rattle.wing_wire.specs.declared.state.State.{State}

-- what a set order can hold: every i32, all 2^32 float bits, every UTF-8 string of 0 to 256 bytes
abbrev pub Settable : NodeValue → Type 0
Settable (integer x) = InBits 31 x
Settable (float bits) = bits < 0x100000000
Settable (string t) = (length t ≤ 256) × (utf8 t ≡ true)

-- a state that is unescaped, between tokens and with nothing pending, on any channel, at any node
abbrev pub rest_state : ℤ → ℤ → List ℕ → State
rest_state ch node s = record { control = control (escape false ch None) node Between; store = s }

-- what reading a set order gives: that value, all bytes taken, and such a state again, at that node and on the same channel
pub record Returned (ch node id : ℤ) (s : List ℕ) (v : NodeValue) : Type 0 where
  pub event : event_in (next_of (rest_state ch node s) (set_bytes id v)) ≡ value v
  pub taken : (next_of (rest_state ch node s) (set_bytes id v)).taken ≡ length (set_bytes id v)
  pub state : (next_of (rest_state ch node s) (set_bytes id v)).state ≡ rest_state ch id s

-- for every node and every value that a set order holds, from every sound state that is unescaped, between tokens and with nothing
-- pending, on any channel and at any node. A store has 4,096 bytes
abbrev pub RoundTrip : Type 0
RoundTrip = (ch node id : ℤ) (s : List ℕ) (v : NodeValue) → InBits 31 id → Settable v → length s ≡ body_limit → sound_state (rest_state ch node s) ≡ true → Returned ch node id s v

-- such a state, with what a handler has made so far
abbrev pub fed_rest : {M : Type 0} → ℤ → ℤ → List ℕ → M → Fed M
fed_rest ch node s m = record { control = (rest_state ch node s).control; store = s; memo = m }

-- for a handler of events
module _ {M : Type 0} (h : ℤ → Event → M → M) where
  -- feeds one after the other
  abbrev pub feeds : Fed M → List (List ℕ) → Fed M
  feeds x [] = x
  feeds x (p ∷ ps) = feeds (feed_of (λ node a s m. h node (event_of a s s) m) x p) ps

  -- the same for the bytes arriving in any pieces: the value is handed on once, at its node
  abbrev pub RoundTripPieces : Type 0
  RoundTripPieces = (ch node id : ℤ) (s : List ℕ) (v : NodeValue) (m : M) (ps : List (List ℕ)) → InBits 31 id → Settable v → length s ≡ body_limit →
      sound_state (rest_state ch node s) ≡ true → joined ps ≡ set_bytes id v → feeds (fed_rest ch node s m) ps ≡ fed_rest ch id s (h id (value v) m)

-- The receiving state: the fresh one, and which are sound.
use Rattle.std.specs.Prelude.{ℕ, ◌-◌, ◌^◌, Bool, true, false, List, [], ◌∷◌, ltb, leb, eqb, ℤ, pos, negsuc, drop, replicate, Option, None, Some}
use Rattle.std.specs.Int.Signed.{le_z}
use Rattle.wing_node.specs.Bool.{if, and}
use Rattle.wing_wire.specs.Token.{width_of}
use Rattle.wing_wire.specs.declared.token.Class.{Class}
use Rattle.wing_wire.specs.declared.state.Escape.{Escape}
use Rattle.wing_wire.specs.declared.state.Token.{Token}
use Rattle.wing_wire.specs.declared.state.Token.TheVariants.{Between, Number, String, Body}
use Rattle.wing_wire.specs.declared.state.Control.{Control}
use Rattle.wing_wire.specs.declared.state.State.{State}

-- 01: a definition's count is at most 4,096; the store and the array of a body have as many bytes
abbrev pub body_limit : ℕ
body_limit = 4096

-- escapes by their parts
abbrev pub escape : Bool → ℤ → Option ℕ → Escape
escape escaped channel pending = record { escaped = escaped; channel = channel; pending = pending }

-- a control by its parts
abbrev pub control : Escape → ℤ → Token → Control
control e node token = record { escape = e; node = node; token = token }

-- a state by its parts
abbrev pub state_of : Control → List ℕ → State
state_of c s = record { control = c; store = s }

-- 01: a fresh state is unescaped, channel −1, nothing pending, current node 0, between tokens
abbrev pub fresh_control : Control
fresh_control = control (escape false (negsuc 0) None) (pos 0) Between

-- 01: a fresh state; no unit is stored
unfoldable pub fresh_state : State
fresh_state = record { control = fresh_control; store = replicate body_limit 0 }

-- all of the bytes are 0
unfoldable pub zeros : List ℕ → Bool
zeros [] = true
zeros (b ∷ s) = and (eqb b 0) (zeros s)

-- 01: a pending byte only when unescaped with channel at least 0
unfoldable pub sound_pending : Option ℕ → Escape → Bool
sound_pending None e = true
sound_pending (Some b) e = and (if e.escaped false true) (le_z (pos 0) e.channel)

-- 01: channel −1 to 13
unfoldable pub sound_escape : Escape → Bool
sound_escape e = and (and (le_z (negsuc 0) e.channel) (le_z e.channel (pos 13))) (sound_pending e.pending e)

-- 01: fewer units collected than its token wants
unfoldable pub underway : ℕ → ℕ → Bool
underway left want = and (leb 1 left) (leb left want)

-- below 256 to the units collected
unfoldable pub sound_number : Class → ℕ → ℕ → Bool
sound_number class left value = and (underway left (width_of class)) (ltb value (256 ^ (width_of class - left)))

-- a string wants 1 to 256 units
unfoldable pub sound_string : ℕ → ℕ → Bool
sound_string want left = and (underway left want) (leb want 256)

-- 01: no more bytes stored than units collected; none stored for a body whose count is over 4,096
unfoldable pub sound_body : ℕ → ℕ → ℕ → Bool
sound_body want left stored = and (underway left want) (if (leb want body_limit) (leb stored (want - left)) (eqb stored 0))

-- 01: fewer units collected than wanted, no more stored than collected
unfoldable pub sound_counts : Token → Bool
sound_counts Between = true
sound_counts (Number class left value) = sound_number class left value
sound_counts (String want left) = sound_string want left
sound_counts (Body stored want left) = sound_body want left stored

-- 01: a string's stored bytes exactly as many as its string units collected
unfoldable pub stored_by : Token → ℕ
stored_by Between = 0
stored_by (Number class left value) = 0
stored_by (String want left) = want - left
stored_by (Body stored want left) = stored

-- 01: unused store bytes 0
unfoldable pub sound_token : Token → List ℕ → Bool
sound_token token store = and (sound_counts token) (zeros (drop (stored_by token) store))

-- 01: the states that a caller may hand back; any other gets 8
unfoldable pub sound_state : State → Bool
sound_state s = and (sound_escape s.control.escape) (sound_token s.control.token s.store)

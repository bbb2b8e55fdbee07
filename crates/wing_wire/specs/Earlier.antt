-- 02, Job 4: a decoder state as it was before, which of them were sound, and carrying one over.
use Rattle.std.specs.Prelude.{ℕ, ◌-◌, Bool, true, false, List, ltb, ℤ, pos, negsuc, drop, replicate, None}
use Rattle.wing_node.specs.Bool.{if, and}
use Rattle.wing_node.specs.Result.{Result, ok, refused}
use Rattle.wing_wire.specs.State.{body_limit, escape, control, state_of, zeros, sound_escape, sound_number, sound_string, sound_body}
use Rattle.wing_wire.specs.declared.token.Class.{Class}
use Rattle.wing_wire.specs.declared.token.Class.TheVariants.{NoEvent, Integer, String as AString, Length, Int16, Int32, Float, Node, End, Count, LongCount}
use Rattle.wing_wire.specs.declared.state.Escape.{Escape}
use Rattle.wing_wire.specs.declared.state.Token.{Token}
use Rattle.wing_wire.specs.declared.state.Token.TheVariants.{Between as between, Number as number, String as string, Body as body}
use Rattle.wing_wire.specs.declared.state.State.{State}
use Rattle.wing_wire.specs.declared.earlier.Token.{Token as EarlierToken}
use Rattle.wing_wire.specs.declared.earlier.Token.TheVariants.{Between, Number, String, Body}
use Rattle.wing_wire.specs.declared.earlier.Control.{Control as EarlierControl}
use Rattle.wing_wire.specs.declared.earlier.State.{State as EarlierState}
use Rattle.wing_node.specs.declared.refusal.Refusal.TheVariants.{StateUnsound}

-- ---- as it was

-- a control by its parts
abbrev pub earlier_control : Escape → ℤ → EarlierToken → EarlierControl
earlier_control e node token = record { escape = e; node = node; token = token }

-- a state by its parts
abbrev pub earlier_state : EarlierControl → List ℕ → EarlierState
earlier_state c s = record { control = c; store = s }

-- 01: a fresh state is unescaped, channel −1, nothing pending, current node 0, between tokens
abbrev pub earlier_fresh : EarlierState
earlier_fresh = earlier_state (earlier_control (escape false (negsuc 0) None) (pos 0) Between) (replicate body_limit 0)

-- 01: fewer units collected than wanted, no more stored than collected
unfoldable pub earlier_counts : EarlierToken → Bool
earlier_counts Between = true
earlier_counts (Number class left value) = sound_number class left value
earlier_counts (String want left) = sound_string want left
earlier_counts (Body want left stored) = sound_body want left stored

-- 01: a string's stored bytes exactly as many as its string units collected
unfoldable pub earlier_stored : EarlierToken → ℕ
earlier_stored Between = 0
earlier_stored (Number class left value) = 0
earlier_stored (String want left) = want - left
earlier_stored (Body want left stored) = stored

-- 01: the states that were sound; unused store bytes 0
unfoldable pub earlier_sound : EarlierState → Bool
earlier_sound s =
    let t = s.control.token in
    and (sound_escape s.control.escape) (and (earlier_counts t) (zeros (drop (earlier_stored t) s.store)))

-- ---- carried over

-- whether a class is that of the units after a count 0
unfoldable pub is_long_count : Class → Bool
is_long_count NoEvent = false
is_long_count Integer = false
is_long_count AString = false
is_long_count Length = false
is_long_count Int16 = false
is_long_count Int32 = false
is_long_count Float = false
is_long_count Node = false
is_long_count End = false
is_long_count Count = false
is_long_count LongCount = true

-- 02: one that has taken any of the four units after count 0
unfoldable pub is_started : EarlierToken → Bool
is_started Between = false
is_started (Number class left value) = if (is_long_count class) (ltb left 4) false
is_started (String want left) = false
is_started (Body want left stored) = false

-- 02: the same units left, and all else the same
unfoldable pub carried_token : EarlierToken → Token
carried_token Between = between
carried_token (Number class left value) = number class left value
carried_token (String want left) = string want left
carried_token (Body want left stored) = body stored want left

-- 02: the same stored bytes, and all else the same
abbrev pub carried : EarlierState → State
carried s = state_of (control s.control.escape s.control.node (carried_token s.control.token)) s.store

-- 02: an old sound state is carried over; one that has taken any of the four units after count 0, or isn't sound, gets 8
unfoldable pub carry_of : EarlierState → Result State
carry_of s = if (is_started s.control.token) (refused StateUnsound) (if (earlier_sound s) (ok (carried s)) (refused StateUnsound))

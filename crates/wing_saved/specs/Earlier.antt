-- States saved under version 1 (02, Job 4): what such bytes say, and what they are loaded as.
use Rattle.std.specs.Prelude.{ℕ, ◌%◌, ◌^◌, ◌<◌, Bool, true, ◌≡◌, List, ◌++◌, ltb, drop}
use Rattle.wing_node.specs.declared.refusal.Refusal.{Refusal}
use Rattle.wing_node.specs.Bool.{if, and}
use Rattle.wing_node.specs.Result.{Result, ok, refused}
use Rattle.wing_wire.specs.Range.{AreBytes, InRange}
use Rattle.wing_wire.specs.Earlier.{earlier_control, earlier_state, earlier_sound, carried, carry_of}
use Rattle.wing_wire.specs.declared.state.Token.{Token}
use Rattle.wing_wire.specs.declared.state.Token.TheVariants.{Between, Number, String, Body}
use Rattle.wing_wire.specs.declared.state.Control.{Control}
use Rattle.wing_wire.specs.declared.state.State.{State}
use Rattle.wing_wire.specs.declared.earlier.Token.{Token as EarlierToken}
use Rattle.wing_wire.specs.declared.earlier.Token.TheVariants.{Between as between, Number as number, String as string, Body as body}
use Rattle.wing_wire.specs.declared.earlier.State.{State as EarlierState}
use Rattle.wing_saved.specs.Saved.{head_under, head_from_under}
use Rattle.wing_node.specs.declared.refusal.Refusal.TheVariants.{StateUnsound}

-- the version before 02's Job 4
abbrev pub earlier_version : ℕ
earlier_version = 1

-- an old state as bytes: the same fields under version 1, then the store
abbrev pub earlier_bytes : EarlierState → List ℕ
earlier_bytes s = head_under earlier_version (carried s).control ++ s.store

-- ---- what bytes say

-- a body's counts had 16 bits
unfoldable pub is_narrow : Token → Bool
is_narrow Between = true
is_narrow (Number class left value) = true
is_narrow (String want left) = true
is_narrow (Body stored want left) = and (ltb want 0x10000) (ltb left 0x10000)

-- the token as it was; the remainders keep a body's counts in 16 bits
unfoldable pub narrowed : Token → EarlierToken
narrowed Between = between
narrowed (Number class left value) = number class left value
narrowed (String want left) = string want left
narrowed (Body stored want left) = body (want % 0x10000) (left % 0x10000) stored

-- the old state of a control that the fields say and of the store after them; 8 for counts that had no room
unfoldable pub earlier_with : Result Control → List ℕ → Result EarlierState
earlier_with (ok c) bytes =
    if (is_narrow c.token) (ok (earlier_state (earlier_control c.escape c.node (narrowed c.token)) (drop 27 bytes))) (refused StateUnsound)
earlier_with (refused why) bytes = refused why

-- the old state that bytes say, sound or not, if they are as many as a state's and begin with its fields under version 1; else 8
unfoldable pub earlier_from : List ℕ → Result EarlierState
earlier_from bytes = earlier_with (head_from_under earlier_version bytes) bytes

-- 02: carried over, or 8
unfoldable pub carried_from : Result EarlierState → Result State
carried_from (ok s) = carry_of s
carried_from (refused why) = refused why

-- what bytes of version 1 are loaded as
unfoldable pub load_earlier_of : List ℕ → Result State
load_earlier_of bytes = carried_from (earlier_from bytes)

-- ---- what holds of them

-- a body's counts in 16 bits
abbrev pub CountsIn : EarlierToken → Type 0
CountsIn between = Unit {0}
CountsIn (number class left value) = Unit {0}
CountsIn (string want left) = Unit {0}
CountsIn (body want left stored) = want < 2 ^ 16

-- what the types of the code say of an old state
pub record EarlierTyped (s : EarlierState) : Type 0 where
  pub range : InRange (carried s).control s.store
  pub counts : CountsIn s.control.token

-- these are the bytes of that old state, and it was sound
pub record EarlierSaves (bytes : List ℕ) (s : EarlierState) : Type 0 where
  pub typed : EarlierTyped s
  pub sound : earlier_sound s ≡ true
  pub laid : earlier_bytes s ≡ bytes

-- an old state whose bytes these are, and that it is carried over as t
pub record CarriedSaves (bytes : List ℕ) (t : State) : Type 0 where
  pub earlier : EarlierState
  pub saves : EarlierSaves bytes earlier
  pub over : carry_of earlier ≡ ok t

-- what a user of the call may rely on besides the contract
pub record EarlierLaws : Type 0 where
  -- an old state's bytes are loaded as it is carried over
  pub back : (bytes : List ℕ) (s : EarlierState) → EarlierSaves bytes s → carried_from (earlier_from bytes) ≡ carry_of s
  -- bytes that are loaded are those of an old sound state, and it is carried over as what they are loaded as
  pub again : (bytes : List ℕ) (t : State) → AreBytes bytes → carried_from (earlier_from bytes) ≡ ok t → CarriedSaves bytes t
  -- no other number than 8
  pub refusal : (bytes : List ℕ) (why : Refusal) → carried_from (earlier_from bytes) ≡ refused why → why ≡ StateUnsound

-- A decoder state as plain bytes: the form, what bytes say by it, and which bytes are a sound state's.
use Rattle.std.specs.Prelude.{ℕ, ◌%◌, ◌^◌, ◌<◌, Bool, true, false, ◌≡◌, List, [], ◌∷◌, ◌++◌, eqb, length, drop, get_or, Ok, Err, Option, None, Some}
use Rattle.wing_node.specs.declared.refusal.Refusal.{Refusal}
use Rattle.wing_node.specs.Bool.{if, and}
use Rattle.wing_node.specs.Result.{Result, ok, refused}
use Rattle.wing_node.specs.Field.{bytes_of, field_at}
use Rattle.wing_node.specs.Signed.{signed, unsigned}
use Rattle.wing_wire.specs.Token.{classes, class_number}
use Rattle.wing_wire.specs.State.{body_limit, escape, control, state_of, sound_state}
use Rattle.wing_wire.specs.Write.{WriteEffect, write_effect, write_of}
use Rattle.wing_wire.specs.Range.{AreBytes, InRange}
use Rattle.wing_wire.specs.declared.token.Class.{Class}
use Rattle.wing_wire.specs.declared.token.Class.TheVariants.{NoEvent, LongCount}
use Rattle.wing_wire.specs.declared.state.Token.{Token}
use Rattle.wing_wire.specs.declared.state.Token.TheVariants.{Between, Number, String, Body}
use Rattle.wing_wire.specs.declared.state.Control.{Control}
use Rattle.wing_wire.specs.declared.state.State.{State}
use Rattle.wing_saved.specs.declared.TokenFields.{TokenFields}
use Rattle.wing_node.specs.declared.refusal.Refusal.TheVariants.{StateUnsound}

-- ---- the form

-- the version of the form, its first byte; 1 was before 02's Job 4 (specs/Earlier)
abbrev pub version : ℕ
version = 2

-- 1 for yes, 0 for no
abbrev pub flag : Bool → ℕ
flag b = if b 1 0

-- whether a byte is pending
unfoldable pub pending_flag : Option ℕ → ℕ
pending_flag None = 0
pending_flag (Some b) = 1

-- the pending byte, 0 where none is
unfoldable pub pending_byte_of : Option ℕ → ℕ
pending_byte_of None = 0
pending_byte_of (Some b) = b

-- a token by numbers: its kind (0 between, 1 number, 2 string, 3 body), the class of a number, the units wanted and left, the bytes stored,
-- the value so far
abbrev pub token_fields : ℕ → ℕ → ℕ → ℕ → ℕ → ℕ → TokenFields
token_fields kind class want left stored value =
    record { kind = kind; class = class; want = want; left = left; stored = stored; value = value }

-- the numbers of a token, 0 for what it has not
unfoldable pub fields_of : Token → TokenFields
fields_of Between = token_fields 0 0 0 0 0 0
fields_of (Number class left value) = token_fields 1 (class_number class) 0 left 0 value
fields_of (String want left) = token_fields 2 0 want left 0 0
fields_of (Body stored want left) = token_fields 3 0 want left stored 0

-- the fields before the store under a version, 27 bytes: version, escaped, channel, whether a byte is pending and which (a byte each), the node (four bytes),
-- the token's kind and class (a byte each), the units wanted and left, the bytes stored and the value (four bytes each)
unfoldable pub head_under : ℕ → Control → List ℕ
head_under v c =
    let e = c.escape in
    let k = fields_of c.token in
    v ∷ flag e.escaped ∷ unsigned 7 e.channel ∷ pending_flag e.pending ∷ pending_byte_of e.pending ∷
    (bytes_of 4 (unsigned 31 c.node) ++ (k.kind ∷ k.class ∷
    (bytes_of 4 k.want ++ (bytes_of 4 k.left ++ (bytes_of 4 k.stored ++ bytes_of 4 k.value)))))

-- under the form's own version
abbrev pub head_bytes : Control → List ℕ
head_bytes c = head_under version c

-- a state as bytes: the fields, then the store
unfoldable pub state_bytes : State → List ℕ
state_bytes s = head_bytes s.control ++ s.store

-- how many these are
abbrev pub saved_size : ℕ
saved_size = 4123

-- ---- what bytes say by the form

-- the pending byte
unfoldable pub pending_in : ℕ → ℕ → Option ℕ
pending_in mark b = if (eqb mark 1) (Some b) None

-- the class of that number
unfoldable pub class_in : ℕ → Class
class_in n = get_or (classes ++ (LongCount ∷ [])) n NoEvent

-- the token of these numbers. The counts of a number and of a string have 16 bits
unfoldable pub token_in : TokenFields → Token
token_in k =
    if (eqb k.kind 1) (Number (class_in k.class) (k.left % 0x10000) k.value)
    (if (eqb k.kind 2) (String (k.want % 0x10000) (k.left % 0x10000))
    (if (eqb k.kind 3) (Body k.stored k.want k.left) Between))

-- the numbers at their places. What is stored has 16 bits, the last two of its four bytes
unfoldable pub fields_in : List ℕ → TokenFields
fields_in s = token_fields (get_or s 9 0) (get_or s 10 0) (field_at 4 s 11) (field_at 4 s 15) (field_at 2 s 21) (field_at 4 s 23)

-- the control
unfoldable pub control_in : List ℕ → Control
control_in s =
    control (escape (eqb (get_or s 1 0) 1) (signed 7 (get_or s 2 0)) (pending_in (get_or s 3 0) (get_or s 4 0))) (signed 31 (field_at 4 s 5))
    (token_in (fields_in s))

-- s begins with these bytes
unfoldable pub begins : List ℕ → List ℕ → Bool
begins [] s = true
begins (a ∷ front) [] = false
begins (a ∷ front) (b ∷ s) = and (eqb b a) (begins front s)

-- a state if it is sound, else 8
unfoldable pub sound_only : State → Result State
sound_only s = if (sound_state s) (ok s) (refused StateUnsound)

-- the control that bytes say, if they are as many as a state's and begin with its fields under that version; else 8
unfoldable pub head_from_under : ℕ → List ℕ → Result Control
head_from_under v bytes =
    if (eqb (length bytes) saved_size) (if (begins (head_under v (control_in bytes)) bytes) (ok (control_in bytes)) (refused StateUnsound)) (refused StateUnsound)

-- under the form's own version
abbrev pub head_from : List ℕ → Result Control
head_from bytes = head_from_under version bytes

-- that control and the store after its fields, if they are a sound state
unfoldable pub state_with : Result Control → List ℕ → Result State
state_with (ok c) bytes = sound_only (state_of c (drop 27 bytes))
state_with (refused why) bytes = refused why

-- the state that bytes say, if they are as many as a state's, begin with its fields and it is sound; else 8
unfoldable pub state_from : List ℕ → Result State
state_from bytes = state_with (head_from bytes) bytes

-- ---- the calls

-- 8 for a state that is not sound; else its bytes, or 9
unfoldable pub save_of : State → List ℕ → WriteEffect
save_of s out = if (sound_state s) (write_of (state_bytes s) out) (write_effect (Err StateUnsound) out)

-- ---- what holds of them

-- a body's count has 32 bits
abbrev pub CountIn : Token → Type 0
CountIn Between = Unit {0}
CountIn (Number class left value) = Unit {0}
CountIn (String want left) = Unit {0}
CountIn (Body stored want left) = want < 2 ^ 32

-- what the types of the code say of a state
pub record Typed (s : State) : Type 0 where
  pub range : InRange s.control s.store
  pub count : CountIn s.control.token

-- these are the bytes of that state, and it is sound
pub record Saves (bytes : List ℕ) (s : State) : Type 0 where
  pub typed : Typed s
  pub sound : sound_state s ≡ true
  pub laid : state_bytes s ≡ bytes

-- a state that bytes read as is sound, and both have their whole size
pub record LoadedSound (bytes : List ℕ) (s : State) : Type 0 where
  pub sound : sound_state s ≡ true
  pub size : length bytes ≡ saved_size
  pub store : length s.store ≡ body_limit

-- bytes that begin with a control's fields are these and a store, and read as the state of both if it is sound
pub record HeadOf (bytes : List ℕ) (c : Control) : Type 0 where
  pub size : length bytes ≡ saved_size
  pub laid : state_bytes (state_of c (drop 27 bytes)) ≡ bytes
  pub state : state_from bytes ≡ sound_only (state_of c (drop 27 bytes))

-- what a user of the calls may rely on besides the contracts
pub record SavedLaws : Type 0 where
  -- every state has as many bytes
  pub size : (s : State) → length s.store ≡ body_limit → length (state_bytes s) ≡ saved_size
  -- a state's bytes read back as that state
  pub back : (bytes : List ℕ) (s : State) → Saves bytes s → state_from bytes ≡ ok s
  -- bytes that read as a state are its bytes
  pub again : (bytes : List ℕ) (s : State) → AreBytes bytes → state_from bytes ≡ ok s → Saves bytes s
  -- no other number than 8
  pub refusal : (bytes : List ℕ) (why : Refusal) → state_from bytes ≡ refused why → why ≡ StateUnsound
  -- whatever numbers they are, what reads as a state reads as a sound one
  pub loaded : (bytes : List ℕ) (s : State) → state_from bytes ≡ ok s → LoadedSound bytes s
  -- a sound state fills an output of the size, whatever stood in it
  pub kept : (s : State) (out : List ℕ) → sound_state s ≡ true → length s.store ≡ body_limit → length out ≡ saved_size →
      save_of s out ≡ write_effect (Ok saved_size) (state_bytes s)
  -- the head of bytes, whether or not the state is sound
  pub head : (bytes : List ℕ) (c : Control) → head_from bytes ≡ ok c → HeadOf bytes c
  -- bytes without a head are no state's
  pub headless : (bytes : List ℕ) (why : Refusal) → head_from bytes ≡ refused why → state_from bytes ≡ refused why

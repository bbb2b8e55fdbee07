-- What every state of the code meets by its types, as that its bytes are below 256; and what every answer meets.
use Rattle.std.specs.Prelude.{ℕ, ◌^◌, ◌<◌, ◌≤◌, true, ◌≡◌, List, [], ◌∷◌, length, take, Option, None, Some}
use Rattle.wing_node.specs.Signed.{InBits}
use Rattle.wing_node.specs.Utf8.{utf8}
use Rattle.wing_wire.specs.State.{body_limit}
use Rattle.wing_wire.specs.Stream.{StepEffect}
use Rattle.wing_wire.specs.declared.state.Token.{Token}
use Rattle.wing_wire.specs.declared.state.Token.TheVariants.{Between, Number, String as InString, Body as InBody}
use Rattle.wing_wire.specs.declared.state.Control.{Control}
use Rattle.wing_wire.specs.declared.unit.Answer.{Answer}
use Rattle.wing_wire.specs.declared.unit.Answer.TheVariants.{More, Integer, Float, String, Body, End, Refused}

-- each of the numbers is a byte
pub data AreBytes : List ℕ → Type 0 where
  no_bytes : AreBytes []
  byte_then : {b : ℕ} {bs : List ℕ} → b < 256 → AreBytes bs → AreBytes (b ∷ bs)

-- a pending byte is any byte
pub data PendingByte : Option ℕ → Type 0 where
  no_pending : PendingByte None
  pending_byte : {b : ℕ} → b < 256 → PendingByte (Some b)

-- 01: string (256 bytes) or body (4,096 bytes); strings are UTF-8
abbrev pub Within : Answer → List ℕ → Type 0
Within More s = Unit {0}
Within (Integer x) s = Unit {0}
Within (Float bits) s = Unit {0}
Within (String n) s = (n ≤ 256) × (utf8 (take n s) ≡ true)
Within (Body n) s = n ≤ body_limit
Within End s = Unit {0}
Within (Refused why) s = Unit {0}

-- the same of a token in progress: a string wants at most 256 units, and a body has stored at most 4,096
abbrev pub TokenWithin : Token → Type 0
TokenWithin Between = Unit {0}
TokenWithin (Number class left v) = Unit {0}
TokenWithin (InString want left) = want ≤ 256
TokenWithin (InBody stored want left) = stored ≤ body_limit

-- what a step leaves is within these bounds, and n bytes stand in the store
pub record StepEffectWithin (n : ℕ) (o : StepEffect) : Type 0 where
  pub token : TokenWithin o.answered.control.token
  pub within : Within o.answered.answer o.store
  pub size : length o.store ≡ n

-- a number in progress has 32 bits
abbrev pub NumberIn : Token → Type 0
NumberIn Between = Unit {0}
NumberIn (Number class left v) = v < 2 ^ 32
NumberIn (InString want left) = Unit {0}
NumberIn (InBody stored want left) = Unit {0}

-- a store is 4,096 bytes
pub record StoreIn (s : List ℕ) : Type 0 where
  pub size : length s ≡ body_limit
  pub bytes : AreBytes s

-- what the types say of a control and a store: the pending byte is a byte, the current node and a number in progress have 32 bits
pub record InRange (c : Control) (s : List ℕ) : Type 0 where
  pub pending : PendingByte c.escape.pending
  pub node : InBits 31 c.node
  pub number : NumberIn c.token
  pub store : StoreIn s

-- 01: d3, d4: signed 16, 32 bits; d5, d6: 32 float bits
abbrev pub AnswerIn : Answer → Type 0
AnswerIn More = Unit {0}
AnswerIn (Integer x) = InBits 31 x
AnswerIn (Float bits) = bits < 2 ^ 32
AnswerIn (String n) = Unit {0}
AnswerIn (Body n) = Unit {0}
AnswerIn End = Unit {0}
AnswerIn (Refused why) = Unit {0}

-- How the code takes bytes up to an answer: unit by unit, and fast through the plain bytes inside a number or a string.
-- proofs/Reading/Plains.antt: this is advance_of.
use Rattle.std.specs.Prelude.{ℕ, ◌+◌, ◌-◌, Bool, true, false, not, List, [], ◌∷◌, ltb, leb, eqb, drop, set, Option, None, Some}
use Rattle.wing_node.specs.Bool.{if}
use Rattle.wing_wire.specs.State.{control}
use Rattle.wing_wire.specs.Escape.{decode_next_of}
use Rattle.wing_wire.specs.Unit.{shift_in}
use Rattle.wing_wire.specs.Stream.{StepEffect, step_effect, no_answer, is_more, given_of}
use Rattle.wing_wire.specs.declared.token.Class.{Class}
use Rattle.wing_wire.specs.declared.state.Escape.{Escape}
use Rattle.wing_wire.specs.declared.state.Token.{Token}
use Rattle.wing_wire.specs.declared.state.Token.TheVariants.{Between, Number, String, Body}
use Rattle.wing_wire.specs.declared.state.Control.{Control}
use Rattle.wing_wire.specs.declared.escape.Unit.{Unit}
use Rattle.wing_wire.specs.declared.escape.Unit.TheVariants.{Nothing, Bare, Appended}
use Rattle.wing_wire.specs.declared.stream.Answered.{Answered}
use Rattle.wing_wire.specs.declared.stream.TokenAt.{TokenAt}
use Rattle.wing_wire.specs.declared.stream.Stepped.{Stepped}

-- whether a byte is pending
abbrev pub is_pending : Option ℕ → Bool
is_pending None = false
is_pending (Some u) = true

-- whether a byte gave no unit
abbrev pub is_nothing : Unit → Bool
is_nothing Nothing = true
is_nothing (Bare u) = false
is_nothing (Appended u) = false

-- whether a unit is appended to a body
abbrev pub is_appended : Unit → Bool
is_appended Nothing = false
is_appended (Bare u) = false
is_appended (Appended u) = true

-- a unit's value, 0 for none
abbrev pub value_of : Unit → ℕ
value_of Nothing = 0
value_of (Bare u) = u
value_of (Appended u) = u

-- a plain byte that is a unit, and not the last
unfoldable pub is_inner : ℕ → ℕ → Bool
is_inner left b = if (leb left 1) false (not (eqb b 0xdf))

-- a token and the place reached
abbrev pub token_at : Token → ℕ → TokenAt
token_at t n = record { token = t; at = n }

-- the inner units of a number, from the bytes at n
unfoldable pub number_ahead : Class → ℕ → ℕ → ℕ → List ℕ → TokenAt
number_ahead class left v n [] = token_at (Number class left v) n
number_ahead class left v n (b ∷ bs) =
    if (is_inner left b) (number_ahead class (left - 1) (shift_in v b) (n + 1) bs) (token_at (Number class left v) n)

-- the token, the place and the store after inner units
pub record AheadEffect : Type 0 where
  pub ahead : TokenAt
  pub store : List ℕ

-- the same with the store
abbrev pub ahead_effect : TokenAt → List ℕ → AheadEffect
ahead_effect a s = record { ahead = a; store = s }

-- the inner units of a string, from the bytes at n
unfoldable pub string_ahead : ℕ → ℕ → List ℕ → ℕ → List ℕ → AheadEffect
string_ahead want left s n [] = ahead_effect (token_at (String want left) n) s
string_ahead want left s n (b ∷ bs) =
    if (is_inner left b) (string_ahead want (left - 1) (set s (want - left) b) (n + 1) bs) (ahead_effect (token_at (String want left) n) s)

-- the inner units of a number or a string, as far as they go without an escape
unfoldable pub token_ahead : Token → List ℕ → ℕ → List ℕ → AheadEffect
token_ahead Between s n bs = ahead_effect (token_at Between n) s
token_ahead (Number class left v) s n bs = ahead_effect (number_ahead class left v n bs) s
token_ahead (String want left) s n bs = string_ahead want left s n bs
token_ahead (Body stored want left) s n bs = ahead_effect (token_at (Body stored want left) n) s

-- unescaped, and nothing pending
abbrev pub is_plain : Escape → Bool
is_plain e = if e.escaped false (not (is_pending e.pending))

-- no answer yet, and nothing escaped or pending
abbrev pub is_free : Answered → Bool
is_free t = if (is_more t.answer) (is_plain t.control.escape) false

-- what a step leaves, and the place of the byte after it
pub record SteppedEffect : Type 0 where
  pub effect : StepEffect
  pub at : ℕ

-- the same by its parts
abbrev pub stepped_effect : StepEffect → ℕ → SteppedEffect
stepped_effect h n = record { effect = h; at = n }

-- the same of one unit
abbrev pub stepped : Stepped → List ℕ → SteppedEffect
stepped r s = stepped_effect (step_effect r.answered s) r.at

-- the control and the store after such a run
unfoldable pub ahead_of : Control → List ℕ → ℕ → List ℕ → SteppedEffect
ahead_of c s n bs =
    stepped_effect (no_answer (control c.escape c.node (token_ahead c.token s n bs).ahead.token) (token_ahead c.token s n bs).store)
    (token_ahead c.token s n bs).ahead.at

-- the inner units, where nothing is escaped or pending
unfoldable pub on_ahead : StepEffect → List ℕ → ℕ → SteppedEffect
on_ahead h bytes n = if (is_free h.answered) (ahead_of h.answered.control h.store n (drop n bytes)) (stepped_effect h n)

-- one unit, and the inner units after it
unfoldable pub once_of : Control → List ℕ → List ℕ → ℕ → SteppedEffect
once_of c s bytes n =
    on_ahead (given_of (decode_next_of c.escape bytes n).unit (decode_next_of c.escape bytes n).escape c s) bytes (decode_next_of c.escape bytes n).at

-- no answer yet, and a byte is left or pending
abbrev pub is_on : Answered → ℕ → ℕ → Bool
is_on t n end = if (is_more t.answer) (if (ltb n end) true (is_pending t.control.escape.pending)) false

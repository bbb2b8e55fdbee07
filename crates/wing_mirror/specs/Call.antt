-- 01: a history is a list of feed and set calls, refused ones included.
use Rattle.std.specs.Prelude.{ℕ, Bool, false, not, List, [], ◌∷◌, leb, ℤ, length}
use Rattle.wing_node.specs.declared.refusal.Refusal.{Refusal}
use Rattle.wing_node.specs.Signed.{InBits}
use Rattle.wing_node.specs.Utf8.{utf8}
use Rattle.wing_node.specs.Value.{NodeValue, integer, float, string}
use Rattle.wing_wire.specs.Range.{AreBytes}
use Rattle.wing_mirror.specs.Entry.{Typed}
use Rattle.wing_mirror.specs.declared.answer.Counts.{Counts}

-- a feed by its bytes; a set by its node, its value and the bytes that its output holds before
pub data Call : Type 0 where
  feed : List ℕ → Call
  set : ℤ → NodeValue → List ℕ → Call

-- 01: a string over 256 bytes
unfoldable pub too_long : NodeValue → Bool
too_long (integer x) = false
too_long (float bits) = false
too_long (string s) = not (leb (length s) 256)

-- the bytes of a string, none of a number
abbrev pub text_in : NodeValue → List ℕ
text_in (integer x) = []
text_in (float bits) = []
text_in (string s) = s

-- 01: a string that is not UTF-8
unfoldable pub not_text : NodeValue → Bool
not_text (integer x) = false
not_text (float bits) = false
not_text (string s) = not (utf8 s)

-- accepted with six counts, or with the bytes written; or refused
pub data Outcome : Type 0 where
  fed : Counts → Outcome
  sent : List ℕ → Outcome
  refused : Refusal → Outcome

-- what one call leaves, and how it came out
pub record Step (S : Type 0) : Type 0 where
  pub state : S
  pub outcome : Outcome

-- 01: a refused call changes nothing
abbrev pub refuse : {S : Type 0} → S → Refusal → Step S
refuse s why = record { state = s; outcome = refused why }

-- what all calls leave, and how each came out
pub record History (S : Type 0) : Type 0 where
  pub state : S
  pub outcomes : List Outcome

-- 01: each call gets what the one before returned or left
unfoldable pub run_all : {S : Type 0} → (S → Call → Step S) → S → List Call → History S
run_all step s [] = record { state = s; outcomes = [] }
run_all step s (c ∷ cs) =
    record { state = (run_all step (step s c).state cs).state; outcomes = (step s c).outcome ∷ (run_all step (step s c).state cs).outcomes }

-- arguments are in the range of their types: bytes below 256, ids and integers of 32 bits. No caller can fail it
abbrev pub TypedCall : Call → Type 0
TypedCall (feed bytes) = AreBytes bytes
TypedCall (set id v out) = InBits 31 id × Typed v

-- The refusals that the decoder answers: 1, 2 and 3, each with the token taken.
use Prim.Native.Nat.{ℕ, ◌+◌, ◌-◌, ◌%◌}
use mathlib.Core.Bool.{Bool, true, false}
use mathlib.Core.Path.{◌≡◌, refl, ap, subst}
use mathlib.Core.Logic.{◌⊎◌, inl, inr}
use mathlib.Core.List.{List}
use native.Mathlib.Omega.{arith}
use lib.Dec.{leb, eqb}
use lib.IntN.{ℤ}
use lib.ListN.{take, set}
use Rattle.wing_node.specs.Refusal.{good_beside, string_not_utf8}
use Rattle.wing_node.specs.declared.refusal.Refusal.TheVariants.{StringNotUtf8, BodyEmpty, BodyLong}
use Rattle.wing_node.specs.declared.refusal.Refusal.{Refusal}
use Rattle.wing_node.specs.Signed.{signed}
use Rattle.wing_node.specs.Utf8.{utf8}
use Rattle.wing_node.proofs.Branches.{branch}
use Rattle.wing_wire.specs.State.{body_limit}
use Rattle.wing_wire.specs.Token.{rule_of}
use Rattle.wing_wire.specs.Escape.{decode_of}
use Rattle.wing_wire.specs.Unit.{single_of, token_of, begin_of, count_of, long_count_of, number_of, shift_in, number_unit, UnitEffect, string_done, string_unit, keeps, body_done, body_next, body_unit, unit_of}
use Rattle.wing_wire.specs.Stream.{StepEffect, is_more, pending_of, settle_of, given_of, first_of, follow_of, step_of, advance_of}
use Rattle.wing_wire.specs.declared.token.Class.{Class}
use Rattle.wing_wire.specs.declared.token.Class.TheVariants.{NoEvent, Integer, String, Length, Int16, Int32, Float, Node, End, Count, LongCount}
use Rattle.wing_wire.specs.declared.state.Escape.{Escape}
use Rattle.wing_wire.specs.declared.state.Token.{Token}
use Rattle.wing_wire.specs.declared.state.Token.TheVariants.{Between, Number, String as InString, Body as InBody}
use Rattle.wing_wire.specs.declared.state.Control.{Control}
use Rattle.wing_wire.specs.declared.escape.Unit.{Unit as Unitʷ}
use Rattle.wing_wire.specs.declared.escape.Unit.TheVariants.{Nothing, Bare, Appended}
use Rattle.wing_wire.specs.declared.unit.Answer.{Answer}
use Rattle.wing_wire.specs.declared.unit.Answer.TheVariants.{More, Integer as an_integer, Float as a_float, String as a_string, Body as a_body, End as an_end, Refused}
use Rattle.wing_wire.specs.declared.unit.Taken.{Taken}
use Rattle.wing_wire.proofs.Reading.Runs.{run-keeps}
use Rattle.std.specs.Prelude.{Option, ℕ, None, Some}

-- 1 with its good, 2 and 3
abbrev pub Own : Refusal → Type 0
Own why = (why ≡ StringNotUtf8 (good_beside why)) ⊎ ((why ≡ BodyLong) ⊎ ((why ≡ BodyEmpty) ⊎ ⊥))

-- an answer and the token after it
abbrev Says : Answer → Token → Type 0
Says a t = (why : Refusal) → a ≡ Refused why → Own why × (t ≡ Between)

abbrev SaysTaken : Taken → Type 0
SaysTaken t = Says t.answer t.token

abbrev SaysUnitEffect : UnitEffect → Type 0
SaysUnitEffect o = SaysTaken o.taken

abbrev pub SaysStepEffect : StepEffect → Type 0
SaysStepEffect o = Says o.answered.answer o.answered.control.token

-- 1 for a refusal, 0 for what is none
abbrev number : Answer → ℕ
number More = 0
number (an_integer x) = 0
number (a_float bits) = 0
number (a_string n) = 0
number (a_body n) = 0
number an_end = 0
number (Refused why) = 1

-- what is no refusal says nothing
not-refused : (a : Answer) (t : Token) → number a ≡ 0 → Says a t
not-refused a t q why e = absurd (let z = ap number e in omega arith)

-- the reason of a refusal
abbrev said : Refusal → Answer → Refusal
said other More = other
said other (an_integer x) = other
said other (a_float bits) = other
said other (a_string n) = other
said other (a_body n) = other
said other an_end = other
said other (Refused why) = why

refuses : (k : Refusal) → Own k → Says (Refused k) Between
refuses k i why e = (subst Own (ap (said k) e) i, refl)

single-none : (class : Class) (t : ℕ) → number (single_of class t) ≡ 0
unfolding single_of
single-none NoEvent t = refl
single-none Integer t = refl
single-none String t = refl
single-none Length t = refl
single-none Int16 t = refl
single-none Int32 t = refl
single-none Float t = refl
single-none Node t = refl
single-none End t = refl
single-none Count t = refl
single-none LongCount t = refl

number-says : (node : ℤ) (class : Class) (v : ℕ) → SaysTaken (number_of node class v)
unfolding number_of count_of long_count_of
number-says node NoEvent v = not-refused More Between refl
number-says node Integer v = not-refused More Between refl
number-says node String v = not-refused More Between refl
number-says node Length v = not-refused More (InString (v % 0x100 + 1) (v % 0x100 + 1)) refl
number-says node Int16 v = not-refused (an_integer (signed 15 (v % 0x10000))) Between refl
number-says node Int32 v = not-refused (an_integer (signed 31 v)) Between refl
number-says node Float v = not-refused (a_float v) Between refl
number-says node Node v = not-refused More Between refl
number-says node End v = not-refused More Between refl
number-says node Count v =
    branch SaysTaken (eqb (v % 0x10000) 0) _ _ (λ _. not-refused More (Number LongCount 4 0) refl) (λ _. not-refused More (InBody 0 (v % 0x10000) (v % 0x10000)) refl)
number-says node LongCount v = branch SaysTaken (eqb v 0) _ _ (λ _. refuses BodyEmpty (inr (inr (inl refl)))) (λ _. not-refused More (InBody 0 v v) refl)

body-says : (node : ℤ) (want left stored : ℕ) → SaysTaken (body_next node want left stored)
unfolding body_next body_done
body-says node want left stored =
    branch SaysTaken (leb left 1) _ _
    (λ _. branch SaysTaken (leb want body_limit) _ _ (λ _. not-refused (a_body stored) Between refl) (λ _. refuses BodyLong (inr (inl refl))))
    (λ _. not-refused More (InBody stored want (left - 1)) refl)

-- one unit
unit-says : (node : ℤ) (t : Token) (s : List ℕ) (u : ℕ) (a : Bool) → SaysUnitEffect (unit_of node t s u a)
unfolding unit_of begin_of number_unit string_unit string_done body_unit
unit-says node Between s u a =
    branch SaysTaken (eqb (rule_of u).wants 0) _ _ (λ _. not-refused (single_of (rule_of u).class u) Between (single-none (rule_of u).class u))
    (λ _. not-refused More (token_of (rule_of u).class (rule_of u).wants) refl)
unit-says node (Number class left v) s u a =
    branch SaysTaken (leb left 1) _ _ (λ _. number-says node class (shift_in v u)) (λ _. not-refused More (Number class (left - 1) (shift_in v u)) refl)
unit-says node (InString want left) s u a =
    branch SaysUnitEffect (leb left 1) _ _
    (λ _. branch SaysUnitEffect (utf8 (take want (set s (want - left) u))) _ _ (λ _. not-refused (a_string want) Between refl) (λ _. refuses (string_not_utf8 (take want (set s (want - left) u))) (inl refl)))
    (λ _. not-refused More (InString want (left - 1)) refl)
unit-says node (InBody stored want left) s u a =
    branch SaysUnitEffect (keeps want stored a) _ _ (λ _. body-says node want left (stored + 1)) (λ _. body-says node want left stored)

-- ---- from one unit to a call

settle-says : (c : Control) (s : List ℕ) → SaysStepEffect (settle_of c s)
unfolding settle_of
settle-says c s = go c.escape.pending
  where
    go : (p : Option ℕ) → SaysStepEffect (pending_of p c s)
    go None = not-refused More c.token refl
    go (Some u) = unit-says c.node c.token s u true

first_says : (c : Control) (s : List ℕ) (b : ℕ) → SaysStepEffect (first_of c s b)
unfolding first_of
first_says c s b = go (decode_of c.escape b).unit (decode_of c.escape b).escape
  where
    go : (u : Unitʷ) (e : Escape) → SaysStepEffect (given_of u e c s)
    go Nothing e = not-refused More c.token refl
    go (Bare u) e = unit-says c.node c.token s u false
    go (Appended u) e = unit-says c.node c.token s u true

step-says : (c : Control) (s : List ℕ) (b : ℕ) → SaysStepEffect (step_of c s b)
unfolding follow_of
step-says c s b =
    let o : StepEffect = first_of c s b in
    branch SaysStepEffect (is_more o.answered.answer) _ _ (λ _. settle-says o.answered.control o.store) (λ _. first_says c s b)

-- a next call
pub advance-says : (c : Control) (s bytes : List ℕ) → SaysStepEffect (advance_of c s bytes).effect
unfolding advance_of
advance-says c s bytes =
    run-keeps SaysStepEffect (λ _. Unit {0}) (λ b bs q. tt) (λ o b bs q h. step-says o.answered.control o.store b) (settle_of c s) 0 bytes tt (settle-says c s)

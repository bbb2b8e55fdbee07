-- A string of at most 256 bytes and a body of at most 4,096, whatever the bytes that came: what a next call answers is within bounds.
use Prim.Native.Nat.{ℕ, ◌+◌, ◌-◌, ◌%◌, ◌≤◌}
use mathlib.Core.Bool.{Bool, true, false, false≢true}
use mathlib.Core.Path.{◌≡◌, refl, ◌∙◌}
use mathlib.Core.List.{List, [], ◌∷◌, ◌++◌}
use native.Mathlib.Omega.{arith}
use native.Mathlib.Nat.{mod-lt, zero-lt-suc}
use borrow.Author.Tests.{leb-true, ltb-true}
use lib.Dec.{leb, ltb, eqb}
use lib.IntN.{ℤ}
use lib.ListN.{length, take, drop, set, replicate, length-set, length-append, length-replicate, take-append-drop}
use Rattle.wing_node.proofs.Branches.{branch}
use Rattle.wing_node.specs.Bool.{if}
use Rattle.wing_node.specs.Utf8.{utf8, good_from, good}
use Rattle.wing_wire.specs.State.{body_limit}
use Rattle.wing_wire.specs.Token.{Row, table, rule_in, rule_of, width_of}
use Rattle.wing_wire.specs.Escape.{decode_of}
use Rattle.wing_wire.specs.Unit.{completes, single_of, is_string, token_of, begin_of, count_of, long_count_of, number_of, shift_in, number_unit, UnitEffect, cleared, string_done, string_unit, keeps, body_done, body_next, body_unit, unit_of}
use Rattle.wing_wire.specs.Stream.{StepEffect, is_more, pending_of, settle_of, given_of, first_of, follow_of, step_of, run_of, advance_of}
use Rattle.wing_wire.specs.Range.{Within, TokenWithin, StepEffectWithin}
use Rattle.wing_wire.specs.declared.token.Class.{Class}
use Rattle.wing_wire.specs.declared.token.Class.TheVariants.{NoEvent, Integer, String, Length, Int16, Int32, Float, Node, End, Count, LongCount}
use Rattle.wing_wire.specs.declared.token.Rule.{Rule}
use Rattle.wing_wire.specs.declared.state.Escape.{Escape}
use Rattle.wing_wire.specs.declared.state.Token.{Token}
use Rattle.wing_wire.specs.declared.state.Token.TheVariants.{Between, Number, String as InString, Body as InBody}
use Rattle.wing_wire.specs.declared.state.Control.{Control}
use Rattle.wing_wire.specs.declared.escape.Unit.{Unit as Unitʷ}
use Rattle.wing_wire.specs.declared.escape.Unit.TheVariants.{Nothing, Bare, Appended}
use Rattle.wing_wire.specs.declared.unit.Taken.{Taken}
use Rattle.wing_wire.proofs.Reading.Pieces.{at, stays, run_on}
use Rattle.std.specs.Prelude.{Option, ℕ, None, Some}

-- ---- the table: no string wants more than 256 units, no number more than its width

abbrev pub Fits : Rule → Type 0
Fits r = r.wants ≤ (if (is_string r.class) 256 (width_of r.class))

abbrev Fitting : List Row → Type 0
Fitting [] = Unit {0}
Fitting (r ∷ rs) = ((t : ℕ) → r.low ≤ t → t ≤ r.high → Fits (r.rule_at t)) × Fitting rs

fits_in : (rs : List Row) → Fitting rs → (t : ℕ) → Fits (rule_in rs t)
unfolding rule_in is_string width_of
fits_in [] g t = omega arith
fits_in (r ∷ rs) (f, g) t =
    branch Fits (leb r.low t) _ _
    (λ p. branch Fits (leb t r.high) _ _ (λ q. f t (leb-true _ _ p) (leb-true _ _ q)) (λ _. fits_in rs g t))
    (λ _. fits_in rs g t)

table_fits : Fitting table
unfolding is_string width_of
table_fits =
    ((λ t a b. omega arith), ((λ t a b. omega arith), ((λ t a b. omega arith), ((λ t a b. omega arith), ((λ t a b. omega arith), ((λ t a b. omega arith), ((λ t a b. omega arith), ((λ t a b. omega arith), ((λ t a b. omega arith), ((λ t a b. omega arith), ((λ t a b. omega arith), ((λ t a b. omega arith), ((λ t a b. omega arith), tt)))))))))))))

-- by 01's token table
pub rule_fits : (t : ℕ) → Fits (rule_of t)
unfolding rule_of
rule_fits t = fits_in table table_fits t

-- ---- within bounds

-- the token left, and the answer given
pub record Bounded (s : List ℕ) (t : Taken) : Type 0 where
  pub token : TokenWithin t.token
  pub within : Within t.answer s

-- the same of what a unit leaves, with the store as long as it was
pub record BoundedUnitEffect (n : ℕ) (o : UnitEffect) : Type 0 where
  pub taken : Bounded o.store o.taken
  pub size : length o.store ≡ n

single-in : (node : ℤ) (class : Class) (t : ℕ) (s : List ℕ) → Bounded s (completes node (single_of class t))
unfolding single_of utf8 good_from good
single-in node NoEvent t s = record { token = tt; within = tt }
single-in node Integer t s = record { token = tt; within = tt }
single-in node String t s = record { token = tt; within = (omega arith, refl) }
single-in node Length t s = record { token = tt; within = tt }
single-in node Int16 t s = record { token = tt; within = tt }
single-in node Int32 t s = record { token = tt; within = tt }
single-in node Float t s = record { token = tt; within = tt }
single-in node Node t s = record { token = tt; within = tt }
single-in node End t s = record { token = tt; within = tt }
single-in node Count t s = record { token = tt; within = tt }
single-in node LongCount t s = record { token = tt; within = tt }

number_in : (node : ℤ) (class : Class) (v : ℕ) (s : List ℕ) → Bounded s (number_of node class v)
unfolding number_of count_of long_count_of
number_in node NoEvent v s = record { token = tt; within = tt }
number_in node Integer v s = record { token = tt; within = tt }
number_in node String v s = record { token = tt; within = tt }
number_in node Length v s = record { token = omega (arith, mod-lt v (zero-lt-suc 0xff)); within = tt }
number_in node Int16 v s = record { token = tt; within = tt }
number_in node Int32 v s = record { token = tt; within = tt }
number_in node Float v s = record { token = tt; within = tt }
number_in node Node v s = record { token = tt; within = tt }
number_in node End v s = record { token = tt; within = tt }
number_in node Count v s =
    branch (Bounded s) (eqb (v % 0x10000) 0) _ _ (λ _. record { token = tt; within = tt }) (λ _. record { token = omega arith; within = tt })
number_in node LongCount v s =
    branch (Bounded s) (eqb v 0) _ _ (λ _. record { token = tt; within = tt }) (λ _. record { token = omega arith; within = tt })

begin-in : (node : ℤ) (u : ℕ) (s : List ℕ) → Bounded s (begin_of node u)
unfolding begin_of token_of
begin-in node u s =
    branch (Bounded s) (eqb (rule_of u).wants 0) _ _ (λ _. single-in node (rule_of u).class u s)
    (λ _. record { token = go (is_string (rule_of u).class) (width_of (rule_of u).class) (rule_fits u); within = tt })
  where
    go : (t : Bool) (w : ℕ) → (rule_of u).wants ≤ (if t 256 w) → TokenWithin (if t (InString (rule_of u).wants (rule_of u).wants) (Number (rule_of u).class (rule_of u).wants 0))
    go true w l = l
    go false w l = tt

number-unit-in : (node : ℤ) (class : Class) (left v u : ℕ) (s : List ℕ) → Bounded s (number_unit node class left v u)
unfolding number_unit
number-unit-in node class left v u s =
    branch (Bounded s) (leb left 1) _ _ (λ _. number_in node class (shift_in v u) s) (λ _. record { token = tt; within = tt })

pub length-cleared : (n : ℕ) (s : List ℕ) → length (cleared n s) ≡ length s
length-cleared n s =
    let a = length-append (replicate {A = ℕ} (length (take n s)) 0) (drop n s) in
    let b = length-append (take n s) (drop n s) in
    let c = length-replicate {A = ℕ} (length (take n s)) 0 in
    let d : length (take n s ++ drop n s) ≡ length s = rw (take-append-drop n s) in
    omega arith

string-in : (node : ℤ) (want left u : ℕ) (s : List ℕ) → want ≤ 256 → BoundedUnitEffect (length s) (string_unit node want left s u)
unfolding string_unit string_done
string-in node want left u s h =
    let l : List ℕ = set s (want - left) u in
    branch (BoundedUnitEffect (length s)) (leb left 1) _ _
    (λ _. branch (BoundedUnitEffect (length s)) (utf8 (take want l)) _ _
    (λ e. record { taken = record { token = tt; within = (h, e) }; size = length-set s (want - left) u })
    (λ _. record { taken = record { token = tt; within = tt }; size = length-cleared want l ∙ length-set s (want - left) u }))
    (λ _. record { taken = record { token = h; within = tt }; size = length-set s (want - left) u })

body-next-in : (node : ℤ) (want left stored : ℕ) (s : List ℕ) → stored ≤ body_limit → Bounded s (body_next node want left stored)
unfolding body_next body_done
body-next-in node want left stored s h =
    branch (Bounded s) (leb left 1) _ _
    (λ _. branch (Bounded s) (leb want body_limit) _ _ (λ _. record { token = tt; within = h }) (λ _. record { token = tt; within = tt }))
    (λ _. record { token = h; within = tt })

-- 01: of a count over 4,096 nothing is kept; of any other no more than 4,096
room-left : (want stored : ℕ) (a : Bool) → keeps want stored a ≡ true → stored + 1 ≤ body_limit
unfolding keeps
room-left want stored a = go a (leb want body_limit) (ltb stored body_limit) refl
  where
    go : (p q r : Bool) → ltb stored body_limit ≡ r → if p (if q r false) false ≡ true → stored + 1 ≤ body_limit
    go true true r e h = let l = ltb-true stored body_limit (e ∙ h) in omega arith
    go true false r e h = absurd (false≢true h)
    go false q r e h = absurd (false≢true h)

body-in : (node : ℤ) (want left stored u : ℕ) (s : List ℕ) (a : Bool) → stored ≤ body_limit → BoundedUnitEffect (length s) (body_unit node want left stored s u a)
unfolding body_unit
body-in node want left stored u s a h =
    branch (BoundedUnitEffect (length s)) (keeps want stored a) _ _
    (λ e. record { taken = body-next-in node want left (stored + 1) (set s stored u) (room-left want stored a e); size = length-set s stored u })
    (λ _. record { taken = body-next-in node want left stored s h; size = refl })

-- one unit
pub unit-bounded : (node : ℤ) (t : Token) (s : List ℕ) (u : ℕ) (a : Bool) → TokenWithin t → BoundedUnitEffect (length s) (unit_of node t s u a)
unfolding unit_of
unit-bounded node Between s u a h = record { taken = begin-in node u s; size = refl }
unit-bounded node (Number class left v) s u a h = record { taken = number-unit-in node class left v u s; size = refl }
unit-bounded node (InString want left) s u a h = string-in node want left u s h
unit-bounded node (InBody stored want left) s u a h = body-in node want left stored u s a h

-- ---- through the bytes

settle-bounded : (c : Control) (s : List ℕ) → TokenWithin c.token → StepEffectWithin (length s) (settle_of c s)
unfolding settle_of
settle-bounded c s h = go c.escape.pending
  where
    go : (p : Option ℕ) → StepEffectWithin (length s) (pending_of p c s)
    go None = record { token = h; within = tt; size = refl }
    go (Some u) = let o = unit-bounded c.node c.token s u true h in record { token = o.taken.token; within = o.taken.within; size = o.size }

first-bounded : (c : Control) (s : List ℕ) (b : ℕ) → TokenWithin c.token → StepEffectWithin (length s) (first_of c s b)
unfolding first_of
first-bounded c s b h = go (decode_of c.escape b).unit (decode_of c.escape b).escape
  where
    go : (u : Unitʷ) (e : Escape) → StepEffectWithin (length s) (given_of u e c s)
    go Nothing e = record { token = h; within = tt; size = refl }
    go (Bare u) e = let o = unit-bounded c.node c.token s u false h in record { token = o.taken.token; within = o.taken.within; size = o.size }
    go (Appended u) e = let o = unit-bounded c.node c.token s u true h in record { token = o.taken.token; within = o.taken.within; size = o.size }

step-bounded : (c : Control) (s : List ℕ) (b : ℕ) → TokenWithin c.token → StepEffectWithin (length s) (step_of c s b)
unfolding follow_of
step-bounded c s b h =
    let o : StepEffect = first_of c s b in
    let k = first-bounded c s b h in
    branch (StepEffectWithin (length s)) (is_more o.answered.answer) _ _ (λ _. rw k.size at (settle-bounded o.answered.control o.store k.token)) (λ _. k)

run-bounded : (n : ℕ) (o : StepEffect) (k : ℕ) (bs : List ℕ) → StepEffectWithin n o → StepEffectWithin n (run_of (at o k) bs).effect
unfolding run_of
run-bounded n o k [] h = h
run-bounded n o k (b ∷ bs) h = go (is_more o.answered.answer) refl (λ g. run-bounded n (step_of o.answered.control o.store b) (k + 1) bs g)
  where
    go : (t : Bool) → is_more o.answered.answer ≡ t →
        (StepEffectWithin n (step_of o.answered.control o.store b) → StepEffectWithin n (run_of (at (step_of o.answered.control o.store b) (k + 1)) bs).effect) → StepEffectWithin n (run_of (at o k) (b ∷ bs)).effect
    go true e ih = rw (run_on o k b bs e) (ih (rw h.size at (step-bounded o.answered.control o.store b h.token)))
    go false e ih = rw (stays (at o k) (b ∷ bs) e) h

-- a next call from a token within bounds: its string or body is within bounds, and so is the token that it leaves
pub advance-bounded : (c : Control) (s bytes : List ℕ) → TokenWithin c.token → StepEffectWithin (length s) (advance_of c s bytes).effect
unfolding advance_of
advance-bounded c s bytes h = run-bounded (length s) (settle_of c s) 0 bytes (settle-bounded c s h)

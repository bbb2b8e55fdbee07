-- A state of the decoder as it was before, carried over: it is sound exactly if it was, and reads on as it did.
use Prim.Native.Nat.{ℕ, ◌+◌, ◌-◌, ◌%◌, ◌^◌, ◌≤◌}
use mathlib.Core.Bool.{Bool, true, false, not}
use mathlib.Core.Path.{◌≡◌, refl, sym, ◌∙◌, ap}
use mathlib.Core.List.{List, [], ◌∷◌}
use native.Mathlib.Omega.{arith}
use borrow.Author.Tests.{lt-ltb}
use lib.Dec.{ltb, leb, eqb}
use lib.IntN.{ℤ}
use lib.ListN.{take, drop, set}
use Rattle.wing_node.specs.Bool.{if, and}
use Rattle.wing_node.specs.Refusal.{string_not_utf8}
use Rattle.wing_node.specs.Result.{Result, ok, refused}
use Rattle.wing_node.specs.declared.refusal.Refusal.{Refusal}
use Rattle.wing_node.specs.Utf8.{utf8}
use Rattle.wing_node.proofs.Branches.{branch, and_left, and_right}
use Rattle.wing_node.proofs.Refusals.{reason}
use Rattle.wing_wire.specs.State.{body_limit, underway, sound_number, sound_escape, sound_counts, stored_by, sound_token, sound_state, zeros, fresh_state}
use Rattle.wing_wire.specs.Token.{Row, table, rule_in, rule_of, width_of}
use Rattle.wing_wire.specs.Unit.{taken, completes, awaits, single_of, is_string, token_of, begin_of, count_of, number_of, shift_in, number_unit, UnitEffect, unit_effect, cleared, string_done, string_unit, keeps, body_done, body_next, body_unit, unit_of}
use Rattle.wing_wire.specs.Stream.{is_more, released, after_unit, Fed, handle, feed_of}
use Rattle.wing_wire.specs.Units.{StreamUnit, units_of, with_escape, unit_taken, units_taken}
use Rattle.wing_wire.specs.Range.{AreBytes}
use Rattle.wing_wire.specs.DecoderLaws.{state_in}
use Rattle.wing_wire.specs.Earlier.{earlier_counts, earlier_stored, earlier_sound, is_long_count, is_started, carried_token, carried, carry_of}
use Rattle.wing_wire.specs.EarlierReading.{EarlierTaken, completed, awaited, earlier_begin, earlier_count, earlier_number, EarlierEffect, earlier_effect, earlier_text, earlier_next, earlier_unit, without_good, seeing, EarlierFed, wants_long, InLong, in_long, earlier_in, carried_fed, earlier_take, earlier_units, earlier_feed, unstarted, no_long_count, fresh_earlier, fresh_now, CarriesOver}
use Rattle.wing_wire.specs.declared.token.Class.{Class}
use Rattle.wing_wire.specs.declared.token.Class.TheVariants.{NoEvent, Integer, String, Length, Int16, Int32, Float, Node, End, Count, LongCount}
use Rattle.wing_wire.specs.declared.state.Escape.{Escape}
use Rattle.wing_wire.specs.declared.state.Token.{Token}
use Rattle.wing_wire.specs.declared.state.Token.TheVariants.{Between as between, Number as number, String as string, Body as body}
use Rattle.wing_wire.specs.declared.state.State.{State}
use Rattle.wing_wire.specs.declared.earlier.Token.{Token as EarlierToken}
use Rattle.wing_wire.specs.declared.earlier.Token.TheVariants.{Between, Number, String as InString, Body as InBody}
use Rattle.wing_wire.specs.declared.earlier.State.{State as EarlierState}
use Rattle.wing_wire.specs.declared.unit.Answer.{Answer}
use Rattle.wing_wire.specs.declared.unit.Answer.TheVariants.{More, Integer as an_integer, Float as a_float, String as a_string, Body as a_body, End as an_end, Refused}
use Rattle.wing_wire.specs.declared.unit.Taken.{Taken}
use Rattle.wing_wire.proofs.Reading.Underway.{underway-le}
use Rattle.wing_wire.proofs.Reading.Pieces.{clash}
use Rattle.wing_wire.proofs.Reading.ByUnits.{feed-units}
use Rattle.wing_wire.proofs.Laws.{decoder-laws}
use Rattle.wing_node.specs.declared.refusal.Refusal.TheVariants.{BodyLong, StateUnsound, StringNotUtf8}

-- ---- sound

token-carried : (t : EarlierToken) (store : List ℕ) → sound_token (carried_token t) store ≡ and (earlier_counts t) (zeros (drop (earlier_stored t) store))
unfolding sound_token sound_counts stored_by earlier_counts earlier_stored carried_token
token-carried Between store = refl
token-carried (Number class left v) store = refl
token-carried (InString want left) store = refl
token-carried (InBody want left stored) store = refl

-- the carried state is sound exactly if the old one was
pub sound-carried : (s : EarlierState) → sound_state (carried s) ≡ earlier_sound s
unfolding sound_state earlier_sound
sound-carried s = ap (and (sound_escape s.control.escape)) (token-carried s.control.token s.store)

-- ---- what carrying over answers

-- what is carried over was sound and has started no long count, and is the same
pub record TakenOver (s : EarlierState) (t : State) : Type 0 where
  pub sound : earlier_sound s ≡ true
  pub unstarted : is_started s.control.token ≡ false
  pub same : carried s ≡ t

pub carry-taken : (s : EarlierState) (t : State) → carry_of s ≡ ok t → TakenOver s t
unfolding carry_of
carry-taken s t =
    branch P (is_started s.control.token) _ _ (λ _. none)
    (λ f. branch P (earlier_sound s) _ _ (λ b e. record { sound = b; unstarted = f; same = let z : carried s ≡ t = cc in z }) (λ _. none))
  where
    P : Result State → Type 0
    P r = r ≡ ok t → TakenOver s t

    none : P (refused StateUnsound)
    none e = absurd (let z : ◌≡◌ {A = ℕ} 0 1 = cc in omega arith)

-- no other number than 8
pub carry-refused : (s : EarlierState) (why : Refusal) → carry_of s ≡ refused why → why ≡ StateUnsound
unfolding carry_of
carry-refused s why =
    branch P (is_started s.control.token) _ _ (λ _. eight) (λ _. branch P (earlier_sound s) _ _ (λ _ e. absurd (let z : ◌≡◌ {A = ℕ} 0 1 = cc in omega arith)) (λ _. eight))
  where
    P : Result State → Type 0
    P r = r ≡ refused why → why ≡ StateUnsound

    eight : P (refused StateUnsound)
    eight e = sym (ap (reason why) e)

-- ---- a unit

-- what a unit made, its token carried over
abbrev over : EarlierTaken → Taken
over t = taken t.answer t.node (carried_token t.token)

-- with the store
abbrev over_effect : EarlierEffect → UnitEffect
over_effect o = unit_effect (over o.taken) o.store

-- what a unit makes, its answer without a good
abbrev plainly : Taken → Taken
plainly t = taken (without_good t.answer) t.node t.token

-- with the store
abbrev plain_effect : UnitEffect → UnitEffect
plain_effect o = unit_effect (plainly o.taken) o.store

single-plain : (class : Class) (t : ℕ) → without_good (single_of class t) ≡ single_of class t
unfolding single_of without_good
single-plain NoEvent t = refl
single-plain Integer t = refl
single-plain String t = refl
single-plain Length t = refl
single-plain Int16 t = refl
single-plain Int32 t = refl
single-plain Float t = refl
single-plain Node t = refl
single-plain End t = refl
single-plain Count t = refl
single-plain LongCount t = refl

begin-over : (node : ℤ) (t : ℕ) → plainly (begin_of node t) ≡ over (earlier_begin node t)
unfolding begin_of earlier_begin token_of carried_token without_good
begin-over node t = go (eqb (rule_of t).wants 0) (is_string (rule_of t).class)
  where
    w : ℕ
    w = (rule_of t).wants

    k : Class
    k = (rule_of t).class

    go : (p q : Bool) → plainly (if p (completes node (single_of k t)) (awaits node (if q (string w w) (number k w 0)))) ≡
        over (if p (completed node (single_of k t)) (awaited node (if q (InString w w) (Number k w 0))))
    go true q = ap (λ (a : Answer). taken a node between) (single-plain k t)
    go false true = refl
    go false false = refl

count_over : (node : ℤ) (c : ℕ) → plainly (count_of node c) ≡ over (earlier_count node c)
unfolding count_of earlier_count carried_token without_good
count_over node c = go (eqb c 0)
  where
    go : (q : Bool) → plainly (if q (awaits node (number LongCount 4 0)) (awaits node (body 0 c c))) ≡ over (if q (awaited node (Number LongCount 4 0)) (awaited node (InBody c c 0)))
    go true = refl
    go false = refl

number-over : (node : ℤ) (class : Class) (v : ℕ) → is_long_count class ≡ false → plainly (number_of node class v) ≡ over (earlier_number node class v)
unfolding number_of earlier_number carried_token is_long_count without_good
number-over node NoEvent v e = refl
number-over node Integer v e = refl
number-over node String v e = refl
number-over node Length v e = refl
number-over node Int16 v e = refl
number-over node Int32 v e = refl
number-over node Float v e = refl
number-over node Node v e = refl
number-over node End v e = refl
number-over node Count v e = count_over node (v % 0x10000)
number-over node LongCount v e = absurd (clash refl e)

text-over : (node : ℤ) (want : ℕ) (s : List ℕ) → plain_effect (string_done node want s) ≡ over_effect (earlier_text node want s)
unfolding string_done earlier_text carried_token without_good
text-over node want s = go (utf8 (take want s))
  where
    go : (q : Bool) → plain_effect (if q (unit_effect (completes node (a_string want)) s) (unit_effect (completes node (Refused (string_not_utf8 (take want s)))) (cleared want s))) ≡
        over_effect (if q (earlier_effect (completed node (a_string want)) s) (earlier_effect (completed node (Refused (StringNotUtf8 0))) (cleared want s)))
    go true = refl
    go false = refl

next-over : (node : ℤ) (want left stored : ℕ) → plainly (body_next node want left stored) ≡ over (earlier_next node want left stored)
unfolding body_next body_done earlier_next carried_token without_good
next-over node want left stored = go (leb left 1) (leb want body_limit)
  where
    go : (p q : Bool) → plainly (if p (if q (completes node (a_body stored)) (completes node (Refused BodyLong))) (awaits node (body stored want (left - 1)))) ≡
        over (if p (if q (completed node (a_body stored)) (completed node (Refused BodyLong))) (awaited node (InBody want (left - 1) stored)))
    go true true = refl
    go true false = refl
    go false q = refl

-- a unit makes of the carried token what it made of the old one, unless this wants those after a count 0
unit-over : (node : ℤ) (t : EarlierToken) (s : List ℕ) (u : ℕ) (a : Bool) → wants_long t ≡ false → plain_effect (unit_of node (carried_token t) s u a) ≡ over_effect (earlier_unit node t s u a)
unfolding unit_of earlier_unit carried_token wants_long number_unit string_unit body_unit without_good
unit-over node Between s u a e = ap (λ (t : Taken). unit_effect t s) (begin-over node u)
unit-over node (Number class left v) s u a e = go (leb left 1)
  where
    w : ℕ
    w = shift_in v u

    go : (q : Bool) → plain_effect (unit_effect (if q (number_of node class w) (awaits node (number class (left - 1) w))) s) ≡
        over_effect (earlier_effect (if q (earlier_number node class w) (awaited node (Number class (left - 1) w))) s)
    go true = ap (λ (t : Taken). unit_effect t s) (number-over node class w e)
    go false = refl
unit-over node (InString want left) s u a e = go (leb left 1)
  where
    r : List ℕ
    r = set s (want - left) u

    go : (q : Bool) → plain_effect (if q (string_done node want r) (unit_effect (awaits node (string want (left - 1))) r)) ≡
        over_effect (if q (earlier_text node want r) (earlier_effect (awaited node (InString want (left - 1))) r))
    go true = text-over node want r
    go false = refl
unit-over node (InBody want left stored) s u a e = go (keeps want stored a)
  where
    go : (q : Bool) → plain_effect (if q (unit_effect (body_next node want left (stored + 1)) (set s stored u)) (unit_effect (body_next node want left stored) s)) ≡
        over_effect (if q (earlier_effect (earlier_next node want left (stored + 1)) (set s stored u)) (earlier_effect (earlier_next node want left stored) s))
    go true = ap (λ (t : Taken). unit_effect t (set s stored u)) (next-over node want left (stored + 1))
    go false = ap (λ (t : Taken). unit_effect t s) (next-over node want left stored)

-- ---- not started

-- no first unit begins with the units after a count 0
abbrev Short : List Row → Type 0
Short [] = Unit {0}
Short (r ∷ rs) = ((t : ℕ) → is_long_count (r.rule_at t).class ≡ false) × Short rs

rows_short : (rs : List Row) (t : ℕ) → Short rs → is_long_count (rule_in rs t).class ≡ false
unfolding rule_in is_long_count
rows_short [] t s = refl
rows_short (r ∷ rs) t (here, s) = go (leb r.low t) (leb t r.high) (rows_short rs t s)
  where
    go : (p q : Bool) → is_long_count (rule_in rs t).class ≡ false → is_long_count (if p (if q (r.rule_at t) (rule_in rs t)) (rule_in rs t)).class ≡ false
    go true true after = here t
    go true false after = after
    go false q after = after

rule-short : (t : ℕ) → is_long_count (rule_of t).class ≡ false
unfolding rule_of is_long_count
rule-short t =
    rows_short table t
    (λ t. refl, (λ t. refl, (λ t. refl, (λ t. refl, (λ t. refl, (λ t. refl, (λ t. refl, (λ t. refl, (λ t. refl, (λ t. refl, (λ t. refl, (λ t. refl, (λ t. refl, tt)))))))))))))

-- a token of which no long count is started
abbrev Fine : EarlierTaken → Type 0
Fine t = is_started t.token ≡ false

number-fine : (class : Class) (left v : ℕ) → is_long_count class ≡ false → is_started (Number class left v) ≡ false
unfolding is_started
number-fine class left v e = rw e

begin-fine : (node : ℤ) (t : ℕ) → Fine (earlier_begin node t)
unfolding earlier_begin is_started
begin-fine node t =
    branch Fine (eqb (rule_of t).wants 0) _ _ (λ _. refl)
    (λ _. branch (λ (k : EarlierToken). is_started k ≡ false) (is_string (rule_of t).class) _ _ (λ _. refl) (λ _. number-fine (rule_of t).class (rule_of t).wants 0 (rule-short t)))

end-fine : (node : ℤ) (class : Class) (v : ℕ) → Fine (earlier_number node class v)
unfolding earlier_number earlier_count is_started is_long_count
end-fine node NoEvent v = refl
end-fine node Integer v = refl
end-fine node String v = refl
end-fine node Length v = refl
end-fine node Int16 v = refl
end-fine node Int32 v = refl
end-fine node Float v = refl
end-fine node Node v = refl
end-fine node End v = refl
end-fine node Count v = branch Fine (eqb (v % 0x10000) 0) _ _ (λ _. refl) (λ _. refl)
end-fine node LongCount v = refl

next-fine : (node : ℤ) (want left stored : ℕ) → Fine (earlier_next node want left stored)
unfolding earlier_next is_started
next-fine node want left stored =
    branch Fine (leb left 1) _ _ (λ _. branch Fine (leb want body_limit) _ _ (λ _. refl) (λ _. refl)) (λ _. refl)

unit-fine : (node : ℤ) (t : EarlierToken) (s : List ℕ) (u : ℕ) (a : Bool) → wants_long t ≡ false → Fine (earlier_unit node t s u a).taken
unfolding earlier_unit wants_long earlier_text is_started
unit-fine node Between s u a e = begin-fine node u
unit-fine node (Number class left v) s u a e =
    branch Fine (leb left 1) _ _ (λ _. end-fine node class (shift_in v u)) (λ _. number-fine class (left - 1) (shift_in v u) e)
unit-fine node (InString want left) s u a e =
    branch (λ (o : EarlierEffect). Fine o.taken) (leb left 1) _ _
    (λ _. branch (λ (o : EarlierEffect). Fine o.taken) (utf8 (take want (set s (want - left) u))) _ _ (λ _. refl) (λ _. refl))
    (λ _. refl)
unit-fine node (InBody want left stored) s u a e =
    branch (λ (o : EarlierEffect). Fine o.taken) (keeps want stored a) _ _ (λ _. next-fine node want left (stored + 1)) (λ _. next-fine node want left stored)

-- a number after a unit more, by whether it was the last
abbrev after-unit : ℤ → Class → ℕ → ℕ → Bool → EarlierToken
after-unit node class left w last = (if last (earlier_number node class w) (awaited node (Number class (left - 1) w))).token

long-taken : (node : ℤ) (class : Class) (left v w : ℕ) (last : Bool) → sound_number class left v ≡ true → is_long_count class ≡ true →
    wants_long (after-unit node class left w last) ≡ true → is_started (after-unit node class left w last) ≡ true
unfolding is_long_count sound_number wants_long earlier_number is_started width_of
long-taken node NoEvent left v w last c e l = absurd (clash e refl)
long-taken node Integer left v w last c e l = absurd (clash e refl)
long-taken node String left v w last c e l = absurd (clash e refl)
long-taken node Length left v w last c e l = absurd (clash e refl)
long-taken node Int16 left v w last c e l = absurd (clash e refl)
long-taken node Int32 left v w last c e l = absurd (clash e refl)
long-taken node Float left v w last c e l = absurd (clash e refl)
long-taken node Node left v w last c e l = absurd (clash e refl)
long-taken node End left v w last c e l = absurd (clash e refl)
long-taken node Count left v w last c e l = absurd (clash e refl)
long-taken node LongCount left v w true c e l = absurd (clash l refl)
long-taken node LongCount left v w false c e l =
    let most : left ≤ 4 = underway-le left 4 (and_left (underway left 4) (ltb v (256 ^ (4 - left))) c) in
    lt-ltb (left - 1) 4 (omega arith)

-- what wants the units after a count 0 is a number of that class
in-long : (t : EarlierToken) → wants_long t ≡ true → InLong t
unfolding wants_long is_long_count
in-long Between e = absurd (clash e refl)
in-long (Number NoEvent left v) e = absurd (clash e refl)
in-long (Number Integer left v) e = absurd (clash e refl)
in-long (Number String left v) e = absurd (clash e refl)
in-long (Number Length left v) e = absurd (clash e refl)
in-long (Number Int16 left v) e = absurd (clash e refl)
in-long (Number Int32 left v) e = absurd (clash e refl)
in-long (Number Float left v) e = absurd (clash e refl)
in-long (Number Node left v) e = absurd (clash e refl)
in-long (Number End left v) e = absurd (clash e refl)
in-long (Number Count left v) e = absurd (clash e refl)
in-long (Number LongCount left v) e = in_long left v
in-long (InString want left) e = absurd (clash e refl)
in-long (InBody want left stored) e = absurd (clash e refl)

-- of the four units after a count 0 one more is taken, and not the last
one-taken : (node : ℤ) (t : EarlierToken) (s : List ℕ) (u : ℕ) (a : Bool) → earlier_counts t ≡ true → wants_long t ≡ true →
    wants_long (earlier_unit node t s u a).taken.token ≡ true → is_started (earlier_unit node t s u a).taken.token ≡ true
unfolding earlier_counts wants_long earlier_unit
one-taken node Between s u a c w l = absurd (clash w refl)
one-taken node (Number class left v) s u a c w l = long-taken node class left v (shift_in v u) (leb left 1) c w l
one-taken node (InString want left) s u a c w l = absurd (clash w refl)
one-taken node (InBody want left stored) s u a c w l = absurd (clash w refl)

-- ---- bytes

not-true : (b : Bool) → not b ≡ true → b ≡ false
not-true true e = absurd (clash e refl)
not-true false e = refl

module _ {M : Type 0} (h : ℤ → Answer → List ℕ → M → M) where
  wants-none : (x : EarlierFed M) (g : StreamUnit) (gs : List StreamUnit) → unstarted h x (g ∷ gs) ≡ true → wants_long x.control.token ≡ false
  unfolding unstarted
  wants-none x g gs e = not-true (wants_long x.control.token) (and_left (not (wants_long x.control.token)) (unstarted h (earlier_take h x g) gs) e)

  then-none : (x : EarlierFed M) (g : StreamUnit) (gs : List StreamUnit) → unstarted h x (g ∷ gs) ≡ true → unstarted h (earlier_take h x g) gs ≡ true
  unfolding unstarted
  then-none x g gs e = and_right (not (wants_long x.control.token)) (unstarted h (earlier_take h x g) gs) e

  -- what a handler is told of an answer without its good
  seen : (a : Answer) (node : ℤ) (t : Token) (s : List ℕ) (e : Escape) (m : M) → let o = unit_effect (taken a node t) s in
      handle (seeing h) (after_unit e o) m ≡ handle h (after_unit e (plain_effect o)) m
  unfolding without_good is_more released
  seen More node t s e m = refl
  seen (an_integer x) node t s e m = refl
  seen (a_float bits) node t s e m = refl
  seen (a_string n) node t s e m = refl
  seen (a_body n) node t s e m = refl
  seen an_end node t s e m = refl
  seen (Refused why) node t s e m = refl

  take-over : (x : EarlierFed M) (g : StreamUnit) → wants_long x.control.token ≡ false → unit_taken (seeing h) (carried_fed x) g ≡ carried_fed (earlier_take h x g)
  take-over x g e =
      let o = unit_of x.control.node (carried_token x.control.token) x.store g.unit g.appended in
      seen o.taken.answer o.taken.node o.taken.token o.store x.control.escape x.memo ∙
      ap (λ (o : UnitEffect). handle h (after_unit x.control.escape o) x.memo) (unit-over x.control.node x.control.token x.store g.unit g.appended e)

  units-over : (x : EarlierFed M) (us : List StreamUnit) → unstarted h x us ≡ true → units_taken (seeing h) (carried_fed x) us ≡ carried_fed (earlier_units h x us)
  unfolding units_taken earlier_units
  units-over x [] e = refl
  units-over x (g ∷ gs) e =
      ap (λ (y : Fed M). units_taken (seeing h) y gs) (take-over x g (wants-none x g gs e)) ∙ units-over (earlier_take h x g) gs (then-none x g gs e)

  units-fine : (x : EarlierFed M) (us : List StreamUnit) → unstarted h x us ≡ true → is_started x.control.token ≡ false → is_started (earlier_units h x us).control.token ≡ false
  unfolding earlier_units
  units-fine x [] e f = f
  units-fine x (g ∷ gs) e f =
      units-fine (earlier_take h x g) gs (then-none x g gs e) (unit-fine x.control.node x.control.token x.store g.unit g.appended (wants-none x g gs e))

  started : (x : EarlierFed M) (g : StreamUnit) → earlier_sound (earlier_in x) ≡ true → wants_long x.control.token ≡ true →
      wants_long (earlier_take h x g).control.token ≡ true → carry_of (earlier_in (earlier_take h x g)) ≡ refused StateUnsound
  unfolding carry_of earlier_sound
  started x g s w l =
      let t = x.control.token in
      let counts = and_left (earlier_counts t) _ (and_right (sound_escape x.control.escape) _ s) in
      let k : is_started (earlier_unit x.control.node t x.store g.unit g.appended).taken.token ≡ true =
      one-taken x.control.node t x.store g.unit g.appended counts w l in
      rw k

  further : (x : EarlierFed M) (bytes : List ℕ) → no_long_count h x bytes → feed_of (seeing h) (carried_fed x) bytes ≡ carried_fed (earlier_feed h x bytes)
  unfolding earlier_feed
  further x bytes e =
      let us = units_of x.control.escape bytes in
      feed-units (seeing h) (carried_fed x) bytes ∙ ap (with_escape us.escape) (units-over x us.units e)

  fresh : (m : M) (bytes : List ℕ) → AreBytes bytes → no_long_count h (fresh_earlier h m) bytes →
      carry_of (earlier_in (earlier_feed h (fresh_earlier h m) bytes)) ≡ ok (state_in (feed_of (seeing h) (fresh_now h m) bytes))
  unfolding carry_of
  fresh m bytes are e =
      let x = fresh_earlier h m in
      let y = earlier_feed h x bytes in
      let same : carried (earlier_in y) ≡ state_in (feed_of (seeing h) (fresh_now h m) bytes) = unfold fresh_state carried_token in ap state_in (sym (further x bytes e)) in
      let fine : is_started y.control.token ≡ false = unfold earlier_feed is_started in units-fine x (units_of x.control.escape bytes).units e refl in
      let sound : sound_state (state_in (feed_of (seeing h) (fresh_now h m) bytes)) ≡ true = decoder-laws.sound.sound (seeing h) (fresh_now h m) bytes are decoder-laws.sound.fresh_in decoder-laws.sound.fresh in
      let was : earlier_sound (earlier_in y) ≡ true = sym (sound-carried (earlier_in y)) ∙ (ap sound_state same ∙ sound) in
      rw (fine, was, same)

  pub carries_over : CarriesOver h
  carries_over = record { further = further; units = units-over; same_state = λ x. (refl, refl); long = in-long; started = started; fresh = fresh }

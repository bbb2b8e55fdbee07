-- 02, Job 4: the decoder as it was before, unit by unit, and that a state carried over reads on as it did.
use Rattle.std.specs.Prelude.{ℕ, ◌+◌, ◌-◌, ◌%◌, Bool, true, false, not, ◌≡◌, List, [], ◌∷◌, leb, eqb, ℤ, take, set}
use Rattle.wing_node.specs.Bool.{if, and}
use Rattle.wing_node.specs.Refusal.{good_aside}
use Rattle.wing_node.specs.Result.{ok, refused}
use Rattle.wing_node.specs.Signed.{signed}
use Rattle.wing_node.specs.Utf8.{utf8}
use Rattle.wing_wire.specs.State.{body_limit, fresh_state, control}
use Rattle.wing_wire.specs.Token.{rule_of}
use Rattle.wing_wire.specs.Unit.{single_of, is_string, shift_in, cleared, keeps}
use Rattle.wing_wire.specs.Stream.{is_more, released, Fed, feed_of}
use Rattle.wing_wire.specs.Units.{StreamUnit, units_of, units_taken}
use Rattle.wing_wire.specs.Range.{AreBytes}
use Rattle.wing_wire.specs.DecoderLaws.{state_in}
use Rattle.wing_wire.specs.Earlier.{earlier_control, earlier_state, earlier_fresh, earlier_sound, is_long_count, carried_token, carried, carry_of}
use Rattle.wing_wire.specs.declared.token.Class.{Class}
use Rattle.wing_wire.specs.declared.token.Class.TheVariants.{NoEvent, Integer, String, Length, Int16, Int32, Float, Node, End, Count, LongCount}
use Rattle.wing_wire.specs.declared.earlier.Token.{Token}
use Rattle.wing_wire.specs.declared.earlier.Token.TheVariants.{Between, Number, String as InString, Body as InBody}
use Rattle.wing_wire.specs.declared.earlier.Control.{Control}
use Rattle.wing_wire.specs.declared.earlier.State.{State}
use Rattle.wing_wire.specs.declared.unit.Answer.{Answer}
use Rattle.wing_wire.specs.declared.unit.Answer.TheVariants.{More, Integer as an_integer, Float as a_float, String as a_string, Body as a_body, End as an_end, Refused}
use Rattle.wing_node.specs.declared.refusal.Refusal.TheVariants.{BodyEmpty, BodyLong, StateUnsound, StringNotUtf8}

-- ---- one unit, as it was

-- what a unit made: an answer, the node and the token after it
pub record EarlierTaken : Type 0 where
  pub answer : Answer
  pub node : ℤ
  pub token : Token

-- an event or a refusal, after which the reader stood between tokens
abbrev pub completed : ℤ → Answer → EarlierTaken
completed node answer = record { answer = answer; node = node; token = Between }

-- nothing yet
abbrev pub awaited : ℤ → Token → EarlierTaken
awaited node token = record { answer = More; node = node; token = token }

-- the first unit of a token, by the table
unfoldable pub earlier_begin : ℤ → ℕ → EarlierTaken
earlier_begin node t =
    let r = rule_of t in
    if (eqb r.wants 0) (completed node (single_of r.class t))
    (awaited node (if (is_string r.class) (InString r.wants r.wants) (Number r.class r.wants 0)))

-- 01: count 0 reads four more units, then answers 3; any other count c is followed by c units
unfoldable pub earlier_count : ℤ → ℕ → EarlierTaken
earlier_count node c = if (eqb c 0) (awaited node (Number LongCount 4 0)) (awaited node (InBody c c 0))

-- what a number gave when its last unit was there
unfoldable pub earlier_number : ℤ → Class → ℕ → EarlierTaken
earlier_number node NoEvent v = completed node More
earlier_number node Integer v = completed node More
earlier_number node String v = completed node More
earlier_number node Length v = awaited node (InString (v % 0x100 + 1) (v % 0x100 + 1))
earlier_number node Int16 v = completed node (an_integer (signed 15 (v % 0x10000)))
earlier_number node Int32 v = completed node (an_integer (signed 31 v))
earlier_number node Float v = completed node (a_float v)
earlier_number node Node v = completed (signed 31 v) More
earlier_number node End v = completed node More
earlier_number node Count v = earlier_count node (v % 0x10000)
earlier_number node LongCount v = completed node (Refused BodyEmpty)

-- with the store
pub record EarlierEffect : Type 0 where
  pub taken : EarlierTaken
  pub store : List ℕ

-- the same by its parts
abbrev pub earlier_effect : EarlierTaken → List ℕ → EarlierEffect
earlier_effect t s = record { taken = t; store = s }

-- 01: strings are UTF-8, else refusal 1
unfoldable pub earlier_text : ℤ → ℕ → List ℕ → EarlierEffect
earlier_text node want s =
    if (utf8 (take want s)) (earlier_effect (completed node (a_string want)) s) (earlier_effect (completed node (Refused (StringNotUtf8 0))) (cleared want s))

-- 01: count over 4,096 reads all c units, then answers 2
unfoldable pub earlier_next : ℤ → ℕ → ℕ → ℕ → EarlierTaken
earlier_next node want left stored =
    if (leb left 1) (if (leb want body_limit) (completed node (a_body stored)) (completed node (Refused BodyLong))) (awaited node (InBody want (left - 1) stored))

-- one unit
unfoldable pub earlier_unit : ℤ → Token → List ℕ → ℕ → Bool → EarlierEffect
earlier_unit node Between s u appended = earlier_effect (earlier_begin node u) s
earlier_unit node (Number class left v) s u appended =
    earlier_effect (if (leb left 1) (earlier_number node class (shift_in v u)) (awaited node (Number class (left - 1) (shift_in v u)))) s
earlier_unit node (InString want left) s u appended =
    let after = set s (want - left) u in
    if (leb left 1) (earlier_text node want after) (earlier_effect (awaited node (InString want (left - 1))) after)
earlier_unit node (InBody want left stored) s u appended =
    if (keeps want stored appended) (earlier_effect (earlier_next node want left (stored + 1)) (set s stored u))
    (earlier_effect (earlier_next node want left stored) s)

-- ---- bytes, through every answer

-- an answer as it was given then: a refusal is its number alone, without the good that 02, Job 5, puts beside 1
unfoldable pub without_good : Answer → Answer
without_good More = More
without_good (an_integer x) = an_integer x
without_good (a_float bits) = a_float bits
without_good (a_string n) = a_string n
without_good (a_body n) = a_body n
without_good an_end = an_end
without_good (Refused why) = Refused (good_aside why)

-- a handler of such answers, on today's
abbrev pub seeing : {M : Type 0} → (ℤ → Answer → List ℕ → M → M) → ℤ → Answer → List ℕ → M → M
seeing h node a s m = h node (without_good a) s m

-- the decoder, and what a handler has made of its answers so far
pub record EarlierFed (M : Type 0) : Type 0 where
  pub control : Control
  pub store : List ℕ
  pub memo : M

-- whether a token wants the units after a count 0
unfoldable pub wants_long : Token → Bool
wants_long Between = false
wants_long (Number class left v) = is_long_count class
wants_long (InString want left) = false
wants_long (InBody want left stored) = false

-- a token that wants the units after a count 0, by its form
pub data InLong : Token → Type 0 where
  in_long : (left v : ℕ) → InLong (Number LongCount left v)

-- the decoder's state
abbrev pub earlier_in : {M : Type 0} → EarlierFed M → State
earlier_in x = earlier_state x.control x.store

-- the same decoder, carried over
abbrev pub carried_fed : {M : Type 0} → EarlierFed M → Fed M
carried_fed x =
    record { control = control x.control.escape x.control.node (carried_token x.control.token); store = x.store; memo = x.memo }

module _ {M : Type 0} (h : ℤ → Answer → List ℕ → M → M) where
  -- one unit for the token in progress: an answer other than 'more' is handed on with its node, and its bytes are released
  abbrev pub earlier_take : EarlierFed M → StreamUnit → EarlierFed M
  earlier_take x g =
      let o = earlier_unit x.control.node x.control.token x.store g.unit g.appended in
      record {
        control = earlier_control x.control.escape o.taken.node o.taken.token;
        store = released o.taken.answer o.store;
        memo = if (is_more o.taken.answer) x.memo (h o.taken.node o.taken.answer o.store x.memo);
      }

  -- units one after the other
  unfoldable pub earlier_units : EarlierFed M → List StreamUnit → EarlierFed M
  earlier_units x [] = x
  earlier_units x (g ∷ gs) = earlier_units (earlier_take x g) gs

  -- 01: the decoder turns bytes into units, and these are taken one after the other
  unfoldable pub earlier_feed : EarlierFed M → List ℕ → EarlierFed M
  earlier_feed x bytes =
      let us = units_of x.control.escape bytes in
      let y = earlier_units x us.units in
      record { control = earlier_control us.escape y.control.node y.control.token; store = y.store; memo = y.memo }

  -- no long count is started: no unit comes to a token that wants those after a count 0
  unfoldable pub unstarted : EarlierFed M → List StreamUnit → Bool
  unstarted x [] = true
  unstarted x (g ∷ gs) = and (not (wants_long x.control.token)) (unstarted (earlier_take x g) gs)

  -- by bytes
  abbrev pub no_long_count : EarlierFed M → List ℕ → Type 0
  no_long_count x bytes = unstarted x (units_of x.control.escape bytes).units ≡ true

  -- a fresh old decoder
  abbrev pub fresh_earlier : M → EarlierFed M
  fresh_earlier m = record { control = earlier_fresh.control; store = earlier_fresh.store; memo = m }

  -- a fresh new one
  abbrev pub fresh_now : M → Fed M
  fresh_now m = record { control = fresh_state.control; store = fresh_state.store; memo = m }

  -- 02: for any handler of answers as they were
  pub record CarriesOver : Type 0 where
    -- any old state, sound or not, carried over answers further bytes as it did, and is left as it was left, as long as no long count is started
    pub further : (x : EarlierFed M) (bytes : List ℕ) → no_long_count x bytes → feed_of (seeing h) (carried_fed x) bytes ≡ carried_fed (earlier_feed x bytes)
    -- the same unit by unit, so of a state between two units as well, where a byte may be pending: the escapes are the same in both
    pub units : (x : EarlierFed M) (us : List StreamUnit) → unstarted x us ≡ true → units_taken (seeing h) (carried_fed x) us ≡ carried_fed (earlier_units x us)
    -- what is compared is the very state that the call answers with
    pub same_state : (x : EarlierFed M) → let s = carried (earlier_in x) in ((carried_fed x).control ≡ s.control) × ((carried_fed x).store ≡ s.store)
    -- the units left out are those after a count 0 and no others
    pub long : (t : Token) → wants_long t ≡ true → InLong t
    -- a sound state within the four units after a count 0 gets 8 as soon as one of them is taken
    pub started : (x : EarlierFed M) (g : StreamUnit) → earlier_sound (earlier_in x) ≡ true → wants_long x.control.token ≡ true →
        wants_long (earlier_take x g).control.token ≡ true → carry_of (earlier_in (earlier_take x g)) ≡ refused StateUnsound
    -- what bytes without a started long count leave of a fresh old decoder is carried over, and is what they leave of a fresh new one
    pub fresh : (m : M) (bytes : List ℕ) → AreBytes bytes → no_long_count (fresh_earlier m) bytes →
        carry_of (earlier_in (earlier_feed (fresh_earlier m) bytes)) ≡ ok (state_in (feed_of (seeing h) (fresh_now m) bytes))

-- A sound state stays sound.
use Prim.Native.Nat.{ℕ, zero, suc, ◌+◌, ◌-◌, ◌^◌, ◌%◌, ◌<◌, ◌≤◌}
use mathlib.Core.Bool.{Bool, true, false}
use mathlib.Core.Path.{◌≡◌, refl}
use mathlib.Core.List.{List, [], ◌∷◌, ◌++◌}
use native.Mathlib.Omega.{arith}
use native.Mathlib.Nat.{mod-le, pow-suc}
use borrow.Author.Tests.{ltb-true, leb-true, leb-false, eqb-false, lt-ltb, le-leb, eqb-true, eq-eqb}
use lib.Dec.{ltb, leb, eqb}
use lib.IntN.{ℤ, pos, negsuc}
use lib.Signed.{le_z, lt_z}
use lib.ListN.{length, take, drop, get_or, set, replicate}
use lib.Seq.{drop-drop, drop-set-lt}
use Rattle.wing_node.proofs.Branches.{branch, and_left, and_right}
use Rattle.wing_node.specs.Bool.{if, and}
use Rattle.wing_node.specs.Utf8.{utf8}
use Rattle.wing_wire.specs.Token.{rule_of, width_of}
use Rattle.wing_wire.specs.State.{body_limit, zeros, escape, sound_pending, sound_escape, underway, sound_number, sound_string, sound_body, sound_counts, stored_by, sound_token, sound_state, fresh_state}
use Rattle.wing_wire.specs.Escape.{decoded, ended, decode_of, escaped_of, plain_of, other_of, byte_next, pending_next, decode_next_of, DecodeNextSound}
use Rattle.wing_wire.specs.Unit.{completes, single_of, is_string, token_of, begin_of, count_of, long_count_of, number_of, shift_in, number_unit, UnitEffect, cleared, string_done, string_unit, keeps, body_done, body_next, body_unit, unit_of}
use Rattle.wing_wire.specs.Stream.{StepEffect, is_more, pending_of, settle_of, given_of, first_of, follow_of, step_of, run_of, advance_of, released, Fed, fed_pending, fed_byte, fed_from, feed_of}
use Rattle.wing_wire.specs.Reader.{next_from, next_of}
use Rattle.wing_wire.specs.Range.{AreBytes, no_bytes, byte_then, PendingByte, no_pending, pending_byte, Within, TokenWithin}
use Rattle.wing_wire.specs.declared.token.Class.{Class}
use Rattle.wing_wire.specs.declared.token.Class.TheVariants.{NoEvent, Integer, String, Length, Int16, Int32, Float, Node, End, Count, LongCount}
use Rattle.wing_wire.specs.declared.token.Rule.{Rule}
use Rattle.wing_wire.specs.declared.state.Token.{Token}
use Rattle.wing_wire.specs.declared.state.Token.TheVariants.{Between, Number, String as InString, Body as InBody}
use Rattle.wing_wire.specs.declared.state.Escape.{Escape}
use Rattle.wing_wire.specs.declared.state.Control.{Control}
use Rattle.wing_wire.specs.declared.state.State.{State}
use Rattle.wing_wire.specs.declared.escape.Unit.{Unit as Unitʷ}
use Rattle.wing_wire.specs.declared.escape.Unit.TheVariants.{Nothing, Bare, Appended}
use Rattle.wing_wire.specs.declared.escape.Decoded.{Decoded}
use Rattle.wing_wire.specs.declared.escape.NextUnit.{NextUnit}
use Rattle.wing_wire.specs.declared.unit.Answer.{Answer}
use Rattle.wing_wire.specs.declared.unit.Taken.{Taken}
use Rattle.wing_wire.specs.declared.reader.Reply.{Reply}
use Rattle.wing_wire.proofs.Reading.Bounds.{Fits, rule_fits, unit-bounded}
use Rattle.wing_wire.proofs.Reading.Pieces.{at, clash, settle-not-pending, stays, run_on, released-more}
use Rattle.wing_wire.proofs.Reading.Steps.{step-not-pending}
use Rattle.std.specs.Prelude.{Option, ℕ, None, Some}

-- ---- zeros

-- 01: unused store bytes 0
abbrev pub Zero : List ℕ → Type 0
Zero s = zeros s ≡ true

zero-drop : (n : ℕ) (s : List ℕ) → Zero s → Zero (drop n s)
unfolding zeros
zero-drop zero s e = e
zero-drop (suc n) [] e = e
zero-drop (suc n) (b ∷ s) e = zero-drop n s (and_right (eqb b 0) (zeros s) e)

zero-after : (m n : ℕ) (s : List ℕ) → m ≤ n → Zero (drop m s) → Zero (drop n s)
zero-after m n s h e =
    let z : m + (n - m) ≡ n = omega arith in
    let w : Zero (drop (m + (n - m)) s) = rw (drop-drop (n - m) m s) at (zero-drop (n - m) (drop m s) e) in
    rw z at w

zero-cleared : (k : ℕ) (s : List ℕ) → Zero s → Zero (replicate k 0 ++ s)
unfolding zeros
zero-cleared zero s e = e
zero-cleared (suc k) s e = zero-cleared k s e

zero-set : (k n u : ℕ) (s : List ℕ) → k < n → Zero (drop k s) → Zero (drop n (set s k u))
zero-set k n u s h e = rw (drop-set-lt n s k u h) (zero-after k n s (omega arith) e)

-- ---- the token's soundness, by its parts

-- The units collected of a token are as many as it wants less those that are left: width_of class − left at most, want − left.

-- 01: fewer units collected than its token wants. A number in progress is below 256 to the number of its units collected
pub record InNumber (class : Class) (left v : ℕ) (s : List ℕ) : Type 0 where
  pub some : 1 ≤ left
  pub fits : left ≤ width_of class
  pub small : v < 256 ^ (width_of class - left)
  pub unused : Zero s

-- 01: a string's stored bytes exactly as many as its string units collected, want − left; unused store bytes 0
pub record InText (want left : ℕ) (s : List ℕ) : Type 0 where
  pub some : 1 ≤ left
  pub fits : left ≤ want
  pub most : want ≤ 256
  pub unused : Zero (drop (want - left) s)

-- 01: no more bytes stored than units collected, want − left; none stored for a body whose count is over 4,096
pub record InBytes (want left stored : ℕ) (s : List ℕ) : Type 0 where
  pub some : 1 ≤ left
  pub fits : left ≤ want
  pub room : stored ≤ (if (leb want body_limit) (want - left) 0)
  pub unused : Zero (drop stored s)

-- the token and the store are sound
abbrev pub Sound : Token → List ℕ → Type 0
Sound Between s = Zero s
Sound (Number class left v) s = InNumber class left v s
Sound (InString want left) s = InText want left s
Sound (InBody stored want left) s = InBytes want left stored s

-- the test gives the parts
underway-parts : (left want : ℕ) → underway left want ≡ true → (1 ≤ left) × (left ≤ want)
unfolding underway
underway-parts left want e =
    (leb-true _ _ (and_left (leb 1 left) (leb left want) e), leb-true _ _ (and_right (leb 1 left) (leb left want) e))

room-parts : (b : Bool) (stored n : ℕ) → if b (leb stored n) (eqb stored 0) ≡ true → stored ≤ (if b n 0)
room-parts true stored n e = leb-true stored n e
room-parts false stored n e = let z : stored ≡ 0 = eqb-true stored 0 e in omega arith

pub parts : (t : Token) (s : List ℕ) → sound_token t s ≡ true → Sound t s
unfolding sound_token sound_counts stored_by sound_number sound_string sound_body
parts Between s e = e
parts (Number class left v) s e =
    let c = and_left (sound_counts (Number class left v)) (zeros s) e in
    let u = underway-parts left (width_of class) (and_left (underway left (width_of class)) (ltb v (256 ^ (width_of class - left))) c) in
    record {
      some = u.0;
      fits = u.1;
      small = ltb-true _ _ (and_right (underway left (width_of class)) (ltb v (256 ^ (width_of class - left))) c);
      unused = and_right (sound_counts (Number class left v)) (zeros s) e;
    }
parts (InString want left) s e =
    let c = and_left (sound_counts (InString want left)) (zeros (drop (want - left) s)) e in
    let u = underway-parts left want (and_left (underway left want) (leb want 256) c) in
    record {
      some = u.0;
      fits = u.1;
      most = leb-true _ _ (and_right (underway left want) (leb want 256) c);
      unused = and_right (sound_counts (InString want left)) (zeros (drop (want - left) s)) e;
    }
parts (InBody stored want left) s e =
    let in_count : Bool = if (leb want body_limit) (leb stored (want - left)) (eqb stored 0) in
    let c = and_left (sound_counts (InBody stored want left)) (zeros (drop stored s)) e in
    let u = underway-parts left want (and_left (underway left want) in_count c) in
    record {
      some = u.0;
      fits = u.1;
      room = room-parts (leb want body_limit) stored (want - left) (and_right (underway left want) in_count c);
      unused = and_right (sound_counts (InBody stored want left)) (zeros (drop stored s)) e;
    }

-- the parts give the test
room-tested : (b : Bool) (stored n : ℕ) → stored ≤ (if b n 0) → if b (leb stored n) (eqb stored 0) ≡ true
room-tested true stored n h = le-leb stored n h
room-tested false stored n h = eq-eqb stored 0 (omega arith)

pub tested : (t : Token) (s : List ℕ) → Sound t s → sound_token t s ≡ true
unfolding sound_token sound_counts stored_by sound_number sound_string sound_body underway
tested Between s g = g
tested (Number class left v) s g = rw (le-leb _ _ g.some, le-leb _ _ g.fits, lt-ltb _ _ g.small) g.unused
tested (InString want left) s g = rw (le-leb _ _ g.some, le-leb _ _ g.fits, le-leb _ _ g.most) g.unused
tested (InBody stored want left) s g =
    rw (le-leb _ _ g.some, le-leb _ _ g.fits, room-tested (leb want body_limit) stored (want - left) g.room) g.unused

-- ---- a unit

-- after an answer the store is sound once the answer's bytes are given out
abbrev pub After : List ℕ → Taken → Type 0
After s t = Sound t.token (released t.answer s)

-- the same of a unit's outcome
abbrev pub AfterUnitEffect : UnitEffect → Type 0
AfterUnitEffect o = After o.store o.taken

single-sound : (node : ℤ) (class : Class) (t : ℕ) (s : List ℕ) → Zero s → After s (completes node (single_of class t))
unfolding single_of
single-sound node NoEvent t s z = z
single-sound node Integer t s z = z
single-sound node String t s z = z
single-sound node Length t s z = z
single-sound node Int16 t s z = z
single-sound node Int32 t s z = z
single-sound node Float t s z = z
single-sound node Node t s z = z
single-sound node End t s z = z
single-sound node Count t s z = z
single-sound node LongCount t s z = z

pow_pos : (n : ℕ) → 1 ≤ 256 ^ n
pow_pos zero = omega arith
pow_pos (suc n) = rw (pow-suc 256 n) (omega (arith, pow_pos n))

text-sound : (n : ℕ) (s : List ℕ) → 1 ≤ n → n ≤ 256 → Zero s → InText n n s
text-sound n s a b z = record { some = a; fits = omega arith; most = b; unused = zero-drop (n - n) s z }

token-sound : (r : Rule) (s : List ℕ) → Fits r → 1 ≤ r.wants → Zero s → Sound (token_of r.class r.wants) s
unfolding token_of
token-sound r s f h z =
    branch (λ (t : Token). Sound t s) (is_string r.class) _ _
    (λ e. text-sound r.wants s h (rw e at f) z)
    (λ e. record { some = h; fits = rw e at f; small = pow_pos (width_of r.class - r.wants); unused = z })

begin-sound : (node : ℤ) (t : ℕ) (s : List ℕ) → Zero s → After s (begin_of node t)
unfolding begin_of
begin-sound node t s z =
    branch (After s) (eqb (rule_of t).wants 0) _ _ (λ _. single-sound node (rule_of t).class t s z)
    (λ e. let ne : (rule_of t).wants ≡ 0 → ⊥ = eqb-false _ _ e in token-sound (rule_of t) s (rule_fits t) (omega arith) z)

counted-sound : (c : ℕ) (s : List ℕ) → eqb c 0 ≡ false → Zero s → InBytes c c 0 s
counted-sound c s e z =
    let ne : c ≡ 0 → ⊥ = eqb-false _ _ e in
    record { some = omega arith; fits = omega arith; room = omega arith; unused = z }

count-sound : (node : ℤ) (c : ℕ) (s : List ℕ) → Zero s → After s (count_of node c)
unfolding count_of width_of
count-sound node c s z =
    branch (After s) (eqb c 0) _ _ (λ _. record { some = omega arith; fits = omega arith; small = omega arith; unused = z }) (λ e. counted-sound c s e z)

long-count-sound : (node : ℤ) (c : ℕ) (s : List ℕ) → Zero s → After s (long_count_of node c)
unfolding long_count_of
long-count-sound node c s z = branch (After s) (eqb c 0) _ _ (λ _. z) (λ e. counted-sound c s e z)

number-sound : (node : ℤ) (class : Class) (v : ℕ) (s : List ℕ) → Zero s → After s (number_of node class v)
unfolding number_of
number-sound node NoEvent v s z = z
number-sound node Integer v s z = z
number-sound node String v s z = z
number-sound node Length v s z = text-sound (v % 0x100 + 1) s (omega arith) (omega arith) z
number-sound node Int16 v s z = z
number-sound node Int32 v s z = z
number-sound node Float v s z = z
number-sound node Node v s z = z
number-sound node End v s z = z
number-sound node Count v s z = count-sound node (v % 0x10000) s z
number-sound node LongCount v s z = long-count-sound node v s z

number-unit-sound : (node : ℤ) (class : Class) (left v u : ℕ) (s : List ℕ) → u < 256 → InNumber class left v s → After s (number_unit node class left v u)
unfolding number_unit
number-unit-sound node class left v u s h g =
    branch (After s) (leb left 1) _ _ (λ _. number-sound node class (shift_in v u) s g.unused)
    (λ e.
    let more : 1 < left = leb-false _ _ e in
    let fits = g.fits in
    let k : ℕ = width_of class - left in
    let small : v < 256 ^ k = g.small in
    let z : width_of class - (left - 1) ≡ suc k = omega arith in
    record { some = omega arith; fits = omega arith; small = rw (z, pow-suc 256 k) (omega (arith, mod-le v 0x1000000)); unused = g.unused })

done-sound : (node : ℤ) (want : ℕ) (s : List ℕ) → Zero (drop want s) → AfterUnitEffect (string_done node want s)
unfolding string_done
done-sound node want s z =
    let c : Zero (cleared want s) = zero-cleared (length (take want s)) (drop want s) z in
    branch AfterUnitEffect (utf8 (take want s)) _ _ (λ _. c) (λ _. c)

string-unit-sound : (node : ℤ) (want left u : ℕ) (s : List ℕ) → InText want left s → AfterUnitEffect (string_unit node want left s u)
unfolding string_unit
string-unit-sound node want left u s g =
    let some = g.some in
    let fits = g.fits in
    branch AfterUnitEffect (leb left 1) _ _
    (λ e. done-sound node want (set s (want - left) u) (zero-set (want - left) want u s (omega arith) g.unused))
    (λ e.
    let more : 1 < left = leb-false _ _ e in
    record { some = omega arith; fits = omega arith; most = g.most; unused = zero-set (want - left) (want - (left - 1)) u s (omega arith) g.unused })

-- a body after a unit, by what is stored of it
body-next-sound : (node : ℤ) (want left stored : ℕ) (s : List ℕ) → 1 ≤ left → left ≤ want → stored ≤ (if (leb want body_limit) (want - (left - 1)) 0) → Zero (drop stored s) →
    After s (body_next node want left stored)
unfolding body_next body_done
body-next-sound node want left stored s a b r z =
    branch (After s) (leb left 1) _ _
    (λ e.
    branch (After s) (leb want body_limit) _ _ (λ _. zero-cleared (length (take stored s)) (drop stored s) z) (λ q.
    let empty : stored ≤ 0 = rw q at r in
    zero-after stored 0 s empty z))
    (λ e.
    let more : 1 < left = leb-false _ _ e in
    record { some = omega arith; fits = omega arith; room = r; unused = z })

keeps-small : (want stored : ℕ) (a : Bool) → keeps want stored a ≡ true → leb want body_limit ≡ true
unfolding keeps
keeps-small want stored false e = absurd (clash e refl)
keeps-small want stored true e = go (leb want body_limit) refl
  where
    go : (q : Bool) → leb want body_limit ≡ q → leb want body_limit ≡ true
    go true p = p
    go false p = absurd (clash (rw p at e) refl)

-- what is stored of a body after a unit that is kept, and after one that is not
one_more : (want left stored : ℕ) {s : List ℕ} (a : Bool) → keeps want stored a ≡ true → InBytes want left stored s → stored + 1 ≤ (if (leb want body_limit) (want - (left - 1)) 0)
one_more want left stored a e g =
    let q : leb want body_limit ≡ true = keeps-small want stored a e in
    let r : stored ≤ want - left = rw q at g.room in
    let some = g.some in
    let fits = g.fits in
    let r' : stored + 1 ≤ want - (left - 1) = omega arith in
    rw q r'

no_more : (want left stored : ℕ) → stored ≤ (if (leb want body_limit) (want - left) 0) → stored ≤ (if (leb want body_limit) (want - (left - 1)) 0)
no_more want left stored = go (leb want body_limit)
  where
    go : (q : Bool) → stored ≤ (if q (want - left) 0) → stored ≤ (if q (want - (left - 1)) 0)
    go true r = omega arith
    go false r = r

body-unit-sound : (node : ℤ) (want left stored u : ℕ) (s : List ℕ) (a : Bool) → InBytes want left stored s → AfterUnitEffect (body_unit node want left stored s u a)
unfolding body_unit
body-unit-sound node want left stored u s a g =
    branch AfterUnitEffect (keeps want stored a) _ _
    (λ e. body-next-sound node want left (stored + 1) (set s stored u) g.some g.fits (one_more want left stored a e g) (zero-set stored (stored + 1) u s (omega arith) g.unused))
    (λ e. body-next-sound node want left stored s g.some g.fits (no_more want left stored g.room) g.unused)

-- a unit keeps the token and the store sound
pub unit-sound : (node : ℤ) (t : Token) (s : List ℕ) (u : ℕ) (a : Bool) → u < 256 → Sound t s → AfterUnitEffect (unit_of node t s u a)
unfolding unit_of
unit-sound node Between s u a h g = begin-sound node u s g
unit-sound node (Number class left v) s u a h g = number-unit-sound node class left v u s h g
unit-sound node (InString want left) s u a h g = string-unit-sound node want left u s g
unit-sound node (InBody stored want left) s u a h g = body-unit-sound node want left stored u s a g

-- ---- what is given out is within bounds

token-within : (t : Token) (s : List ℕ) → Sound t s → TokenWithin t
token-within Between s g = tt
token-within (Number class left v) s g = tt
token-within (InString want left) s g = g.most
token-within (InBody stored want left) s g = go (leb want body_limit) refl g.room
  where
    go : (t : Bool) → leb want body_limit ≡ t → stored ≤ (if t (want - left) 0) → stored ≤ body_limit
    go true e h = let l = leb-true want body_limit e in omega arith
    go false e h = omega arith

-- a sound state's token is within bounds
pub sound-within : (s : State) → sound_state s ≡ true → TokenWithin s.control.token
unfolding sound_state
sound-within s e = token-within s.control.token s.store (parts s.control.token s.store (and_right (sound_escape s.control.escape) (sound_token s.control.token s.store) e))

unit-within : (node : ℤ) (t : Token) (s : List ℕ) (u : ℕ) (a : Bool) → Sound t s → Within (unit_of node t s u a).taken.answer (unit_of node t s u a).store
unit-within node t s u a g = (unit-bounded node t s u a (token-within t s g)).taken.within

-- ---- the escapes

-- 01: channel −1 to 13; a pending byte only when unescaped with channel at least 0
pub record SoundEscape (e : Escape) : Type 0 where
  pub low : le_z (negsuc 0) e.channel ≡ true
  pub high : le_z e.channel (pos 13) ≡ true
  pub pending : sound_pending e.pending e ≡ true

-- the test gives the parts, and the parts give the test
pub escape-parts : (e : Escape) → sound_escape e ≡ true → SoundEscape e
unfolding sound_escape
escape-parts e g =
    let r = and (le_z (negsuc 0) e.channel) (le_z e.channel (pos 13)) in
    let a = and_left r (sound_pending e.pending e) g in
    record { low = and_left (le_z (negsuc 0) e.channel) (le_z e.channel (pos 13)) a; high = and_right (le_z (negsuc 0) e.channel) (le_z e.channel (pos 13)) a; pending = and_right r (sound_pending e.pending e) g }

pub escape-tested : (e : Escape) → SoundEscape e → sound_escape e ≡ true
unfolding sound_escape
escape-tested e g = rw (g.low, g.high, g.pending)

-- what a byte leaves, and a unit that is a byte
pub data UnitByte : Unitʷ → Type 0 where
  no_unit : UnitByte Nothing
  bare : {u : ℕ} → u < 256 → UnitByte (Bare u)
  appended : {u : ℕ} → u < 256 → UnitByte (Appended u)

record GoodDecoded (b : ℕ) (d : Decoded) : Type 0 where
  pub escape : SoundEscape d.escape
  pub byte : b < 256 → PendingByte d.escape.pending
  pub unit : b < 256 → UnitByte d.unit

not-below : (z : ℤ) → lt_z z (pos 0) ≡ false → le_z (pos 0) z ≡ true
not-below (pos a) e = le-leb 0 a (omega arith)
not-below (negsuc a) e = absurd (clash refl e)

module _ (e : Escape) (b : ℕ) (g : SoundEscape e) (fed_pending : e.pending ≡ None) where
  ended-sound : SoundEscape (ended e)
  unfolding sound_pending
  ended-sound = record { low = g.low; high = g.high; pending = rw fed_pending refl }

  ended-good : (u : Unitʷ) → (b < 256 → UnitByte u) → GoodDecoded b (decoded (ended e) u)
  ended-good u k = record { escape = ended-sound; byte = λ _. rw fed_pending no_pending; unit = k }

  other-good : GoodDecoded b (other_of e b)
  unfolding other_of sound_pending
  other-good =
      branch (GoodDecoded b) (lt_z e.channel (pos 0)) _ _ (λ _. ended-good (Appended b) (λ h. appended h))
      (λ q. record { escape = record { low = g.low; high = g.high; pending = not-below e.channel q }; byte = λ h. pending_byte h; unit = λ _. appended (omega arith) })

  channel-good : b < 0xde → GoodDecoded b (decoded (escape false (pos (b - 0xd0)) e.pending) Nothing)
  unfolding sound_pending
  channel-good l = record { escape = record { low = refl; high = le-leb (b - 0xd0) 13 (omega arith); pending = rw fed_pending refl }; byte = λ _. rw fed_pending no_pending; unit = λ _. no_unit }

  escaped-good : GoodDecoded b (escaped_of e b)
  unfolding escaped_of
  escaped-good =
      branch (GoodDecoded b) (eqb b 0xdf) _ _ (λ _. record { escape = g; byte = λ _. rw fed_pending no_pending; unit = λ _. bare (omega arith) })
      (λ _. branch (GoodDecoded b) (eqb b 0xde) _ _ (λ _. ended-good (Appended 0xdf) (λ _. appended (omega arith)))
      (λ _. branch (GoodDecoded b) (ltb b 0xd0) _ _ (λ _. other-good)
      (λ _. branch (GoodDecoded b) (ltb b 0xde) _ _ (λ l. channel-good (ltb-true _ _ l)) (λ _. other-good))))

  plain-good : GoodDecoded b (plain_of e b)
  unfolding plain_of sound_pending
  plain-good =
      branch (GoodDecoded b) (eqb b 0xdf) _ _
      (λ _. record { escape = record { low = g.low; high = g.high; pending = rw fed_pending refl }; byte = λ _. rw fed_pending no_pending; unit = λ _. no_unit })
      (λ _. record { escape = g; byte = λ _. rw fed_pending no_pending; unit = λ h. appended h })

  -- a byte keeps the escapes sound
  decode-good : GoodDecoded b (decode_of e b)
  unfolding decode_of
  decode-good = branch (GoodDecoded b) e.escaped _ _ (λ _. escaped-good) (λ _. plain-good)

-- and so does a step of the decoder, which takes the pending byte before any other
pub decode-next-sound : DecodeNextSound
unfolding decode_next_of byte_next sound_pending
decode-next-sound e bytes n sound = go e.pending refl
  where
    g : SoundEscape e
    g = escape-parts e sound

    go : (p : Option ℕ) → e.pending ≡ p → sound_escape (pending_next p e bytes n).escape ≡ true
    go None fed_pending =
        let P : NextUnit → Type 0 = λ u. sound_escape u.escape ≡ true in
        branch P (ltb n (length bytes)) _ _ (λ _. escape-tested _ (decode-good e (get_or bytes n 0) g fed_pending).escape) (λ _. sound)
    go (Some u) waits = escape-tested _ (record { low = g.low; high = g.high; pending = refl })

-- ---- runs and feeds

-- a control and a store that are sound, with a pending byte that is a byte
pub record Good (c : Control) (s : List ℕ) : Type 0 where
  pub escape : SoundEscape c.escape
  pub byte : PendingByte c.escape.pending
  pub token : Sound c.token s

-- what holds after an answer: the control is sound with the store once the answer's bytes are given out, and these bytes are within bounds
abbrev pub Kept : StepEffect → Type 0
Kept o = Good o.answered.control (released o.answered.answer o.store) × Within o.answered.answer o.store

-- the pending byte as a unit
pub settle-good : (c : Control) (s : List ℕ) → Good c s → Kept (settle_of c s)
unfolding settle_of sound_pending
settle-good c s g = go c.escape.pending refl g.byte
  where
    go : (p : Option ℕ) → c.escape.pending ≡ p → PendingByte p → Kept (pending_of p c s)
    go None e k = (g, tt)
    go (Some u) e (pending_byte l) =
        (record { escape = record { low = g.escape.low; high = g.escape.high; pending = refl }; byte = no_pending; token = unit-sound c.node c.token s u true l g.token }, unit-within c.node c.token s u true g.token)

-- the unit that a byte gives
pub first_good : (c : Control) (s : List ℕ) (b : ℕ) → b < 256 → c.escape.pending ≡ None → Good c s → Kept (first_of c s b)
unfolding first_of
first_good c s b h q g =
    let d = decode-good c.escape b g.escape q in
    go (decode_of c.escape b).unit (d.unit h) (decode_of c.escape b).escape d.escape (d.byte h)
  where
    go : (u : Unitʷ) → UnitByte u → (e : Escape) → SoundEscape e → PendingByte e.pending → Kept (given_of u e c s)
    go Nothing no_unit e k l = (record { escape = k; byte = l; token = g.token }, tt)
    go (Bare u) (bare v) e k l = (record { escape = k; byte = l; token = unit-sound c.node c.token s u false v g.token }, unit-within c.node c.token s u false g.token)
    go (Appended u) (appended v) e k l = (record { escape = k; byte = l; token = unit-sound c.node c.token s u true v g.token }, unit-within c.node c.token s u true g.token)

-- without an answer the store itself is sound
kept_more : (o : StepEffect) → is_more o.answered.answer ≡ true → Kept o → Good o.answered.control o.store
kept_more o e k = rw (released-more o.answered.answer o.store e) at k.0

step-good : (c : Control) (s : List ℕ) (b : ℕ) → b < 256 → c.escape.pending ≡ None → Good c s → Kept (step_of c s b)
unfolding follow_of
step-good c s b h q g =
    let o = first_of c s b in
    let k = first_good c s b h q g in
    branch Kept (is_more o.answered.answer) _ _ (λ e. settle-good o.answered.control o.store (kept_more o e k)) (λ _. k)

run-good : (o : StepEffect) (n : ℕ) (bs : List ℕ) → AreBytes bs → Kept o → (is_more o.answered.answer ≡ true → o.answered.control.escape.pending ≡ None) → Kept (run_of (at o n) bs).effect
unfolding run_of
run-good o n [] no_bytes k q = k
run-good o n (b ∷ bs) (byte_then h hs) k q =
    go (is_more o.answered.answer) refl (λ g. run-good (step_of o.answered.control o.store b) (n + 1) bs hs g (step-not-pending o.answered.control o.store b))
  where
    go : (t : Bool) → is_more o.answered.answer ≡ t →
        (Kept (step_of o.answered.control o.store b) → Kept (run_of (at (step_of o.answered.control o.store b) (n + 1)) bs).effect) → Kept (run_of (at o n) (b ∷ bs)).effect
    go true e ih = rw (run_on o n b bs e) (ih (step-good o.answered.control o.store b h (q e) (kept_more o e k)))
    go false e ih = rw (stays (at o n) (b ∷ bs) e) k

-- a next call keeps the control and the store sound
pub advance-good : (c : Control) (s bytes : List ℕ) → AreBytes bytes → Good c s → Kept (advance_of c s bytes).effect
unfolding advance_of
advance-good c s bytes h g = run-good (settle_of c s) 0 bytes h (settle-good c s g) (λ _. settle-not-pending c s)

-- the test of a state gives the parts, and the parts give the test
pub state-parts : (s : State) → PendingByte s.control.escape.pending → sound_state s ≡ true → Good s.control s.store
unfolding sound_state
state-parts s h e =
    record {
      escape = escape-parts s.control.escape (and_left (sound_escape s.control.escape) (sound_token s.control.token s.store) e);
      byte = h;
      token = parts s.control.token s.store (and_right (sound_escape s.control.escape) (sound_token s.control.token s.store) e);
    }

pub state-tested : (s : State) → Good s.control s.store → sound_state s ≡ true
unfolding sound_state
state-tested s g = rw (escape-tested s.control.escape g.escape) (tested s.control.token s.store g.token)

-- the fresh state is sound
pub fresh-sound : sound_state fresh_state ≡ true
unfolding sound_state sound_escape sound_pending sound_token sound_counts stored_by fresh_state zeros
fresh-sound = refl

-- a next call on bytes leaves a sound state sound
pub sound-next : (s : State) (bytes : List ℕ) → AreBytes bytes → PendingByte s.control.escape.pending → sound_state s ≡ true → sound_state (next_of s bytes).state ≡ true
unfolding next_of
sound-next s bytes h p e =
    let P : Reply → Type 0 = λ n. sound_state n.state ≡ true in
    branch P (sound_state s) _ _
    (λ _. branch P (leb (length bytes) 65536) _ _
    (λ _. state-tested (next_from (advance_of s.control s.store bytes)).state (advance-good s.control s.store bytes h (state-parts s p e)).0)
    (λ _. e))
    (λ _. e)

module _ {M : Type 0} (h : ℤ → Answer → List ℕ → M → M) where
  fed-good : (x : Fed M) (bytes : List ℕ) → AreBytes bytes → x.control.escape.pending ≡ None → Good x.control x.store → Good (fed_from h x bytes).control (fed_from h x bytes).store
  unfolding fed_from
  fed-good x [] no_bytes q g = g
  fed-good x (b ∷ bs) (byte_then l ls) q g =
      let o = first_of x.control x.store b in
      fed-good (fed_byte h x b) bs ls (settle-not-pending _ _) (settle-good o.answered.control (released o.answered.answer o.store) (first_good x.control x.store b l q g).0).0

  -- a feed keeps the control and the store sound, through every answer
  pub feed-good : (x : Fed M) (bytes : List ℕ) → AreBytes bytes → Good x.control x.store → Good (feed_of h x bytes).control (feed_of h x bytes).store
  unfolding feed_of
  feed-good x bytes l g = fed-good (fed_pending h x) bytes l (settle-not-pending _ _) (settle-good x.control x.store g).0

  -- the same, as the test
  pub sound-feed : (x : Fed M) (bytes : List ℕ) → AreBytes bytes → PendingByte x.control.escape.pending → sound_state (record { control = x.control; store = x.store }) ≡ true →
      sound_state (record { control = (feed_of h x bytes).control; store = (feed_of h x bytes).store }) ≡ true
  sound-feed x bytes l p e =
      state-tested (record { control = (feed_of h x bytes).control; store = (feed_of h x bytes).store })
      (feed-good x bytes l (state-parts (record { control = x.control; store = x.store }) p e))

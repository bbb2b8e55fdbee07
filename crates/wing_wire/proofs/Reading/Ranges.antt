-- What the types say of a state stays so: its bytes stay bytes, its numbers keep their 32 bits, its store its 4,096 bytes.
use Prim.Native.Nat.{ℕ, zero, suc, ◌+◌, ◌-◌, ◌^◌, ◌%◌, ◌<◌}
use mathlib.Core.Bool.{Bool, true, false}
use mathlib.Core.Path.{◌≡◌, refl, ◌∙◌}
use mathlib.Core.List.{List, [], ◌∷◌, ◌++◌}
use native.Mathlib.Omega.{arith}
use lib.Dec.{ltb, leb, eqb}
use lib.IntN.{ℤ, pos}
use lib.Signed.{lt_z}
use lib.ListN.{length, take, drop, set, replicate, length-set, length-replicate}
use lib.Seq.{length_front}
use Rattle.wing_node.proofs.Branches.{branch}
use Rattle.wing_node.specs.Signed.{signed, InBits}
use Rattle.wing_node.specs.Utf8.{utf8}
use Rattle.wing_node.proofs.Numerals.Signs.{signed-in}
use Rattle.wing_node.specs.Refusal.{string_not_utf8}
use Rattle.wing_wire.specs.Token.{rule_of}
use Rattle.wing_wire.specs.State.{body_limit, fresh_state}
use Rattle.wing_wire.specs.Escape.{decode_of, escaped_of, plain_of, other_of}
use Rattle.wing_wire.specs.Unit.{completes, single_of, is_string, token_of, begin_of, count_of, long_count_of, number_of, shift_in, number_unit, UnitEffect, cleared, string_done, string_unit, keeps, body_done, body_next, body_unit, unit_of}
use Rattle.wing_wire.specs.Stream.{StepEffect, pending_of, settle_of, given_of, first_of, released, Fed, handle, fed_pending, fed_byte, fed_from, feed_of}
use Rattle.wing_wire.specs.Range.{AreBytes, no_bytes, byte_then, PendingByte, no_pending, pending_byte, NumberIn, StoreIn, InRange, AnswerIn}
use Rattle.wing_wire.specs.declared.token.Class.{Class}
use Rattle.wing_wire.specs.declared.token.Class.TheVariants.{NoEvent, Integer, String, Length, Int16, Int32, Float, Node, End, Count, LongCount}
use Rattle.wing_wire.specs.declared.state.Token.{Token}
use Rattle.wing_wire.specs.declared.state.Token.TheVariants.{Between, Number, String as InString, Body as InBody}
use Rattle.wing_wire.specs.declared.state.Escape.{Escape}
use Rattle.wing_wire.specs.declared.state.Control.{Control}
use Rattle.wing_wire.specs.declared.escape.Unit.{Unit as Unitʷ}
use Rattle.wing_wire.specs.declared.escape.Unit.TheVariants.{Nothing, Bare, Appended}
use Rattle.wing_wire.specs.declared.escape.Decoded.{Decoded}
use Rattle.wing_wire.specs.declared.unit.Answer.{Answer}
use Rattle.wing_wire.specs.declared.unit.Answer.TheVariants.{More, Integer as an_integer, Float as a_float, String as a_string, Body as a_body, End as an_end, Refused}
use Rattle.wing_wire.specs.declared.unit.Taken.{Taken}
use Rattle.wing_wire.proofs.Reading.Sound.{UnitByte, no_unit, bare, appended}
use Rattle.wing_node.specs.declared.refusal.Refusal.TheVariants.{BodyEmpty, BodyLong}
use Rattle.std.specs.Prelude.{Option, ℕ, None, Some}

-- ---- lists of bytes

bytes-set : (s : List ℕ) (k u : ℕ) → u < 256 → AreBytes s → AreBytes (set s k u)
bytes-set [] k u h no_bytes = no_bytes
bytes-set (b ∷ s) zero u h (byte_then l ls) = byte_then h ls
bytes-set (b ∷ s) (suc k) u h (byte_then l ls) = byte_then l (bytes-set s k u h ls)

pub bytes_drop : (n : ℕ) (s : List ℕ) → AreBytes s → AreBytes (drop n s)
bytes_drop zero s h = h
bytes_drop (suc n) [] h = h
bytes_drop (suc n) (b ∷ s) (byte_then l ls) = bytes_drop n s ls

bytes-cleared : (k : ℕ) (s : List ℕ) → AreBytes s → AreBytes (replicate k 0 ++ s)
bytes-cleared zero s h = h
bytes-cleared (suc k) s h = let z : 0 < 256 = omega arith in byte_then z (bytes-cleared k s h)

stored-set : (s : List ℕ) (k u : ℕ) → u < 256 → StoreIn s → StoreIn (set s k u)
stored-set s k u h g = record { size = length-set s k u ∙ g.size; bytes = bytes-set s k u h g.bytes }

stored-cleared : (n : ℕ) (s : List ℕ) → StoreIn s → StoreIn (cleared n s)
stored-cleared n s g =
    record {
      size = length_front s (replicate (length (take n s)) 0) n (length-replicate (length (take n s)) 0) ∙ g.size;
      bytes = bytes-cleared (length (take n s)) (drop n s) (bytes_drop n s g.bytes);
    }

stored-released : (a : Answer) (s : List ℕ) → StoreIn s → StoreIn (released a s)
stored-released More s g = g
stored-released (an_integer x) s g = g
stored-released (a_float x) s g = g
stored-released (a_string n) s g = stored-cleared n s g
stored-released (a_body n) s g = stored-cleared n s g
stored-released an_end s g = g
stored-released (Refused n) s g = g

-- ---- a unit

-- the numbers after a unit
pub record TakenIn (t : Taken) : Type 0 where
  pub node : InBits 31 t.node
  pub number : NumberIn t.token
  pub answer : AnswerIn t.answer

-- the numbers and the store after a unit
abbrev pub UnitEffectIn : UnitEffect → Type 0
UnitEffectIn o = TakenIn o.taken × StoreIn o.store

signed-short : (v : ℕ) → v < 0x10000 → InBits 31 (signed 15 v)
signed-short v h = branch (InBits 31) (ltb v (2 ^ 15)) _ _ (λ e. omega arith) (λ e. omega arith)

module _ (node : ℤ) (node_in : InBits 31 node) where
  plainly : (t : Token) (a : Answer) → NumberIn t → AnswerIn a → TakenIn (record { answer = a; node = node; token = t })
  plainly t a k l = record { node = node_in; number = k; answer = l }

  single-in : (class : Class) (t : ℕ) → t < 256 → TakenIn (completes node (single_of class t))
  unfolding single_of
  single-in NoEvent t h = plainly Between More tt tt
  single-in Integer t h = plainly Between (an_integer (pos t)) tt (omega arith)
  single-in String t h = plainly Between (a_string 0) tt tt
  single-in Length t h = plainly Between More tt tt
  single-in Int16 t h = plainly Between More tt tt
  single-in Int32 t h = plainly Between More tt tt
  single-in Float t h = plainly Between More tt tt
  single-in Node t h = plainly Between More tt tt
  single-in End t h = plainly Between an_end tt tt
  single-in Count t h = plainly Between More tt tt
  single-in LongCount t h = plainly Between More tt tt

  token-in : (class : Class) (wants : ℕ) → NumberIn (token_of class wants)
  unfolding token_of
  token-in class wants = branch NumberIn (is_string class) _ _ (λ _. tt) (λ _. omega arith)

  begin-in : (t : ℕ) → t < 256 → TakenIn (begin_of node t)
  unfolding begin_of
  begin-in t h = branch TakenIn (eqb (rule_of t).wants 0) _ _ (λ _. single-in (rule_of t).class t h) (λ _. plainly (token_of (rule_of t).class (rule_of t).wants) More (token-in (rule_of t).class (rule_of t).wants) tt)

  count-in : (c : ℕ) → TakenIn (count_of node c)
  unfolding count_of
  count-in c = branch TakenIn (eqb c 0) _ _ (λ _. plainly (Number LongCount 4 0) More (omega arith) tt) (λ _. plainly (InBody 0 c c) More tt tt)

  long-count-in : (c : ℕ) → TakenIn (long_count_of node c)
  unfolding long_count_of
  long-count-in c = branch TakenIn (eqb c 0) _ _ (λ _. plainly Between (Refused BodyEmpty) tt tt) (λ _. plainly (InBody 0 c c) More tt tt)

  number_in : (class : Class) (v : ℕ) → v < 2 ^ 32 → TakenIn (number_of node class v)
  unfolding number_of
  number_in NoEvent v h = plainly Between More tt tt
  number_in Integer v h = plainly Between More tt tt
  number_in String v h = plainly Between More tt tt
  number_in Length v h = plainly (InString (v % 0x100 + 1) (v % 0x100 + 1)) More tt tt
  number_in Int16 v h = plainly Between (an_integer (signed 15 (v % 0x10000))) tt (signed-short (v % 0x10000) (omega arith))
  number_in Int32 v h = plainly Between (an_integer (signed 31 v)) tt (signed-in 31 v h)
  number_in Float v h = plainly Between (a_float v) tt h
  number_in Node v h = record { node = signed-in 31 v h; number = tt; answer = tt }
  number_in End v h = plainly Between More tt tt
  number_in Count v h = count-in (v % 0x10000)
  number_in LongCount v h = long-count-in v

  number-unit-in : (class : Class) (left v u : ℕ) → u < 256 → TakenIn (number_unit node class left v u)
  unfolding number_unit
  number-unit-in class left v u h =
      let l : shift_in v u < 2 ^ 32 = omega arith in
      branch TakenIn (leb left 1) _ _ (λ _. number_in class (shift_in v u) l) (λ _. plainly (Number class (left - 1) (shift_in v u)) More l tt)

  done-in : (want : ℕ) (s : List ℕ) → StoreIn s → UnitEffectIn (string_done node want s)
  unfolding string_done
  done-in want s g =
      branch UnitEffectIn (utf8 (take want s)) _ _ (λ _. (plainly Between (a_string want) tt tt, g)) (λ _. (plainly Between (Refused (string_not_utf8 (take want s))) tt tt, stored-cleared want s g))

  string-in : (want left u : ℕ) (s : List ℕ) → u < 256 → StoreIn s → UnitEffectIn (string_unit node want left s u)
  unfolding string_unit
  string-in want left u s h g =
      let k = stored-set s (want - left) u h g in
      branch UnitEffectIn (leb left 1) _ _ (λ _. done-in want (set s (want - left) u) k) (λ _. (plainly (InString want (left - 1)) More tt tt, k))

  body-next-in : (want left stored : ℕ) → TakenIn (body_next node want left stored)
  unfolding body_next body_done
  body-next-in want left stored =
      branch TakenIn (leb left 1) _ _
      (λ _. branch TakenIn (leb want body_limit) _ _ (λ _. plainly Between (a_body stored) tt tt) (λ _. plainly Between (Refused BodyLong) tt tt))
      (λ _. plainly (InBody stored want (left - 1)) More tt tt)

  body-in : (want left stored u : ℕ) (s : List ℕ) (a : Bool) → u < 256 → StoreIn s → UnitEffectIn (body_unit node want left stored s u a)
  unfolding body_unit
  body-in want left stored u s a h g =
      branch UnitEffectIn (keeps want stored a) _ _ (λ _. (body-next-in want left (stored + 1), stored-set s stored u h g)) (λ _. (body-next-in want left stored, g))

  -- a unit that is a byte keeps the numbers and the store in range
  pub unit-in : (t : Token) (s : List ℕ) (u : ℕ) (a : Bool) → u < 256 → StoreIn s → UnitEffectIn (unit_of node t s u a)
  unfolding unit_of
  unit-in Between s u a h g = (begin-in u h, g)
  unit-in (Number class left v) s u a h g = (number-unit-in class left v u h, g)
  unit-in (InString want left) s u a h g = string-in want left u s h g
  unit-in (InBody stored want left) s u a h g = body-in want left stored u s a h g

-- ---- the escapes

-- the unit of a byte is a byte, and so is what it leaves pending
record DecodedIn (d : Decoded) : Type 0 where
  pub pending : PendingByte d.escape.pending
  pub unit : UnitByte d.unit

module _ (e : Escape) (b : ℕ) (h : b < 256) (g : PendingByte e.pending) where
  other-in : DecodedIn (other_of e b)
  unfolding other_of
  other-in = branch DecodedIn (lt_z e.channel (pos 0)) _ _ (λ _. record { pending = g; unit = appended h }) (λ _. record { pending = pending_byte h; unit = appended (omega arith) })

  escaped-in : DecodedIn (escaped_of e b)
  unfolding escaped_of
  escaped-in =
      branch DecodedIn (eqb b 0xdf) _ _ (λ _. record { pending = g; unit = bare (omega arith) })
      (λ _. branch DecodedIn (eqb b 0xde) _ _ (λ _. record { pending = g; unit = appended (omega arith) })
      (λ _. branch DecodedIn (ltb b 0xd0) _ _ (λ _. other-in)
      (λ _. branch DecodedIn (ltb b 0xde) _ _ (λ _. record { pending = g; unit = no_unit }) (λ _. other-in))))

  decode-in : DecodedIn (decode_of e b)
  unfolding decode_of plain_of
  decode-in =
      branch DecodedIn e.escaped _ _ (λ _. escaped-in)
      (λ _. branch DecodedIn (eqb b 0xdf) _ _ (λ _. record { pending = g; unit = no_unit }) (λ _. record { pending = g; unit = appended h }))

-- ---- runs and feeds

-- an answer, the control after it, and the store that holds its bytes
pub record StepEffectIn (o : StepEffect) : Type 0 where
  pub pending : PendingByte o.answered.control.escape.pending
  pub node : InBits 31 o.answered.control.node
  pub number : NumberIn o.answered.control.token
  pub answer : AnswerIn o.answered.answer
  pub store : StoreIn o.store

-- the state once the answer's bytes are given out
pub after-in : (o : StepEffect) → StepEffectIn o → InRange o.answered.control (released o.answered.answer o.store)
after-in o g = record { pending = g.pending; node = g.node; number = g.number; store = stored-released o.answered.answer o.store g.store }

-- the pending byte as a unit
pub settle-in : (c : Control) (s : List ℕ) → InRange c s → StepEffectIn (settle_of c s)
unfolding settle_of
settle-in c s g = go c.escape.pending refl g.pending
  where
    go : (p : Option ℕ) → c.escape.pending ≡ p → PendingByte p → StepEffectIn (pending_of p c s)
    go None e k = record { pending = g.pending; node = g.node; number = g.number; answer = tt; store = g.store }
    go (Some u) e (pending_byte l) =
        let o = unit-in c.node g.node c.token s u true l g.store in
        record { pending = no_pending; node = o.0.node; number = o.0.number; answer = o.0.answer; store = o.1 }

-- the unit that a byte gives
pub first-in : (c : Control) (s : List ℕ) (b : ℕ) → b < 256 → InRange c s → StepEffectIn (first_of c s b)
unfolding first_of
first-in c s b h g =
    let d = decode-in c.escape b h g.pending in
    go (decode_of c.escape b).unit d.unit (decode_of c.escape b).escape d.pending
  where
    go : (u : Unitʷ) → UnitByte u → (e : Escape) → PendingByte e.pending → StepEffectIn (given_of u e c s)
    go Nothing no_unit e k = record { pending = k; node = g.node; number = g.number; answer = tt; store = g.store }
    go (Bare u) (bare l) e k =
        let o = unit-in c.node g.node c.token s u false l g.store in
        record { pending = k; node = o.0.node; number = o.0.number; answer = o.0.answer; store = o.1 }
    go (Appended u) (appended l) e k =
        let o = unit-in c.node g.node c.token s u true l g.store in
        record { pending = k; node = o.0.node; number = o.0.number; answer = o.0.answer; store = o.1 }

zero-bytes : (k : ℕ) → AreBytes (replicate k 0)
zero-bytes zero = no_bytes
zero-bytes (suc k) = let z : 0 < 256 = omega arith in byte_then z (zero-bytes k)

-- the fresh state is in range
pub fresh_in_lem : InRange fresh_state.control fresh_state.store
unfolding fresh_state
fresh_in_lem = record { pending = no_pending; node = omega arith; number = tt; store = record { size = length-replicate {A = ℕ} body_limit 0; bytes = zero-bytes body_limit } }

module _ {M : Type 0} (h : ℤ → Answer → List ℕ → M → M) where
  pending-in : (x : Fed M) → InRange x.control x.store → InRange (fed_pending h x).control (fed_pending h x).store
  pending-in x g = after-in (settle_of x.control x.store) (settle-in x.control x.store g)

  fed-in : (x : Fed M) (bytes : List ℕ) → AreBytes bytes → InRange x.control x.store → InRange (fed_from h x bytes).control (fed_from h x bytes).store
  unfolding fed_from
  fed-in x [] no_bytes g = g
  fed-in x (b ∷ bs) (byte_then l ls) g =
      let o = first_of x.control x.store b in
      fed-in (fed_byte h x b) bs ls (pending-in (handle h o x.memo) (after-in o (first-in x.control x.store b l g)))

  -- the control and the store after a feed of bytes are in range
  pub range-feed : (x : Fed M) (bytes : List ℕ) → AreBytes bytes → InRange x.control x.store → InRange (feed_of h x bytes).control (feed_of h x bytes).store
  unfolding feed_of
  range-feed x bytes l g = fed-in (fed_pending h x) bytes l (pending-in x g)

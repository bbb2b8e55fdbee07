-- What a user of the decoder may rely on besides the contracts: laws of a next call and of a feed, the latter for any handler of the answers.
use Rattle.std.specs.Prelude.{ℕ, suc, ◌+◌, ◌≤◌, true, false, ◌≡◌, ◌⊎◌, List, [], ◌∷◌, ◌++◌, ℤ, pos, length, drop, None}
use Rattle.wing_node.specs.Signed.{InBits}
use Rattle.wing_wire.specs.State.{sound_state, fresh_state}
use Rattle.wing_wire.specs.Escape.{DecodeNextSound}
use Rattle.wing_wire.specs.Stream.{is_more, Run, advance_of, released, Fed, feed_of}
use Rattle.wing_wire.specs.Reader.{Event, filled}
use Rattle.wing_wire.specs.Units.{pending_count}
use Rattle.wing_wire.specs.Range.{AreBytes, Within, TokenWithin, StepEffectWithin, StoreIn, InRange, AnswerIn}
use Rattle.wing_wire.specs.RoundTrip.{fed_rest, RoundTripPieces}
use Rattle.wing_wire.specs.declared.state.Control.{Control}
use Rattle.wing_wire.specs.declared.state.State.{State}
use Rattle.wing_wire.specs.declared.unit.Answer.{Answer}

-- what is made of an answer: by the current node, the answer, the store that holds its bytes, and what was made before
abbrev pub Handler : Type 0 → Type 0
Handler M = ℤ → Answer → List ℕ → M → M

-- the handler that counts the answers
abbrev pub count : Handler ℕ
count node a s n = suc n

-- the decoder's state within a feed
abbrev pub state_in : {M : Type 0} → Fed M → State
state_in x = record { control = x.control; store = x.store }

-- the next answer within a feed
abbrev pub next_in : {M : Type 0} → Fed M → List ℕ → Run
next_in x bytes = advance_of x.control x.store bytes

-- the same decoder, with f of what was made
abbrev pub mapped : {M N : Type 0} → (M → N) → Fed M → Fed N
mapped f x = record { control = x.control; store = x.store; memo = f x.memo }

-- the core, for any control, store and bytes
pub record NextLaws : Type 0 where
  -- it takes no more bytes than there are
  pub within : (c : Control) (s bytes : List ℕ) → (advance_of c s bytes).taken ≤ length bytes
  -- 01: it answers "more" only when all bytes are taken and nothing is pending
  pub more : (c : Control) (s bytes : List ℕ) → is_more (advance_of c s bytes).effect.answered.answer ≡ true →
      ((advance_of c s bytes).taken ≡ length bytes) × ((advance_of c s bytes).effect.answered.control.escape.pending ≡ None)
  -- any other answer has taken a byte, or else the pending byte, and then nothing is pending after it
  pub takes : (c : Control) (s bytes : List ℕ) → is_more (advance_of c s bytes).effect.answered.answer ≡ false →
      (1 ≤ (advance_of c s bytes).taken) ⊎ ((pending_count c.escape.pending ≡ 1) × ((advance_of c s bytes).effect.answered.control.escape.pending ≡ None))
  -- 01: string (256 bytes) or body (4,096 bytes): from a token within these bounds the answer is within them, and so is the token that is left
  pub bounded : (c : Control) (s bytes : List ℕ) → TokenWithin c.token → StepEffectWithin (length s) (advance_of c s bytes).effect
  -- the token of a sound state is within them
  pub sound : (s : State) → sound_state s ≡ true → TokenWithin s.control.token

-- a feed with any handler
pub record FeedLaws : Type 1 where
  -- 01: next until "more": with "more" the feed ends
  pub ends : {M : Type 0} (h : Handler M) (x : Fed M) (bytes : List ℕ) → is_more (next_in x bytes).effect.answered.answer ≡ true →
      feed_of h x bytes ≡ record { control = (next_in x bytes).effect.answered.control; store = (next_in x bytes).effect.store; memo = x.memo }
  -- any other answer is handed on with its node, its bytes are released, and the feed goes on with the bytes that were not taken
  pub again : {M : Type 0} (h : Handler M) (x : Fed M) (bytes : List ℕ) → is_more (next_in x bytes).effect.answered.answer ≡ false →
      feed_of h x bytes ≡
      feed_of h
      (record {
        control = (next_in x bytes).effect.answered.control;
        store = released (next_in x bytes).effect.answered.answer (next_in x bytes).effect.store;
        memo = h (next_in x bytes).effect.answered.control.node (next_in x bytes).effect.answered.answer (next_in x bytes).effect.store x.memo;
      })
      (drop (next_in x bytes).taken bytes)
  -- no bytes, where nothing is pending, change nothing
  pub empty : {M : Type 0} (h : Handler M) (x : Fed M) → x.control.escape.pending ≡ None → feed_of h x [] ≡ x
  -- bytes in two pieces, at any split, are the bytes at once
  pub pieces : {M : Type 0} (h : Handler M) (x : Fed M) (a b : List ℕ) → feed_of h x (a ++ b) ≡ feed_of h (feed_of h x a) b
  -- a map between what two handlers make, which agrees with them at each answer, agrees with them over the feed; the decoder is the same in both
  pub along : {M N : Type 0} (h : Handler M) (k : Handler N) (f : M → N) →
      ((node : ℤ) (a : Answer) (s : List ℕ) (m : M) → f (h node a s m) ≡ k node a s (f m)) →
      (x : Fed M) (bytes : List ℕ) → mapped f (feed_of h x bytes) ≡ feed_of k (mapped f x) bytes
  -- 01: d0 to dd after df: channel becomes byte − d0, no unit
  pub channel : {M : Type 0} (h : Handler M) (ch node : ℤ) (s : List ℕ) (m : M) (n : ℕ) → n ≤ 13 →
      feed_of h (fed_rest ch node s m) (0xdf ∷ (0xd0 + n) ∷ []) ≡ fed_rest (pos n) node s m
  -- a set order, its bytes in any pieces, is read as its value at its node
  pub order : {M : Type 0} (h : ℤ → Event → M → M) → RoundTripPieces h

-- a feed of bytes into a sound state in the range of its types
pub record SoundLaws : Type 1 where
  -- the fresh state is sound
  pub fresh : sound_state fresh_state ≡ true
  -- and in the range of its types
  pub fresh_in : InRange fresh_state.control fresh_state.store
  -- sound escapes stay sound under a step of the decoder, whatever the bytes
  pub step : DecodeNextSound
  -- a feed leaves the state in that range
  pub range : {M : Type 0} (h : Handler M) (x : Fed M) (bytes : List ℕ) → AreBytes bytes → InRange x.control x.store →
      InRange (feed_of h x bytes).control (feed_of h x bytes).store
  -- and sound
  pub sound : {M : Type 0} (h : Handler M) (x : Fed M) (bytes : List ℕ) → AreBytes bytes → InRange x.control x.store →
      sound_state (state_in x) ≡ true → sound_state (state_in (feed_of h x bytes)) ≡ true
  -- what a handler keeps at every answer that is in range and within bounds, the feed keeps
  pub keeps : {M : Type 0} (h : Handler M) (P : M → Type 0) →
      ((node : ℤ) (a : Answer) (s : List ℕ) (m : M) → InBits 31 node → Within a s → AnswerIn a → StoreIn s → P m → P (h node a s m)) →
      (x : Fed M) (bytes : List ℕ) → AreBytes bytes → InRange x.control x.store → sound_state (state_in x) ≡ true → P x.memo → P (feed_of h x bytes).memo
  -- a sound state gives at most one answer more than there are bytes
  pub few : (x : Fed ℕ) (bytes : List ℕ) → sound_state (state_in x) ≡ true → (feed_of count x bytes).memo ≤ x.memo + length bytes + 1

-- what a user of the decoder may rely on
pub record DecoderLaws : Type 1 where
  -- of one answer
  pub next : NextLaws
  -- of every answer that the bytes give
  pub feed : FeedLaws
  -- of sound states
  pub sound : SoundLaws
  -- zero-filled bytes are as many as their width
  pub filled_size : (w : ℕ) (s : List ℕ) → length (filled w s) ≡ w

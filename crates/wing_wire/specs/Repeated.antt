-- Next calls repeated are the feed; and the core gives what a next call gives.
use Rattle.std.specs.Prelude.{ℕ, ◌≤◌, true, ◌≡◌, List, ℤ, length, drop}
use Rattle.wing_wire.specs.State.{body_limit, sound_state}
use Rattle.wing_wire.specs.Stream.{Run, advance_of, released, Fed, feed_of}
use Rattle.wing_wire.specs.Reader.{Event, event_of, next_of, event_in}
use Rattle.wing_wire.specs.Range.{AreBytes, PendingByte}
use Rattle.wing_wire.specs.declared.state.State.{State}
use Rattle.wing_wire.specs.declared.unit.Answer.TheVariants.{More}

-- a next call that is not sent back: a sound state, whose store has 4,096 bytes, and at most 65,536 bytes
pub record Accepted (s : State) (bytes : List ℕ) : Type 0 where
  pub sound : sound_state s ≡ true
  pub store : length s.store ≡ body_limit
  pub most : length bytes ≤ 65536

-- for a handler of events
module _ {M : Type 0} (h : ℤ → Event → M → M) where
  -- a state, with what the handler has made so far
  abbrev pub fed_state : State → M → Fed M
  fed_state s m = record { control = s.control; store = s.store; memo = m }

  -- a feed that hands each event on, at the node of the state after it
  abbrev pub feed_events : Fed M → List ℕ → Fed M
  feed_events x bytes = feed_of (λ node a s m. h node (event_of a s s) m) x bytes

  -- 01: feed runs next until 'more'
  pub record NextOfFeed (s : State) (bytes : List ℕ) (m : M) : Type 0 where
    -- where next answers more, the feed leaves next's state and hands nothing on
    pub more : (next_of s bytes).answer ≡ More → feed_events (fed_state s m) bytes ≡ fed_state (next_of s bytes).state m
    -- any other answer is handed on at the node of next's state, and the bytes that next did not take are fed to this state
    pub again : ((next_of s bytes).answer ≡ More → ⊥) →
        feed_events (fed_state s m) bytes ≡
        feed_events (fed_state (next_of s bytes).state (h (next_of s bytes).state.control.node (event_in (next_of s bytes)) m)) (drop (next_of s bytes).taken bytes)

  -- so it is with every next call that is not sent back
  abbrev pub Repeated : Type 0
  Repeated = (s : State) (bytes : List ℕ) (m : M) → Accepted s bytes → NextOfFeed s bytes m

  -- next calls one after the other, each on the state that the one before left and the bytes that it did not take, until one answers
  -- more; every other answer is handed on. x is what is left
  pub data NextCalls : State → List ℕ → M → Fed M → Type 0 where
    ends : (s : State) (bytes : List ℕ) (m : M) → (next_of s bytes).answer ≡ More → NextCalls s bytes m (fed_state (next_of s bytes).state m)
    goes_on : (s : State) (bytes : List ℕ) (m : M) (x : Fed M) → ((next_of s bytes).answer ≡ More → ⊥) →
        NextCalls (next_of s bytes).state (drop (next_of s bytes).taken bytes) (h (next_of s bytes).state.control.node (event_in (next_of s bytes)) m) x → NextCalls s bytes m x

  -- 01: feed runs next until 'more': there is such a row of next calls, and it leaves what the feed leaves. A pending byte is a byte
  abbrev pub UntilMore : Type 0
  UntilMore = (s : State) (bytes : List ℕ) (m : M) → Accepted s bytes → PendingByte s.control.escape.pending → AreBytes bytes →
      NextCalls s bytes m (feed_events (fed_state s m) bytes)

-- the core's answer, bytes taken and control are those of the next call; its store holds the string or body at its front, and is
-- next's store once these are given out
pub record CoreGives (r : Run) (s : State) (bytes : List ℕ) : Type 0 where
  pub answer : r.effect.answered.answer ≡ (next_of s bytes).answer
  pub taken : r.taken ≡ (next_of s bytes).taken
  pub control : r.effect.answered.control ≡ (next_of s bytes).state.control
  pub event : event_of r.effect.answered.answer r.effect.store r.effect.store ≡ event_in (next_of s bytes)
  pub store : released r.effect.answered.answer r.effect.store ≡ (next_of s bytes).state.store

-- for every next call that is not sent back
abbrev pub CoreIsNext : Type 0
CoreIsNext = (s : State) (bytes : List ℕ) → Accepted s bytes → CoreGives (advance_of s.control s.store bytes) s bytes

-- A control and the store in a state's bytes: what is left when a feed or a next call uses the store where it stands and its control is laid before it. Both leave
-- a sound state sound, so that the bytes read as the state after them.
use Prim.Native.Nat.{ℕ, ◌-◌}
use mathlib.Core.Bool.{Bool, true, false, true≢false}
use mathlib.Core.Path.{◌≡◌, refl, sym, ◌∙◌, ap, subst}
use mathlib.Core.List.{List, ◌++◌, append-nil}
use native.Mathlib.Omega.{arith}
use mir.Val.{Val}
use denote.Laws.{Is}
use denote.Struct.Declared.{row}
use borrow.Author.Tests.{eq-eqb, le-ltb}
use borrow.Rule.Slice.PartMut.{put_mid}
use lib.Dec.{leb}
use lib.ListN.{length, take, drop, length-drop, take-append-drop, drop_of_length-le}
use lib.Seq.{take_all, drop_at, length-take-le}
use Rattle.wing_node.specs.Result.{ok, refused, Result}
use Rattle.wing_node.proofs.Branches.{branch}
use Rattle.wing_wire.specs.State.{body_limit, state_of, sound_state, fresh_state}
use Rattle.wing_wire.specs.Range.{AreBytes}
use Rattle.wing_wire.specs.Reader.{next_of, next_event}
use Rattle.wing_wire.specs.Write.{WriteEffect, write_effect, write_of}
use Rattle.wing_wire.specs.declared.state.Control.{Control}
use Rattle.wing_wire.specs.declared.state.State.{State}
use Rattle.wing_wire.specs.declared.stream.Advanced.{Advanced}
use Rattle.wing_wire.proofs.Laws.{decoder-laws}
use Rattle.wing_wire.proofs.Reading.Ranges.{bytes_drop}
use Rattle.wing_wire.proofs.Reading.Sound.{sound-next}
use Rattle.wing_wire.specs.contracts.state.Control as controls
use Rattle.wing_saved.specs.Saved.{version, saved_size, head_bytes, state_bytes, sound_only, state_from, save_of, Typed, Saves, HeadOf}
use Rattle.wing_saved.proofs.Saving.Heads.{head-size}
use Rattle.wing_saved.proofs.Saving.Trips.{saved-laws}
use Rattle.wing_saved.specs.Earlier.{earlier_from, carried_from}
use Rattle.wing_saved.proofs.Saving.Before.{earlier-laws, carried-typed, carried-sound}
use Rattle.wing_saved.proofs.Saving.Types.{parts_typed}
use Rattle.wing_mirror.specs.Rows.{Table}
use Rattle.wing_mirror.specs.Record.{full}
use Rattle.wing_mirror.specs.Table.{usable}
use Rattle.wing_mirror.specs.Counts.{zero_counts}
use Rattle.wing_mirror.specs.Mirror.{FeedEffect, lent_effect, table_tally, keep, fed_all, refused_feed, mirror_feed, lent_feed}
use Rattle.wing_mirror.specs.declared.answer.LentFeedReply.{LentFeedReply}
use Rattle.wing_c.specs.Numbers.{fed_numbers, event_numbers}
use Rattle.wing_c.specs.Kept.{state_in, kept_feed, state_after, read_after, feed_from, feed_with, feed_kept, state_fed, LentNext, lent_next, next_left, kept_next, next_replied}
use Rattle.wing_c.specs.declared.answers.WingFed.{WingFed}
use Rattle.wing_c.specs.declared.answers.WingEvent.{WingEvent}
use Rattle.wing_c.proofs.Effects.{feed-as}
use Rattle.wing_node.specs.declared.refusal.Refusal.TheVariants.{StateUnsound}
use Rattle.std.specs.Prelude.{ℕ, is_ok}

-- a sound state's bytes fill those of another
saves : (s : State) (out : List ℕ) {w : (Result ℕ)} {kept : List ℕ} → Typed s → sound_state s ≡ true → length out ≡ saved_size →
    write_effect w kept ≡ save_of s out → Saves kept s
saves s out {w} {kept} t g l e =
    record { typed = t; sound = g; laid = sym (ap (λ (x : WriteEffect). x.out) (e ∙ saved-laws.kept s out g t.range.store.size l)) }

-- the fresh state is what its types say
fresh-typed : Typed fresh_state
unfolding fresh_state
fresh-typed = record { range = decoder-laws.sound.fresh_in; count = tt }

-- and its bytes read as it
pub fresh-reads : (out : List ℕ) {w : (Result ℕ)} {kept : List ℕ} → write_effect w kept ≡ save_of fresh_state out → length out ≡ saved_size → state_from kept ≡ ok fresh_state
fresh-reads out {w} {kept} e l = saved-laws.back kept fresh_state (saves fresh_state out fresh-typed decoder-laws.sound.fresh l e)

-- what bytes of version 1 are carried over as, written, reads as it
pub carried-reads : (earlier : List ℕ) (t : State) → AreBytes earlier → carried_from (earlier_from earlier) ≡ ok t → (out : List ℕ) {w : (Result ℕ)} {kept : List ℕ} →
    write_effect w kept ≡ save_of t out → length out ≡ saved_size → state_from kept ≡ ok t
carried-reads earlier t are o out {w} {kept} e l =
    let k = earlier-laws.again earlier t are o in
    saved-laws.back kept t (saves t out (carried-typed earlier t k) (carried-sound earlier t k) l e)

-- ---- the store in a state's bytes

-- what is lent after the fields
pub lent-part : (state : List ℕ) → take (length state - 27) (drop 27 state) ≡ drop 27 state
lent-part state = take_all (length state - 27) (drop 27 state) (omega (arith, length-drop 27 state))

-- the bytes with the store that comes back
abbrev pub with_store : List ℕ → List ℕ → List ℕ
with_store state store = put_mid 27 (length state - 27) state store

with-store : (state store : List ℕ) → with_store state store ≡ take 27 state ++ store
with-store state store =
    ap (λ (l : List ℕ). take 27 state ++ (store ++ l)) (drop_of_length-le (drop 27 state) {i = length state - 27} (omega (arith, length-drop 27 state))) ∙
    ap (λ (l : List ℕ). take 27 state ++ l) (append-nil store)

store-back : (state store : List ℕ) → length state ≡ saved_size → drop 27 (with_store state store) ≡ store
store-back state store l = ap (drop 27) (with-store state store) ∙ drop_at (take 27 state) store 27 (length-take-le 27 state (omega arith))

-- a control that the code has and the store in bytes are in the range of their types
pub kept-typed : (c : Control) (vs : List Val) → Is (row controls.the_type) c vs → (state : List ℕ) → AreBytes state → length state ≡ saved_size → Typed (state_in c state)
kept-typed c vs r state are l = parts_typed c vs r (bytes_drop 27 state are) (length-drop 27 state ∙ omega arith)

-- the fields of a control laid before the store
pub head-laid : (c : Control) (state : List ℕ) {w : (Result ℕ)} {kept : List ℕ} → length state ≡ saved_size → write_effect w kept ≡ write_of (head_bytes c) state →
    state_bytes (state_in c state) ≡ kept
unfolding write_of state_bytes
head-laid c state l e =
    sym (ap (λ (x : WriteEffect). x.out) e ∙ rw (le-ltb (length state) (length (head_bytes c)) (omega (arith, head-size version c)), head-size version c) refl)

-- ---- sound or not

by-test : {P : Type 0} (t : Bool) → (t ≡ true → P) → (t ≡ false → P) → P
by-test true p q = p refl
by-test false p q = q refl

-- bytes with a head read as its state, if it is sound
pub head-sound : (state : List ℕ) (c : Control) → HeadOf state c → sound_state (state_in c state) ≡ true → state_from state ≡ ok (state_in c state)
unfolding sound_only
head-sound state c h e = h.state ∙ rw e refl

pub head-unsound : (state : List ℕ) (c : Control) → HeadOf state c → sound_state (state_in c state) ≡ false → state_from state ≡ refused StateUnsound
unfolding sound_only
head-unsound state c h e = h.state ∙ rw e refl

-- ---- feed

module _ (s : State) (t : Table) (bytes : List ℕ) where
  -- a feed leaves a sound state sound, whatever the table
  feed-sound : Typed s → AreBytes bytes → sound_state s ≡ true → sound_state (mirror_feed full s t bytes).state ≡ true
  unfolding mirror_feed fed_all
  feed-sound k are g =
      branch P (sound_state s) _ _
      (λ _. branch P (usable full t) _ _
      (λ _. branch P (leb (length bytes) 65536) _ _
      (λ _. decoder-laws.sound.sound (keep full) (record { control = s.control; store = s.store; memo = table_tally t zero_counts }) bytes are k.range g)
      (λ _. g)) (λ _. g)) (λ _. g)
    where
      P : FeedEffect → Type 0
      P x = sound_state x.state ≡ true

  -- after a refused feed the state is as it was
  feed-reads : read_after (mirror_feed full s t bytes).answer (mirror_feed full s t bytes).state (ok s) ≡ ok (mirror_feed full s t bytes).state
  unfolding mirror_feed
  feed-reads =
      branch P (sound_state s) _ _
      (λ _. branch P (usable full t) _ _ (λ _. branch P (leb (length bytes) 65536) _ _ (λ _. refl) (λ _. refl)) (λ _. refl)) (λ _. refl)
    where
      P : FeedEffect → Type 0
      P x = read_after x.answer x.state (ok s) ≡ ok x.state

  -- a state that is not sound is refused with 8
  feed-unsound : sound_state s ≡ false → mirror_feed full s t bytes ≡ refused_feed StateUnsound s t
  unfolding mirror_feed
  feed-unsound e = rw e refl

  -- so a feed that is taken was of a sound state
  taken-sound : is_ok (mirror_feed full s t bytes).answer ≡ true → sound_state s ≡ true
  taken-sound a =
      by-test (sound_state s) (λ e. e)
      (λ e. absurd (true≢false (sym a ∙ ap (λ (x : FeedEffect). is_ok x.answer) (feed-unsound e))))

module _ (before : List ℕ) (c : Control) (t : Table) (bytes : List ℕ) (h : HeadOf before c) where
  -- the whole store is lent
  lent-whole : lent_feed full (state_in c before) t bytes ≡ mirror_feed full (state_in c before) t bytes
  unfolding lent_feed
  lent-whole = rw (eq-eqb (length (drop 27 before)) body_limit (length-drop 27 before ∙ omega (arith, h.size))) refl

  -- a feed on these bytes is the library's on the state that they begin, sound or not
  feed-kept : feed_kept before t bytes ≡ feed_from (mirror_feed full (state_in c before) t bytes) before
  unfolding feed_with
  feed-kept =
      by-test (sound_state (state_in c before)) (λ e. rw (head-sound before c h e) refl)
      (λ e. rw (head-unsound before c h e, feed-unsound (state_in c before) t bytes e) refl)

  state-fed : read_after (mirror_feed full (state_in c before) t bytes).answer (mirror_feed full (state_in c before) t bytes).state (state_from before) ≡
      state_fed (state_from before) t bytes
  unfolding state_fed
  state-fed =
      by-test (sound_state (state_in c before)) (λ e. rw (head-sound before c h e) (feed-reads (state_in c before) t bytes))
      (λ e. rw (head-unsound before c h e, feed-unsound (state_in c before) t bytes e) refl)

  -- the store that a feed leaves, with the fields that stood before it: a refused feed leaves all as it was
  abbrev Unaltered : FeedEffect → Type 0
  Unaltered x =
      (state_after x.answer x.state (take 27 before ++ x.state.store) ≡ state_after x.answer x.state before) ×
      (read_after x.answer x.state (state_from (take 27 before ++ x.state.store)) ≡ read_after x.answer x.state (state_from before))

  unaltered : Unaltered (mirror_feed full (state_in c before) t bytes)
  unfolding mirror_feed
  unaltered =
      branch Unaltered (sound_state (state_in c before)) _ _
      (λ _. branch Unaltered (usable full t) _ _ (λ _. branch Unaltered (leb (length bytes) 65536) _ _ (λ _. (refl, refl)) (λ _. same)) (λ _. same)) (λ _. same)
    where
      same : (take 27 before ++ drop 27 before ≡ before) × (state_from (take 27 before ++ drop 27 before) ≡ state_from before)
      same = (take-append-drop 27 before, ap state_from (take-append-drop 27 before))

  module _ (f : LentFeedReply) (store buffer : List ℕ)
      (fed : lent_effect f store buffer ≡ lent_feed full (state_of c (take (length before - 27) (drop 27 before))) t bytes) where
    effect : lent_effect f store buffer ≡ mirror_feed full (state_in c before) t bytes
    effect = fed ∙ ap (λ (l : List ℕ). lent_feed full (state_of c l) t bytes) (lent-part before) ∙ lent-whole

    -- the state that a taken feed leaves is sound
    pub fed-sound : Typed (state_in c before) → AreBytes bytes → is_ok f.answer ≡ true → sound_state (state_in f.control (with_store before store)) ≡ true
    fed-sound k are a =
        ap (λ (l : List ℕ). sound_state (state_of f.control l)) (store-back before store h.size) ∙
        ap (λ (e : FeedEffect). sound_state e.state) effect ∙
        feed-sound (state_in c before) t bytes k are
        (taken-sound (state_in c before) t bytes (sym (ap (λ (e : FeedEffect). is_ok e.answer) effect) ∙ a))

    -- the control of a taken feed laid before the store, or nothing: what is left, and what it reads as
    pub fed-in : {r : WingFed} {kept : List ℕ} → r ≡ fed_numbers f.answer f.count →
        kept ≡ state_after f.answer (state_in f.control (with_store before store)) (with_store before store) →
        state_from kept ≡ read_after f.answer (state_in f.control (with_store before store)) (state_from (with_store before store)) →
        (kept_feed r kept buffer ≡ feed_kept before t bytes) × (state_from kept ≡ state_fed (state_from before) t bytes)
    fed-in p q r =
        let left = subst Unaltered (sym effect) unaltered in
        let back = store-back before store h.size in
        let whole = with-store before store in (
          feed-as f before p
              (q ∙ ap (λ (l : List ℕ). state_after f.answer (state_of f.control l) (with_store before store)) back ∙
              ap (state_after f.answer (state_of f.control store)) whole ∙ left.0) effect ∙ sym feed-kept,
          r ∙ ap (λ (l : List ℕ). read_after f.answer (state_of f.control l) (state_from (with_store before store))) back ∙
              ap (λ (l : List ℕ). read_after f.answer (state_of f.control store) (state_from l)) whole ∙ left.1 ∙
              ap (λ (x : FeedEffect). read_after x.answer x.state (state_from before)) effect ∙ state-fed,
        )

-- ---- next

module _ (before : List ℕ) (c : Control) (bytes out : List ℕ) (size : length before ≡ saved_size) (x : Advanced) (store handed : List ℕ)
    (left : lent_next x store handed ≡ next_left (state_of c (take (length before - 27) (drop 27 before))) bytes out) where
  next-effect : lent_next x store handed ≡ next_left (state_in c before) bytes out
  next-effect = left ∙ ap (λ (l : List ℕ). next_left (state_of c l) bytes out) (lent-part before)

  -- the state after it
  next-state : state_in x.control (with_store before store) ≡ (next_of (state_in c before) bytes).state
  next-state = ap (state_of x.control) (store-back before store size) ∙ ap (λ (e : LentNext). e.state) next-effect

  -- is sound
  pub next-sound : Typed (state_in c before) → AreBytes bytes → sound_state (state_in c before) ≡ true → sound_state (state_in x.control (with_store before store)) ≡ true
  next-sound k are g = ap sound_state next-state ∙ sound-next (state_in c before) bytes are k.range.pending g

  -- its control laid before the store: what is left, and what it reads as
  pub next-in : {r : WingEvent} {kept : List ℕ} → r ≡ event_numbers x.answer x.control.node x.taken →
      Saves kept (state_in x.control (with_store before store)) →
      (kept_next r kept handed ≡ next_replied (next_of (state_in c before) bytes) (next_event (state_in c before) bytes) out) ×
      (state_from kept ≡ ok (next_of (state_in c before) bytes).state)
  next-in {r} {kept} p k = (
    ap (λ (w : WingEvent). kept_next w kept handed) p ∙
        ap (λ (l : List ℕ). kept_next (event_numbers x.answer x.control.node x.taken) l handed) (sym k.laid ∙ ap (λ (l : List ℕ). state_bytes (state_of x.control l)) (store-back before store size)) ∙
        ap (λ (e : LentNext). kept_next (event_numbers e.answer e.state.control.node e.taken) (state_bytes e.state) e.out) next-effect,
    saved-laws.back kept (state_in x.control (with_store before store)) k ∙ ap (λ (s : State). ok s) next-state,
  )

-- A sound state's bytes read as that state, and bytes that read as a state are its bytes.
use Prim.Native.Nat.{ℕ, zero, suc, ◌-◌, ◌^◌, ◌≤◌, ◌<◌}
use mathlib.Core.Bool.{true}
use mathlib.Core.Path.{◌≡◌, refl, sym, ◌∙◌, ap, subst}
use mathlib.Core.List.{List, [], ◌∷◌, ◌++◌, append-nil}
use native.Mathlib.Omega.{arith}
use borrow.Author.Tests.{eq-eqb, eqb-true, ltb-false, le-ltb}
use lib.Dec.{eqb, ltb}
use lib.ListN.{length, take, drop, get_or, replicate, length-append, length-drop, drop_of_length-le}
use lib.Seq.{length-take-le}
use Rattle.wing_node.specs.declared.refusal.Refusal.{Refusal}
use Rattle.wing_node.specs.Result.{Result, ok, refused}
use Rattle.wing_node.specs.Digits.{digits_in}
use Rattle.wing_node.specs.Field.{field_at}
use Rattle.wing_node.proofs.Branches.{branch}
use Rattle.wing_node.proofs.Numerals.Numbers.{Digits, digits-take, digits-drop, number-below}
use Rattle.wing_node.proofs.Numerals.Signs.{signed-in}
use Rattle.wing_node.proofs.Refusals.{reason}
use Rattle.wing_wire.specs.Token.{width_of}
use Rattle.wing_wire.specs.State.{body_limit, state_of, sound_state, fresh_control}
use Rattle.wing_wire.specs.Range.{AreBytes, no_bytes, byte_then, PendingByte, no_pending, pending_byte, TokenWithin, NumberIn, InRange}
use Rattle.wing_wire.specs.Write.{write_effect, write_of}
use Rattle.wing_wire.specs.declared.token.Class.{Class}
use Rattle.wing_wire.specs.declared.token.Class.TheVariants.{NoEvent, Integer, String, Length, Int16, Int32, Float, Node, End, Count, LongCount}
use Rattle.wing_wire.specs.declared.state.Token.{Token}
use Rattle.wing_wire.specs.declared.state.Token.TheVariants.{Between, Number, String as InString, Body as InBody}
use Rattle.wing_wire.specs.declared.state.Control.{Control}
use Rattle.wing_wire.specs.declared.state.State.{State}
use Rattle.wing_wire.proofs.Reading.Ranges.{bytes_drop}
use Rattle.wing_wire.proofs.Reading.Sound.{Sound, state-parts, sound-within}
use Rattle.wing_saved.specs.Saved.{version, saved_size, pending_flag, pending_byte_of, fields_of, head_under, head_bytes, state_bytes, pending_in, token_in, fields_in, control_in, begins, sound_only, head_from_under, head_from, state_with, state_from}
use Rattle.wing_saved.specs.Saved.{save_of, CountIn, Saves, LoadedSound, HeadOf, SavedLaws}
use Rattle.wing_saved.specs.declared.TokenFields.{TokenFields}
use Rattle.wing_saved.proofs.Saving.Fronts.{begins-joined, begins-parts}
use Rattle.wing_saved.proofs.Saving.Heads.{Fits, head-size, after-head, channel-fits, control-back}
use Rattle.wing_node.specs.declared.refusal.Refusal.TheVariants.{StateUnsound}
use Rattle.std.specs.Prelude.{Ok}

-- ---- a state's bytes read back

pub state-size : (s : State) → length s.store ≡ body_limit → length (state_bytes s) ≡ saved_size
unfolding state_bytes
state-size s l = length-append (head_bytes s.control) s.store ∙ omega (arith, head-size version s.control)

-- no class has more than four units
narrow : (c : Class) → width_of c ≤ 4
unfolding width_of
narrow NoEvent = omega arith
narrow Integer = omega arith
narrow String = omega arith
narrow Length = omega arith
narrow Int16 = omega arith
narrow Int32 = omega arith
narrow Float = omega arith
narrow Node = omega arith
narrow End = omega arith
narrow Count = omega arith
narrow LongCount = omega arith

-- the numbers of a sound token are within their fields
token-fits : (t : Token) (store : List ℕ) → Sound t store → TokenWithin t → NumberIn t → CountIn t → Fits t
unfolding fields_of
token-fits Between store g w v n = record { fields = record { want = omega arith; left = omega arith; stored = omega arith; value = omega arith }; narrow = tt }
token-fits (Number class left value) store g w v n =
    let few : left < 2 ^ 16 = omega (arith, g.fits, narrow class) in
    record { fields = record { want = omega arith; left = omega arith; stored = omega arith; value = v }; narrow = few }
token-fits (InString want left) store g w v n =
    let few : left < 2 ^ 16 = omega (arith, g.fits) in
    record { fields = record { want = omega arith; left = omega arith; stored = omega arith; value = omega arith }; narrow = (omega arith, few) }
token-fits (InBody stored want left) store g w v n =
    record { fields = record { want = n; left = omega (arith, g.fits); stored = omega arith; value = omega arith }; narrow = tt }

module _ (v : ℕ) (s : State) (range : InRange s.control s.store) (count : CountIn s.control.token) (sound : sound_state s ≡ true) where
  said : control_in (head_under v s.control ++ s.store) ≡ s.control
  said =
      let g = state-parts s range.pending sound in
      let f = token-fits s.control.token s.store g.token (sound-within s sound) range.number count in
      control-back v s.control s.store f (channel-fits s.control.escape.channel g.escape.low g.escape.high) range.node

  -- the fields under a version and the store read back as the control
  pub head-back : head_from_under v (head_under v s.control ++ s.store) ≡ ok s.control
  unfolding head_from_under
  head-back =
      let size : length (head_under v s.control ++ s.store) ≡ saved_size = length-append (head_under v s.control) s.store ∙ omega (arith, head-size v s.control, range.store.size) in
      rw (eq-eqb (length (head_under v s.control ++ s.store)) saved_size size, said, begins-joined (head_under v s.control) s.store)

reads-back : (s : State) → InRange s.control s.store → CountIn s.control.token → sound_state s ≡ true → state_from (state_bytes s) ≡ ok s
unfolding state_from state_with state_bytes sound_only
reads-back s range count sound = rw (head-back version s range count sound, after-head version s.control s.store, sound)

back : (bytes : List ℕ) (s : State) → Saves bytes s → state_from bytes ≡ ok s
back bytes s g = subst (λ (l : List ℕ). state_from l ≡ ok s) g.laid (reads-back s g.typed.range g.typed.count g.sound)

-- ---- bytes that read are the state's

-- the state that bytes say
abbrev said-by : List ℕ → State
said-by bytes = state_of (control_in bytes) (drop 27 bytes)

-- the tests that bytes passed whose control under a version is c
pub record Begun (v : ℕ) (bytes : List ℕ) (c : Control) : Type 0 where
  pub size : length bytes ≡ saved_size
  pub front : begins (head_under v (control_in bytes)) bytes ≡ true
  pub same : control_in bytes ≡ c

pub begun : (v : ℕ) (bytes : List ℕ) (c : Control) → head_from_under v bytes ≡ ok c → Begun v bytes c
unfolding head_from_under
begun v bytes c =
    branch P (eqb (length bytes) saved_size) _ _
    (λ a. branch P (begins (head_under v (control_in bytes)) bytes) _ _
    (λ b e. record { size = eqb-true (length bytes) saved_size a; front = b; same = let z : control_in bytes ≡ c = cc in z }) (λ _. none)) (λ _. none)
  where
    P : Result Control → Type 0
    P r = r ≡ ok c → Begun v bytes c

    none : P (refused StateUnsound)
    none e = absurd (let z : ◌≡◌ {A = ℕ} 0 1 = cc in omega arith)

pub laid-under : (v : ℕ) (bytes : List ℕ) → begins (head_under v (control_in bytes)) bytes ≡ true → head_under v (control_in bytes) ++ drop 27 bytes ≡ bytes
laid-under v bytes e =
    ap (λ (n : ℕ). head_under v (control_in bytes) ++ drop n bytes) (sym (head-size v (control_in bytes))) ∙ begins-parts (head_under v (control_in bytes)) bytes e

laid-again : (bytes : List ℕ) → begins (head_bytes (control_in bytes)) bytes ≡ true → state_bytes (said-by bytes) ≡ bytes
unfolding state_bytes
laid-again bytes e = laid-under version bytes e

-- the head of bytes
pub head_of : (bytes : List ℕ) (c : Control) → head_from bytes ≡ ok c → HeadOf bytes c
unfolding state_from state_with
head_of bytes c e =
    let p = begun version bytes c e in
    record {
      size = p.size;
      laid = subst (λ (d : Control). state_bytes (state_of d (drop 27 bytes)) ≡ bytes) p.same (laid-again bytes p.front);
      state = ap (λ (r : Result Control). state_with r bytes) e;
    }

pub headless : (bytes : List ℕ) (why : Refusal) → head_from bytes ≡ refused why → state_from bytes ≡ refused why
unfolding state_from state_with
headless bytes why e = ap (λ (r : Result Control). state_with r bytes) e

-- the tests that bytes passed which read as s
record Passed (bytes : List ℕ) (s : State) : Type 0 where
  size : length bytes ≡ saved_size
  front : begins (head_bytes (control_in bytes)) bytes ≡ true
  sound : sound_state (said-by bytes) ≡ true
  same : said-by bytes ≡ s

passed : (bytes : List ℕ) (s : State) → state_from bytes ≡ ok s → Passed bytes s
unfolding state_from state_with head_from_under sound_only
passed bytes s =
    branch (λ (r : Result Control). P (state_with r bytes)) (eqb (length bytes) saved_size) _ _
    (λ a. branch (λ (r : Result Control). P (state_with r bytes)) (begins (head_bytes (control_in bytes)) bytes) _ _
    (λ b. branch P (sound_state (said-by bytes)) _ _
    (λ c e. record { size = eqb-true (length bytes) saved_size a; front = b; sound = c; same = let z : said-by bytes ≡ s = cc in z })
    (λ _. none)) (λ _. none)) (λ _. none)
  where
    P : Result State → Type 0
    P r = r ≡ ok s → Passed bytes s

    none : P (refused StateUnsound)
    none e = absurd (let z : ◌≡◌ {A = ℕ} 0 1 = cc in omega arith)

-- bytes as digits of base 256
are-digits : (s : List ℕ) → AreBytes s → Digits 256 s
are-digits [] no_bytes i = omega arith
are-digits (b ∷ s) (byte_then h hs) zero = h
are-digits (b ∷ s) (byte_then h hs) (suc i) = are-digits s hs i

-- a field of w bytes is below 256 to w
field_below : (w at : ℕ) (s : List ℕ) → Digits 256 s → 0 < 256 ^ w → field_at w s at < 256 ^ w
unfolding field_at
field_below w at s d some =
    branch (λ (n : ℕ). n < 256 ^ w) (ltb (length s - at) w) _ _ (λ _. some)
    (λ e.
    let room : w ≤ length s - at = ltb-false _ _ e in
    let l : length (take w (drop at s)) ≡ w = length-take-le w (drop at s) (omega (arith, length-drop at s)) in
    rw l at (number-below 256 (take w (drop at s)) (digits-take 256 w (drop at s) (digits-drop 256 at s d))))

module _ (bytes : List ℕ) (are : AreBytes bytes) where
  digits : Digits 256 bytes
  digits = are-digits bytes are

  pending-in : (mark : ℕ) (b : ℕ) → b < 256 → PendingByte (pending_in mark b)
  unfolding pending_in
  pending-in mark b h = branch PendingByte (eqb mark 1) _ _ (λ _. pending_byte h) (λ _. no_pending)

  number_in : (k : TokenFields) → k.value < 2 ^ 32 → NumberIn (token_in k)
  unfolding token_in
  number_in k h =
      branch NumberIn (eqb k.kind 1) _ _ (λ _. h)
      (λ _. branch NumberIn (eqb k.kind 2) _ _ (λ _. tt) (λ _. branch NumberIn (eqb k.kind 3) _ _ (λ _. tt) (λ _. tt)))

  count-in : (k : TokenFields) → k.want < 2 ^ 32 → CountIn (token_in k)
  unfolding token_in
  count-in k h =
      branch CountIn (eqb k.kind 1) _ _ (λ _. tt)
      (λ _. branch CountIn (eqb k.kind 2) _ _ (λ _. tt) (λ _. branch CountIn (eqb k.kind 3) _ _ (λ _. h) (λ _. tt)))

  pub range-in : length bytes ≡ saved_size → InRange (control_in bytes) (drop 27 bytes)
  unfolding control_in fields_in
  range-in l = record {
    pending = pending-in (get_or bytes 3 0) (get_or bytes 4 0) (digits 4);
    node = signed-in 31 (field_at 4 bytes 5) (field_below 4 5 bytes digits (omega arith));
    number = number_in (fields_in bytes) (field_below 4 23 bytes digits (omega arith));
    store = record { size = length-drop 27 bytes ∙ omega arith; bytes = bytes_drop 27 bytes are };
  }

  counts-in : CountIn (control_in bytes).token
  unfolding control_in fields_in
  counts-in = count-in (fields_in bytes) (field_below 4 11 bytes digits (omega arith))

  said-saves : (s : State) → state_from bytes ≡ ok s → Saves bytes s
  said-saves s e =
      let p = passed bytes s e in
      subst (Saves bytes) p.same (record { typed = record { range = range-in p.size; count = counts-in }; sound = p.sound; laid = laid-again bytes p.front })

-- no other number than 8
refusal : (bytes : List ℕ) (why : Refusal) → state_from bytes ≡ refused why → why ≡ StateUnsound
unfolding state_from state_with head_from_under sound_only
refusal bytes =
    branch Head (eqb (length bytes) saved_size) _ _
    (λ _. branch Head (begins (head_bytes (control_in bytes)) bytes) _ _ (λ _. branch Eight (sound_state (said-by bytes)) _ _ (λ _. taken) (λ _. eight)) (λ _. eight))
    (λ _. eight)
  where
    Eight : Result State → Type 0
    Eight r = (why : Refusal) → r ≡ refused why → why ≡ StateUnsound

    Head : Result Control → Type 0
    Head r = Eight (state_with r bytes)

    eight : Eight (refused StateUnsound)
    eight why e = sym (ap (reason why) e)

    taken : Eight (ok (said-by bytes))
    taken why e = absurd (let z : ◌≡◌ {A = ℕ} 0 1 = cc in omega arith)

-- what reads as a state reads as a sound one
loaded-sound : (bytes : List ℕ) (s : State) → state_from bytes ≡ ok s → LoadedSound bytes s
loaded-sound bytes s e =
    let p = passed bytes s e in
    subst (LoadedSound bytes) p.same (record { sound = p.sound; size = p.size; store = length-drop 27 bytes ∙ omega (arith, p.size) })

-- a sound state fills an output of the size
kept : (s : State) (out : List ℕ) → sound_state s ≡ true → length s.store ≡ body_limit → length out ≡ saved_size →
    save_of s out ≡ write_effect (Ok saved_size) (state_bytes s)
unfolding save_of write_of
kept s out e l n =
    let m : length (state_bytes s) ≡ saved_size = state-size s l in
    rw (e, le-ltb (length out) (length (state_bytes s)) (omega arith), m, drop_of_length-le out {i = saved_size} (omega arith), append-nil (state_bytes s))

-- the form at work: a fresh state is 02 00 ff and then zeros
fresh-head : head_bytes fresh_control ≡ 0x02 ∷ 0x00 ∷ 0xff ∷ replicate 24 0
unfolding head_under fields_of pending_flag pending_byte_of digits_in
fresh-head = refl

-- what a user of the two calls may rely on
pub saved-laws : SavedLaws
saved-laws = record {
  size = state-size;
  back = back;
  again = λ bytes s are e. said-saves bytes are s e;
  refusal = refusal;
  loaded = loaded-sound;
  kept = kept;
  head = head_of;
  headless = headless;
}

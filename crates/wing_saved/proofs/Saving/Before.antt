-- States saved under version 1: their bytes are loaded as they are carried over, and bytes that are loaded are theirs.
use Prim.Native.Nat.{ℕ, ◌^◌, ◌<◌}
use mathlib.Core.Bool.{true}
use mathlib.Core.Path.{◌≡◌, refl, sym, ◌∙◌, ap, subst}
use mathlib.Core.List.{List, ◌++◌}
use native.Mathlib.Omega.{arith}
use borrow.Author.Tests.{lt-ltb, ltb-true}
use lib.Dec.{eqb, ltb}
use lib.ListN.{length, drop}
use Rattle.wing_node.specs.declared.refusal.Refusal.{Refusal}
use Rattle.wing_node.specs.Result.{Result, ok, refused}
use Rattle.wing_node.proofs.Branches.{branch, and_left, and_right}
use Rattle.wing_node.proofs.Refusals.{reason}
use Rattle.wing_wire.specs.State.{control, sound_state}
use Rattle.wing_wire.specs.Range.{AreBytes, InRange}
use Rattle.wing_wire.specs.Earlier.{earlier_control, earlier_state, carried_token, carried, carry_of}
use Rattle.wing_wire.specs.declared.state.Token.{Token}
use Rattle.wing_wire.specs.declared.state.Token.TheVariants.{Between, Number, String, Body}
use Rattle.wing_wire.specs.declared.state.Control.{Control}
use Rattle.wing_wire.specs.declared.state.State.{State}
use Rattle.wing_wire.specs.declared.earlier.Token.{Token as EarlierToken}
use Rattle.wing_wire.specs.declared.earlier.Token.TheVariants.{Between as between, Number as number, String as string, Body as body}
use Rattle.wing_wire.specs.declared.earlier.State.{State as EarlierState}
use Rattle.wing_wire.proofs.Reading.CarriedOver.{sound-carried, carry-taken, carry-refused}
use Rattle.wing_wire.proofs.Reading.Sound.{Sound, state-parts}
use Rattle.wing_saved.specs.Saved.{saved_size, head_under, control_in, begins, head_from_under, CountIn, Typed}
use Rattle.wing_saved.specs.Earlier.{earlier_version, earlier_bytes, is_narrow, narrowed, earlier_with, earlier_from, carried_from, CountsIn, EarlierSaves, CarriedSaves, EarlierLaws}
use Rattle.wing_saved.proofs.Saving.Heads.{after-head, low_same}
use Rattle.wing_saved.proofs.Saving.Trips.{head-back, begun, laid-under, range-in}
use Rattle.wing_node.specs.declared.refusal.Refusal.TheVariants.{StateUnsound}

-- ---- counts of 16 bits

-- a token as it was, carried over, is it again
wide_back : (t : Token) → is_narrow t ≡ true → carried_token (narrowed t) ≡ t
unfolding is_narrow narrowed carried_token
wide_back Between e = refl
wide_back (Number class left v) e = refl
wide_back (String want left) e = refl
wide_back (Body stored want left) e =
    rw (low_same want (ltb-true _ _ (and_left (ltb want 0x10000) (ltb left 0x10000) e)), low_same left (ltb-true _ _ (and_right (ltb want 0x10000) (ltb left 0x10000) e)))

-- one that has 16 bits, carried over, is narrow, and what it was
record Narrow (t : EarlierToken) : Type 0 where
  narrow : is_narrow (carried_token t) ≡ true
  same : narrowed (carried_token t) ≡ t

was-narrow : (t : EarlierToken) (store : List ℕ) → CountsIn t → Sound (carried_token t) store → Narrow t
unfolding is_narrow narrowed carried_token
was-narrow between store n g = record { narrow = refl; same = refl }
was-narrow (number class left v) store n g = record { narrow = refl; same = refl }
was-narrow (string want left) store n g = record { narrow = refl; same = refl }
was-narrow (body want left stored) store n g =
    let few : left < 2 ^ 16 = omega (arith, g.fits) in
    record { narrow = rw (lt-ltb want 0x10000 n, lt-ltb left 0x10000 few); same = rw (low_same want n, low_same left few) }

count-wide : (t : EarlierToken) → CountsIn t → CountIn (carried_token t)
unfolding carried_token
count-wide between n = tt
count-wide (number class left v) n = tt
count-wide (string want left) n = tt
count-wide (body want left stored) n = omega arith

counts-in : (t : Token) → CountsIn (narrowed t)
unfolding narrowed
counts-in Between = tt
counts-in (Number class left v) = tt
counts-in (String want left) = tt
counts-in (Body stored want left) = omega arith

-- ---- both ways

-- an old sound state's bytes say that state
said-back : (bytes : List ℕ) (s : EarlierState) → EarlierSaves bytes s → earlier_from bytes ≡ ok s
unfolding earlier_from earlier_with
said-back bytes s g =
    let t = s.control.token in
    let range = g.typed.range in
    let sound : sound_state (carried s) ≡ true = sound-carried s ∙ g.sound in
    let k = was-narrow t s.store g.typed.counts (state-parts (carried s) range.pending sound).token in
    let h : head_from_under earlier_version (earlier_bytes s) ≡ ok (carried s).control = head-back earlier_version (carried s) range (count-wide t g.typed.counts) sound in
    let rest : drop 27 (earlier_bytes s) ≡ s.store = after-head earlier_version (carried s).control s.store in
    rw (sym g.laid) (rw (h, k.narrow, k.same, rest))

back : (bytes : List ℕ) (s : EarlierState) → EarlierSaves bytes s → carried_from (earlier_from bytes) ≡ carry_of s
unfolding carried_from
back bytes s g = ap carried_from (said-back bytes s g)

module _ (bytes : List ℕ) (t : State) (are : AreBytes bytes) where
  -- the old state of a control
  abbrev was : Control → EarlierState
  was c = earlier_state (earlier_control c.escape c.node (narrowed c.token)) (drop 27 bytes)

  saved : (c : Control) → head_from_under earlier_version bytes ≡ ok c → is_narrow c.token ≡ true → carry_of (was c) ≡ ok t → CarriedSaves bytes t
  saved c e n o =
      let p = begun earlier_version bytes c e in
      let same : (carried (was c)).control ≡ c = ap (λ (k : Token). control c.escape c.node k) (wide_back c.token n) in
      record {
        earlier = was c;
        saves = record {
          typed = record { range = rw same (subst (λ (k : Control). InRange k (drop 27 bytes)) p.same (range-in bytes are p.size)); counts = counts-in c.token };
          sound = (carry-taken (was c) t o).sound;
          laid = rw same (subst (λ (k : Control). head_under earlier_version k ++ drop 27 bytes ≡ bytes) p.same (laid-under earlier_version bytes p.front));
        };
        over = o;
      }

  again : carried_from (earlier_from bytes) ≡ ok t → CarriedSaves bytes t
  unfolding earlier_from earlier_with carried_from
  again = go (head_from_under earlier_version bytes) refl
    where
      P : Result EarlierState → Type 0
      P r = carried_from r ≡ ok t → CarriedSaves bytes t

      none : (why : Refusal) → P (refused why)
      none why e = absurd (let z : ◌≡◌ {A = ℕ} 0 1 = cc in omega arith)

      go : (r : Result Control) → head_from_under earlier_version bytes ≡ r → P (earlier_with r bytes)
      go (ok c) q = branch P (is_narrow c.token) _ _ (λ n e. saved c q n e) (λ _. none StateUnsound)
      go (refused why) q = none why

-- what an old state was carried over as is in the range of its types, and sound
module _ (bytes : List ℕ) (t : State) (k : CarriedSaves bytes t) where
  pub carried-typed : Typed t
  carried-typed =
      let s = k.earlier in
      subst Typed (carry-taken s t k.over).same (record { range = k.saves.typed.range; count = count-wide s.control.token k.saves.typed.counts })

  pub carried-sound : sound_state t ≡ true
  carried-sound =
      let s = k.earlier in
      let o = carry-taken s t k.over in
      subst (λ (x : State). sound_state x ≡ true) o.same (sound-carried s ∙ o.sound)

refusal : (bytes : List ℕ) (why : Refusal) → carried_from (earlier_from bytes) ≡ refused why → why ≡ StateUnsound
unfolding earlier_from earlier_with carried_from head_from_under
refusal bytes why =
    branch Head (eqb (length bytes) saved_size) _ _
    (λ _. branch Head (begins (head_under earlier_version (control_in bytes)) bytes) _ _
    (λ _. branch P (is_narrow (control_in bytes).token) _ _ (λ _ e. carry-refused _ why e) (λ _. eight)) (λ _. eight))
    (λ _. eight)
  where
    P : Result EarlierState → Type 0
    P r = carried_from r ≡ refused why → why ≡ StateUnsound

    Head : Result Control → Type 0
    Head r = P (earlier_with r bytes)

    eight : P (refused StateUnsound)
    eight e = sym (ap (reason why) e)

-- what a user of the call may rely on
pub earlier-laws : EarlierLaws
earlier-laws = record { back = back; again = λ bytes t are e. again bytes t are e; refusal = refusal }

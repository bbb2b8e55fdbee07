-- What is promised of an old decoder state carried over, as specs/Wire states it.
use Prim.Native.Nat.{ℕ, ◌<◌}
use mathlib.Core.Bool.{Bool, true, false, not}
use mathlib.Core.Path.{◌≡◌, refl, sym, ◌∙◌, ap, subst}
use mathlib.Core.List.{[], ◌∷◌}
use native.Mathlib.Omega.{arith}
use borrow.Author.Tests.{lt-ltb, le-ltb}
use Rattle.wing_node.specs.Bool.{if}
use Rattle.wing_node.specs.Result.{ok, refused}
use Rattle.wing_wire.specs.State.{sound_state}
use Rattle.wing_wire.specs.Earlier.{earlier_sound, is_long_count, is_started, carried, carry_of}
use Rattle.wing_wire.specs.declared.state.State.{State}
use Rattle.wing_wire.specs.declared.earlier.State.{State as EarlierState}
use Rattle.wing_wire.specs.declared.earlier.Token.{Token}
use Rattle.wing_wire.specs.declared.earlier.Token.TheVariants.{Between, Number, String, Body}
use Rattle.wing_wire.specs.declared.token.Class.TheVariants.{NoEvent, Integer, String as AString, Length, Int16, Int32, Float, Node, End, Count, LongCount}
use Rattle.wing_wire.proofs.Reading.CarriedOver.{sound-carried, carry-taken}
use Rattle.promises.specs.Lines.{◌gives◌, by}
use Rattle.promises.specs.Wire.{carry_lines, CarryCall}
use Rattle.wing_node.specs.declared.refusal.Refusal.TheVariants.{StateUnsound}

-- both tests give 8, so that their order does not show
pub by_lines : (s : EarlierState) → carry_of s ≡ by (carry_lines s) (carried s)
unfolding carry_of by
by_lines s = go (is_started s.control.token) (earlier_sound s)
  where
    go : (p q : Bool) → if p (refused StateUnsound) (if q (ok (carried s)) (refused StateUnsound)) ≡ by ((not q gives StateUnsound) ∷ (p gives StateUnsound) ∷ []) (carried s)
    go true true = refl
    go true false = refl
    go false true = refl
    go false false = refl

-- a token of another class, or with all four units left, has taken none of them
unstarted : (t : Token) → ((left v : ℕ) → t ≡ Number LongCount left v → left ≡ 4) → is_started t ≡ false
unfolding is_started is_long_count
unstarted Between k = refl
unstarted (Number NoEvent left v) k = refl
unstarted (Number Integer left v) k = refl
unstarted (Number AString left v) k = refl
unstarted (Number Length left v) k = refl
unstarted (Number Int16 left v) k = refl
unstarted (Number Int32 left v) k = refl
unstarted (Number Float left v) k = refl
unstarted (Number Node left v) k = refl
unstarted (Number End left v) k = refl
unstarted (Number Count left v) k = refl
unstarted (Number LongCount left v) k = let e : left ≡ 4 = k left v refl in le-ltb left 4 (omega arith)
unstarted (String want left) k = refl
unstarted (Body want left stored) k = refl

carry-takes : (s : EarlierState) → sound_state (carried s) ≡ true → ((left v : ℕ) → s.control.token ≡ Number LongCount left v → left ≡ 4) → carry_of s ≡ ok (carried s)
unfolding carry_of
carry-takes s e k = rw (unstarted s.control.token k, sym (sound-carried s) ∙ e)

carry-begun : (s : EarlierState) (left v : ℕ) → s.control.token ≡ Number LongCount left v → left < 4 → carry_of s ≡ refused StateUnsound
unfolding carry_of is_started is_long_count
carry-begun s left v e l = rw (e, lt-ltb left 4 l)

pub carry-call : (s : EarlierState) → CarryCall s (carry_of s)
carry-call s =
    record {
      answered = by_lines s;
      sound = λ t p. let k = carry-taken s t p in subst (λ (x : State). sound_state x ≡ true) k.same (sound-carried s ∙ k.sound);
      kept = λ t p. let k = sym (carry-taken s t p).same in (ap (λ (x : State). x.control.escape) k, ap (λ (x : State). x.control.node) k, ap (λ (x : State). x.store) k);
      was = sym (sound-carried s);
      taken = λ p k. carry-takes s p k;
      begun = λ left v p l. carry-begun s left v p l;
    }

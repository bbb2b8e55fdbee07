-- What is promised of a next call, as specs/Wire states it.
use Prim.Native.Nat.{ℕ, zero, suc, ◌-◌, ◌≤◌, ◌<◌}
use mathlib.Core.Bool.{Bool, true, false, not}
use mathlib.Core.Path.{◌≡◌, refl, sym, ◌∙◌, ap, subst}
use mathlib.Core.List.{List, [], ◌∷◌}
use native.Mathlib.Omega.{arith}
use borrow.Author.Tests.{leb-true}
use lib.Dec.{leb}
use lib.ListN.{length, take, drop, replicate, length-take}
use Rattle.wing_node.proofs.Refusals.{reason}
use Rattle.wing_node.specs.Bool.{if}
use Rattle.wing_node.specs.Result.{ok, refused}
use Rattle.wing_node.proofs.Branches.{branch}
use Rattle.wing_wire.specs.State.{body_limit, sound_state}
use Rattle.wing_wire.specs.Stream.{is_more, advance_of}
use Rattle.wing_wire.specs.Reader.{string_beside, body_beside, next_of, next_from, refused_next}
use Rattle.wing_wire.specs.Repeated.{Accepted}
use Rattle.wing_wire.specs.declared.state.State.{State}
use Rattle.wing_wire.specs.declared.reader.Reply.{Reply}
use Rattle.wing_wire.specs.declared.unit.Answer.{Answer}
use Rattle.wing_wire.specs.declared.unit.Answer.TheVariants.{More, Integer, Float, String, Body, End, Refused}
use Rattle.wing_wire.proofs.Reading.Steps.{next_more}
use Rattle.wing_wire.proofs.Reading.Overs.{over-rest}
use Rattle.wing_wire.proofs.Laws.{decoder-laws}
use Rattle.wing_wire.proofs.Reading.Repeats.{accepted, repeated}
use Rattle.promises.specs.Lines.{◌gives◌, by, sends}
use Rattle.promises.specs.Wire.{next_lines, with_event, Beside, NextCall}
use Rattle.wing_wire.proofs.Reading.Refusing.{advance-says}
use Rattle.promises.proofs.Reading.{is-more, advance-stops}
use Rattle.wing_node.specs.declared.refusal.Refusal.TheVariants.{NumberOver, StateUnsound}
use Rattle.std.specs.Prelude.{None}
use Rattle.wing_node.specs.declared.refusal.Refusal.{Refusal}

sent_back : (s : State) (bytes : List ℕ) (why : Refusal) → sends (next_lines s bytes) ≡ refused why → next_of s bytes ≡ refused_next why s
unfolding next_of by
sent_back s bytes why = go (sound_state s) (leb (length bytes) 65536)
  where
    go : (a b : Bool) → sends ((not a gives StateUnsound) ∷ (not b gives NumberOver) ∷ []) ≡ refused why →
        if a (if b (next_from (advance_of s.control s.store bytes)) (refused_next NumberOver s)) (refused_next StateUnsound s) ≡ refused_next why s
    go true true e = absurd (let z : ◌≡◌ {A = ℕ} 0 1 = cc in omega arith)
    go true false e = ap (λ k. refused_next k s) (ap (reason why) e)
    go false b e = ap (λ k. refused_next k s) (ap (reason why) e)

-- the same in figures
sent-as-was : (s : State) (bytes : List ℕ) (why : Refusal) → sends (next_lines s bytes) ≡ refused why →
    ((next_of s bytes).answer ≡ Refused why) × ((next_of s bytes).taken ≡ 0) × ((next_of s bytes).state ≡ s)
sent-as-was s bytes why e =
    subst (λ (r : Reply). (r.answer ≡ Refused why) × (r.taken ≡ 0) × (r.state ≡ s)) (sym (sent_back s bytes why e)) (refl, refl, refl)

-- where no line applies, the state is sound and the bytes are few enough
passed : (s : State) (bytes : List ℕ) → length s.store ≡ body_limit → sends (next_lines s bytes) ≡ ok tt → Accepted s bytes
unfolding by
passed s bytes full = go (sound_state s) refl (leb (length bytes) 65536) refl
  where
    go : (a : Bool) → sound_state s ≡ a → (b : Bool) → leb (length bytes) 65536 ≡ b → sends ((not a gives StateUnsound) ∷ (not b gives NumberOver) ∷ []) ≡ ok tt → Accepted s bytes
    go true p true q e = record { sound = p; store = full; most = leb-true (length bytes) 65536 q }
    go true p false q e = absurd (let z : ◌≡◌ {A = ℕ} 0 1 = cc in omega arith)
    go false p b q e = absurd (let z : ◌≡◌ {A = ℕ} 0 1 = cc in omega arith)

more-takes-all : (s : State) (bytes : List ℕ) → (next_of s bytes).answer ≡ More → ((next_of s bytes).taken ≡ length bytes) × ((next_of s bytes).state.control.escape.pending ≡ None)
unfolding next_of
more-takes-all s bytes =
    branch P (sound_state s) _ _
    (λ _. branch P (leb (length bytes) 65536) _ _ (λ _ e. next_more s.control s.store bytes (ap is_more e)) (λ _ e. absurd (let z : ◌≡◌ {A = ℕ} 0 1 = cc in omega arith)))
    (λ _ e. absurd (let z : ◌≡◌ {A = ℕ} 0 1 = cc in omega arith))
  where
    P : Reply → Type 0
    P r = r.answer ≡ More → (r.taken ≡ length bytes) × (r.state.control.escape.pending ≡ None)

zeros-rest : (n m : ℕ) → ◌≡◌ {A = List ℕ} (drop n (replicate m 0)) (replicate (m - n) 0)
zeros-rest zero m = let e : m - 0 ≡ m = omega arith in rw e
zeros-rest (suc n) zero = let e : zero - suc n ≡ 0 = omega arith in rw e
zeros-rest (suc n) (suc m) = let e : suc m - suc n ≡ m - n = omega arith in rw e (zeros-rest n m)

no_string : (a : Answer) (s : List ℕ) → ((n : ℕ) → a ≡ String n → ⊥) → string_beside a s ≡ replicate 256 0
unfolding string_beside
no_string More s k = refl
no_string (Integer x) s k = refl
no_string (Float bits) s k = refl
no_string (String n) s k = absurd (k n refl)
no_string (Body n) s k = refl
no_string End s k = refl
no_string (Refused why) s k = refl

no_body : (a : Answer) (s : List ℕ) → ((n : ℕ) → a ≡ Body n → ⊥) → body_beside a s ≡ replicate body_limit 0
unfolding body_beside
no_body More s k = refl
no_body (Integer x) s k = refl
no_body (Float bits) s k = refl
no_body (String n) s k = refl
no_body (Body n) s k = absurd (k n refl)
no_body End s k = refl
no_body (Refused why) s k = refl

string_rest : (n : ℕ) (s : List ℕ) → drop n (string_beside (String n) s) ≡ replicate (256 - n) 0
unfolding string_beside
string_rest n s = over-rest n s (replicate 256 0) ∙ zeros-rest n 256

body_rest : (n : ℕ) (s : List ℕ) → drop n (body_beside (Body n) s) ≡ replicate (body_limit - n) 0
unfolding body_beside
body_rest n s = over-rest n s (replicate body_limit 0) ∙ zeros-rest n body_limit

beside-by : (r : Reply) (store : List ℕ) → r.string ≡ string_beside r.answer store → r.body ≡ body_beside r.answer store → Beside r
beside-by r store p q = record {
  store = store;
  string = p;
  body = q;
  no_string = λ k. p ∙ no_string r.answer store k;
  no_body = λ k. q ∙ no_body r.answer store k;
  string_rest = λ n e. ap (drop n) p ∙ (ap (λ (a : Answer). drop n (string_beside a store)) e ∙ string_rest n store);
  body_rest = λ n e. ap (drop n) q ∙ (ap (λ (a : Answer). drop n (body_beside a store)) e ∙ body_rest n store);
}

-- what stands beside the answer is of the store that the run left; a call that is sent back has zeros
next_beside : (s : State) (bytes : List ℕ) → Beside (next_of s bytes)
unfolding next_of string_beside body_beside
next_beside s bytes =
    branch Beside (sound_state s) _ _
    (λ _. branch Beside (leb (length bytes) 65536) _ _ (λ _. beside-by _ (advance_of s.control s.store bytes).effect.store refl refl) (λ _. beside-by _ [] refl refl))
    (λ _. beside-by _ [] refl refl)

next-within : (s : State) (bytes : List ℕ) → (next_of s bytes).taken ≤ length bytes
unfolding next_of
next-within s bytes =
    branch P (sound_state s) _ _
    (λ _. branch P (leb (length bytes) 65536) _ _ (λ _. decoder-laws.next.within s.control s.store bytes) (λ _. omega arith))
    (λ _. omega arith)
  where
    P : Reply → Type 0
    P r = r.taken ≤ length bytes

-- a front of accepted bytes is accepted
front : (s : State) (bytes : List ℕ) (k : ℕ) → Accepted s bytes → Accepted s (take k bytes)
front s bytes k a = let m = a.most in record { sound = a.sound; store = a.store; most = omega (arith, length-take k bytes) }

next-stops : (s : State) (bytes : List ℕ) → Accepted s bytes → (k : ℕ) → k < (next_of s bytes).taken → (next_of s (take k bytes)).answer ≡ More
next-stops s bytes a k l =
    let r : k < (advance_of s.control s.store bytes).taken = rw (accepted s bytes a) at l in
    rw (accepted s (take k bytes) (front s bytes k a)) (is-more (advance_of s.control s.store (take k bytes)).effect.answered.answer (advance-stops s.control s.store bytes k r))

pub next-call : (s : State) (bytes : List ℕ) → length s.store ≡ body_limit → NextCall s bytes (next_of s bytes)
next-call s bytes full = record {
  same = refl;
  beside = next_beside s bytes;
  stops = λ e. next-stops s bytes (passed s bytes full e);
  within = next-within s bytes;
  sent_back = sent_back s bytes;
  as_it_was = sent-as-was s bytes;
  refusals = λ e. rw (accepted s bytes (passed s bytes full e)) (λ n. advance-says s.control s.store bytes n);
  more = more-takes-all s bytes;
  ends = λ e m rs. (repeated with_event s bytes rs (passed s bytes full e)).more m;
  again = λ e m rs. (repeated with_event s bytes rs (passed s bytes full e)).again m;
}

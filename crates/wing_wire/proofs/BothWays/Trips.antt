-- What escaped units do to a reader that is unescaped with nothing pending: each is taken as it is.
use Prim.Native.Nat.{ℕ, suc, ◌+◌, ◌-◌, ◌*◌, ◌/◌, ◌%◌, ◌^◌, ◌≤◌, ◌<◌}
use mathlib.Core.Bool.{Bool, true, false}
use mathlib.Core.Path.{◌≡◌, refl, ◌∙◌, ap}
use mathlib.Core.List.{List, [], ◌∷◌, ◌++◌, append_assoc}
use native.Mathlib.Omega.{arith}
use native.Mathlib.Nat.{pow-suc}
use lib.Dec.{eqb}
use lib.IntN.{ℤ}
use lib.ListN.{length, set, length-append}
use lib.Seq.{sets}
use borrow.Author.Tests.{eqb-true, lt-leb, ne_eqb}
use Rattle.wing_node.specs.Bool.{if}
use Rattle.wing_node.specs.Digits.{number_from, number_in, digits_in}
use Rattle.wing_node.specs.Field.{bytes_of}
use Rattle.wing_node.proofs.Numerals.Numbers.{length-digits_in, number_digits}
use Rattle.wing_wire.specs.Write.{escaped}
use Rattle.wing_wire.specs.Token.{rule, rule_of}
use Rattle.wing_wire.specs.State.{escape, control}
use Rattle.wing_wire.specs.Escape.{decode_of, plain_of, escaped_of}
use Rattle.wing_wire.specs.Unit.{completes, single_of, token_of, begin_of, number_of, shift_in, number_unit, unit_effect, string_unit, string_done, unit_of}
use Rattle.wing_wire.specs.Stream.{answered, StepEffect, step_effect, no_answer, after_unit, settle_of, first_of, follow_of, step_of, run_of}
use Rattle.wing_wire.specs.declared.token.Class.{Class}
use Rattle.wing_wire.specs.declared.state.Escape.{Escape}
use Rattle.wing_wire.specs.declared.state.Token.{Token}
use Rattle.wing_wire.specs.declared.state.Token.TheVariants.{Between, Number, String as InString}
use Rattle.wing_wire.specs.declared.unit.Answer.{Answer}
use Rattle.wing_wire.specs.declared.unit.Answer.TheVariants.{More, Integer, Float, String, Body, End, Refused}
use Rattle.wing_wire.proofs.Reading.Pieces.{at, run_on}
use Rattle.wing_wire.proofs.Writing.Lays.{escaped-append}
use Rattle.std.specs.Prelude.{None}

-- how many bytes units take
abbrev pub width : List ℕ → ℕ
width us = length (escaped us)

pub width-append : (a b : List ℕ) → width (a ++ b) ≡ width a + width b
width-append a b = ap length (escaped-append a b) ∙ length-append (escaped a) (escaped b)

-- ---- numbers

number_up : (v : ℕ) (bs : List ℕ) → v ≤ number_from 256 v bs
unfolding number_from
number_up v [] = omega arith
number_up v (b ∷ bs) = omega (arith, number_up (v * 256 + b) bs)

front-number : (w n : ℕ) → n < 256 ^ w → number_from 256 0 (bytes_of w n) ≡ n
unfolding number_in
front-number w n h = number_digits 256 w n (omega arith) h

-- ---- stores

sets-snoc : (t s : List ℕ) (i u : ℕ) → set (sets s i t) (i + length t) u ≡ sets s i (t ++ (u ∷ []))
sets-snoc [] s i u = let z : i + 0 ≡ i = omega arith in rw z
sets-snoc (b ∷ t) s i u = let z : i + suc (length t) ≡ suc i + length t = omega arith in rw z (sets-snoc t (set s i b) (suc i) u)

-- ---- a unit at a time

module _ (ch : ℤ) where
  -- unescaped, on any channel, with nothing pending
  abbrev pub ready : Escape
  ready = escape false ch None

  -- no answer yet, in a token or between tokens
  abbrev pub waits : ℤ → Token → List ℕ → StepEffect
  waits node token s = no_answer (control ready node token) s

  follow-after-unit : (a : Answer) (node : ℤ) (token : Token) (s : List ℕ) →
      follow_of (step_effect (answered a (control ready node token)) s) ≡ step_effect (answered a (control ready node token)) s
  unfolding follow_of settle_of
  follow-after-unit More node token s = refl
  follow-after-unit (Integer x) node token s = refl
  follow-after-unit (Float x) node token s = refl
  follow-after-unit (String n) node token s = refl
  follow-after-unit (Body n) node token s = refl
  follow-after-unit End node token s = refl
  follow-after-unit (Refused n) node token s = refl

  -- a byte that is not df is its own unit
  plain_step : (node : ℤ) (token : Token) (s : List ℕ) (u : ℕ) → eqb u 0xdf ≡ false →
      step_of (control ready node token) s u ≡ after_unit ready (unit_of node token s u true)
  unfolding first_of decode_of plain_of
  plain_step node token s u e =
      let o = unit_of node token s u true in
      rw e (follow-after-unit o.taken.answer o.taken.node o.taken.token o.store)

  -- df de is the unit df
  df-step : (node : ℤ) (token : Token) (s : List ℕ) → step_of (control ready node token) s 0xdf ≡ no_answer (control (escape true ch None) node token) s
  unfolding first_of decode_of plain_of follow_of settle_of
  df-step node token s = refl

  de-step : (node : ℤ) (token : Token) (s : List ℕ) →
      step_of (control (escape true ch None) node token) s 0xde ≡ after_unit ready (unit_of node token s 0xdf true)
  unfolding first_of decode_of escaped_of
  de-step node token s =
      let o = unit_of node token s 0xdf true in
      follow-after-unit o.taken.answer o.taken.node o.taken.token o.store

  pub unit-run : (node : ℤ) (token : Token) (s : List ℕ) (n u : ℕ) (us : List ℕ) →
      run_of (at (waits node token s) n) (escaped (u ∷ us)) ≡ run_of (at (after_unit ready (unit_of node token s u true)) (n + width (u ∷ []))) (escaped us)
  unfolding escaped
  unit-run node token s n u us = go (eqb u 0xdf) refl
    where
      go : (q : Bool) → eqb u 0xdf ≡ q →
          run_of (at (waits node token s) n) (if q (0xdf ∷ 0xde ∷ escaped us) (u ∷ escaped us)) ≡
          run_of (at (after_unit ready (unit_of node token s u true)) (n + length (if q (0xdf ∷ 0xde ∷ []) (u ∷ [])))) (escaped us)
      go false e = run_on (waits node token s) n u (escaped us) refl ∙ ap (λ (h : StepEffect). run_of (at h (n + 1)) (escaped us)) (plain_step node token s u e)
      go true e =
          let d : u ≡ 0xdf = eqb-true u 0xdf e in
          let two : n + 1 + 1 ≡ n + 2 = omega arith in
          run_on (waits node token s) n 0xdf (0xde ∷ escaped us) refl ∙
          (ap (λ (h : StepEffect). run_of (at h (n + 1)) (0xde ∷ escaped us)) (df-step node token s) ∙
          (run_on (no_answer (control (escape true ch None) node token) s) (n + 1) 0xde (escaped us) refl ∙
          (ap (λ (h : StepEffect). run_of (at h (n + 1 + 1)) (escaped us)) (de-step node token s) ∙
          rw (two, d))))

  -- ---- a number's units

  -- units that leave a number wanting more
  number-run : (class : Class) (node : ℤ) (s bs us : List ℕ) (left v n : ℕ) → length bs < left → number_from 256 v bs < 0x1000000 →
      run_of (at (waits node (Number class left v) s) n) (escaped (bs ++ us)) ≡
      run_of (at (waits node (Number class (left - length bs) (number_from 256 v bs)) s) (n + width bs)) (escaped us)
  unfolding number_from unit_of number_unit escaped
  number-run class node s [] us left v n h small =
      let z : left - 0 ≡ left = omega arith in
      let y : n + 0 ≡ n = omega arith in
      rw (z, y)
  number-run class node s (b ∷ bs) us left v n h small =
      let low : v * 256 + b < 0x1000000 = omega (arith, number_up (v * 256 + b) bs) in
      let in24 : v % 0x1000000 ≡ v = omega arith in
      let shifted : shift_in v b ≡ v * 256 + b = ap (λ (x : ℕ). x * 256 + b) in24 in
      let one : after_unit ready (unit_of node (Number class left v) s b true) ≡ waits node (Number class (left - 1) (v * 256 + b)) s =
      rw (lt-leb left 1 (omega arith), shifted) in
      let wide : n + width (b ∷ []) + width bs ≡ n + width (b ∷ bs) = omega (arith, width-append (b ∷ []) bs) in
      let fewer : left - 1 - length bs ≡ left - suc (length bs) = omega arith in
      unit-run node (Number class left v) s n b (bs ++ us) ∙
      (ap (λ (o : StepEffect). run_of (at o (n + width (b ∷ []))) (escaped (bs ++ us))) one ∙
      (number-run class node s bs us (left - 1) (v * 256 + b) (n + width (b ∷ [])) (omega arith) small ∙ rw (fewer, wide)))

  -- all of a number's units
  pub number-whole : (class : Class) (node : ℤ) (s us : List ℕ) (w bits n : ℕ) → bits < 256 ^ suc w → bits < 0x100000000 →
      run_of (at (waits node (Number class (suc w) 0) s) n) (escaped (bytes_of (suc w) bits ++ us)) ≡
      run_of (at (after_unit ready (unit_effect (number_of node class bits) s)) (n + width (bytes_of (suc w) bits))) (escaped us)
  unfolding digits_in unit_of number_unit
  number-whole class node s us w bits n fits small =
      let front = bytes_of w (bits / 256) in
      let u = bits % 256 in
      let long : length front ≡ w = length-digits_in 256 w (bits / 256) in
      let below : bits / 256 < 256 ^ w = omega (arith, rw pow-suc at fits) in
      let high : number_from 256 0 front ≡ bits / 256 = front-number w (bits / 256) below in
      let one : suc w - length front ≡ 1 = omega arith in
      let in24 : bits / 256 % 0x1000000 ≡ bits / 256 = omega arith in
      let whole : shift_in (bits / 256) u ≡ bits = ap (λ (x : ℕ). x * 256 + u) in24 ∙ omega arith in
      let wide : n + width front + width (u ∷ []) ≡ n + width (front ++ (u ∷ [])) = omega (arith, width-append front (u ∷ [])) in
      ap (λ (l : List ℕ). run_of (at (waits node (Number class (suc w) 0) s) n) (escaped l)) (append_assoc front (u ∷ []) us) ∙
      (number-run class node s front (u ∷ us) (suc w) 0 n (omega arith) (omega (arith, high)) ∙
      (rw (one, high)
      (unit-run node (Number class 1 (bits / 256)) s (n + width front) u us ∙ rw (whole, wide))))

  -- ---- a string's units

  -- units that leave a string wanting more
  string-run : (node : ℤ) (t us s : List ℕ) (want left n : ℕ) → length t < left → left ≤ want →
      run_of (at (waits node (InString want left) s) n) (escaped (t ++ us)) ≡
      run_of (at (waits node (InString want (left - length t)) (sets s (want - left) t)) (n + width t)) (escaped us)
  unfolding unit_of string_unit escaped
  string-run node [] us s want left n h k =
      let z : left - 0 ≡ left = omega arith in
      let y : n + 0 ≡ n = omega arith in
      rw (z, y)
  string-run node (b ∷ t) us s want left n h k =
      let one : after_unit ready (unit_of node (InString want left) s b true) ≡ waits node (InString want (left - 1)) (set s (want - left) b) =
      rw (lt-leb left 1 (omega arith)) in
      let wide : n + width (b ∷ []) + width t ≡ n + width (b ∷ t) = omega (arith, width-append (b ∷ []) t) in
      let fewer : left - 1 - length t ≡ left - suc (length t) = omega arith in
      let place : want - (left - 1) ≡ suc (want - left) = omega arith in
      unit-run node (InString want left) s n b (t ++ us) ∙
      (ap (λ (o : StepEffect). run_of (at o (n + width (b ∷ []))) (escaped (t ++ us))) one ∙
      (string-run node t us (set s (want - left) b) want (left - 1) (n + width (b ∷ [])) (omega arith) (omega arith) ∙ rw (fewer, wide, place)))

  -- all of a string's units, the last of which is u
  pub string-whole : (node : ℤ) (t us s : List ℕ) (u n : ℕ) →
      run_of (at (waits node (InString (suc (length t)) (suc (length t))) s) n) (escaped ((t ++ (u ∷ [])) ++ us)) ≡
      run_of (at (after_unit ready (string_done node (suc (length t)) (sets s 0 (t ++ (u ∷ []))))) (n + width (t ++ (u ∷ [])))) (escaped us)
  unfolding unit_of string_unit
  string-whole node t us s u n =
      let k = suc (length t) in
      let first : k - k ≡ 0 = omega arith in
      let one : k - length t ≡ 1 = omega arith in
      let place : k - 1 ≡ length t = omega arith in
      let from : 0 + length t ≡ length t = omega arith in
      let snoc : set (sets s 0 t) (length t) u ≡ sets s 0 (t ++ (u ∷ [])) = rw from at (sets-snoc t s 0 u) in
      let wide : n + width t + width (u ∷ []) ≡ n + width (t ++ (u ∷ [])) = omega (arith, width-append t (u ∷ [])) in
      ap (λ (l : List ℕ). run_of (at (waits node (InString k k) s) n) (escaped l)) (append_assoc t (u ∷ []) us) ∙
      (string-run node t (u ∷ us) s k k n (omega arith) (omega arith) ∙
      (rw (one, first)
      (unit-run node (InString k 1) (sets s 0 t) (n + width t) u us ∙ rw (place, snoc, wide))))

  -- ---- a token's first unit

  -- one that wants more
  pub begin-run : (node : ℤ) (s us : List ℕ) (n t w : ℕ) (class : Class) → rule_of t ≡ rule class (suc w) →
      run_of (at (waits node Between s) n) (escaped (t ∷ us)) ≡ run_of (at (waits node (token_of class (suc w)) s) (n + width (t ∷ []))) (escaped us)
  unfolding unit_of begin_of
  begin-run node s us n t w class e = unit-run node Between s n t us ∙ rw (e, ne_eqb (suc w) 0 (λ z. omega arith))

  -- one that is its whole token
  pub single-run : (node : ℤ) (s us : List ℕ) (n t : ℕ) (class : Class) → rule_of t ≡ rule class 0 →
      run_of (at (waits node Between s) n) (escaped (t ∷ us)) ≡ run_of (at (after_unit ready (unit_effect (completes node (single_of class t)) s)) (n + width (t ∷ []))) (escaped us)
  unfolding unit_of begin_of
  single-run node s us n t class e = unit-run node Between s n t us ∙ rw e

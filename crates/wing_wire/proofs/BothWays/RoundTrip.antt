-- Demand 2: a set order that is read gives its node and value back.
use Prim.Native.Nat.{ℕ, suc, ◌+◌, ◌-◌, ◌%◌, ◌^◌, ◌≤◌, ◌<◌}
use mathlib.Core.Bool.{Bool, true, false}
use mathlib.Core.Path.{◌≡◌, refl, sym, ◌∙◌, ap}
use mathlib.Core.List.{List, [], ◌∷◌, ◌++◌, append-nil}
use native.Mathlib.Omega.{arith}
use lib.Dec.{eqb, leb}
use lib.IntN.{ℤ, pos, negsuc, nat_abs}
use lib.ListN.{length, take, get_or}
use lib.Seq.{drop-length, sets, length-sets, take_all, take-suc, length-take-le}
use borrow.Author.Tests.{leb-true, lt-leb, le-leb, ne_eqb}
use Rattle.wing_node.specs.Bytes.{joined}
use Rattle.wing_node.specs.Bool.{if}
use Rattle.wing_node.specs.Digits.{digits_in}
use Rattle.wing_node.specs.Field.{bytes_of}
use Rattle.wing_node.specs.Signed.{signed, unsigned, InBits}
use Rattle.wing_node.specs.Utf8.{utf8}
use Rattle.wing_node.specs.Value.{NodeValue, integer, float, string}
use Rattle.wing_node.proofs.Characters.Grammar.{decides}
use Rattle.wing_node.proofs.Numerals.Signs.{signed-unsigned}
use Rattle.wing_node.proofs.Branches.{if-both, and_right}
use Rattle.wing_wire.specs.Write.{escaped, field}
use Rattle.wing_wire.specs.Command.{from◌to◌, integer_bytes, float_bytes, length_bytes, string_bytes, value_bytes, id_bytes, set_bytes}
use Rattle.wing_wire.specs.Token.{rule, rule_in, rule_of}
use Rattle.wing_wire.specs.State.{escape, control, zeros, sound_escape, sound_counts, stored_by, sound_token, sound_state}
use Rattle.wing_wire.specs.Unit.{single_of, is_string, token_of, number_of, unit_effect, string_done}
use Rattle.wing_wire.specs.Stream.{answered, StepEffect, step_effect, is_more, after_unit, settle_of, Run, run_of, advance_of, released, Fed, fed_from, feed_of}
use Rattle.wing_wire.specs.Reader.{Event, value, event_of, next_of}
use Rattle.wing_wire.specs.Range.{Within}
use Rattle.wing_wire.specs.RoundTrip.{Settable, RoundTrip, feeds, fed_rest, RoundTripPieces}
use Rattle.wing_wire.specs.declared.token.Class.{Class}
use Rattle.wing_wire.specs.declared.token.Class.TheVariants.{Integer as an_integer, String as a_string, Length, Int16, Int32, Float as a_float, Node}
use Rattle.wing_wire.specs.declared.state.Token.TheVariants.{Between, String as InString}
use Rattle.wing_wire.specs.declared.unit.Answer.{Answer}
use Rattle.wing_wire.specs.declared.unit.Answer.TheVariants.{Integer, Float, String}
use Rattle.wing_wire.proofs.Reading.Clears.{front_read, front-cleared}
use Rattle.wing_wire.proofs.Writing.Lays.{escaped-append}
use Rattle.wing_wire.proofs.Writing.Sizes.{set-int-le, set-float-le, set-string-le}
use Rattle.wing_wire.proofs.Reading.Pieces.{at, pending-same, feed-not-pending, feed-pieces}
use Rattle.wing_wire.proofs.Reading.Steps.{fed, feed-again}
use Rattle.wing_wire.proofs.Reading.Beside.{event-beside}
use Rattle.wing_wire.proofs.BothWays.Trips.{width, width-append, ready, waits, number-whole, string-whole, begin-run, single-run}
use Rattle.std.specs.Prelude.{None}

-- the answer for a value, and the store that holds its string
abbrev pub answer_to : NodeValue → Answer
answer_to (integer x) = Integer x
answer_to (float bits) = Float bits
answer_to (string t) = String (length t)

abbrev pub store_with : NodeValue → List ℕ → List ℕ
store_with (integer x) s = s
store_with (float bits) s = s
store_with (string t) s = sets s 0 t

-- ---- the units of a value

units_of_integer : ℤ → List ℕ
units_of_integer x =
    if (from◌to◌ (pos 0) (pos 63) x) (nat_abs x ∷ [])
    (if (from◌to◌ (negsuc 32767) (pos 32767) x) (0xd3 ∷ bytes_of 2 (unsigned 15 x)) (0xd4 ∷ bytes_of 4 (unsigned 31 x)))

units_of_length : ℕ → List ℕ
units_of_length n = if (eqb n 0) (0xd0 ∷ []) (if (leb n 64) ((0x80 + (n - 1)) ∷ []) (0xd1 ∷ bytes_of 1 (n - 1)))

value_units : NodeValue → List ℕ
value_units (integer x) = units_of_integer x
value_units (float bits) = 0xd5 ∷ bytes_of 4 bits
value_units (string t) = units_of_length (length t) ++ t

-- a byte that is not df is written as it is
plain : (b : ℕ) (us : List ℕ) → (b ≡ 0xdf → ⊥) → escaped (b ∷ us) ≡ b ∷ escaped us
unfolding escaped
plain b us h = rw (ne_eqb b 0xdf h)

small-bounds : (x : ℤ) → from◌to◌ (pos 0) (pos 63) x ≡ true → (x ≡ pos (nat_abs x)) × (nat_abs x ≤ 63)
small-bounds (pos n) e = (refl, leb-true n 63 (if-both (leb 0 n) (leb n 63) e).1)
small-bounds (negsuc n) e = absurd (let z : ◌≡◌ {A = Bool} false true = e in let w : ◌≡◌ {A = ℕ} 0 1 = cc in omega arith)

middle-bounds : (x : ℤ) → from◌to◌ (negsuc 32767) (pos 32767) x ≡ true → InBits 15 x
middle-bounds (pos n) e = let h : n ≤ 32767 = leb-true n 32767 e in omega arith
middle-bounds (negsuc n) e = let h : n ≤ 32767 = leb-true n 32767 (first (leb n 32767) e) in omega arith
  where
    first : (a : Bool) → if a true false ≡ true → a ≡ true
    first true e = refl
    first false e = cc

bits_below : (k : ℕ) (x : ℤ) → 2 ^ (k + 1) ≡ 2 ^ k + 2 ^ k → InBits k x → unsigned k x < 2 ^ (k + 1)
bits_below k (pos n) d h = omega arith
bits_below k (negsuc n) d h = omega arith

-- a value's bytes are its units, each df followed by de
value-escaped : (v : NodeValue) → Settable v → value_bytes v ≡ escaped (value_units v)
unfolding value_bytes value_units integer_bytes units_of_integer float_bytes string_bytes length_bytes units_of_length escaped digits_in
value-escaped (integer x) h = go (from◌to◌ (pos 0) (pos 63) x) refl
  where
    wide : (q : Bool) → if q (0xd3 ∷ field 2 (unsigned 15 x)) (0xd4 ∷ field 4 (unsigned 31 x)) ≡ escaped (if q (0xd3 ∷ bytes_of 2 (unsigned 15 x)) (0xd4 ∷ bytes_of 4 (unsigned 31 x)))
    wide true = sym (plain 0xd3 (bytes_of 2 (unsigned 15 x)) (λ z. omega arith))
    wide false = sym (plain 0xd4 (bytes_of 4 (unsigned 31 x)) (λ z. omega arith))

    go : (q : Bool) → from◌to◌ (pos 0) (pos 63) x ≡ q →
        if q (nat_abs x ∷ []) (if (from◌to◌ (negsuc 32767) (pos 32767) x) (0xd3 ∷ field 2 (unsigned 15 x)) (0xd4 ∷ field 4 (unsigned 31 x))) ≡
        escaped (if q (nat_abs x ∷ []) (if (from◌to◌ (negsuc 32767) (pos 32767) x) (0xd3 ∷ bytes_of 2 (unsigned 15 x)) (0xd4 ∷ bytes_of 4 (unsigned 31 x))))
    go true e = let b = (small-bounds x e).1 in sym (plain (nat_abs x) [] (λ z. omega arith) ∙ alone (nat_abs x))
      where
        alone : (b : ℕ) → b ∷ escaped [] ≡ b ∷ []
        alone b = refl
    go false e = wide (from◌to◌ (negsuc 32767) (pos 32767) x)
value-escaped (float bits) h = sym (plain 0xd5 (bytes_of 4 bits) (λ z. omega arith))
value-escaped (string t) h =
    sym (escaped-append (units_of_length (length t)) t ∙ ap (λ (l : List ℕ). l ++ escaped t) (sym (go (eqb (length t) 0) (leb (length t) 64) refl)))
  where
    n : ℕ
    n = length t

    one : bytes_of 1 (n - 1) ≡ (n - 1) ∷ []
    one = let k : (n - 1) % 256 ≡ n - 1 = omega (arith, h.0) in rw k

    go : (q r : Bool) → leb n 64 ≡ r →
        if q (0xd0 ∷ []) (if r ((0x80 + (n - 1)) ∷ []) (0xd1 ∷ escaped ((n - 1) ∷ []))) ≡ escaped (if q (0xd0 ∷ []) (if r ((0x80 + (n - 1)) ∷ []) (0xd1 ∷ bytes_of 1 (n - 1))))
    go true r e = sym (plain 0xd0 [] (λ z. omega arith))
    go false true e = let k : n ≤ 64 = leb-true n 64 e in sym (plain (0x80 + (n - 1)) [] (λ z. omega arith))
    go false false e = sym (plain 0xd1 (bytes_of 1 (n - 1)) (λ z. omega arith) ∙ ap (λ (l : List ℕ). 0xd1 ∷ escaped l) one)

-- and so are a set order's
set-escaped : (id : ℤ) (v : NodeValue) → Settable v → set_bytes id v ≡ escaped ((0xd7 ∷ bytes_of 4 (unsigned 31 id)) ++ value_units v)
unfolding set_bytes id_bytes
set-escaped id v h =
    let bs = bytes_of 4 (unsigned 31 id) in
    ap (λ (l : List ℕ). 0xd7 ∷ (escaped bs ++ l)) (value-escaped v h) ∙
    (ap (λ (l : List ℕ). 0xd7 ∷ l) (sym (escaped-append bs (value_units v))) ∙ sym (plain 0xd7 (bs ++ value_units v) (λ z. omega arith)))

-- once a value is given out, the store is as it was
given_out : (v : NodeValue) (s : List ℕ) → Settable v → 256 ≤ length s → zeros s ≡ true → released (answer_to v) (store_with v s) ≡ s
given_out (integer x) s h room z = refl
given_out (float bits) s h room z = refl
given_out (string t) s h room z = front-cleared t s (omega (arith, h.0)) z

-- ---- the table at the units of a set order

rule-integer : (t : ℕ) → t ≤ 0x3f → rule_of t ≡ rule an_integer 0
unfolding rule_of rule_in
rule-integer t h = rw (le-leb 0 t (omega arith), le-leb t 0x3f h)

rule-string : (t : ℕ) → 0x80 ≤ t → t ≤ 0xbf → rule_of t ≡ rule a_string (t - 0x80 + 1)
unfolding rule_of rule_in
rule-string t l h = rw (le-leb 0 t (omega arith), lt-leb t 0x3f (omega arith), le-leb 0x80 t l, le-leb t 0xbf h)

module _ (ch : ℤ) where
  -- the answer is the value, and the reader stands between tokens at the node
  abbrev pub value_effect : ℤ → NodeValue → List ℕ → StepEffect
  value_effect node v s = step_effect (answered (answer_to v) (control (ready ch) node Between)) (store_with v s)

  -- a number's token: its first unit, then its bytes
  number-token : (class : Class) (node : ℤ) (s us : List ℕ) (t w bits n : ℕ) → rule_of t ≡ rule class (suc w) → is_string class ≡ false →
      bits < 256 ^ suc w → bits < 0x100000000 →
      run_of (at (waits ch node Between s) n) (escaped (t ∷ (bytes_of (suc w) bits ++ us))) ≡
      run_of (at (after_unit (ready ch) (unit_effect (number_of node class bits) s)) (n + width (t ∷ bytes_of (suc w) bits))) (escaped us)
  unfolding token_of
  number-token class node s us t w bits n e k fits small =
      let wide : n + width (t ∷ []) + width (bytes_of (suc w) bits) ≡ n + width (t ∷ bytes_of (suc w) bits) = omega (arith, width-append (t ∷ []) (bytes_of (suc w) bits)) in
      begin-run ch node s (bytes_of (suc w) bits ++ us) n t w class e ∙
      (rw k (number-whole ch class node s us w bits (n + width (t ∷ [])) fits small ∙ rw wide))

  ended : (a : Run) → run_of a (escaped []) ≡ a
  unfolding run_of escaped
  ended a = refl

  -- a string, once its length is known
  string-token : (node : ℤ) (s : List ℕ) (b : ℕ) (r : List ℕ) (n : ℕ) → utf8 (b ∷ r) ≡ true → suc (length r) ≤ length s →
      run_of (at (waits ch node (InString (suc (length r)) (suc (length r))) s) n) (escaped (b ∷ r)) ≡ at (value_effect node (string (b ∷ r)) s) (n + width (b ∷ r))
  unfolding string_done
  string-token node s b r n good room =
      let str = b ∷ r in
      let k = length r in
      let front = take k str in
      let u = get_or str k 0 in
      let apart : str ≡ front ++ (u ∷ []) = sym (take_all (suc k) str (omega arith)) ∙ take-suc str k 0 (omega arith) in
      let long : length front ≡ k = length-take-le k str (omega arith) in
      let back : take (suc k) (sets s 0 str) ≡ str = front_read str s room in
      let done : after_unit (ready ch) (string_done node (suc k) (sets s 0 str)) ≡ value_effect node (string str) s = rw (back, good) in
      let step :
      run_of (at (waits ch node (InString (suc k) (suc k)) s) n) (escaped ((front ++ (u ∷ [])) ++ [])) ≡
      run_of (at (after_unit (ready ch) (string_done node (suc k) (sets s 0 (front ++ (u ∷ []))))) (n + width (front ++ (u ∷ [])))) (escaped []) =
      rw long at (string-whole ch node front [] s u n) in
      ap (λ (l : List ℕ). run_of (at (waits ch node (InString (suc k) (suc k)) s) n) (escaped l)) (apart ∙ sym (append-nil (front ++ (u ∷ [])))) ∙
      (step ∙
      (ended _ ∙
      (ap (λ (l : List ℕ). at (after_unit (ready ch) (string_done node (suc k) (sets s 0 l))) (n + width l)) (sym apart) ∙
      ap (λ (h : StepEffect). at h (n + width str)) done)))

  -- a string's length, in its first unit or after d1
  length_run : (node : ℤ) (s us : List ℕ) (k n : ℕ) → suc k ≤ 256 →
      run_of (at (waits ch node Between s) n) (escaped (units_of_length (suc k) ++ us)) ≡
      run_of (at (waits ch node (InString (suc k) (suc k)) s) (n + width (units_of_length (suc k)))) (escaped us)
  unfolding units_of_length token_of is_string number_of rule_of rule_in
  length_run node s us k n most = rw (ne_eqb (suc k) 0 (λ z. omega arith)) (go (leb (suc k) 64) refl)
    where
      first : ℕ
      first = 0x80 + (suc k - 1)

      go : (q : Bool) → leb (suc k) 64 ≡ q →
          run_of (at (waits ch node Between s) n) (escaped (if q (first ∷ []) (0xd1 ∷ bytes_of 1 (suc k - 1)) ++ us)) ≡
          run_of (at (waits ch node (InString (suc k) (suc k)) s) (n + width (if q (first ∷ []) (0xd1 ∷ bytes_of 1 (suc k - 1))))) (escaped us)
      go true e =
          let few : suc k ≤ 64 = leb-true (suc k) 64 e in
          let long : first - 0x80 + 1 ≡ suc k = omega arith in
          begin-run ch node s us n first k a_string (rule-string first (omega arith) (omega arith) ∙ ap (rule a_string) long)
      go false e =
          let bits : ℕ = suc k - 1 in
          let long : bits % 0x100 + 1 ≡ suc k = omega arith in
          number-token Length node s us 0xd1 0 bits n refl refl (omega arith) (omega arith) ∙ rw long

  -- a value's token
  value-run : (node : ℤ) (s : List ℕ) (n : ℕ) (v : NodeValue) → Settable v → 256 ≤ length s →
      run_of (at (waits ch node Between s) n) (escaped (value_units v)) ≡ at (value_effect node v s) (n + width (value_units v))
  unfolding value_units units_of_integer units_of_length rule_of rule_in is_string number_of single_of
  value-run node s n (integer x) h room = go (from◌to◌ (pos 0) (pos 63) x) (from◌to◌ (negsuc 32767) (pos 32767) x) refl refl
    where
      signed-16 : InBits 15 x → signed 15 (unsigned 15 x % 0x10000) ≡ x
      signed-16 i =
          let b : unsigned 15 x < 65536 = bits_below 15 x refl i in
          let m : unsigned 15 x % 0x10000 ≡ unsigned 15 x = omega arith in
          ap (signed 15) m ∙ signed-unsigned 15 x i

      go : (q r : Bool) → from◌to◌ (pos 0) (pos 63) x ≡ q → from◌to◌ (negsuc 32767) (pos 32767) x ≡ r →
          run_of (at (waits ch node Between s) n) (escaped (if q (nat_abs x ∷ []) (if r (0xd3 ∷ bytes_of 2 (unsigned 15 x)) (0xd4 ∷ bytes_of 4 (unsigned 31 x))))) ≡
          at (value_effect node (integer x) s) (n + width (if q (nat_abs x ∷ []) (if r (0xd3 ∷ bytes_of 2 (unsigned 15 x)) (0xd4 ∷ bytes_of 4 (unsigned 31 x)))))
      go true r e f =
          let b = small-bounds x e in
          single-run ch node s [] n (nat_abs x) an_integer (rule-integer (nat_abs x) b.1) ∙
          (ended _ ∙ ap (λ (y : ℤ). at (value_effect node (integer y) s) (n + width (nat_abs x ∷ []))) (sym b.0))
      go false true e f =
          let i = middle-bounds x f in
          let us = bytes_of 2 (unsigned 15 x) in
          ap (λ (l : List ℕ). run_of (at (waits ch node Between s) n) (escaped (0xd3 ∷ l))) (sym (append-nil us)) ∙
          (number-token Int16 node s [] 0xd3 1 (unsigned 15 x) n refl refl (bits_below 15 x refl i) (omega (arith, bits_below 15 x refl i)) ∙
          (ended _ ∙ ap (λ (y : ℤ). at (value_effect node (integer y) s) (n + width (0xd3 ∷ us))) (signed-16 i)))
      go false false e f =
          let us = bytes_of 4 (unsigned 31 x) in
          ap (λ (l : List ℕ). run_of (at (waits ch node Between s) n) (escaped (0xd4 ∷ l))) (sym (append-nil us)) ∙
          (number-token Int32 node s [] 0xd4 3 (unsigned 31 x) n refl refl (bits_below 31 x refl h) (bits_below 31 x refl h) ∙
          (ended _ ∙ ap (λ (y : ℤ). at (value_effect node (integer y) s) (n + width (0xd4 ∷ us))) (signed-unsigned 31 x h)))
  value-run node s n (float bits) h room =
      let us = bytes_of 4 bits in
      ap (λ (l : List ℕ). run_of (at (waits ch node Between s) n) (escaped (0xd5 ∷ l))) (sym (append-nil us)) ∙
      (number-token a_float node s [] 0xd5 3 bits n refl refl h h ∙ ended _)
  value-run node s n (string []) h room = single-run ch node s [] n 0xd0 a_string refl ∙ ended _
  value-run node s n (string (b ∷ r)) h room =
      let us = units_of_length (suc (length r)) in
      let wide : n + width us + width (b ∷ r) ≡ n + width (us ++ (b ∷ r)) = omega (arith, width-append us (b ∷ r)) in
      length_run node s (b ∷ r) (length r) n h.0 ∙ (string-token node s b r (n + width us) h.1 (omega (arith, h.0)) ∙ rw wide)

  -- a whole set order
  pub set-run : (node id : ℤ) (s : List ℕ) (v : NodeValue) → InBits 31 id → Settable v → 256 ≤ length s →
      advance_of (control (ready ch) node Between) s (set_bytes id v) ≡ at (value_effect id v s) (length (set_bytes id v))
  unfolding advance_of settle_of rule_of rule_in is_string number_of
  set-run node id s v i h room =
      let bits = unsigned 31 id in
      let front : List ℕ = 0xd7 ∷ bytes_of 4 bits in
      let us = value_units v in
      let whole : set_bytes id v ≡ escaped (front ++ us) = set-escaped id v h in
      let fits : bits < 256 ^ 4 = bits_below 31 id refl i in
      let there : signed 31 bits ≡ id = signed-unsigned 31 id i in
      let wide : 0 + width front + width us ≡ width (front ++ us) = omega (arith, width-append front us) in
      let named :
      run_of (at (waits ch node Between s) 0) (escaped (front ++ us)) ≡ run_of (at (waits ch id Between s) (0 + width front)) (escaped us) =
      number-token Node node s us 0xd7 3 bits 0 refl refl fits fits ∙ rw there in
      ap (λ (l : List ℕ). run_of (at (waits ch node Between s) 0) l) whole ∙
      (named ∙ (value-run id s (0 + width front) v h room ∙ ap (at (value_effect id v s)) (wide ∙ sym (ap length whole))))

within-answer : (v : NodeValue) (s : List ℕ) → Settable v → 256 ≤ length s → Within (answer_to v) (store_with v s)
within-answer (integer x) s h room = tt
within-answer (float bits) s h room = tt
within-answer (string t) s h room = (h.0, ap utf8 (front_read t s (omega (arith, h.0))) ∙ h.1)

pub value-event : (v : NodeValue) (s : List ℕ) → Settable v → 256 ≤ length s → event_of (answer_to v) (store_with v s) (store_with v s) ≡ value v
unfolding event_of
value-event (integer x) s h room = refl
value-event (float bits) s h room = refl
value-event (string t) s h room = ap (λ (l : List ℕ). value (string l)) (front_read t s (omega (arith, h.0)))

stored-length : (v : NodeValue) (s : List ℕ) → length (store_with v s) ≡ length s
stored-length (integer x) s = refl
stored-length (float bits) s = refl
stored-length (string t) s = length-sets s 0 t

-- a set order fits a next call
set-short : (id : ℤ) (v : NodeValue) → Settable v → length (set_bytes id v) ≤ 65536
set-short id (integer x) h = omega (arith, set-int-le id x)
set-short id (float bits) h = omega (arith, set-float-le id bits)
set-short id (string t) h = omega (arith, set-string-le id t ((decides t).right h.1) h.0)

-- for every node and every value that a set order holds
pub round_trip : RoundTrip
unfolding next_of sound_state sound_token sound_counts stored_by
round_trip ch node id s v i h full sound =
    let short : length (set_bytes id v) ≤ 65536 = set-short id v h in
    let room : 256 ≤ length s = omega arith in
    let clear : zeros s ≡ true = and_right (sound_escape (escape false ch None)) (zeros s) sound in
    let run = set-run ch node id s v i h room in
    let beside = event-beside (answer_to v) (store_with v s) (stored-length v s ∙ full) (within-answer v s h room) in
    record {
      event = rw (sound, le-leb (length (set_bytes id v)) 65536 short, run) (beside ∙ value-event v s h room);
      taken = rw (sound, le-leb (length (set_bytes id v)) 65536 short, run);
      state = rw (sound, le-leb (length (set_bytes id v)) 65536 short, run) (rw (given_out v s h room clear));
    }

not_more : (v : NodeValue) → is_more (answer_to v) ≡ false
not_more (integer x) = refl
not_more (float bits) = refl
not_more (string t) = refl

-- fed whole, for any handler: the value is handed on once
module _ {M : Type 0} (f : ℤ → Answer → List ℕ → M → M) where
  pub fed-whole : (ch node id : ℤ) (s : List ℕ) (v : NodeValue) (m : M) → InBits 31 id → Settable v → 256 ≤ length s → zeros s ≡ true →
      feed_of f (fed f (control (escape false ch None) node Between) s m) (set_bytes id v) ≡
      fed f (control (escape false ch None) id Between) s (f id (answer_to v) (store_with v s) m)
  unfolding feed_of fed_from
  fed-whole ch node id s v m i h room clear =
      let c = control (escape false ch None) node Between in
      let run = set-run ch node id s v i h room in
      let again = rw run at (feed-again f c s m (set_bytes id v) (rw run (not_more v))) in
      again ∙ rw (drop-length (set_bytes id v), given_out v s h room clear) (pending-same f (fed f (control (escape false ch None) id Between) s (f id (answer_to v) (store_with v s) m)) refl)

module _ {M : Type 0} (h : ℤ → Event → M → M) where
  abbrev handed : ℤ → Answer → List ℕ → M → M
  handed node a s m = h node (event_of a s s) m

  pieces : (x : Fed M) (ps : List (List ℕ)) → x.control.escape.pending ≡ None → feeds h x ps ≡ feed_of handed x (joined ps)
  unfolding feed_of fed_from joined
  pieces x [] e = sym (pending-same handed x e)
  pieces x (p ∷ ps) e = pieces (feed_of handed x p) ps (feed-not-pending handed x p) ∙ sym (feed-pieces handed x p (joined ps))

  -- the same for the bytes arriving in any pieces
  pub round-trip-pieces : RoundTripPieces h
  unfolding sound_state sound_token sound_counts stored_by
  round-trip-pieces ch node id s v m ps i k full sound e =
      let room : 256 ≤ length s = omega arith in
      pieces (fed_rest ch node s m) ps refl
      ∙ ap (feed_of handed (fed_rest ch node s m)) e
      ∙ fed-whole handed ch node id s v m i k room (and_right (sound_escape (escape false ch None)) (zeros s) sound)
      ∙ ap (λ (x : Event). fed_rest ch id s (h id x m)) (value-event v s k room)

-- Unit by unit, and fast through the inner units of a number or a string, is byte by byte: the laws of the code's loop.
use Prim.Native.Nat.{ℕ, ◌+◌, ◌-◌, ◌*◌, ◌<◌, ◌≤◌}
use mathlib.Core.Bool.{Bool, true, false, not}
use mathlib.Core.Path.{◌≡◌, refl, sym, ◌∙◌, ap}
use mathlib.Core.List.{List, [], ◌∷◌}
use native.Mathlib.Omega.{arith}
use borrow.Author.Tests.{ltb-true, ltb-false}
use lib.Dec.{ltb, eqb}
use lib.IntN.{ℤ}
use lib.ListN.{length, drop, set}
use lib.Seq.{drop-drop}
use Rattle.wing_node.specs.Bool.{if}
use Rattle.wing_wire.specs.State.{escape, control}
use Rattle.wing_wire.specs.Escape.{decode_of, plain_of, byte_next, pending_next, decode_next_of}
use Rattle.wing_wire.specs.Unit.{unit_effect, awaits, shift_in, number_unit, string_unit, unit_of}
use Rattle.wing_wire.specs.Stream.{answered, StepEffect, step_effect, no_answer, is_more, after_unit, settle_of, given_of, first_of, follow_of, step_of, Run, run_of}
use Rattle.wing_wire.specs.Plain.{is_pending, is_inner, token_at, number_ahead, AheadEffect, ahead_effect, string_ahead, token_ahead, is_plain, is_free, SteppedEffect, stepped_effect, ahead_of, on_ahead, once_of, is_on}
use Rattle.wing_wire.specs.Units.{pending_count}
use Rattle.wing_wire.specs.declared.token.Class.{Class}
use Rattle.wing_wire.specs.declared.state.Escape.{Escape}
use Rattle.wing_wire.specs.declared.state.Token.{Token}
use Rattle.wing_wire.specs.declared.state.Token.TheVariants.{Between, Number, String as InString, Body as InBody}
use Rattle.wing_wire.specs.declared.state.Control.{Control}
use Rattle.wing_wire.specs.declared.escape.Unit.{Unit}
use Rattle.wing_wire.specs.declared.escape.Unit.TheVariants.{Nothing, Bare, Appended}
use Rattle.wing_wire.specs.declared.unit.Answer.{Answer}
use Rattle.wing_wire.specs.declared.unit.Answer.TheVariants.{More, Integer, Float, String, Body, End, Refused}
use Rattle.wing_wire.specs.declared.stream.Answered.{Answered}
use Rattle.wing_wire.specs.declared.stream.TokenAt.{TokenAt}
use Rattle.wing_wire.proofs.Reading.Turns.{turn, ended}
use Rattle.wing_wire.proofs.Reading.Pieces.{at, clash, stays, run_on}
use Rattle.wing_wire.proofs.Reading.Inners.{inner-left, inner-byte}
use Rattle.std.specs.Prelude.{Option, ℕ, None, Some}

-- ---- a unit, if there is one

-- a unit leaves the escapes that come with it
given-escape : (u : Unit) (e : Escape) (c : Control) (s : List ℕ) → (given_of u e c s).answered.control.escape ≡ e
given-escape Nothing e c s = refl
given-escape (Bare u) e c s = refl
given-escape (Appended u) e c s = refl

-- ---- nothing pending

plain-escaped : (e : Escape) → is_plain e ≡ true → e.escaped ≡ false
plain-escaped e = go e.escaped
  where
    go : (t : Bool) → if t false (not (is_pending e.pending)) ≡ true → t ≡ false
    go true p = absurd (clash p refl)
    go false p = refl

plain-pending : (e : Escape) → is_plain e ≡ true → e.pending ≡ None
plain-pending e = go e.escaped e.pending
  where
    go : (t : Bool) (q : Option ℕ) → if t false (not (is_pending q)) ≡ true → q ≡ None
    go true q p = absurd (clash p refl)
    go false None p = refl
    go false (Some u) p = absurd (clash p refl)

-- where nothing is pending nothing follows
plain-follow : (a : Answer) (c : Control) (s : List ℕ) → c.escape.pending ≡ None → follow_of (step_effect (answered a c) s) ≡ step_effect (answered a c) s
unfolding follow_of settle_of
plain-follow More c s p = rw p
plain-follow (Integer x) c s p = refl
plain-follow (Float x) c s p = refl
plain-follow (String x) c s p = refl
plain-follow (Body x) c s p = refl
plain-follow End c s p = refl
plain-follow (Refused x) c s p = refl

-- ---- the inner units

module _ (e : Escape) (plain : is_plain e ≡ true) (node : ℤ) where
  first_plain : (t : Token) (s : List ℕ) (b : ℕ) → eqb b 0xdf ≡ false → first_of (control e node t) s b ≡ after_unit e (unit_of node t s b true)
  unfolding first_of decode_of plain_of
  first_plain t s b h = rw (plain-escaped e plain, h)

  step-plain : (t t' : Token) (s s' : List ℕ) (b : ℕ) → eqb b 0xdf ≡ false → unit_of node t s b true ≡ unit_effect (awaits node t') s' →
      step_of (control e node t) s b ≡ no_answer (control e node t') s'
  step-plain t t' s s' b h k = ap follow_of (first_plain t s b h ∙ ap (after_unit e) k) ∙ plain-follow More (control e node t') s' (plain-pending e plain)

  -- the run from a token in progress at a place
  abbrev from : List ℕ → AheadEffect → Run
  from bytes g = run_of (at (no_answer (control e node g.ahead.token) g.store) g.ahead.at) (drop g.ahead.at bytes)

  run-plain : (t t' : Token) (s s' : List ℕ) (n b : ℕ) (bs : List ℕ) → eqb b 0xdf ≡ false → unit_of node t s b true ≡ unit_effect (awaits node t') s' →
      run_of (at (no_answer (control e node t) s) n) (b ∷ bs) ≡ run_of (at (no_answer (control e node t') s') (n + 1)) bs
  run-plain t t' s s' n b bs h k = run_on (no_answer (control e node t) s) n b bs refl ∙ ap (λ (o : StepEffect). run_of (at o (n + 1)) bs) (step-plain t t' s s' b h k)

  rest : (bytes : List ℕ) (n b : ℕ) (bs : List ℕ) → drop n bytes ≡ b ∷ bs → drop (n + 1) bytes ≡ bs
  rest bytes n b bs g = sym (drop-drop 1 n bytes) ∙ ap (drop 1) g

  number-took : (class : Class) (s : List ℕ) (left v b : ℕ) → is_inner left b ≡ true → unit_of node (Number class left v) s b true ≡ unit_effect (awaits node (Number class (left - 1) (shift_in v b))) s
  unfolding unit_of number_unit
  number-took class s left v b p = rw (inner-left left b p)

  string-took : (s : List ℕ) (want left b : ℕ) → is_inner left b ≡ true → unit_of node (InString want left) s b true ≡ unit_effect (awaits node (InString want (left - 1))) (set s (want - left) b)
  unfolding unit_of string_unit
  string-took s want left b p = rw (inner-left left b p)

  number-run : (bytes : List ℕ) (class : Class) (s : List ℕ) (left v n : ℕ) (bs : List ℕ) → drop n bytes ≡ bs →
      run_of (at (no_answer (control e node (Number class left v)) s) n) bs ≡ from bytes (ahead_effect (number_ahead class left v n bs) s)
  unfolding number_ahead
  number-run bytes class s left v n [] g = ap (run_of (at (no_answer (control e node (Number class left v)) s) n)) (sym g)
  number-run bytes class s left v n (b ∷ bs) g = go (is_inner left b) refl (number-run bytes class s (left - 1) (shift_in v b) (n + 1) bs (rest bytes n b bs g))
    where
      go : (t : Bool) → is_inner left b ≡ t →
          run_of (at (no_answer (control e node (Number class (left - 1) (shift_in v b))) s) (n + 1)) bs ≡ from bytes (ahead_effect (number_ahead class (left - 1) (shift_in v b) (n + 1) bs) s) →
          run_of (at (no_answer (control e node (Number class left v)) s) n) (b ∷ bs) ≡ from bytes (ahead_effect (number_ahead class left v n (b ∷ bs)) s)
      go true p ih = rw p (run-plain _ _ s s n b bs (inner-byte left b p) (number-took class s left v b p) ∙ ih)
      go false p ih = rw p (ap (run_of (at (no_answer (control e node (Number class left v)) s) n)) (sym g))

  string-run : (bytes : List ℕ) (want left : ℕ) (s : List ℕ) (n : ℕ) (bs : List ℕ) → drop n bytes ≡ bs →
      run_of (at (no_answer (control e node (InString want left)) s) n) bs ≡ from bytes (string_ahead want left s n bs)
  unfolding string_ahead
  string-run bytes want left s n [] g = ap (run_of (at (no_answer (control e node (InString want left)) s) n)) (sym g)
  string-run bytes want left s n (b ∷ bs) g = go (is_inner left b) refl (string-run bytes want (left - 1) (set s (want - left) b) (n + 1) bs (rest bytes n b bs g))
    where
      go : (t : Bool) → is_inner left b ≡ t →
          run_of (at (no_answer (control e node (InString want (left - 1))) (set s (want - left) b)) (n + 1)) bs ≡ from bytes (string_ahead want (left - 1) (set s (want - left) b) (n + 1) bs) →
          run_of (at (no_answer (control e node (InString want left)) s) n) (b ∷ bs) ≡ from bytes (string_ahead want left s n (b ∷ bs))
      go true p ih = rw p (run-plain _ _ s (set s (want - left) b) n b bs (inner-byte left b p) (string-took s want left b p) ∙ ih)
      go false p ih = rw p (ap (run_of (at (no_answer (control e node (InString want left)) s) n)) (sym g))

  -- a run from here is a run from after the inner units
  token-run : (bytes : List ℕ) (t : Token) (s : List ℕ) (n : ℕ) → run_of (at (no_answer (control e node t) s) n) (drop n bytes) ≡ from bytes (token_ahead t s n (drop n bytes))
  unfolding token_ahead
  token-run bytes Between s n = refl
  token-run bytes (Number class left v) s n = number-run bytes class s left v n (drop n bytes) refl
  token-run bytes (InString want left) s n = string-run bytes want left s n (drop n bytes) refl
  token-run bytes (InBody stored want left) s n = refl

-- no bytes are taken back
number_up : (class : Class) (left v n : ℕ) (bs : List ℕ) → n ≤ (number_ahead class left v n bs).at
unfolding number_ahead
number_up class left v n [] = omega arith
number_up class left v n (b ∷ bs) = go (is_inner left b) (number_up class (left - 1) (shift_in v b) (n + 1) bs)
  where
    go : (t : Bool) → n + 1 ≤ (number_ahead class (left - 1) (shift_in v b) (n + 1) bs).at →
        n ≤ (if {A = TokenAt} t (number_ahead class (left - 1) (shift_in v b) (n + 1) bs) (token_at (Number class left v) n)).at
    go true ih = omega (arith, ih)
    go false ih = omega arith

string-up : (want left : ℕ) (s : List ℕ) (n : ℕ) (bs : List ℕ) → n ≤ (string_ahead want left s n bs).ahead.at
unfolding string_ahead
string-up want left s n [] = omega arith
string-up want left s n (b ∷ bs) = go (is_inner left b) (string-up want (left - 1) (set s (want - left) b) (n + 1) bs)
  where
    go : (t : Bool) → n + 1 ≤ (string_ahead want (left - 1) (set s (want - left) b) (n + 1) bs).ahead.at →
        n ≤ (if {A = AheadEffect} t (string_ahead want (left - 1) (set s (want - left) b) (n + 1) bs) (ahead_effect (token_at (InString want left) n) s)).ahead.at
    go true ih = omega (arith, ih)
    go false ih = omega arith

token-up : (t : Token) (s : List ℕ) (n : ℕ) (bs : List ℕ) → n ≤ (token_ahead t s n bs).ahead.at
unfolding token_ahead
token-up Between s n bs = omega arith
token-up (Number class left v) s n bs = number_up class left v n bs
token-up (InString want left) s n bs = string-up want left s n bs
token-up (InBody stored want left) s n bs = omega arith

-- ---- one turn of the loop

-- the run from a turn: what follows it, and the bytes left
abbrev pub whole : List ℕ → SteppedEffect → Run
whole bytes r = run_of (at (follow_of r.effect) r.at) (drop r.at bytes)

-- the inner units change nothing of the whole
ahead-whole : (a : Answer) (c : Control) (s bytes : List ℕ) (n : ℕ) → whole bytes (stepped_effect (step_effect (answered a c) s) n) ≡ whole bytes (on_ahead (step_effect (answered a c) s) bytes n)
unfolding on_ahead ahead_of
ahead-whole More c s bytes n = go (is_plain c.escape) refl
  where
    go : (t : Bool) → is_plain c.escape ≡ t → whole bytes (stepped_effect (no_answer c s) n) ≡ whole bytes (if t (ahead_of c s n (drop n bytes)) (stepped_effect (no_answer c s) n))
    go true p =
        let g = token_ahead c.token s n (drop n bytes) in
        let after = control c.escape c.node g.ahead.token in
        ap (λ (o : StepEffect). run_of (at o n) (drop n bytes)) (plain-follow More c s (plain-pending c.escape p))
        ∙ token-run c.escape p c.node bytes c.token s n
        ∙ ap (λ (o : StepEffect). run_of (at o g.ahead.at) (drop g.ahead.at bytes)) (sym (plain-follow More after g.store (plain-pending c.escape p)))
    go false p = refl
ahead-whole (Integer x) c s bytes n = refl
ahead-whole (Float x) c s bytes n = refl
ahead-whole (String x) c s bytes n = refl
ahead-whole (Body x) c s bytes n = refl
ahead-whole End c s bytes n = refl
ahead-whole (Refused x) c s bytes n = refl

only-first : (t : Bool) → if t true false ≡ true → t ≡ true
only-first true p = refl
only-first false p = p

settled : (c : Control) (s : List ℕ) (u : ℕ) → c.escape.pending ≡ Some u →
    follow_of (no_answer c s) ≡ given_of (Appended u) (escape c.escape.escaped c.escape.channel None) c s
unfolding follow_of settle_of
settled c s u e = rw e

-- nor does the next unit
next-whole : (a : Answer) (c : Control) (s bytes : List ℕ) (n : ℕ) → is_on (answered a c) n (length bytes) ≡ true →
    whole bytes (stepped_effect (step_effect (answered a c) s) n) ≡
    whole bytes (stepped_effect (given_of (decode_next_of c.escape bytes n).unit (decode_next_of c.escape bytes n).escape c s) (decode_next_of c.escape bytes n).at)
unfolding decode_next_of byte_next first_of
next-whole More c s bytes n on = go c.escape.pending refl on
  where
    go : (p : Option ℕ) → c.escape.pending ≡ p → if (ltb n (length bytes)) true (is_pending p) ≡ true →
        whole bytes (stepped_effect (no_answer c s) n) ≡ whole bytes (stepped_effect (given_of (pending_next p c.escape bytes n).unit (pending_next p c.escape bytes n).escape c s) (pending_next p c.escape bytes n).at)
    go None e on =
        let l : ltb n (length bytes) ≡ true = only-first (ltb n (length bytes)) on in
        rw l (ap (λ (o : StepEffect). run_of (at o n) (drop n bytes)) (plain-follow More c s e) ∙ turn (at (no_answer c s) n) bytes n (ltb-true _ _ l) refl)
    go (Some u) e on =
        let o = unit_of c.node c.token s u true in
        let after = control (escape c.escape.escaped c.escape.channel None) o.taken.node o.taken.token in
        ap (λ (o : StepEffect). run_of (at o n) (drop n bytes)) (settled c s u e ∙ sym (plain-follow o.taken.answer after o.store refl))
next-whole (Integer x) c s bytes n on = absurd (clash on refl)
next-whole (Float x) c s bytes n on = absurd (clash on refl)
next-whole (String x) c s bytes n on = absurd (clash on refl)
next-whole (Body x) c s bytes n on = absurd (clash on refl)
next-whole End c s bytes n on = absurd (clash on refl)
next-whole (Refused x) c s bytes n on = absurd (clash on refl)

-- a turn
pub once-whole : (t : Answered) (s bytes : List ℕ) (n : ℕ) → is_on t n (length bytes) ≡ true → whole bytes (stepped_effect (step_effect t s) n) ≡ whole bytes (once_of t.control s bytes n)
unfolding once_of
once-whole t s bytes n on =
    let g = decode_next_of t.control.escape bytes n in
    let h = given_of g.unit g.escape t.control s in
    next-whole t.answer t.control s bytes n on ∙ ahead-whole h.answered.answer h.answered.control h.store bytes g.at

over : (a : Answer) (c : Control) (s bytes : List ℕ) (n : ℕ) → is_more a ≡ false → whole bytes (stepped_effect (step_effect (answered a c) s) n) ≡ at (step_effect (answered a c) s) n
unfolding follow_of
over a c s bytes n e = rw e (stays (at (step_effect (answered a c) s) n) (drop n bytes) e)

-- the end: an answer, or no byte is left or pending
pub whole-ends : (t : Answered) (s bytes : List ℕ) (n : ℕ) → is_on t n (length bytes) ≡ false → whole bytes (stepped_effect (step_effect t s) n) ≡ at (step_effect t s) n
whole-ends t s bytes n = by t.answer t.control
  where
    by : (a : Answer) (c : Control) → is_on (answered a c) n (length bytes) ≡ false → whole bytes (stepped_effect (step_effect (answered a c) s) n) ≡ at (step_effect (answered a c) s) n
    by More c off = go c.escape.pending (ltb n (length bytes)) refl refl off
      where
        go : (p : Option ℕ) (t : Bool) → c.escape.pending ≡ p → ltb n (length bytes) ≡ t → if t true (is_pending p) ≡ false → whole bytes (stepped_effect (no_answer c s) n) ≡ at (no_answer c s) n
        go p true e l x = absurd (clash refl x)
        go None false e l x = ap (λ (o : StepEffect). run_of (at o n) (drop n bytes)) (plain-follow More c s e) ∙ ended (at (no_answer c s) n) bytes n (ltb-false _ _ l)
        go (Some u) false e l x = absurd (clash refl x)
    by (Integer x) c off = over (Integer x) c s bytes n refl
    by (Float x) c off = over (Float x) c s bytes n refl
    by (String x) c off = over (String x) c s bytes n refl
    by (Body x) c off = over (Body x) c s bytes n refl
    by End c off = over End c s bytes n refl
    by (Refused x) c off = over (Refused x) c s bytes n refl

-- ---- it ends: each turn takes a byte, or the pending one

ahead-escape : (h : StepEffect) (bytes : List ℕ) (n : ℕ) → (on_ahead h bytes n).effect.answered.control.escape ≡ h.answered.control.escape
unfolding on_ahead ahead_of
ahead-escape h bytes n = go (is_free h.answered)
  where
    go : (t : Bool) → (if {A = SteppedEffect} t (ahead_of h.answered.control h.store n (drop n bytes)) (stepped_effect h n)).effect.answered.control.escape ≡ h.answered.control.escape
    go true = refl
    go false = refl

ahead-up : (h : StepEffect) (bytes : List ℕ) (n : ℕ) → n ≤ (on_ahead h bytes n).at
unfolding on_ahead ahead_of
ahead-up h bytes n = go (is_free h.answered)
  where
    go : (t : Bool) → n ≤ (if {A = SteppedEffect} t (ahead_of h.answered.control h.store n (drop n bytes)) (stepped_effect h n)).at
    go true = token-up h.answered.control.token h.store n (drop n bytes)
    go false = omega arith

pending-few : (p : Option ℕ) → pending_count p ≤ 1
pending-few None = omega arith
pending-few (Some u) = omega arith

next-less : (e : Escape) (bytes : List ℕ) (n m : ℕ) → if (ltb n (length bytes)) true (is_pending e.pending) ≡ true → (decode_next_of e bytes n).at ≤ m →
    2 * (length bytes - m) + pending_count (decode_next_of e bytes n).escape.pending < 2 * (length bytes - n) + pending_count e.pending
unfolding decode_next_of byte_next
next-less e bytes n m = go e.pending
  where
    go : (p : Option ℕ) → if (ltb n (length bytes)) true (is_pending p) ≡ true → (pending_next p e bytes n).at ≤ m →
        2 * (length bytes - m) + pending_count (pending_next p e bytes n).escape.pending < 2 * (length bytes - n) + pending_count p
    go None on h =
        let l : ltb n (length bytes) ≡ true = only-first (ltb n (length bytes)) on in
        let k : n + 1 ≤ m = rw l at h in
        omega (arith, k, ltb-true n (length bytes) l, pending-few (pending_next None e bytes n).escape.pending)
    go (Some u) on h = omega (arith, h)

more-on : (t : Answered) (n end : ℕ) → is_on t n end ≡ true → if (ltb n end) true (is_pending t.control.escape.pending) ≡ true
more-on t n end = go (is_more t.answer)
  where
    go : (m : Bool) → if m (if (ltb n end) true (is_pending t.control.escape.pending)) false ≡ true → if (ltb n end) true (is_pending t.control.escape.pending) ≡ true
    go true p = p
    go false p = absurd (clash p refl)

pub once-less : (t : Answered) (s bytes : List ℕ) (n : ℕ) → is_on t n (length bytes) ≡ true →
    2 * (length bytes - (once_of t.control s bytes n).at) + pending_count (once_of t.control s bytes n).effect.answered.control.escape.pending
    < 2 * (length bytes - n) + pending_count t.control.escape.pending
unfolding once_of
once-less t s bytes n on =
    let g = decode_next_of t.control.escape bytes n in
    let h = given_of g.unit g.escape t.control s in
    rw (ahead-escape h bytes g.at ∙ given-escape g.unit g.escape t.control s)
    (next-less t.control.escape bytes n (on_ahead h bytes g.at).at (more-on t n (length bytes) on) (ahead-up h bytes g.at))

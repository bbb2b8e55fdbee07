-- Whole tokens, unit by unit: nothing is handed on before the last unit, and with it what 01's table gives.
use Prim.Native.Nat.{ℕ, zero, suc, ◌+◌, ◌-◌, ◌*◌, ◌%◌, ◌^◌, ◌≤◌, ◌<◌}
use mathlib.Core.Bool.{Bool, true, false}
use mathlib.Core.Path.{◌≡◌, refl, sym, ◌∙◌, ap, subst}
use mathlib.Core.List.{List, [], ◌∷◌, ◌++◌}
use mathlib.Core.Logic.{inl, inr}
use native.Mathlib.Omega.{arith}
use native.Mathlib.Nat.{pow-suc, pow-le-pow_right}
use lib.Dec.{leb}
use lib.IntN.{ℤ, pos}
use lib.ListN.{length, take, drop, set}
use lib.Seq.{sets}
use borrow.Author.Tests.{leb-true, leb-false, lt-ltb, lt-leb, le-leb, ne_eqb, eq-eqb}
use Rattle.wing_node.proofs.Branches.{branch}
use Rattle.wing_node.specs.Bool.{if}
use Rattle.wing_node.specs.Digits.{number_from, number_in}
use Rattle.wing_node.specs.Field.{big}
use Rattle.wing_node.specs.Signed.{signed}
use Rattle.wing_node.specs.Utf8.{utf8}
use Rattle.wing_node.specs.Value.{integer, float, string}
use Rattle.wing_node.specs.Refusal.{string_not_utf8}
use Rattle.wing_wire.specs.Token.{Row, rule, table, rule_in, rule_of}
use Rattle.wing_wire.specs.State.{body_limit, control, zeros}
use Rattle.wing_wire.specs.Unit.{completes, awaits, single_of, is_string, token_of, begin_of, count_of, long_count_of, number_of, shift_in, number_unit, UnitEffect, unit_effect, cleared, string_done, string_unit, keeps, body_done, body_next, body_unit, unit_of}
use Rattle.wing_wire.specs.Stream.{after_unit, Fed, handle}
use Rattle.wing_wire.specs.Reader.{Event, value, body, end, refused, event_of}
use Rattle.wing_wire.specs.Range.{AreBytes, no_bytes, byte_then}
use Rattle.wing_wire.specs.Units.{StreamUnit, stream_unit, unit_taken, units_taken}
use Rattle.wing_wire.specs.Tokens.{empty_store, values, appended, Further, From, Rest, TokenResult, event, nothing, new_node, string_of, between, after, Holds, Token, InForce, short, long, InTable, integer_t, string_80, string_c0, string_d0, string_d1, integer_16, integer_32, float_bits, new_node_d7, skips_two, skips_one, end_unit, bodies, count_over, counts_zero, no_event}
use Rattle.wing_wire.specs.declared.token.Class.{Class}
use Rattle.wing_wire.specs.declared.token.Class.TheVariants.{NoEvent, Integer, String, Length, Int16, Int32, Float, Node, End, Count, LongCount}
use Rattle.wing_wire.specs.declared.state.Escape.{Escape}
use Rattle.wing_wire.specs.declared.state.Token.{Token as Progress}
use Rattle.wing_wire.specs.declared.state.Token.TheVariants.{Between, Number, String as InString, Body as InBody}
use Rattle.wing_wire.specs.declared.unit.Answer.{Answer}
use Rattle.wing_wire.specs.declared.unit.Answer.TheVariants.{String as a_string, Refused}
use Rattle.wing_wire.proofs.Reading.Clears.{front_read, front-cleared}
use Rattle.wing_wire.proofs.Reading.ByUnits.{taken-append}
use Rattle.wing_node.specs.declared.refusal.Refusal.TheVariants.{BodyEmpty, BodyLong}

-- ---- the store

empty-zeros : zeros empty_store ≡ true
unfolding empty_store zeros
empty-zeros = refl

empty-size : length empty_store ≡ body_limit
unfolding empty_store
empty-size = refl

-- bytes that fit a body fit the empty store
fits-empty : (t : List ℕ) → length t ≤ body_limit → length t ≤ length empty_store
fits-empty t h = omega (arith, empty-size)

-- ---- units

values_length : (us : List StreamUnit) → length (values us) ≡ length us
values_length [] = refl
values_length (g ∷ us) = ap suc (values_length us)

appended-few : (us : List StreamUnit) → length (appended us) ≤ length us
appended-few [] = omega arith
appended-few (g ∷ us) = branch (λ (l : List ℕ). length l ≤ suc (length us)) g.appended _ _ (λ _. omega (arith, appended-few us)) (λ _. omega (arith, appended-few us))

-- the units that a token in progress still wants
abbrev left_of : Progress → ℕ
left_of Between = 0
left_of (Number class left v) = left
left_of (InString want left) = left
left_of (InBody stored want left) = left

-- nothing yet, and n units are still wanted
record StillWants (node : ℤ) (n : ℕ) (o : UnitEffect) : Type 0 where
  pub token : Progress
  pub store : List ℕ
  pub same : o ≡ unit_effect (awaits node token) store
  pub left : left_of token ≡ n

-- a unit that is not the last
still-wants : (node : ℤ) (t : Progress) (s : List ℕ) (u : ℕ) (a : Bool) → 2 ≤ left_of t → StillWants node (left_of t - 1) (unit_of node t s u a)
unfolding unit_of number_unit string_unit body_unit body_next
still-wants node Between s u a h = absurd (omega arith)
still-wants node (Number class left v) s u a h = record { token = Number class (left - 1) (shift_in v u); store = s; same = rw (lt-leb left 1 h); left = refl }
still-wants node (InString want left) s u a h = record { token = InString want (left - 1); store = set s (want - left) u; same = rw (lt-leb left 1 h); left = refl }
still-wants node (InBody stored want left) s u a h =
    branch (StillWants node (left - 1)) (keeps want stored a) _ _
    (λ _. record { token = InBody (stored + 1) want (left - 1); store = set s stored u; same = rw (lt-leb left 1 h); left = refl })
    (λ _. record { token = InBody stored want (left - 1); store = s; same = rw (lt-leb left 1 h); left = refl })

-- ---- units through every answer

module _ {M : Type 0} (h : ℤ → Event → M → M) where
  abbrev handed : ℤ → Answer → List ℕ → M → M
  handed node a s m = h node (event_of a s s) m

  -- before each of the units
  abbrev Each : (Fed M → Type 0) → Fed M → List StreamUnit → Type 0
  Each P x [] = Unit {0}
  Each P x (g ∷ gs) = P x × Each P (unit_taken handed x g) gs

  each-front : (P : Fed M → Type 0) (x : Fed M) (us : List StreamUnit) → Each P x us → (n : ℕ) → n < length us → P (units_taken handed x (take n us))
  unfolding units_taken
  each-front P x [] t n l = absurd (omega arith)
  each-front P x (g ∷ us) (p, t) zero l = p
  each-front P x (g ∷ us) (p, t) (suc n) l = each-front P (unit_taken handed x g) us t n (omega arith)

  each_append : (P : Fed M → Type 0) (x : Fed M) (a b : List StreamUnit) → Each P x a → Each P (units_taken handed x a) b → Each P x (a ++ b)
  unfolding units_taken
  each_append P x [] b p q = q
  each_append P x (g ∷ a) b (p, t) q = (p, each_append P (unit_taken handed x g) a b t q)

  module _ (e : Escape) (node : ℤ) (m : M) where
    -- in a token or between tokens, with nothing handed on
    abbrev stands : Progress → List ℕ → Fed M
    stands t s = record { control = control e node t; store = s; memo = m }

    -- after a unit
    abbrev done : UnitEffect → Fed M
    done o = handle handed (after_unit e o) m

    -- units that lead from x to y, and nothing is handed on before the last
    record Leads (x : Fed M) (us : List StreamUnit) (y : Fed M) : Type 0 where
      pub each : Each (Holds h e node m) x us
      pub ends : units_taken handed x us ≡ y

    leads-on : {x y z : Fed M} {a b : List StreamUnit} → Leads x a y → Leads y b z → Leads x (a ++ b) z
    leads-on {x} {y} {z} {a} {b} p q =
        record {
          each = each_append (Holds h e node m) x a b p.each (subst (λ (w : Fed M). Each (Holds h e node m) w b) (sym p.ends) q.each);
          ends = taken-append handed x a b ∙ ap (λ (w : Fed M). units_taken handed w b) p.ends ∙ q.ends;
        }

    holds-still : (t : Progress) (s : List ℕ) → Holds h e node m (stands t s)
    holds-still t s = record { memo = refl; node = refl; escape = refl }

    -- a token that wants no fewer units hands nothing on before the last of them
    each-waits : (t : Progress) (s : List ℕ) (us : List StreamUnit) → length us ≤ left_of t → Each (Holds h e node m) (stands t s) us
    each-waits t s [] l = tt
    each-waits t s (g ∷ []) l = (holds-still t s, tt)
    each-waits t s (g ∷ k ∷ us) l =
        let q = still-wants node t s g.unit g.appended (omega arith) in
        let rest : Each (Holds h e node m) (stands q.token q.store) (k ∷ us) = each-waits q.token q.store (k ∷ us) (omega (arith, q.left)) in
        (holds-still t s, subst (λ (o : UnitEffect). Each (Holds h e node m) (done o) (k ∷ us)) (sym q.same) rest)

    -- ---- the first unit

    begins : (s : List ℕ) (t : ℕ) (a : Bool) (w : ℕ) (class : Class) → rule_of t ≡ rule class (suc w) →
        Leads (stands Between s) (stream_unit t a ∷ []) (stands (token_of class (suc w)) s)
    unfolding units_taken unit_of begin_of
    begins s t a w class q = record { each = (holds-still Between s, tt); ends = rw (q, ne_eqb (suc w) 0 (λ z. omega arith)) }

    single : (s : List ℕ) (t : ℕ) (a : Bool) (class : Class) → rule_of t ≡ rule class 0 →
        Leads (stands Between s) (stream_unit t a ∷ []) (done (unit_effect (completes node (single_of class t)) s))
    unfolding units_taken unit_of begin_of
    single s t a class q = record { each = (holds-still Between s, tt); ends = rw q }

    -- ---- numbers

    -- one unit more, as long as there are at most four
    shifted : (v u j : ℕ) → v < 256 ^ j → j ≤ 3 → shift_in v u ≡ v * 256 + u
    shifted v u j b k =
        let most : 256 ^ j ≤ 256 ^ 3 = pow-le-pow_right (omega arith) k in
        let in24 : v % 0x1000000 ≡ v = omega arith in
        ap (λ (x : ℕ). x * 256 + u) in24

    number-units : (class : Class) (s : List ℕ) (us : List StreamUnit) (v j : ℕ) → 1 ≤ length us → AreBytes (values us) → v < 256 ^ j → j + length us ≤ 4 →
        units_taken handed (stands (Number class (length us) v) s) us ≡ done (unit_effect (number_of node class (number_from 256 v (values us))) s)
    unfolding units_taken unit_of number_unit number_from
    number-units class s [] v j some bytes b k = absurd (omega arith)
    number-units class s (g ∷ []) v j some bytes b k = rw (shifted v g.unit j b (omega arith))
    number-units class s (g ∷ g₂ ∷ us) v j some (byte_then low bytes) b k =
        let u = g.unit in
        let one : shift_in v u ≡ v * 256 + u = shifted v u j b (omega arith) in
        let next : v * 256 + u < 256 ^ suc j = rw (pow-suc 256 j) (omega arith) in
        let fewer : suc (suc (length us)) - 1 ≡ suc (length us) = omega arith in
        rw (lt-leb (suc (suc (length us))) 1 (omega arith), fewer, one)
        (number-units class s (g₂ ∷ us) (v * 256 + u) (suc j) (omega arith) bytes next (omega arith))

    -- all units of a number
    number-leads : (class : Class) (s : List ℕ) (w : ℕ) (us : List StreamUnit) → Further (suc w) us → w ≤ 3 →
        Leads (stands (Number class (suc w) 0) s) us (done (unit_effect (number_of node class (big (values us))) s))
    unfolding number_in
    number-leads class s w us f k =
        record {
          each = each-waits (Number class (suc w) 0) s us (omega (arith, f.number));
          ends =
              subst (λ (n : ℕ). units_taken handed (stands (Number class n 0) s) us ≡ done (unit_effect (number_of node class (number_from 256 0 (values us))) s)) f.number
              (number-units class s us 0 0 (omega (arith, f.number)) f.bytes (omega arith) (omega (arith, f.number)));
        }

    -- ---- strings

    string-units : (s : List ℕ) (want : ℕ) (us : List StreamUnit) → 1 ≤ length us → length us ≤ want →
        units_taken handed (stands (InString want (length us)) s) us ≡ done (string_done node want (sets s (want - length us) (values us)))
    unfolding units_taken unit_of string_unit
    string-units s want [] some l = absurd (omega arith)
    string-units s want (g ∷ []) some l = refl
    string-units s want (g ∷ k ∷ us) some l =
        let left = suc (suc (length us)) in
        let fewer : left - 1 ≡ suc (length us) = omega arith in
        let place : want - suc (length us) ≡ suc (want - left) = omega arith in
        rw (lt-leb left 1 (omega arith), fewer)
        (string-units (set s (want - left) g.unit) want (k ∷ us) (omega arith) (omega arith) ∙ rw place)

    string-done : (t : List ℕ) → length t ≤ body_limit → done (string_done node (length t) (sets empty_store 0 t)) ≡ after h e node m (string_of t)
    unfolding string_done event_of
    string-done t l = ap (λ (x : List ℕ). done (if (utf8 x) whole (bad x))) (front_read t empty_store (fits-empty t l)) ∙ go (utf8 t)
      where
        whole : UnitEffect
        whole = unit_effect (completes node (a_string (length t))) (sets empty_store 0 t)

        bad : List ℕ → UnitEffect
        bad x = unit_effect (completes node (Refused (string_not_utf8 x))) (cleared (length t) (sets empty_store 0 t))

        go : (q : Bool) → done (if q whole (bad t)) ≡ after h e node m (if q (event (value (string t))) (event (refused (string_not_utf8 t))))
        go true = rw (front-cleared t empty_store (fits-empty t l) empty-zeros) (rw (front_read t empty_store (fits-empty t l)))
        go false = rw (front-cleared t empty_store (fits-empty t l) empty-zeros)

    -- all units of a string
    string-leads : (k : ℕ) (us : List StreamUnit) → Further (suc k) us → suc k ≤ 256 →
        Leads (stands (InString (suc k) (suc k)) empty_store) us (after h e node m (string_of (values us)))
    string-leads k us f l =
        record {
          each = each-waits (InString (suc k) (suc k)) empty_store us (omega (arith, f.number));
          ends = subst (λ (n : ℕ). units_taken handed (stands (InString n n) empty_store) us ≡ after h e node m (string_of (values us))) f.number all;
        }
      where
        n : ℕ
        n = length us

        all : units_taken handed (stands (InString n n) empty_store) us ≡ after h e node m (string_of (values us))
        all =
            let z : n - n ≡ 0 = omega arith in
            let w = values_length us in
            string-units empty_store n us (omega (arith, f.number)) (omega arith) ∙
            (rw z (rw (sym w) (string-done (values us) (omega (arith, f.number)))))

    -- ---- bodies

    -- of a count up to 4,096 what the units append is kept
    body-units : (s : List ℕ) (want : ℕ) (us : List StreamUnit) (stored : ℕ) → 1 ≤ length us → want ≤ body_limit → stored + length us ≤ body_limit →
        units_taken handed (stands (InBody stored want (length us)) s) us ≡ done (unit_effect (body_done node want (stored + length (appended us))) (sets s stored (appended us)))
    unfolding units_taken unit_of body_unit body_next keeps
    body-units s want [] stored some l room = absurd (omega arith)
    body-units s want (g ∷ []) stored some l room = go g.appended
      where
        go : (q : Bool) →
            done (body_unit node want 1 stored s g.unit q) ≡ done (unit_effect (body_done node want (stored + length (if q (g.unit ∷ []) []))) (sets s stored (if q (g.unit ∷ []) [])))
        go true = rw (le-leb want body_limit l, lt-ltb stored body_limit (omega arith))
        go false = let z : stored + 0 ≡ stored = omega arith in rw z
    body-units s want (g ∷ k ∷ us) stored some l room = go g.appended (λ s' n r. body-units s' want (k ∷ us) n (omega arith) l r)
      where
        left : ℕ
        left = suc (suc (length us))

        rest : List ℕ
        rest = appended (k ∷ us)

        go : (q : Bool) →
            ((s' : List ℕ) (n : ℕ) → n + suc (length us) ≤ body_limit → units_taken handed (stands (InBody n want (suc (length us))) s') (k ∷ us) ≡ done (unit_effect (body_done node want (n + length rest)) (sets s' n rest))) →
            units_taken handed (done (body_unit node want left stored s g.unit q)) (k ∷ us) ≡
            done (unit_effect (body_done node want (stored + length (if q (g.unit ∷ rest) rest))) (sets s stored (if q (g.unit ∷ rest) rest)))
        go true ih =
            let fewer : left - 1 ≡ suc (length us) = omega arith in
            let more : stored + 1 + length rest ≡ stored + suc (length rest) = omega arith in
            let next : stored + 1 ≡ suc stored = omega arith in
            rw (le-leb want body_limit l, lt-ltb stored body_limit (omega arith), lt-leb left 1 (omega arith), fewer)
            (ih (set s stored g.unit) (stored + 1) (omega arith) ∙ rw (more, next))
        go false ih =
            let fewer : left - 1 ≡ suc (length us) = omega arith in
            rw (lt-leb left 1 (omega arith), fewer) (ih s stored (omega arith))

    -- of a count over 4,096 nothing is
    over-units : (s : List ℕ) (want : ℕ) (us : List StreamUnit) (stored : ℕ) → 1 ≤ length us → body_limit < want →
        units_taken handed (stands (InBody stored want (length us)) s) us ≡ done (unit_effect (body_done node want stored) s)
    unfolding units_taken unit_of body_unit body_next keeps
    over-units s want [] stored some l = absurd (omega arith)
    over-units s want (g ∷ []) stored some l = go g.appended
      where
        go : (q : Bool) → done (body_unit node want 1 stored s g.unit q) ≡ done (unit_effect (body_done node want stored) s)
        go true = rw (lt-leb want body_limit l)
        go false = refl
    over-units s want (g ∷ k ∷ us) stored some l = go g.appended (over-units s want (k ∷ us) stored (omega arith) l)
      where
        left : ℕ
        left = suc (suc (length us))

        go : (q : Bool) → units_taken handed (stands (InBody stored want (suc (length us))) s) (k ∷ us) ≡ done (unit_effect (body_done node want stored) s) →
            units_taken handed (done (body_unit node want left stored s g.unit q)) (k ∷ us) ≡ done (unit_effect (body_done node want stored) s)
        go true ih =
            let fewer : left - 1 ≡ suc (length us) = omega arith in
            rw (lt-leb want body_limit l, lt-leb left 1 (omega arith), fewer) ih
        go false ih =
            let fewer : left - 1 ≡ suc (length us) = omega arith in
            rw (lt-leb left 1 (omega arith), fewer) ih

    -- the body, or 2
    abbrev body_of : ℕ → List StreamUnit → TokenResult
    body_of c us = if (leb c body_limit) (event (body (appended us))) (event (refused BodyLong))

    body-ends : (us : List StreamUnit) → 1 ≤ length us → units_taken handed (stands (InBody 0 (length us) (length us)) empty_store) us ≡ after h e node m (body_of (length us) us)
    unfolding body_done event_of
    body-ends us some = go (leb (length us) body_limit) refl
      where
        t : List ℕ
        t = appended us

        go : (q : Bool) → leb (length us) body_limit ≡ q →
            units_taken handed (stands (InBody 0 (length us) (length us)) empty_store) us ≡ after h e node m (if q (event (body t)) (event (refused BodyLong)))
        go true q =
            let l : length us ≤ body_limit = leb-true (length us) body_limit q in
            let few : length t ≤ body_limit = omega (arith, appended-few us) in
            let z : 0 + length t ≡ length t = omega arith in
            body-units empty_store (length us) us 0 some l (omega arith) ∙ rw (q, z) (rw (front-cleared t empty_store (fits-empty t few) empty-zeros) (rw (front_read t empty_store (fits-empty t few))))
        go false q = over-units empty_store (length us) us 0 some (leb-false (length us) body_limit q) ∙ rw q

    -- all units of a body
    body-leads : (c : ℕ) (us : List StreamUnit) → Further c us → 1 ≤ c → Leads (stands (InBody 0 c c) empty_store) us (after h e node m (body_of c us))
    body-leads c us f some =
        record {
          each = each-waits (InBody 0 c c) empty_store us (omega (arith, f.number));
          ends = subst (λ (n : ℕ). units_taken handed (stands (InBody 0 n n) empty_store) us ≡ after h e node m (body_of n us)) f.number (body-ends us (omega (arith, f.number)));
        }

-- ---- the table

-- a first unit in the first row
in_row : (r : Row) (rs : List Row) (t : ℕ) → From r.low r.high t → rule_in (r ∷ rs) t ≡ r.rule_at t
unfolding rule_in
in_row r rs t (l, k) = rw (le-leb r.low t l, le-leb t r.high k)

-- below a row or above it
abbrev NotIn : Row → ℕ → Type 0
NotIn r t = 1 ≤ (r.low - t) + (t - r.high)

past_row : (r : Row) (rs : List Row) (t : ℕ) → NotIn r t → rule_in (r ∷ rs) t ≡ rule_in rs t
unfolding rule_in
past_row r rs t o = go (leb r.low t) refl
  where
    go : (q : Bool) → leb r.low t ≡ q → if q (if (leb t r.high) (r.rule_at t) (rule_in rs t)) (rule_in rs t) ≡ rule_in rs t
    go true q = rw (lt-leb t r.high (omega (arith, leb-true r.low t q)))
    go false q = refl

-- in none of the rows
abbrev Outside : List Row → ℕ → Type 0
Outside [] t = Unit {0}
Outside (r ∷ rs) t = NotIn r t × Outside rs t

past-rows : (front rs : List Row) (t : ℕ) → Outside front t → rule_in (front ++ rs) t ≡ rule_in rs t
past-rows [] rs t o = refl
past-rows (r ∷ front) rs t (here, o) = past_row r (front ++ rs) t here ∙ past-rows front rs t o

rule-small : (t : ℕ) → From 0x00 0x3f t → rule_of t ≡ rule Integer 0
unfolding rule_of
rule-small t h = in_row _ _ t h

rule-80 : (t : ℕ) → From 0x80 0xbf t → rule_of t ≡ rule String (t - 0x80 + 1)
unfolding rule_of
rule-80 t h = past-rows (take 1 table) (drop 1 table) t (omega arith) ∙ in_row _ _ t h

rule-c0 : (t : ℕ) → From 0xc0 0xcf t → rule_of t ≡ rule String (t - 0xc0 + 1)
unfolding rule_of
rule-c0 t h = past-rows (take 2 table) (drop 2 table) t (omega arith) ∙ in_row _ _ t h

rule-float : (t : ℕ) → From 0xd5 0xd6 t → rule_of t ≡ rule Float 4
unfolding rule_of
rule-float t h = past-rows (take 7 table) (drop 7 table) t (omega arith) ∙ in_row _ _ t h

rule-rest : (t : ℕ) → Rest t → rule_of t ≡ rule NoEvent 0
unfolding rule_of
rule-rest t h = past-rows table [] t (off h) ∙ unfold rule_in in refl
  where
    off : Rest t → Outside table t
    off (inl r) = omega arith
    off (inr (inl r)) = omega arith
    off (inr (inr (inl r))) = omega arith
    off (inr (inr (inr r))) = omega arith

-- a number of n units is below 256 to n
number_small : (us : List StreamUnit) (v j : ℕ) → AreBytes (values us) → v < 256 ^ j → number_from 256 v (values us) < 256 ^ (j + length us)
unfolding number_from
number_small [] v j b l = let z : j + 0 ≡ j = omega arith in rw z l
number_small (g ∷ us) v j (byte_then low b) l =
    let z : j + suc (length us) ≡ suc j + length us = omega arith in
    rw z (number_small us (v * 256 + g.unit) (suc j) b (rw (pow-suc 256 j) (omega arith)))

big-small : (n : ℕ) (us : List StreamUnit) → Further n us → big (values us) < 256 ^ n
unfolding number_in
big-small n us f =
    let z : 0 + length us ≡ n = omega (arith, f.number) in
    rw z at (number_small us 0 0 f.bytes (omega arith))

-- ---- whole tokens

module _ {M : Type 0} (h : ℤ → Event → M → M) where
  -- from what the units lead to, at any node and with any escapes
  whole : (us : List StreamUnit) (g : TokenResult) → ((e : Escape) (node : ℤ) (m : M) → Leads h e node m (between h e node m) us (after h e node m g)) → Token h us g
  whole us g l =
      record {
        before = λ e node m n k. each-front h (Holds h e node m) (between h e node m) us (l e node m).each n k;
        last = λ e node m. (l e node m).ends;
      }

  -- a first unit that is its whole token
  one_unit : (t : ℕ) (a : Bool) (class : Class) (g : TokenResult) → rule_of t ≡ rule class 0 →
      ((e : Escape) (node : ℤ) (m : M) → done h e node m (unit_effect (completes node (single_of class t)) empty_store) ≡ after h e node m g) → Token h (stream_unit t a ∷ []) g
  one_unit t a class g q k = whole (stream_unit t a ∷ []) g (λ e node m. subst (Leads h e node m (between h e node m) (stream_unit t a ∷ [])) (k e node m) (single h e node m empty_store t a class q))

  -- a number after its first unit
  number-token : (t : ℕ) (a : Bool) (class : Class) (w : ℕ) (us : List StreamUnit) (g : TokenResult) → rule_of t ≡ rule class (suc w) → is_string class ≡ false → w ≤ 3 → Further (suc w) us →
      ((e : Escape) (node : ℤ) (m : M) → done h e node m (unit_effect (number_of node class (big (values us))) empty_store) ≡ after h e node m g) → Token h (stream_unit t a ∷ us) g
  unfolding token_of
  number-token t a class w us g q n l f k =
      whole (stream_unit t a ∷ us) g
      (λ e node m.
      let first : Leads h e node m (between h e node m) (stream_unit t a ∷ []) (stands h e node m (Number class (suc w) 0) empty_store) = rw n at (begins h e node m empty_store t a w class q) in
      leads-on h e node m first (subst (Leads h e node m (stands h e node m (Number class (suc w) 0) empty_store) us) (k e node m) (number-leads h e node m class empty_store w us f l)))

  -- a string whose first unit tells its length
  string-token : (t k : ℕ) (a : Bool) (us : List StreamUnit) → rule_of t ≡ rule String (suc k) → suc k ≤ 256 → Further (suc k) us → Token h (stream_unit t a ∷ us) (string_of (values us))
  unfolding token_of is_string
  string-token t k a us q l f =
      whole (stream_unit t a ∷ us) (string_of (values us)) (λ e node m. leads-on h e node m (begins h e node m empty_store t a k String q) (string-leads h e node m k us f l))

  -- one whose length stands in a unit after d1
  length-token : (n : ℕ) (a b : Bool) (us : List StreamUnit) → n < 256 → Further (n + 1) us → Token h (stream_unit 0xd1 a ∷ stream_unit n b ∷ us) (string_of (values us))
  unfolding token_of is_string rule_of rule_in number_of number_in number_from
  length-token n a b us l f =
      let one : Further 1 (stream_unit n b ∷ []) = record { number = refl; bytes = byte_then l no_bytes } in
      let long : (0 * 256 + n) % 0x100 + 1 ≡ suc n = omega arith in
      let next : n + 1 ≡ suc n = omega arith in
      let f' : Further (suc n) us = rw next at f in
      whole (stream_unit 0xd1 a ∷ stream_unit n b ∷ us) (string_of (values us))
      (λ e node m.
      let Of : ℕ → Fed M = λ k. stands h e node m (InString k k) empty_store in
      let length-read : Leads h e node m (stands h e node m (Number Length 1 0) empty_store) (stream_unit n b ∷ []) (Of (suc n)) =
      subst (λ (k : ℕ). Leads h e node m (stands h e node m (Number Length 1 0) empty_store) (stream_unit n b ∷ []) (Of k)) long (number-leads h e node m Length empty_store 0 (stream_unit n b ∷ []) one (omega arith)) in
      leads-on h e node m (begins h e node m empty_store 0xd1 a 0 Length refl) (leads-on h e node m length-read (string-leads h e node m n us f' (omega arith))))

  -- df and its count
  count-leads : (e : Escape) (node : ℤ) (m : M) (a : Bool) (c : List StreamUnit) → Further 2 c →
      Leads h e node m (between h e node m) (stream_unit 0xdf a ∷ c) (done h e node m (unit_effect (count_of node (big (values c))) empty_store))
  unfolding token_of is_string rule_of rule_in number_of
  count-leads e node m a c f =
      let low : big (values c) % 0x10000 ≡ big (values c) = omega (arith, big-small 2 c f) in
      leads-on h e node m (begins h e node m empty_store 0xdf a 1 Count refl)
      (subst (λ (k : ℕ). Leads h e node m (stands h e node m (Number Count 2 0) empty_store) c (done h e node m (unit_effect (count_of node k) empty_store))) low
      (number-leads h e node m Count empty_store 1 c f (omega arith)))

  -- count 0 and the 32-bit count after it
  long-leads : (e : Escape) (node : ℤ) (m : M) (a : Bool) (z c : List StreamUnit) → Further 2 z → big (values z) ≡ 0 → Further 4 c →
      Leads h e node m (between h e node m) (stream_unit 0xdf a ∷ (z ++ c)) (done h e node m (unit_effect (long_count_of node (big (values c))) empty_store))
  unfolding count_of number_of
  long-leads e node m a z c f none k =
      let short : Leads h e node m (between h e node m) (stream_unit 0xdf a ∷ z) (stands h e node m (Number LongCount 4 0) empty_store) =
      rw (eq-eqb (big (values z)) 0 none) at (count-leads e node m a z f) in
      leads-on h e node m short (number-leads h e node m LongCount empty_store 3 c k (omega arith))

  -- a count in force that is not 0 wants as many units
  force-leads : (e : Escape) (node : ℤ) (m : M) (a : Bool) (c : List StreamUnit) (n : ℕ) → InForce c n → 1 ≤ n →
      Leads h e node m (between h e node m) (stream_unit 0xdf a ∷ c) (stands h e node m (InBody 0 n n) empty_store)
  unfolding count_of long_count_of
  force-leads e node m a c n (short d f some) l = rw (ne_eqb n 0 (λ z. omega arith)) at (count-leads e node m a c f)
  force-leads e node m a c n (long z d f none k) l = rw (ne_eqb n 0 (λ z. omega arith)) at (long-leads e node m a z d f none k)

  body-token : (a : Bool) (c us : List StreamUnit) (n : ℕ) → InForce c n → 1 ≤ n → Further n us →
      Token h (stream_unit 0xdf a ∷ (c ++ us)) (if (leb n body_limit) (event (body (appended us))) (event (refused BodyLong)))
  body-token a c us n force some k =
      whole (stream_unit 0xdf a ∷ (c ++ us)) (if (leb n body_limit) (event (body (appended us))) (event (refused BodyLong)))
      (λ e node m. leads-on h e node m (force-leads e node m a c n force some) (body-leads h e node m n us k some))

  zero-token : (a : Bool) (c : List StreamUnit) (n : ℕ) → InForce c n → n ≡ 0 → Token h (stream_unit 0xdf a ∷ c) (event (refused BodyEmpty))
  unfolding long_count_of event_of
  zero-token a c n (short d f some) z = absurd (omega arith)
  zero-token a c n (long y d f none k) z =
      whole (stream_unit 0xdf a ∷ c) (event (refused BodyEmpty)) (λ e node m. rw (eq-eqb (big (values d)) 0 z) at (long-leads e node m a y d f none k))

  -- a string from a row of first units
  row-token : (t low : ℕ) (a : Bool) (us : List StreamUnit) → rule_of t ≡ rule String (t - low + 1) → t - low + 1 ≤ 256 → Further (t - low + 1) us → Token h (stream_unit t a ∷ us) (string_of (values us))
  row-token t low a us q l f =
      let next : t - low + 1 ≡ suc (t - low) = omega arith in
      string-token t (t - low) a us (rw next at q) (rw next at l) (rw next at f)

  -- 01's table, row by row
  pub row : (us : List StreamUnit) (g : TokenResult) → InTable us g → Token h us g
  unfolding rule_of rule_in single_of is_string number_of event_of
  row us g (integer_t t a r) = one_unit t a Integer (event (value (integer (pos t)))) (rule-small t r) (λ e node m. refl)
  row us g (string_80 t a vs r f) = row-token t 0x80 a vs (rule-80 t r) (omega (arith, r.1)) f
  row us g (string_c0 t a vs r f) = row-token t 0xc0 a vs (rule-c0 t r) (omega (arith, r.1)) f
  row us g (string_d0 a) = one_unit 0xd0 a String (event (value (string []))) refl (λ e node m. refl)
  row us g (string_d1 n a b vs l f) = length-token n a b vs l f
  row us g (integer_16 a vs f) =
      let low : big (values vs) % 0x10000 ≡ big (values vs) = omega (arith, big-small 2 vs f) in
      number-token 0xd3 a Int16 1 vs (event (value (integer (signed 15 (big (values vs)))))) refl refl (omega arith) f (λ e node m. rw low)
  row us g (integer_32 a vs f) = number-token 0xd4 a Int32 3 vs (event (value (integer (signed 31 (big (values vs)))))) refl refl (omega arith) f (λ e node m. refl)
  row us g (float_bits t a vs r f) = number-token t a Float 3 vs (event (value (float (big (values vs))))) (rule-float t r) refl (omega arith) f (λ e node m. refl)
  row us g (new_node_d7 a vs f) = number-token 0xd7 a Node 3 vs (new_node (signed 31 (big (values vs)))) refl refl (omega arith) f (λ e n m. refl)
  row us g (skips_two a vs f) = number-token 0xd2 a NoEvent 1 vs nothing refl refl (omega arith) f (λ e node m. refl)
  row us g (skips_one a vs f) = number-token 0xd9 a NoEvent 0 vs nothing refl refl (omega arith) f (λ e node m. refl)
  row us g (end_unit a) = one_unit 0xde a End (event end) refl (λ e node m. refl)
  row us g (bodies a c vs n force some most k) = rw (le-leb n body_limit most) at (body-token a c vs n force some k)
  row us g (count_over a c vs n force over k) = rw (lt-leb n body_limit over) at (body-token a c vs n force (omega arith) k)
  row us g (counts_zero a c force) = zero-token a c 0 force refl
  row us g (no_event t a r) = one_unit t a NoEvent nothing (rule-rest t r) (λ e node m. refl)

-- Every stream of units is cut into tokens of 01's table, and hands on what these give.
use Prim.Native.Nat.{ℕ, zero, suc, ◌+◌, ◌-◌, ◌≤◌, ◌<◌}
use mathlib.Core.Bool.{Bool, true, false}
use mathlib.Core.Path.{◌≡◌, refl, sym, ◌∙◌, ap, subst}
use mathlib.Core.List.{List, [], ◌∷◌, ◌++◌, append_assoc, append-nil}
use mathlib.Core.Logic.{◌⊎◌, inl, inr}
use native.Mathlib.Omega.{arith}
use lib.Dec.{ltb, leb, eqb}
use lib.IntN.{ℤ, pos}
use lib.Signed.{lt_z}
use lib.ListN.{length, take, drop, replicate, length-append, length-drop, length-replicate, take-append-drop}
use lib.Seq.{length-take-le, take-append_seam}
use borrow.Author.Tests.{leb-true, leb-false, eqb-true, eqb-false}
use Rattle.wing_node.proofs.Branches.{branch}
use Rattle.wing_node.specs.Digits.{number_from, number_in}
use Rattle.wing_node.specs.Field.{big}
use Rattle.wing_node.specs.Signed.{signed}
use Rattle.wing_node.specs.Value.{integer, float, string}
use Rattle.wing_wire.specs.State.{body_limit}
use Rattle.wing_wire.specs.Escape.{decode_of, escaped_of, plain_of, other_of}
use Rattle.wing_wire.specs.Stream.{Fed}
use Rattle.wing_wire.specs.Reader.{Event, value, body, end, refused, event_of}
use Rattle.wing_wire.specs.Range.{AreBytes, no_bytes, byte_then, PendingByte, no_pending, pending_byte}
use Rattle.wing_wire.specs.Units.{StreamUnit, stream_unit, pending_units, byte_units, settled, units_of}
use Rattle.wing_wire.specs.Tokens.{values, appended, Further, TokenResult, event, nothing, new_node, string_of, InForce, short, long, InTable, integer_t, string_80, string_c0, string_d0, string_d1, integer_16, integer_32, float_bits, new_node_d7, skips_two, skips_one, end_unit, bodies, count_over, counts_zero, no_event, Cut, token, waits, CutOf, node_after, through, between, after, Holds, handed_on, Read, Tokens, UnitsAreBytes}
use Rattle.wing_wire.specs.declared.state.Escape.{Escape}
use Rattle.wing_wire.specs.declared.escape.Decoded.{Decoded}
use Rattle.wing_wire.proofs.Reading.ByUnits.{taken-append, feed-units}
use Rattle.wing_wire.proofs.Reading.WholeTokens.{row}
use Rattle.wing_node.specs.declared.refusal.Refusal.TheVariants.{BodyEmpty, BodyLong}
use Rattle.std.specs.Prelude.{Option, ℕ, None, Some}

-- ---- units that are bytes

values-take : (n : ℕ) (us : List StreamUnit) → AreBytes (values us) → AreBytes (values (take n us))
values-take zero us b = no_bytes
values-take (suc n) [] b = no_bytes
values-take (suc n) (g ∷ us) (byte_then l b) = byte_then l (values-take n us b)

values-drop : (n : ℕ) (us : List StreamUnit) → AreBytes (values us) → AreBytes (values (drop n us))
values-drop zero us b = b
values-drop (suc n) [] b = no_bytes
values-drop (suc n) (g ∷ us) (byte_then l b) = values-drop n us b

values-append : (us vs : List StreamUnit) → AreBytes (values us) → AreBytes (values vs) → AreBytes (values (us ++ vs))
values-append [] vs no_bytes c = c
values-append (g ∷ us) vs (byte_then l b) c = byte_then l (values-append us vs b c)

-- a unit that is yet to come
abbrev zero-unit : StreamUnit
zero-unit = stream_unit 0 true

-- a unit of a count that is not 0
abbrev one_unit : StreamUnit
one_unit = stream_unit 1 true

values-zeros : (n : ℕ) → AreBytes (values (replicate n zero-unit))
values-zeros zero = no_bytes
values-zeros (suc n) = let z : 0 < 256 = omega arith in byte_then z (values-zeros n)

-- ---- the first token of a stream

-- units p begin tokens that want n units more
record Wants (p : List StreamUnit) : Type 0 where
  pub number : ℕ
  pub result : List StreamUnit → TokenResult
  pub token : (us : List StreamUnit) → Further number us → InTable (p ++ us) (result us)

-- a token, and the units after it
record First (us : List StreamUnit) : Type 0 where
  pub units : List StreamUnit
  pub after : List StreamUnit
  pub result : TokenResult
  pub token : InTable units result
  pub all : us ≡ units ++ after
  pub fewer : length after < length us
  pub bytes : AreBytes (values after)

-- units that are not yet a token
record Part (us : List StreamUnit) : Type 0 where
  pub next : StreamUnit
  pub more : List StreamUnit
  pub result : TokenResult
  pub token : InTable (us ++ (next ∷ more)) result

-- where all the units wanted have come there is a token; else they are a part of one
begun : (p us : List StreamUnit) → 1 ≤ length p → AreBytes (values us) → Wants p → Part (p ++ us) ⊎ First (p ++ us)
begun p us some b w = go (leb w.number (length us)) refl
  where
    n : ℕ
    n = w.number

    go : (q : Bool) → leb n (length us) ≡ q → Part (p ++ us) ⊎ First (p ++ us)
    go true q =
        let l : n ≤ length us = leb-true n (length us) q in
        inr (record {
          units = p ++ take n us;
          after = drop n us;
          result = w.result (take n us);
          token = w.token (take n us) (record { number = length-take-le n us l; bytes = values-take n us b });
          all = ap (λ (l : List StreamUnit). p ++ l) (sym (take-append-drop n us)) ∙ sym (append_assoc p (take n us) (drop n us));
          fewer = omega (arith, length-drop n us, length-append p us);
          bytes = values-drop n us b;
        })
    go false q =
        let l : length us < n = leb-false n (length us) q in
        let k : ℕ = n - suc (length us) in
        let all : Further n (us ++ (zero-unit ∷ replicate k zero-unit)) =
        record {
          number = omega (arith, length-append us (zero-unit ∷ replicate k zero-unit), length-replicate k zero-unit);
          bytes = values-append us (zero-unit ∷ replicate k zero-unit) b (values-zeros (suc k));
        } in
        inl (record {
          next = zero-unit;
          more = replicate k zero-unit;
          result = w.result (us ++ (zero-unit ∷ replicate k zero-unit));
          token = rw (append_assoc p us (zero-unit ∷ replicate k zero-unit)) (w.token (us ++ (zero-unit ∷ replicate k zero-unit)) all);
        })

-- units that begin a token of which u has not come
unbegun : (p : List StreamUnit) (u : StreamUnit) (us : List StreamUnit) → Wants (p ++ (u ∷ us)) → Part p
unbegun p u us w =
    let zs = replicate w.number zero-unit in
    record {
      next = u;
      more = us ++ zs;
      result = w.result zs;
      token = rw (append_assoc p (u ∷ us) zs) at (w.token zs (record { number = length-replicate w.number zero-unit; bytes = values-zeros w.number }));
    }

-- ---- the rows by their first units

-- up to b or over it
upto : {A : Type 0} (t b : ℕ) → (t ≤ b → A) → (b < t → A) → A
upto {A} t b f g = go (leb t b) refl
  where
    go : (q : Bool) → leb t b ≡ q → A
    go true q = f (leb-true t b q)
    go false q = g (leb-false t b q)

-- no further unit
nil : (us : List StreamUnit) → Further 0 us → us ≡ []
nil [] f = refl
nil (g ∷ us) f = absurd (omega (arith, f.number))

wants-none : (t : ℕ) (a : Bool) (g : TokenResult) → InTable (stream_unit t a ∷ []) g → Wants (stream_unit t a ∷ [])
wants-none t a g r = record { number = 0; result = λ us. g; token = λ us f. subst (λ (l : List StreamUnit). InTable (stream_unit t a ∷ l) g) (sym (nil us f)) r }

-- d1 and its length
wants-d1 : (n : ℕ) (a b : Bool) → n < 256 → Wants (stream_unit 0xd1 a ∷ stream_unit n b ∷ [])
wants-d1 n a b l = record { number = n + 1; result = λ us. string_of (values us); token = λ us f. string_d1 n a b us l f }

-- df and its count in force
wants-df : (a : Bool) (c : List StreamUnit) (n : ℕ) → InForce c n → Wants (stream_unit 0xdf a ∷ c)
wants-df a c n force =
    upto n 0
    (λ l.
    let z : n ≡ 0 = omega arith in
    let r : InTable (stream_unit 0xdf a ∷ c) (event (refused BodyEmpty)) = counts_zero a c (subst (InForce c) z force) in
    record {
      number = 0;
      result = λ us. event (refused BodyEmpty);
      token = λ us k. subst (λ (l : List StreamUnit). InTable (stream_unit 0xdf a ∷ (c ++ l)) (event (refused BodyEmpty))) (sym (nil us k)) (rw (append-nil c) r);
    })
    (λ l.
    upto n body_limit (λ most. record { number = n; result = λ us. event (body (appended us)); token = λ us k. bodies a c us n force (omega arith) most k })
    (λ over. record { number = n; result = λ us. event (refused BodyLong); token = λ us k. count_over a c us n force over k }))

-- df and a 16-bit count that is not 0
wants-count : (a : Bool) (c d : StreamUnit) → c.unit < 256 → d.unit < 256 → 1 ≤ d.unit → Wants (stream_unit 0xdf a ∷ c ∷ d ∷ [])
unfolding number_in number_from
wants-count a c d k j some =
    wants-df a (c ∷ d ∷ []) (big (values (c ∷ d ∷ []))) (short (c ∷ d ∷ []) (record { number = refl; bytes = byte_then k (byte_then j no_bytes) }) (omega arith))

-- df, count 0 and what has come of the 32-bit count and of the units after it
after-zero : (a : Bool) (z us : List StreamUnit) → Further 2 z → big (values z) ≡ 0 → AreBytes (values us) → Part (stream_unit 0xdf a ∷ (z ++ us)) ⊎ First (stream_unit 0xdf a ∷ (z ++ us))
after-zero a z us f none b = upto 4 (length us) whole parted
  where
    whole : 4 ≤ length us → Part (stream_unit 0xdf a ∷ (z ++ us)) ⊎ First (stream_unit 0xdf a ∷ (z ++ us))
    whole l =
        let c = take 4 us in
        let all : (z ++ c) ++ drop 4 us ≡ z ++ us = append_assoc z c (drop 4 us) ∙ ap (λ (l : List StreamUnit). z ++ l) (take-append-drop 4 us) in
        subst (λ (l : List StreamUnit). Part (stream_unit 0xdf a ∷ l) ⊎ First (stream_unit 0xdf a ∷ l)) all
        (begun (stream_unit 0xdf a ∷ (z ++ c)) (drop 4 us) (omega arith) (values-drop 4 us b)
        (wants-df a (z ++ c) (big (values c)) (long z c f none (record { number = length-take-le 4 us l; bytes = values-take 4 us b }))))

    parted : length us < 4 → Part (stream_unit 0xdf a ∷ (z ++ us)) ⊎ First (stream_unit 0xdf a ∷ (z ++ us))
    parted l =
        let rest = replicate (3 - length us) zero-unit in
        let c = us ++ (zero-unit ∷ rest) in
        let k : Further 4 c =
        record {
          number = omega (arith, length-append us (zero-unit ∷ rest), length-replicate (3 - length us) zero-unit);
          bytes = values-append us (zero-unit ∷ rest) b (values-zeros (suc (3 - length us)));
        } in
        inl (unbegun (stream_unit 0xdf a ∷ (z ++ us)) zero-unit rest (rw (append_assoc z us (zero-unit ∷ rest)) (wants-df a (z ++ c) (big (values c)) (long z c f none k))))

-- df, a 16-bit count and what has come after it
after-count : (a : Bool) (c us : List StreamUnit) → Further 2 c → AreBytes (values us) → Part (stream_unit 0xdf a ∷ (c ++ us)) ⊎ First (stream_unit 0xdf a ∷ (c ++ us))
after-count a c us f b =
    upto (big (values c)) 0 (λ l. after-zero a c us f (omega arith) b) (λ l. begun (stream_unit 0xdf a ∷ c) us (omega arith) b (wants-df a c (big (values c)) (short c f (omega arith))))

module _ (t : ℕ) (a : Bool) where
  -- such a first unit at a given number
  same : {b : ℕ} → b < t → t ≤ suc b → Wants (stream_unit (suc b) a ∷ []) → Wants (stream_unit t a ∷ [])
  same {b} l k w = let z : suc b ≡ t = omega arith in subst (λ (n : ℕ). Wants (stream_unit n a ∷ [])) z w

  -- every first unit but d1 and df
  wants-first : t < 256 → (t ≡ 0xd1 → ⊥) → (t ≡ 0xdf → ⊥) → Wants (stream_unit t a ∷ [])
  wants-first byte not-d1 not-df =
      upto t 0x3f (λ k. wants-none t a (event (value (integer (pos t)))) (integer_t t a (omega arith, k)))
      (λ l. upto t 0x7f (λ k. wants-none t a nothing (no_event t a (inl (l, k))))
      (λ l. upto t 0xbf (λ k. record { number = t - 0x80 + 1; result = λ us. string_of (values us); token = λ us f. string_80 t a us (l, k) f })
      (λ l. upto t 0xcf (λ k. record { number = t - 0xc0 + 1; result = λ us. string_of (values us); token = λ us f. string_c0 t a us (l, k) f })
      (λ l. upto t 0xd0 (λ k. same l k (wants-none 0xd0 a (event (value (string []))) (string_d0 a)))
      (λ l. upto t 0xd1 (λ k. absurd (not-d1 (omega arith)))
      (λ l. upto t 0xd2 (λ k. same l k (record { number = 2; result = λ us. nothing; token = λ us f. skips_two a us f }))
      (λ l. upto t 0xd3 (λ k. same l k (record { number = 2; result = λ us. event (value (integer (signed 15 (big (values us))))); token = λ us f. integer_16 a us f }))
      (λ l. upto t 0xd4 (λ k. same l k (record { number = 4; result = λ us. event (value (integer (signed 31 (big (values us))))); token = λ us f. integer_32 a us f }))
      (λ l. upto t 0xd6 (λ k. record { number = 4; result = λ us. event (value (float (big (values us)))); token = λ us f. float_bits t a us (l, k) f })
      (λ l. upto t 0xd7 (λ k. same l k (record { number = 4; result = λ us. new_node (signed 31 (big (values us))); token = λ us f. new_node_d7 a us f }))
      (λ l. upto t 0xd8 (λ k. wants-none t a nothing (no_event t a (inr (inl (l, k)))))
      (λ l. upto t 0xd9 (λ k. same l k (record { number = 1; result = λ us. nothing; token = λ us f. skips_one a us f }))
      (λ l. upto t 0xdd (λ k. wants-none t a nothing (no_event t a (inr (inr (inl (l, k))))))
      (λ l. upto t 0xde (λ k. same l k (wants-none 0xde a (event end) (end_unit a)))
      (λ l. upto t 0xdf (λ k. absurd (not-df (omega arith)))
      (λ l. wants-none t a nothing (no_event t a (inr (inr (inr (l, omega arith)))))))))))))))))))))

-- the units of a stream that is not empty
first : (g : StreamUnit) (us : List StreamUnit) → g.unit < 256 → AreBytes (values us) → Part (g ∷ us) ⊎ First (g ∷ us)
first g us l b = by (eqb g.unit 0xd1) (eqb g.unit 0xdf) refl refl
  where
    t : ℕ
    t = g.unit

    a : Bool
    a = g.appended

    text : (us : List StreamUnit) → AreBytes (values us) → Part (stream_unit 0xd1 a ∷ us) ⊎ First (stream_unit 0xd1 a ∷ us)
    text [] no_bytes = inl (unbegun (stream_unit 0xd1 a ∷ []) zero-unit [] (wants-d1 0 a true (omega arith)))
    text (n ∷ us) (byte_then k c) = begun (stream_unit 0xd1 a ∷ n ∷ []) us (omega arith) c (wants-d1 n.unit a n.appended k)

    count : (us : List StreamUnit) → AreBytes (values us) → Part (stream_unit 0xdf a ∷ us) ⊎ First (stream_unit 0xdf a ∷ us)
    count [] no_bytes = inl (unbegun (stream_unit 0xdf a ∷ []) zero-unit (one_unit ∷ []) (wants-count a zero-unit one_unit (omega arith) (omega arith) (omega arith)))
    count (c ∷ []) (byte_then k no_bytes) = inl (unbegun (stream_unit 0xdf a ∷ c ∷ []) one_unit [] (wants-count a c one_unit k (omega arith) (omega arith)))
    count (c ∷ d ∷ us) (byte_then k (byte_then j bs)) = after-count a (c ∷ d ∷ []) us (record { number = refl; bytes = byte_then k (byte_then j no_bytes) }) bs

    by : (p q : Bool) → eqb t 0xd1 ≡ p → eqb t 0xdf ≡ q → Part (stream_unit t a ∷ us) ⊎ First (stream_unit t a ∷ us)
    by true q e f = let z : 0xd1 ≡ t = sym (eqb-true t 0xd1 e) in subst (λ (n : ℕ). Part (stream_unit n a ∷ us) ⊎ First (stream_unit n a ∷ us)) z (text us b)
    by false true e f = let z : 0xdf ≡ t = sym (eqb-true t 0xdf f) in subst (λ (n : ℕ). Part (stream_unit n a ∷ us) ⊎ First (stream_unit n a ∷ us)) z (count us b)
    by false false e f = begun (stream_unit t a ∷ []) us (omega arith) b (wants-first t a l (eqb-false t 0xd1 e) (eqb-false t 0xdf f))

-- ---- the whole stream

-- the first token, and the cut of what comes after it
cut_on : (us : List StreamUnit) → AreBytes (values us) → ((vs : List StreamUnit) → length vs < length us → AreBytes (values vs) → CutOf vs) → CutOf us
cut_on [] b rest = record { results = []; cut = waits [] [] zero-unit (event (value (integer (pos 0)))) (integer_t 0 true (omega arith, omega arith)) }
cut_on (g ∷ us) (byte_then k b) rest = go (first g us k b)
  where
    go : Part (g ∷ us) ⊎ First (g ∷ us) → CutOf (g ∷ us)
    go (inl p) = record { results = []; cut = waits (g ∷ us) p.more p.next p.result p.token }
    go (inr f) =
        let r = rest f.after f.fewer f.bytes in
        subst CutOf (sym f.all) (record { results = f.result ∷ r.results; cut = token f.units f.after f.result r.results f.token r.cut })

cut_at : (n : ℕ) (us : List StreamUnit) → length us ≤ n → AreBytes (values us) → CutOf us
cut_at zero us l b = cut_on us b (λ vs few c. absurd (omega arith))
cut_at (suc n) us l b = cut_on us b (λ vs few c. cut_at n vs (omega arith) c)

-- what the units are cut into is handed on
module _ {M : Type 0} (h : ℤ → Event → M → M) where
  stream : (us : List StreamUnit) (gs : List TokenResult) → Cut us gs → (e : Escape) (node : ℤ) (m : M) →
      Holds h e (node_after node gs) (handed_on h node m gs) (through h (between h e node m) us)
  stream us gs (waits vs more u g r) e node m =
      subst (λ (l : List StreamUnit). Holds h e node m (through h (between h e node m) l)) (take-append_seam vs (u ∷ more))
      ((row h (vs ++ (u ∷ more)) g r).before e node m (length vs) (omega (arith, length-append vs (u ∷ more))))
  stream us gs (token vs more g rest r c) e node m =
      subst (Holds h e (node_after node (g ∷ rest)) (handed_on h node m (g ∷ rest))) (sym whole) (on g (λ n k. stream more rest c e n k))
    where
      whole : through h (between h e node m) (vs ++ more) ≡ through h (after h e node m g) more
      whole = taken-append (λ node a s m. h node (event_of a s s) m) (between h e node m) vs more ∙ ap (λ (x : Fed M). through h x more) ((row h vs g r).last e node m)

      on : (g : TokenResult) → ((n : ℤ) (k : M) → Holds h e (node_after n rest) (handed_on h n k rest) (through h (between h e n k) more)) →
          Holds h e (node_after node (g ∷ rest)) (handed_on h node m (g ∷ rest)) (through h (after h e node m g) more)
      on (event x) ih = ih node (h node x m)
      on nothing ih = ih node m
      on (new_node id) ih = ih id m

-- ---- the units of bytes

-- what a byte leaves and gives is bytes
record DecodedBytes (d : Decoded) : Type 0 where
  pub pending : PendingByte d.escape.pending
  pub units : AreBytes (values (byte_units d.unit))

module _ (e : Escape) (b : ℕ) (l : b < 256) (p : PendingByte e.pending) where
  a_byte : {u : ℕ} → u < 256 → AreBytes (u ∷ [])
  a_byte k = byte_then k no_bytes

  other-bytes : DecodedBytes (other_of e b)
  unfolding other_of
  other-bytes = branch DecodedBytes (lt_z e.channel (pos 0)) _ _ (λ _. record { pending = p; units = a_byte l }) (λ _. record { pending = pending_byte l; units = a_byte (omega arith) })

  decode-bytes : DecodedBytes (decode_of e b)
  unfolding decode_of escaped_of plain_of
  decode-bytes =
      branch DecodedBytes e.escaped _ _
      (λ _. branch DecodedBytes (eqb b 0xdf) _ _ (λ _. record { pending = p; units = a_byte (omega arith) })
      (λ _. branch DecodedBytes (eqb b 0xde) _ _ (λ _. record { pending = p; units = a_byte (omega arith) })
      (λ _. branch DecodedBytes (ltb b 0xd0) _ _ (λ _. other-bytes)
      (λ _. branch DecodedBytes (ltb b 0xde) _ _ (λ _. record { pending = p; units = no_bytes }) (λ _. other-bytes)))))
      (λ _. branch DecodedBytes (eqb b 0xdf) _ _ (λ _. record { pending = p; units = no_bytes }) (λ _. record { pending = p; units = a_byte l }))

pending-bytes : (p : Option ℕ) → PendingByte p → AreBytes (values (pending_units p))
pending-bytes None no_pending = no_bytes
pending-bytes (Some u) (pending_byte l) = byte_then l no_bytes

pub units-are-bytes : UnitsAreBytes
unfolding units_of
units-are-bytes e [] p b = pending-bytes e.pending p
units-are-bytes e (x ∷ bytes) p (byte_then l b) =
    let d = decode-bytes (settled e) x l no_pending in
    let u = decode_of (settled e) x in
    let rest = (units_of u.escape bytes).units in
    values-append (pending_units e.pending) (byte_units u.unit ++ rest) (pending-bytes e.pending p)
    (values-append (byte_units u.unit) rest d.units (units-are-bytes u.escape bytes d.pending b))

-- ---- what is said of tokens

module _ {M : Type 0} (h : ℤ → Event → M → M) where
  cut : (us : List StreamUnit) → AreBytes (values us) → CutOf us
  cut us b = cut_at (length us) us (omega arith) b

  feed : (e : Escape) (node : ℤ) (m : M) (bytes : List ℕ) → PendingByte e.pending → AreBytes bytes → Read h e node m bytes
  feed e node m bytes p b =
      let us = (units_of e bytes).units in
      let c = cut us (units-are-bytes e bytes p b) in
      let s = stream h us c.results c.cut e node m in
      let f = feed-units (λ node a s m. h node (event_of a s s) m) (between h e node m) bytes in
      record { results = c.results; cut = c.cut; fed = rw f (record { memo = s.memo; node = s.node; escape = refl }) }

  -- 01's table of tokens, every stream of units and every feed
  pub tokens : Tokens h
  tokens = record { row = row h; cut = cut; stream = stream h; feed = feed }

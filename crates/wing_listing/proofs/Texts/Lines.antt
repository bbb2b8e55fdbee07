-- A line by the place of its first comma: in form or not, its kind letter and where its value begins.
use Prim.Native.Nat.{ℕ, suc, ◌+◌, ◌≤◌, ◌<◌}
use mathlib.Core.Bool.{Bool, true, false, not}
use mathlib.Core.Path.{◌≡◌, refl, sym, ap, ◌∙◌}
use mathlib.Core.Logic.{⊎_elim}
use mathlib.Core.List.{List, [], ◌∷◌, ◌++◌}
use native.Mathlib.Omega.{arith}
use borrow.Author.Tests.{ltb-true, ltb-false, eqb-true, eqb-false, eq-eqb, ne_eqb}
use lib.Dec.{ltb, eqb}
use lib.ListN.{length, get_or, drop, length-drop}
use Rattle.wing_node.specs.Bool.{if, and}
use Rattle.wing_node.specs.Decimal.{integer_of}
use Rattle.wing_node.proofs.Branches.{if-both, and_left, and_right}
use Rattle.wing_mirror.specs.Table.{every}
use Rattle.wing_listing.specs.Parts.{comma, parted, part}
use Rattle.wing_listing.specs.Integers.{is_digit, first, is_natural, is_signed, fits32, is_integer}
use Rattle.wing_listing.specs.Hex.{is_hex, are_pairs}
use Rattle.wing_listing.specs.Listing.{letter_i, letter_f, letter_s}
use Rattle.wing_listing.specs.Reading.{is_value, is_line}
use Rattle.wing_listing.specs.Steps.{value_at}
use Rattle.wing_listing.proofs.Texts.Drops.{drop-next, every-also}
use Rattle.wing_listing.proofs.Texts.Numbers.{by-test, and-false, digit-range, natural-parts}
use Rattle.wing_listing.proofs.Texts.Hexes.{hex-range, pairs-hex}
use Rattle.wing_listing.proofs.Texts.Parts.{plain, front-hit, front-on, parted-some, parted-hit, parted-whole, parted-plain, parted-ended, front-text}

-- ---- a value has no comma and no newline in it, which are below the minus sign

module _ (b : ℕ) (low : b < 0x2d) where
  other : (a : ℕ) → 0x2d ≤ a → not (eqb a b) ≡ true
  other a h = rw (ne_eqb a b (λ e. omega arith))

  natural-plain : (s : List ℕ) → is_natural s ≡ true → plain b s ≡ true
  natural-plain s e = every-also is_digit (λ a. not (eqb a b)) s (λ a d. other a (omega (arith, (digit-range a d).0))) (natural-parts s e).1

  minus-plain : (s : List ℕ) → first s ≡ 0x2d → is_natural (drop 1 s) ≡ true → plain b s ≡ true
  unfolding every
  minus-plain [] h e = refl
  minus-plain (a ∷ s) h e = rw (other a (omega arith)) (natural-plain s e)

  pub integer-plain : (s : List ℕ) → is_integer s ≡ true → plain b s ≡ true
  unfolding is_integer is_signed
  integer-plain s e =
      let o = and_left (is_signed s) (fits32 (integer_of s)) e in
      by-test (eqb (first s) 0x2d)
      (λ t. minus-plain s (eqb-true (first s) 0x2d t) (and_right (not (eqb (first (drop 1 s)) 0x30)) (is_natural (drop 1 s)) (rw t at o)))
      (λ t. natural-plain s (rw t at o))

  pub pairs-plain : (s : List ℕ) → are_pairs s ≡ true → plain b s ≡ true
  pairs-plain s e =
      every-also is_hex (λ a. not (eqb a b)) s
      (λ a d. other a (⊎_elim (λ r. omega (arith, r.0)) (λ r. omega (arith, r.0)) (hex-range a d))) (pairs-hex s e).0

  pub value-plain : (k : ℕ) (s : List ℕ) → is_value k s ≡ true → plain b s ≡ true
  unfolding is_value
  value-plain k s e =
      by-test (eqb k letter_i)
      (λ t. integer-plain s (rw t at e))
      (λ t. by-test (eqb k letter_f)
      (λ u. pairs-plain s (and_right (eqb (length s) 8) (are_pairs s) (rw (t, u) at e)))
      (λ u. pairs-plain s (if-both (eqb k letter_s) (are_pairs s) (rw (t, u) at e)).1))

pub true-false : true ≡ false → ⊥
true-false e = let z : ◌≡◌ {A = ℕ} 1 0 = ap (λ (t : Bool). if t 1 0) e in omega arith

-- a comma is no kind letter
comma-kind : (k : ℕ) (s : List ℕ) → k ≡ comma → is_value k s ≡ false
unfolding is_value
comma-kind k s e = rw (ne_eqb k letter_i (λ h. omega arith), ne_eqb k letter_f (λ h. omega arith), ne_eqb k letter_s (λ h. omega arith))

-- ---- what is after the first comma: one byte, a comma and a value

abbrev is_tail : List ℕ → Bool
is_tail r = and (eqb (length (parted comma r)) 2) (and (eqb (length (part comma 0 r)) 1) (is_value (first (part comma 0 r)) (part comma 1 r)))

not-one : (r : List ℕ) → (length (part comma 0 r) ≡ 1 → ⊥) → is_tail r ≡ false
not-one r h = rw (ne_eqb (length (part comma 0 r)) 1 h) (and-false (eqb (length (parted comma r)) 2))

not-two : (r : List ℕ) → (length (parted comma r) ≡ 2 → ⊥) → is_tail r ≡ false
not-two r h = rw (ne_eqb (length (parted comma r)) 2 h)

tail-nil : is_tail [] ≡ false
unfolding parted
tail-nil = refl

tail-one : (k : ℕ) → is_tail (k ∷ []) ≡ false
tail-one k =
    by-test (eqb k comma)
    (λ t. not-one (k ∷ []) (λ l. omega (arith, l, ap length (front-hit comma k [] (eqb-true k comma t)))))
    (λ t. not-two (k ∷ []) (λ l. omega (arith, l, ap length (parted-plain comma (k ∷ []) (unfold every in (rw t))))))

tail-off : (k c : ℕ) (v : List ℕ) → (c ≡ comma → ⊥) → is_tail (k ∷ c ∷ v) ≡ false
tail-off k c v h =
    by-test (eqb k comma)
    (λ t. not-one (k ∷ c ∷ v) (λ l. omega (arith, l, ap length (front-hit comma k (c ∷ v) (eqb-true k comma t)))))
    (λ t. not-one (k ∷ c ∷ v) (λ l. omega (arith, l, ap length (front-on comma k (c ∷ v) (eqb-false k comma t)), ap length (front-on comma c v h))))

tail-short : (r : List ℕ) → length r ≤ 1 → is_tail r ≡ false
tail-short [] h = tail-nil
tail-short (k ∷ []) h = tail-one k
tail-short (k ∷ c ∷ v) h = absurd (omega arith)

-- the parts of one byte, a comma and more
pub tail-parts : (k : ℕ) (v : List ℕ) → (k ≡ comma → ⊥) → parted comma (k ∷ comma ∷ v) ≡ (k ∷ []) ∷ parted comma v
tail-parts k v h = parted-ended comma (k ∷ []) v (unfold every in (rw (ne_eqb k comma h)))

many : (v : List ℕ) → length (part comma 0 v) < length v → length (parted comma v) ≡ 1 → ⊥
many v h l =
    let r = drop (length (part comma 0 v) + 1) v in
    omega (arith, l, ap length (parted-hit comma v h), ap length (parted-some comma r))

tail-value : (k : ℕ) (v : List ℕ) → is_tail (k ∷ comma ∷ v) ≡ is_value k v
tail-value k v =
    by-test (eqb k comma)
    (λ t.
    let e = eqb-true k comma t in
    not-one (k ∷ comma ∷ v) (λ l. omega (arith, l, ap length (front-hit comma k (comma ∷ v) e))) ∙ sym (comma-kind k v e))
    (λ t.
    let p = tail-parts k v (eqb-false k comma t) in
    by-test (ltb (length (part comma 0 v)) (length v))
    (λ u.
    let h = ltb-true (length (part comma 0 v)) (length v) u in
    not-two (k ∷ comma ∷ v) (λ l. many v h (omega (arith, l, ap length p))) ∙
    by-test (is_value k v) (λ w. absurd (many v h (ap length (parted-plain comma v (value-plain comma (omega arith) k v w))))) sym)
    (λ u.
    let w = parted-whole comma v (ltb-false (length (part comma 0 v)) (length v) u) in
    ap tested (p ∙ ap (λ (ps : List (List ℕ)). (k ∷ []) ∷ ps) w)))
  where
    tested : List (List ℕ) → Bool
    tested ps = and (eqb (length ps) 2) (and (eqb (length (get_or ps 0 [])) 1) (is_value (first (get_or ps 0 [])) (get_or ps 1 [])))

-- ---- a line

one_less : (n : ℕ) → eqb (suc n) 3 ≡ eqb n 2
one_less n = by-test (eqb n 2) (λ t. rw (t, eq-eqb (suc n) 3 (omega (arith, eqb-true n 2 t)))) (λ t. rw (t, ne_eqb (suc n) 3 (λ e. eqb-false n 2 t (omega arith))))

module _ (s : List ℕ) where
  pub line-id : is_integer (part comma 0 s) ≡ false → is_line s ≡ false
  unfolding is_line
  line-id e = rw e (and-false (eqb (length (parted comma s)) 3))

  line-none : length s ≤ length (part comma 0 s) → is_line s ≡ false
  unfolding is_line
  line-none h = rw (ne_eqb (length (parted comma s)) 3 (λ l. omega (arith, l, ap length (parted-whole comma s h))))

  module _ (h : length (part comma 0 s) < length s) where
    abbrev rest : List ℕ
    rest = drop (length (part comma 0 s) + 1) s

    line-tail : is_line s ≡ and (is_integer (part comma 0 s)) (is_tail rest)
    unfolding is_line
    line-tail =
        let p = parted-hit comma s h in
        ap (λ (ps : List (List ℕ)). and (eqb (length ps) 3) (and (is_integer (part comma 0 s)) (and (eqb (length (get_or ps 1 [])) 1) (is_value (first (get_or ps 1 [])) (get_or ps 2 []))))) p ∙ turned (is_integer (part comma 0 s))
      where
        turned : (t : Bool) → and (eqb (suc (length (parted comma rest))) 3) (and t (and (eqb (length (part comma 0 rest)) 1) (is_value (first (part comma 0 rest)) (part comma 1 rest)))) ≡ and t (is_tail rest)
        turned true = ap (λ t. and t (and (eqb (length (part comma 0 rest)) 1) (is_value (first (part comma 0 rest)) (part comma 1 rest)))) (one_less (length (parted comma rest)))
        turned false = and-false (eqb (suc (length (parted comma rest))) 3)

  -- by the byte after it, the second after it and what follows
  module _ (h : length (part comma 0 s) + 2 < length s) where
    abbrev a : ℕ
    a = length (part comma 0 s)

    after : drop (a + 1) s ≡ get_or s (a + 1) 0 ∷ get_or s (a + 2) 0 ∷ drop (a + 3) s
    after =
        let e : a + 1 + 1 ≡ a + 2 = omega arith in
        let f : a + 2 + 1 ≡ a + 3 = omega arith in
        drop-next s (a + 1) (omega arith) ∙ ap (λ j. get_or s (a + 1) 0 ∷ drop j s) e ∙ ap (λ (l : List ℕ). get_or s (a + 1) 0 ∷ l) (drop-next s (a + 2) (omega arith)) ∙ ap (λ j. get_or s (a + 1) 0 ∷ get_or s (a + 2) 0 ∷ drop j s) f

    pub line-off : (get_or s (a + 2) 0 ≡ comma → ⊥) → is_line s ≡ false
    line-off e =
        line-tail (omega arith) ∙ ap (λ (r : List ℕ). and (is_integer (part comma 0 s)) (is_tail r)) after ∙
        ap (and (is_integer (part comma 0 s))) (tail-off (get_or s (a + 1) 0) (get_or s (a + 2) 0) (drop (a + 3) s) e) ∙ and-false (is_integer (part comma 0 s))

    module _ (e : get_or s (a + 2) 0 ≡ comma) where
      pub parts : drop (a + 1) s ≡ get_or s (a + 1) 0 ∷ comma ∷ drop (a + 3) s
      parts = after ∙ ap (λ c. get_or s (a + 1) 0 ∷ c ∷ drop (a + 3) s) e

      pub line-value : is_integer (part comma 0 s) ≡ true → is_line s ≡ is_value (get_or s (a + 1) 0) (drop (a + 3) s)
      line-value i =
          line-tail (omega arith) ∙ ap (λ (r : List ℕ). and (is_integer (part comma 0 s)) (is_tail r)) parts ∙
          ap (λ t. and t (is_tail (get_or s (a + 1) 0 ∷ comma ∷ drop (a + 3) s))) i ∙ tail-value (get_or s (a + 1) 0) (drop (a + 3) s)

      -- a line in form has that kind letter and that value
      pub line-fields : is_value (get_or s (a + 1) 0) (drop (a + 3) s) ≡ true → (part comma 1 s ≡ get_or s (a + 1) 0 ∷ []) × (part comma 2 s ≡ drop (a + 3) s)
      line-fields v =
          let k = get_or s (a + 1) 0 in
          let r = drop (a + 3) s in
          let n : k ≡ comma → ⊥ = λ c. true-false (sym v ∙ comma-kind k r c) in
          let all = parted-hit comma s (omega arith) ∙ ap (λ (q : List ℕ). part comma 0 s ∷ parted comma q) parts ∙
          ap (λ (ps : List (List ℕ)). part comma 0 s ∷ ps) (tail-parts k r n ∙ ap (λ (ps : List (List ℕ)). (k ∷ []) ∷ ps) (parted-plain comma r (value-plain comma (omega arith) k r v))) in
          (ap (λ (ps : List (List ℕ)). get_or ps 1 []) all, ap (λ (ps : List (List ℕ)). get_or ps 2 []) all)

  pub line-short : length s ≤ length (part comma 0 s) + 2 → is_line s ≡ false
  line-short h =
      by-test (ltb (length (part comma 0 s)) (length s))
      (λ t.
      let k = ltb-true (length (part comma 0 s)) (length s) t in
      line-tail k ∙ ap (and (is_integer (part comma 0 s))) (tail-short (rest k) (omega (arith, length-drop (length (part comma 0 s) + 1) s))) ∙ and-false (is_integer (part comma 0 s)))
      (λ t. line-none (ltb-false (length (part comma 0 s)) (length s) t))

-- ---- a line in form

module _ (s : List ℕ) (e : is_line s ≡ true) where
  long : length (part comma 0 s) + 2 < length s
  long =
      by-test (ltb (length (part comma 0 s) + 2) (length s)) (ltb-true (length (part comma 0 s) + 2) (length s))
      (λ t. absurd (true-false (sym e ∙ line-short s (ltb-false (length (part comma 0 s) + 2) (length s) t))))

  mark : get_or s (length (part comma 0 s) + 2) 0 ≡ comma
  mark =
      let c = get_or s (length (part comma 0 s) + 2) 0 in
      by-test (eqb c comma) (eqb-true c comma) (λ t. absurd (true-false (sym e ∙ line-off s long (eqb-false c comma t))))

  -- its id is an integer in form
  pub formed-id : is_integer (part comma 0 s) ≡ true
  formed-id = by-test (is_integer (part comma 0 s)) (λ t. t) (λ t. absurd (true-false (sym e ∙ line-id s t)))

  formed-value : is_value (get_or s (length (part comma 0 s) + 1) 0) (drop (value_at s) s) ≡ true
  formed-value = sym (line-value s long mark formed-id) ∙ e

  -- its value is what stands from there on
  pub formed-fields : (part comma 1 s ≡ get_or s (length (part comma 0 s) + 1) 0 ∷ []) × (part comma 2 s ≡ drop (value_at s) s)
  formed-fields = line-fields s long mark formed-value

  pub formed-at : value_at s ≤ length s
  formed-at = omega (arith, long)

  pub formed-said : is_value (first (part comma 1 s)) (part comma 2 s) ≡ true
  formed-said =
      ap (λ (p : List ℕ). is_value (first p) (part comma 2 s)) formed-fields.0 ∙ ap (is_value (get_or s (length (part comma 0 s) + 1) 0)) formed-fields.1 ∙ formed-value

  -- and what stands after its first field
  pub formed-rest : s ≡ part comma 0 s ++ (comma ∷ get_or s (length (part comma 0 s) + 1) 0 ∷ comma ∷ drop (value_at s) s)
  formed-rest = front-text comma s (omega (arith, long)) ∙ ap (λ (r : List ℕ). part comma 0 s ++ (comma ∷ r)) (parts s long mark)

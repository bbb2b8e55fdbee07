-- `good` is the length of the longest prefix of the grammar, and the test `utf8` decides the grammar, of every list of numbers.
use Prim.Native.Nat.{ℕ, zero, suc, ◌+◌, ◌≤◌, ◌<◌}
use mathlib.Core.Bool.{Bool, true, false}
use mathlib.Core.Logic.{◌⊎◌, inl, inr}
use mathlib.Core.Path.{◌≡◌, refl, ap, sym, ◌∙◌}
use mathlib.Core.List.Memᴰ
use mathlib.Core.List.{List, [], ◌∷◌, ◌++◌, Memᴰ, append_assoc, append-nil}
use native.Mathlib.Omega.{arith}
use borrow.Author.Tests.{eq-eqb, eqb-true}
use lib.Dec.{T, ltb, leb→le, eqb-suc-zero}
use lib.ListN.{length, take, drop, length-append, length-drop, take-append-drop}
use lib.Seq.{length-take-le, take_all, take-add, drop_at}
use Rattle.wing_node.proofs.Branches.{if-both}
use Rattle.wing_node.specs.Bool.{and}
use Rattle.wing_node.specs.Utf8.{Range, chars, Matches, Octets, empty, char, holds, begins, first_that, row_of, lead_length, char_length, good, Longest, utf8, Decides}
use Rattle.wing_node.proofs.Below.{and-T-left, and-T-right}
use Rattle.wing_node.proofs.Characters.Rows.{first_passes, first_member, first-only}
use Rattle.wing_node.proofs.Characters.Fronts.{holds-limits, begins-lead, begins-matches, matches-begins, matches-length}
use Rattle.wing_node.proofs.Characters.LeadBytes.{leads, lead}
use Rattle.wing_node.proofs.Characters.Chars.{char-length-le, by_row, good-nil, good-cons}

-- every row begins with a byte
abbrev bytes : List (List Range) → Bool
bytes [] = true
bytes ([] ∷ rows) = false
bytes ((r ∷ rs) ∷ rows) = and (ltb r.high 256) (bytes rows)

lead-byte : (rows : List (List Range)) (row : List Range) (b : ℕ) → T (bytes rows) → Memᴰ row rows → leads b row ≡ true → b < 256
unfolding begins
lead-byte [] row b t m p = absurd (Memᴰ.not-nil m)
lead-byte ([] ∷ rows) row b t m p = absurd t
lead-byte ((r ∷ rs) ∷ rows) row b t m p = go (Memᴰ.cases_cons m) (lead-byte rows row b (and-T-right (ltb r.high 256) (bytes rows) t))
  where
    go : (row ≡ r ∷ rs) ⊎ Memᴰ row rows → (Memᴰ row rows → leads b row ≡ true → b < 256) → b < 256
    go (inl e) ih =
        let l = (holds-limits r b (if-both (holds r b) true (ap (leads b) (sym e) ∙ p)).0).1 in
        let k = leb→le (suc r.high) 256 (and-T-left (ltb r.high 256) (bytes rows) t) in
        omega arith
    go (inr m) ih = ih m p

-- a character of the grammar is as long as the row that it matches
char-long : (row : List Range) (b : ℕ) (s : List ℕ) → Memᴰ row chars → begins row (b ∷ s) ≡ true → char_length (b ∷ s) ≡ length row
unfolding row_of lead_length
char-long row b s m e =
    let p = (if-both (leads b row) (begins (drop 1 row) s) (sym (begins-lead row b s) ∙ e)).0 in
    let h = lead-byte chars row b tt m p in
    by_row b s h ∙ rw (first-only (leads b) chars row (lead b h).one m p, e)

-- a character of the grammar is passed
after : (row : List Range) (c s : List ℕ) → Memᴰ row chars → Matches row c → good (c ++ s) ≡ length c + good s
after row [] s m c = omega arith
after row (b ∷ bs) s m c =
    let l : char_length (b ∷ (bs ++ s)) ≡ suc (length bs) = char-long row b (bs ++ s) m (matches-begins s c) ∙ matches-length c in
    good-cons b (bs ++ s) ∙ rw (l, eqb-suc-zero (length bs), drop_at bs s (length bs) refl)

-- whatever follows characters of the grammar, they are good
octets-good : {u : List ℕ} (v : List ℕ) → Octets u → good (u ++ v) ≡ length u + good v
octets-good v empty = omega arith
octets-good v (char {row} {c} {s} m k o) =
    rw (append_assoc c s v) (omega (arith, after row c (s ++ v) m k, octets-good v o, length-append c s))

-- by the bytes after the first character, for what holds of all shorter lists
module _ (P : List ℕ → Type 0) (none : P []) (one : (b : ℕ) (s : List ℕ) → ((k : ℕ) → P (drop k s)) → P (b ∷ s)) where
  by_length : (n : ℕ) (s : List ℕ) → length s ≤ n → P s
  by_length zero s h = go s h
    where
      go : (s : List ℕ) → length s ≤ 0 → P s
      go [] h = none
      go (b ∷ s) h = absurd (omega arith)
  by_length (suc n) s h = go s h (by_length n)
    where
      go : (s : List ℕ) → length s ≤ suc n → ((t : List ℕ) → length t ≤ n → P t) → P s
      go [] h ih = none
      go (b ∷ s) h ih = one b s (λ k. ih (drop k s) (omega (arith, length-drop k s)))

  by-rest : (s : List ℕ) → P s
  by-rest s = by_length (length s) s (omega arith)

-- the good bytes are characters of the grammar
good-octets : (s : List ℕ) → Octets (take (good s) s)
unfolding char_length begins
good-octets = by-rest (λ s. Octets (take (good s) s)) (rw good-nil empty) (λ b s ih. go b s (first_that (λ row. begins row (b ∷ s)) chars) refl ih)
  where
    go : (b : ℕ) (s : List ℕ) (row : List Range) → first_that (λ row. begins row (b ∷ s)) chars ≡ row → ((k : ℕ) → Octets (take (good (drop k s)) (drop k s))) → Octets (take (good (b ∷ s)) (b ∷ s))
    go b s [] q ih = rw (good-cons b s, q) empty
    go b s (r ∷ rs) q ih =
        let f : List Range → Bool = λ row. begins row (b ∷ s) in
        let t = drop (length rs) s in
        let e : good (b ∷ s) ≡ suc (length rs) + good t = good-cons b s ∙ rw (q, eqb-suc-zero (length rs)) in
        let m = begins-matches (r ∷ rs) (b ∷ s) (ap f (sym q) ∙ first_passes f chars refl) in
        rw (e, take-add (suc (length rs)) (good t) (b ∷ s)) (char (first_member f chars r rs q) m (ih (length rs)))

pub good-le : (s : List ℕ) → good s ≤ length s
good-le = by-rest (λ s. good s ≤ length s) (rw good-nil (omega arith)) (λ b s ih. go b s (char_length (b ∷ s)) refl (char-length-le (b ∷ s)) ih)
  where
    go : (b : ℕ) (s : List ℕ) (k : ℕ) → char_length (b ∷ s) ≡ k → k ≤ suc (length s) → ((k : ℕ) → good (drop k s) ≤ length (drop k s)) → good (b ∷ s) ≤ suc (length s)
    go b s zero q l ih = rw (good-cons b s, q) (omega arith)
    go b s (suc k) q l ih =
        let e : good (b ∷ s) ≡ suc k + good (drop k s) = good-cons b s ∙ rw (q, eqb-suc-zero k) in
        omega (arith, length-drop k s, ih k)

pub longest : (s : List ℕ) → Longest (good s) s
longest s =
    record {
      within = good-le s;
      octets = good-octets s;
      none_longer = λ m l h o.
          let e : good (take m s ++ drop m s) ≡ length (take m s) + good (drop m s) = octets-good (drop m s) o in
          omega (arith, rw (take-append-drop m s) at e, length-take-le m s h);
    }

right : (s : List ℕ) → utf8 s ≡ true → Octets s
unfolding utf8
right s e = rw (eqb-true (good s) (length s) e, take_all (length s) s (omega arith)) at (longest s).octets

whole : (s : List ℕ) → Octets s → utf8 s ≡ true
unfolding utf8
whole s o = let e : good (s ++ []) ≡ length s + good [] = octets-good [] o in eq-eqb (good s) (length s) (omega (arith, rw append-nil at e, good-nil))

pub decides : (s : List ℕ) → Decides (utf8 s) (Octets s)
decides s = record { right = right s; whole = whole s }

pub decides-by : {r : Bool} (s : List ℕ) → r ≡ utf8 s → (r ≡ utf8 s) × Decides r (Octets s)
decides-by s e = (e, rw e (decides s))

pub longest-by : {n : ℕ} (s : List ℕ) → n ≡ good s → (n ≡ good s) × Longest n s
longest-by s e = (e, rw e (longest s))

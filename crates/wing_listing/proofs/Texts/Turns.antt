-- One turn over the lines of a text: where a line ends, and how the reading goes on after it.
use Prim.Native.Nat.{ℕ, suc, ◌+◌, ◌-◌, ◌≤◌, ◌<◌, min}
use mathlib.Core.Bool.{true, false}
use mathlib.Core.Path.{◌≡◌, refl, sym, ap, ap₂, ◌∙◌}
use mathlib.Core.List.{List, [], ◌∷◌, ◌++◌}
use native.Mathlib.Omega.{arith}
use borrow.Author.Tests.{ltb-true, ltb-false, eq-eqb}
use mir.Syntax.{w32}
use mir.Val.{to_z, of_z}
use Rattle.std.proofs.Common.{Some}
use lib.Dec.{ltb, eqb}
use lib.Pointwise.{pointwise}
use lib.IntN.{ℤ}
use lib.ListN.{length, get_or, take, drop}
use lib.Seq.{drop-drop, take_all}
use Rattle.std.proofs.Math.Seq.{take-append_seam, take-append-add, drop-append_seam}
use Rattle.std.specs.List.{IsFirstMatchOrLen}
use Rattle.std.proofs.lemmas.List.Sums.{position_or_len_is}
use Rattle.wing_node.specs.declared.refusal.Refusal.{Refusal}
use Rattle.wing_node.specs.Refusal.{Fault, no_fault, because}
use Rattle.wing_mirror.specs.Rows.{Found, found}
use Rattle.wing_listing.specs.Parts.{newline, parted, part}
use Rattle.wing_listing.specs.Reading.{id_said, entry_said, line_fault, bad, after, unless_bad, lines_from}
use Rattle.wing_listing.specs.Steps.{id_before, unless_fault, judged_as}
use Rattle.wing_node.specs.Result.{Result}
use Rattle.std.specs.Prelude.{Ok, Err}
use Rattle.wing_listing.proofs.Texts.Drops.{drop-next, rest-whole}
use Rattle.wing_listing.proofs.Texts.Numbers.{by-test}
use Rattle.wing_listing.proofs.Texts.Parts.{front-place, front-take, front-text}
use Rattle.wing_listing.proofs.Texts.Lines.{true-false}
use Rattle.wing_mirror.specs.Query.{same_bytes}
use Rattle.wing_mirror.proofs.Records.Equals.{bytes-equal, bytes-true, bytes-refl}
use Rattle.wing_listing.proofs.Texts.Reads.{said-passed}
use Rattle.wing_listing.proofs.Texts.Scans.{faultless-line, lines-unended, lines_next, counted, counted_next}
use Rattle.wing_node.specs.declared.refusal.Refusal.TheVariants.{LineWrong}
use Rattle.wing_listing.specs.Answers.{Loaded}

module _ (text : List ℕ) (at k : ℕ) (f : k ≡ length (part newline 0 (take (length text - at) (drop at text)))) where
  abbrev pub line : List ℕ
  line = part newline 0 (drop at text)

  pub line-length : k ≡ length line
  line-length = f ∙ ap (λ (t : List ℕ). length (part newline 0 t)) (rest-whole text at)

  pub the-line : take (at + k - at) (drop at text) ≡ line
  the-line =
      let e : at + k - at ≡ length line = omega (arith, line-length) in
      ap (λ n. take n (drop at text)) e ∙ sym (front-take newline (drop at text))

  pub the_rest : drop (length line + 1) (drop at text) ≡ drop (at + k + 1) text
  the_rest =
      let e : at + (length line + 1) ≡ at + k + 1 = omega (arith, line-length) in
      drop-drop (length line + 1) at text ∙ ap (λ n. drop n text) e

-- a piece of the text left, as the library cuts it: up to its first newline and with it, or all that is left
module _ (text piece next : List ℕ) (i : ℕ) (whole : text ≡ piece ++ next) (size : length piece ≡ min (i + 1) (length text)) (first : IsFirstMatchOrLen (λ (a : ℕ). eqb a newline) text i) (some : 0 < length text) where
  abbrev front : List ℕ
  front = part newline 0 text

  abbrev last : List ℕ
  last = drop (length piece - 1) piece

  place : length front ≡ min i (length text)
  place =
      by-test (ltb i (length text))
      (λ t.
      let h = ltb-true i (length text) t in
      omega (arith, front-place newline text, position_or_len_is (λ (a : ℕ). eqb a newline) text i 0 (omega arith) (λ k l. first.0 k 0 (omega arith) l) (λ l. first.1 l 0)))
      (λ t.
      let h = ltb-false i (length text) t in
      omega (arith, front-place newline text, position_or_len_is (λ (a : ℕ). eqb a newline) text (length text) 0 (omega arith) (λ k l. first.0 k 0 (omega arith) (omega arith)) (λ l. absurd (omega arith))))

  piece-ended : length front < length text → piece ≡ front ++ (newline ∷ [])
  piece-ended h =
      let n : length piece ≡ length front + 1 = omega (arith, place, size) in
      sym (take-append_seam piece next) ∙ ap₂ (λ k (t : List ℕ). take k t) n (sym whole ∙ front-text newline text h) ∙ take-append-add front (newline ∷ drop (length front + 1) text) 1

  last-ended : length front < length text → last ≡ newline ∷ []
  last-ended h =
      let n : length piece - 1 ≡ length front = omega (arith, place, size) in
      ap₂ (λ k (t : List ℕ). drop k t) n (piece-ended h) ∙ drop-append_seam front (newline ∷ [])

  last-other : length text ≤ length front → last ≡ newline ∷ [] → ⊥
  last-other h e =
      let n : length piece ≡ length text = omega (arith, place, size) in
      let k = length text - 1 in
      let q : piece ≡ text = sym (take-append_seam piece next) ∙ ap₂ (λ k (t : List ℕ). take k t) n (sym whole) ∙ take_all (length text) text (omega arith) in
      let d : drop k text ≡ newline ∷ [] = sym (ap (λ (t : List ℕ). drop (length t - 1) t) q) ∙ e in
      let b : get_or text k 0 ≡ newline = ap (λ (t : List ℕ). get_or t 0 0) (sym (drop-next text k (omega arith)) ∙ d) in
      true-false (sym (eq-eqb (get_or text k 0) newline b) ∙ first.0 k 0 (omega arith) (omega (arith, place)))

  -- no newline is left
  pub turn-unended : pointwise eqb last (newline ∷ []) ≡ false → (n : ℕ) (before : Found ℤ) → lines_from n before (parted newline text) ≡ bad LineWrong n
  turn-unended e n before =
      by-test (ltb (length front) (length text))
      (λ t.
      let l = last-ended (ltb-true (length front) (length text) t) in
      absurd (true-false (sym (ap (λ (x : List ℕ). same_bytes x (newline ∷ [])) l ∙ bytes-refl (newline ∷ [])) ∙ sym (bytes-equal last (newline ∷ [])) ∙ e)))
      (λ t. lines-unended n before text some (ltb-false (length front) (length text) t))

  module _ (e : pointwise eqb last (newline ∷ []) ≡ true) where
    ended : length front < length text
    ended =
        by-test (ltb (length front) (length text)) (ltb-true (length front) (length text))
        (λ t. absurd (last-other (ltb-false (length front) (length text) t) (bytes-true last (newline ∷ []) (sym (bytes-equal last (newline ∷ [])) ∙ e))))

    pub piece-line : take (length piece - 1) piece ≡ front
    piece-line =
        let n : length piece - 1 ≡ length front = omega (arith, place, size, ended) in
        ap₂ (λ k (t : List ℕ). take k t) n (piece-ended ended) ∙ take-append_seam front (newline ∷ [])

    piece-rest : drop (length front + 1) text ≡ next
    piece-rest =
        let n : length front + 1 ≡ length piece = omega (arith, place, size, ended) in
        ap₂ (λ k (t : List ℕ). drop k t) n whole ∙ drop-append_seam piece next

    turn-next : (n : ℕ) (before : Found ℤ) →
        lines_from n before (parted newline text) ≡
        unless_bad (line_fault before front) n (after (entry_said front) (lines_from (suc n) (found (id_said front)) (parted newline next)))
    turn-next n before =
        lines_next n before text ended ∙
        ap (λ (t : List ℕ). unless_bad (line_fault before front) n (after (entry_said front) (lines_from (suc n) (found (id_said front)) (parted newline t)))) piece-rest

    -- a bad line
    pub turn-bad : (n : ℕ) (before : Found ℤ) (why : Refusal) → line_fault before front ≡ because why → lines_from n before (parted newline text) ≡ bad why n
    turn-bad n before why f = turn-next n before ∙ rw f

    -- a good one, counted
    pub turn-again : (n : ℕ) (before : Found ℤ) (x : ℤ) (all : Loaded) → 2 ≤ n → line_fault before front ≡ no_fault → x ≡ id_said front →
        counted (n - 2) (lines_from n before (parted newline text)) ≡ all →
        counted (n + 1 - 2) (lines_from (n + 1) (id_before (Some x)) (parted newline next)) ≡ all
    unfolding id_before
    turn-again n before x all two f i w =
        let m : suc n ≡ n + 1 = omega arith in
        let c : n - 2 + 1 ≡ n + 1 - 2 = omega arith in
        let r : lines_from n before (parted newline text) ≡ after (entry_said front) (lines_from (suc n) (found (id_said front)) (parted newline next)) =
        turn-next n before ∙ ap (λ x. unless_bad x n (after (entry_said front) (lines_from (suc n) (found (id_said front)) (parted newline next)))) f in
        rw i
        (sym (ap (counted (n - 2)) r ∙ counted_next (n - 2) (entry_said front) (lines_from (suc n) (found (id_said front)) (parted newline next)) ∙
        ap₂ (λ a b. counted a (lines_from b (found (id_said front)) (parted newline next))) c m) ∙ w)

-- what was judged of the line
fault-err : (f : Fault) (id : ℤ) (why : Refusal) → unless_fault f id ≡ Err why → f ≡ because why
fault-err (Ok u) id why h = grind arith
fault-err (Err w) id why h = grind arith

fault-ok : (f : Fault) (id x : ℤ) → unless_fault f id ≡ Ok x → (f ≡ no_fault) × (x ≡ id)
fault-ok (Ok u) id x h = (refl, grind arith)
fault-ok (Err w) id x h = (grind arith, grind arith)

module _ (before : Found ℤ) (s line : List ℕ) (j : Result ℤ) (e : j ≡ judged_as before s) (same : s ≡ line) where
  judged : j ≡ unless_fault (line_fault before line) (id_said line)
  unfolding judged_as
  judged = e ∙ ap (judged_as before) same

  pub judged-why : (why : Refusal) → j ≡ Err why → line_fault before line ≡ because why
  judged-why why z = fault-err (line_fault before line) (id_said line) why (sym judged ∙ z)

  module _ (x : ℤ) (z : j ≡ Ok x) where
    pub judged-good : line_fault before line ≡ no_fault
    judged-good = (fault-ok (line_fault before line) (id_said line) x (sym judged ∙ z)).0

    pub judged-id : to_z w32 (of_z w32 x) ≡ id_said line
    judged-id = said-passed line x (faultless-line before line judged-good) (fault-ok (line_fault before line) (id_said line) x (sym judged ∙ z)).1

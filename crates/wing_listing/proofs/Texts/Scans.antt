-- A text line by line: how its reading goes on after a line, what is counted, and what is left to be laid.
use Prim.Native.Nat.{ℕ, zero, suc, ◌+◌, ◌≤◌, ◌<◌}
use mathlib.Core.Bool.{Bool, true, false, true≢false}
use mathlib.Core.Path.{◌≡◌, refl, sym, ap, ◌∙◌}
use mathlib.Core.List.{List, [], ◌∷◌, ◌++◌, append_assoc}
use native.Mathlib.Omega.{arith}
use borrow.Author.Tests.{ltb-true, ltb-false, eqb-true, eqb-false, ne_eqb}
use lib.Dec.{ltb, eqb}
use lib.IntN.{ℤ}
use lib.ListN.{length, take, drop, take-append-drop}
use Rattle.wing_node.specs.declared.refusal.Refusal.{Refusal}
use Rattle.wing_node.specs.Refusal.{no_fault, is_refused, Fault}
use Rattle.wing_node.specs.Bool.{if}
use Rattle.wing_mirror.specs.Rows.{Found, found, nothing}
use Rattle.wing_mirror.specs.Entry.{Entry}
use Rattle.wing_mirror.specs.Table.{every}
use Rattle.wing_mirror.specs.Query.{same_bytes}
use Rattle.wing_mirror.proofs.Records.Equals.{bytes-true, bytes-refl}
use Rattle.wing_listing.specs.Parts.{newline, parted, part, ended}
use Rattle.wing_listing.specs.Listing.{header}
use Rattle.wing_listing.specs.Reading.{is_line, id_said, entry_said, above, value_fault, line_fault, Reading, good, bad, after, unless_bad, lines_from, after_header, reading_of, entries_in}
use Rattle.wing_listing.specs.Steps.{scanned_bad, scanned_as}
use Rattle.wing_listing.proofs.Texts.Numbers.{by-test}
use Rattle.wing_listing.proofs.Texts.Parts.{parted-some, parted-hit, parted-whole, parted-ended, front-text}
use Rattle.wing_listing.proofs.Texts.Lines.{true-false}
use Rattle.wing_node.specs.declared.refusal.Refusal.TheVariants.{LineWrong}
use Rattle.std.specs.Prelude.{Ok, Err}
use Rattle.wing_listing.specs.Answers.{Loaded}

pub ne-zero : (n : ℕ) → (n ≡ 0 → ⊥) → 0 < n
ne-zero zero h = absurd (h refl)
ne-zero (suc n) h = omega arith

-- ---- a line and what is wrong with it

module _ (before : Found ℤ) (line : List ℕ) (e : line_fault before line ≡ no_fault) where
  pub faultless-line : is_line line ≡ true
  unfolding line_fault
  faultless-line = by-test (is_line line) (λ t. t) (λ t. absurd (true≢false (ap is_refused (rw t at e))))

  pub faultless-id : above before (id_said line) ≡ true
  unfolding line_fault
  faultless-id = by-test (above before (id_said line)) (λ t. t) (λ t. absurd (true≢false (ap is_refused (rw (faultless-line, t) at e))))

  pub faultless-value : value_fault (entry_said line).value ≡ no_fault
  unfolding line_fault
  faultless-value = rw (faultless-line, faultless-id) at e

-- ---- the reading of lines

module _ (n : ℕ) (before : Found ℤ) where
  pub lines_end : lines_from n before (parted newline []) ≡ good []
  unfolding lines_from parted
  lines_end = refl

  pub lines-unended : (text : List ℕ) → 0 < length text → length text ≤ length (part newline 0 text) → lines_from n before (parted newline text) ≡ bad LineWrong n
  unfolding lines_from
  lines-unended text h k = ap (lines_from n before) (parted-whole newline text k) ∙ rw (ne_eqb (length text) 0 (λ e. omega arith))

  pub lines_next : (text : List ℕ) → length (part newline 0 text) < length text →
      lines_from n before (parted newline text) ≡
      unless_bad (line_fault before (part newline 0 text)) n
      (after (entry_said (part newline 0 text)) (lines_from (suc n) (found (id_said (part newline 0 text))) (parted newline (drop (length (part newline 0 text) + 1) text))))
  unfolding lines_from
  lines_next text h =
      let p = part newline 0 text in
      let r = drop (length p + 1) text in
      ap (lines_from n before) (parted-hit newline text h ∙ ap (λ (ps : List (List ℕ)). p ∷ ps) (parted-some newline r)) ∙
      ap (λ (ps : List (List ℕ)). unless_bad (line_fault before p) n (after (entry_said p) (lines_from (suc n) (found (id_said p)) ps))) (sym (parted-some newline r))

header-none : (text : List ℕ) → length text ≤ length (part newline 0 text) → reading_of text ≡ bad LineWrong 1
unfolding reading_of after_header
header-none text h = ap after_header (parted-whole newline text h)

header-next : (text : List ℕ) → length (part newline 0 text) < length text →
    reading_of text ≡ if (same_bytes (part newline 0 text) header) (lines_from 2 nothing (parted newline (drop (length (part newline 0 text) + 1) text))) (bad LineWrong 1)
unfolding reading_of after_header
header-next text h =
    let p = part newline 0 text in
    let r = drop (length p + 1) text in
    ap after_header (parted-hit newline text h ∙ ap (λ (ps : List (List ℕ)). p ∷ ps) (parted-some newline r)) ∙
    ap (λ (ps : List (List ℕ)). if (same_bytes p header) (lines_from 2 nothing ps) (bad LineWrong 1)) (sym (parted-some newline r))

-- a text that begins with the header's line
pub header-on : (rest : List ℕ) → reading_of (ended header ++ rest) ≡ lines_from 2 nothing (parted newline rest)
unfolding reading_of after_header every
header-on rest =
    ap (λ (t : List ℕ). after_header (parted newline t)) (append_assoc header (newline ∷ []) rest) ∙
    ap after_header (parted-ended newline header rest refl ∙ ap (λ (ps : List (List ℕ)). header ∷ ps) (parted-some newline rest)) ∙
    ap (λ (ps : List (List ℕ)). if (same_bytes header header) (lines_from 2 nothing ps) (bad LineWrong 1)) (sym (parted-some newline rest)) ∙
    ap (λ t. if t (lines_from 2 nothing (parted newline rest)) (bad LineWrong 1)) (bytes-refl header)

module _ (text : List ℕ) where
  pub headed-whole : same_bytes (take 14 text) (ended header) ≡ true → ended header ++ drop 14 text ≡ text
  headed-whole h = ap (λ (front : List ℕ). front ++ drop 14 text) (sym (bytes-true (take 14 text) (ended header) h)) ∙ take-append-drop 14 text

  pub headed : same_bytes (take 14 text) (ended header) ≡ true → reading_of text ≡ lines_from 2 nothing (parted newline (drop 14 text))
  headed h = ap reading_of (sym (headed-whole h)) ∙ header-on (drop 14 text)

  pub head-not : (rest : List ℕ) → ended header ++ rest ≡ text → same_bytes (take 14 text) (ended header) ≡ false → ⊥
  head-not rest s h = true-false (sym (bytes-refl (ended header)) ∙ ap (λ (x : List ℕ). same_bytes (take 14 x) (ended header)) s ∙ h)

  -- and one that does not
  pub headless : same_bytes (take 14 text) (ended header) ≡ false → reading_of text ≡ bad LineWrong 1
  headless h =
      let front = part newline 0 text in
      let rest = drop (length front + 1) text in
      by-test (ltb (length front) (length text))
      (λ t.
      let k = ltb-true (length front) (length text) t in
      by-test (same_bytes front header)
      (λ u. absurd (head-not rest (append_assoc header (newline ∷ []) rest ∙ ap (λ (f : List ℕ). f ++ (newline ∷ rest)) (sym (bytes-true front header u)) ∙ sym (front-text newline text k)) h))
      (λ u. header-next text k ∙ ap (λ b. if b (lines_from 2 nothing (parted newline rest)) (bad LineWrong 1)) u))
      (λ t. header-none text (ltb-false (length front) (length text) t))

-- ---- what is counted

abbrev pub counted : ℕ → Reading → Loaded
counted k (good es) = Ok (k + length es)
counted k (bad why line) = scanned_bad why line

pub counted-all : (r : Reading) → counted 0 r ≡ scanned_as r
unfolding scanned_as
counted-all (good es) = let e : 0 + length es ≡ length es = omega arith in rw e
counted-all (bad why line) = refl

pub counted_next : (k : ℕ) (e : Entry) (r : Reading) → counted k (after e r) ≡ counted (k + 1) r
unfolding after
counted_next k e (good es) = let q : k + suc (length es) ≡ k + 1 + length es = omega arith in rw q
counted_next k e (bad why line) = refl

-- ---- what is left to be laid

-- the lines of a text from one of a number on, after an id, say these entries
abbrev pub Says : ℕ → Found ℤ → List ℕ → List Entry → Type 0
Says n before text es = lines_from n before (parted newline text) ≡ good es

-- then the next line says the first of them, and nothing is wrong with it
pub record Next (n : ℕ) (before : Found ℤ) (text : List ℕ) (es : List Entry) : Type 0 where
  pub ended : length (part newline 0 text) < length text
  pub fault : line_fault before (part newline 0 text) ≡ no_fault
  pub says : es ≡ entry_said (part newline 0 text) ∷ drop 1 es
  pub rest : Says (suc n) (found (id_said (part newline 0 text))) (drop (length (part newline 0 text) + 1) text) (drop 1 es)

abbrev is_good : Reading → Bool
is_good (good es) = true
is_good (bad why line) = false

good-not : {A : Type 0} {es : List Entry} {why : Refusal} {line : ℕ} → bad why line ≡ good es → A
good-not e = absurd (true-false (sym (ap is_good e)))

after-good : (e : Entry) (r : Reading) (es : List Entry) → after e r ≡ good es → (es ≡ e ∷ drop 1 es) × (r ≡ good (drop 1 es))
unfolding after entries_in
after-good e (good fs) es h =
    let q : e ∷ fs ≡ es = ap entries_in h in
    let d : fs ≡ drop 1 es = ap (drop 1) q in
    (sym q ∙ ap (λ (l : List Entry). e ∷ l) d, ap good d)
after-good e (bad why line) es h = good-not h

no-entries : (es : List Entry) → good [] ≡ good es → length es ≡ 0
unfolding entries_in
no-entries es h = ap (λ (r : Reading). length (entries_in r)) (sym h)

pub some-text : (text : List ℕ) → length text ≡ 0 → text ≡ []
some-text [] e = refl
some-text (a ∷ text) e = absurd (omega arith)

ended-text : (n : ℕ) (before : Found ℤ) (text : List ℕ) (es : List Entry) → Says n before text es → length text ≤ length (part newline 0 text) → (text ≡ []) × (length es ≡ 0)
ended-text n before text es l k =
    by-test (eqb (length text) 0)
    (λ u.
    let z = some-text text (eqb-true (length text) 0 u) in
    (z, no-entries es (sym (lines_end n before) ∙ ap (λ (x : List ℕ). lines_from n before (parted newline x)) (sym z) ∙ l)))
    (λ u. good-not (sym (lines-unended n before text (ne-zero (length text) (eqb-false (length text) 0 u)) k) ∙ l))

begun-text : (n : ℕ) (before : Found ℤ) (text : List ℕ) (es : List Entry) → Says n before text es → length (part newline 0 text) < length text → Next n before text es
begun-text n before text es l k =
    let p = part newline 0 text in
    go (line_fault before p) refl (sym (lines_next n before text k) ∙ l)
  where
    rest : Reading
    rest = lines_from (suc n) (found (id_said (part newline 0 text))) (parted newline (drop (length (part newline 0 text) + 1) text))

    go : (f : Fault) → line_fault before (part newline 0 text) ≡ f → unless_bad f n (after (entry_said (part newline 0 text)) rest) ≡ good es → Next n before text es
    go (Ok none) u q = let g = after-good (entry_said (part newline 0 text)) rest es q in record { ended = k; fault = u; says = g.0; rest = g.1 }
    go (Err why) u q = good-not q

pub next-line : (n : ℕ) (before : Found ℤ) (text : List ℕ) (es : List Entry) → Says n before text es → 0 < length es → Next n before text es
next-line n before text es l h =
    by-test (ltb (length (part newline 0 text)) (length text))
    (λ t. begun-text n before text es l (ltb-true (length (part newline 0 text)) (length text) t))
    (λ t. absurd (omega (arith, (ended-text n before text es l (ltb-false (length (part newline 0 text)) (length text) t)).1)))

pub none_left : (n : ℕ) (before : Found ℤ) (text : List ℕ) → Says n before text [] → text ≡ []
none_left n before text l =
    by-test (ltb (length (part newline 0 text)) (length text))
    (λ t. absurd (omega (arith, ap length (begun-text n before text [] l (ltb-true (length (part newline 0 text)) (length text) t)).says)))
    (λ t. (ended-text n before text [] l (ltb-false (length (part newline 0 text)) (length text) t)).0)

-- ---- the header

module _ (text : List ℕ) (es : List Entry) (g : reading_of text ≡ good es) where
  pub header-begins : same_bytes (take 14 text) (ended header) ≡ true
  header-begins = by-test (same_bytes (take 14 text) (ended header)) (λ u. u) (λ u. good-not (sym (headless text u) ∙ g))

  pub header-rest : Says 2 nothing (drop 14 text) es
  header-rest = sym (headed text header-begins) ∙ g

some_good : (r : Reading) → 0 < length (entries_in r) → r ≡ good (entries_in r)
unfolding entries_in
some_good (good es) h = refl
some_good (bad why line) h = absurd (omega arith)

-- the text left says these entries, from some line on
pub record Left (text : List ℕ) (es : List Entry) : Type 0 where
  pub number : ℕ
  pub before : Found ℤ
  pub reads : Says number before text es

pub left-start : (text : List ℕ) → 0 < length (entries_in (reading_of text)) → Left (drop 14 text) (entries_in (reading_of text))
left-start text h =
    record { number = 2; before = nothing; reads = header-rest text (entries_in (reading_of text)) (some_good (reading_of text) h) }

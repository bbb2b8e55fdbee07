-- Which texts are taken and which line is the first bad one: a reading says exactly that.
use Prim.Native.Nat.{ℕ, zero, suc, ◌+◌, ◌≤◌, ◌<◌}
use mathlib.Core.Bool.{true, false}
use mathlib.Core.Path.{◌≡◌, refl, sym, ap, ap₂, ◌∙◌, subst}
use mathlib.Core.Logic.{inl, inr, ◌↔◌}
use mathlib.Core.List.{List, [], ◌∷◌, ◌++◌, append_assoc}
use native.Mathlib.Omega.{arith}
use borrow.Author.Tests.{ltb-true, ltb-false, eqb-true, eqb-false}
use lib.Dec.{ltb, eqb}
use lib.IntN.{ℤ}
use lib.ListN.{length, take, drop, length-drop}
use Rattle.wing_node.proofs.Refusals.{reason_of}
use Rattle.wing_node.specs.declared.refusal.Refusal.{Refusal}
use Rattle.wing_node.specs.Refusal.{no_fault, because, Fault}
use Rattle.wing_node.specs.Bytes.{joined}
use Rattle.wing_mirror.specs.Rows.{Found, found, nothing, All}
use Rattle.wing_mirror.specs.Entry.{Entry}
use Rattle.wing_mirror.specs.Layout.{ValidEntry}
use Rattle.wing_mirror.specs.Record.{full}
use Rattle.wing_mirror.specs.Query.{same_bytes}
use Rattle.wing_mirror.specs.declared.origin.Origin.TheVariants.{Console}
use Rattle.wing_listing.specs.Parts.{newline, parted, part, ended}
use Rattle.wing_listing.specs.Listing.{header, line_of, listing_of}
use Rattle.wing_listing.specs.Reading.{is_line, id_said, entry_said, above, line_fault, Reading, good, bad, after, unless_bad, lines_from, reading_of}
use Rattle.wing_listing.specs.FirstBad.{Bytewise, Printable, TakenEntries, last_id, entry_fault, BadHeader, FirstBad}
use Rattle.wing_listing.proofs.Texts.Numbers.{by-test}
use Rattle.wing_listing.proofs.Texts.Parts.{front-text}
use Rattle.wing_listing.proofs.Texts.Lines.{true-false}
use Rattle.wing_listing.proofs.Texts.Scans.{ne-zero, lines_end, lines-unended, lines_next, header-on, headed-whole, headed, head-not, headless, faultless-line, faultless-id, faultless-value}
use Rattle.wing_listing.proofs.Texts.Said.{DigitBytes, line-again, line-id}
use Rattle.wing_listing.proofs.Texts.Listed.{Rises, rises-all, rising-all, Listable, body, line-faultless, listing-read, listing-said}
use Rattle.wing_listing.proofs.Texts.Shown.{digit-bytes, byte-digits, said-printable, said-listable}
use Rattle.wing_listing.proofs.Texts.First.{printed-front, printed-long, printed-formed, printed-fault, BadFrom, why_in, line_in, bad-not, after-bad, empty, form-here, line-more}
use Rattle.wing_node.specs.declared.refusal.Refusal.TheVariants.{LineWrong}
use Rattle.std.specs.Prelude.{Ok, Err}

body-nil : (x : List ℕ) → body [] ++ x ≡ x
unfolding joined
body-nil x = refl

last-nil : (before : Found ℤ) → before ≡ last_id before []
unfolding last_id
last-nil before = refl

out-of-form : (before : Found ℤ) (line : List ℕ) → is_line line ≡ false → line_fault before line ≡ because LineWrong
unfolding line_fault
out-of-form before line t = rw t

said-id : (line : List ℕ) → id_said line ≡ (entry_said line).id
unfolding entry_said
said-id line = refl

-- ---- a bad reading names the first bad line

module _ (n : ℕ) (before : Found ℤ) (text : List ℕ) (why : Refusal) (line : ℕ) (e : lines_from n before (parted newline text) ≡ bad why line) where
  abbrev p : List ℕ
  p = part newline 0 text

  abbrev r : List ℕ
  r = drop (length p + 1) text

  unended : length text ≤ length p → BadFrom n before text why line
  unended k =
      by-test (eqb (length text) 0)
      (λ u. bad-not (sym (lines_end n before) ∙ ap (λ (x : List ℕ). lines_from n before (parted newline x)) (sym (empty text (eqb-true (length text) 0 u))) ∙ e))
      (λ u.
      let h = ne-zero (length text) (eqb-false (length text) 0 u) in
      form-here n before text why line h
      (λ x next q t. let l = subst (λ (y : List ℕ). length (part newline 0 y) < length y) t (printed-long x q next) in omega arith)
      (sym (lines-unended n before text h k) ∙ e))

  bad-line : length p < length text → (w : Refusal) → line_fault before p ≡ because w → BadFrom n before text why line
  bad-line k w f =
      let q : bad w n ≡ bad why line = sym (lines_next n before text k ∙ ap (λ x. unless_bad x n (after (entry_said p) (lines_from (suc n) (found (id_said p)) (parted newline r)))) f) ∙ e in
      by-test (is_line p)
      (λ t.
      let s : ended (line_of (entry_said p)) ++ r ≡ text = append_assoc (line_of (entry_said p)) (newline ∷ []) r ∙ ap (λ (l : List ℕ). l ++ (newline ∷ r)) (line-again p t) ∙ sym (front-text newline text k) in
      let g = printed-fault (entry_said p) (said-printable p t) r before in
      let m : line_fault before p ≡ entry_fault before (entry_said p) = ap (λ (x : List ℕ). line_fault before (part newline 0 x)) (sym s) ∙ g in
      inr (record {
        es = [];
        e = entry_said p;
        next = r;
        good = tt;
        rises = tt;
        printable = said-printable p t;
        begins = body-nil (ended (line_of (entry_said p)) ++ r) ∙ s;
        fault = ap (λ b. entry_fault b (entry_said p)) (sym (last-nil before)) ∙ sym m ∙ f ∙ ap because (ap (why_in w) q);
        at = sym (ap line_in q) ∙ omega arith;
      }))
      (λ t.
      let m = out-of-form before p t in
      form-here n before text why line (omega arith)
      (λ x next y s. true-false (sym (subst (λ (z : List ℕ). is_line (part newline 0 z) ≡ true) s (printed-formed x y next)) ∙ t))
      (ap (λ x. bad x n) (ap (reason_of w) (sym m ∙ f)) ∙ q))

  good-line : length p < length text → line_fault before p ≡ no_fault → (lines_from (suc n) (found (id_said p)) (parted newline r) ≡ bad why line → BadFrom (suc n) (found (id_said p)) r why line) → BadFrom n before text why line
  good-line k f ih =
      let t = faultless-line before p f in
      let s : ended (line_of (entry_said p)) ++ r ≡ text = append_assoc (line_of (entry_said p)) (newline ∷ []) r ∙ ap (λ (l : List ℕ). l ++ (newline ∷ r)) (line-again p t) ∙ sym (front-text newline text k) in
      let q = after-bad (entry_said p) (lines_from (suc n) (found (id_said p)) (parted newline r)) why line (sym (lines_next n before text k ∙ ap (λ x. unless_bad x n (after (entry_said p) (lines_from (suc n) (found (id_said p)) (parted newline r)))) f) ∙ e) in
      line-more n before text why line (entry_said p) r (said-listable p t (faultless-value before p f)) (ap (above before) (sym (said-id p)) ∙ faultless-id before p f) s (subst (λ i. BadFrom (suc n) (found i) r why line) (said-id p) (ih q))

bad-from : (m n : ℕ) (before : Found ℤ) (text : List ℕ) (why : Refusal) (line : ℕ) → length text ≤ m → lines_from n before (parted newline text) ≡ bad why line → BadFrom n before text why line
bad-from zero n before text why line h e = unended n before text why line e (omega arith)
bad-from (suc m) n before text why line h e =
    let p = part newline 0 text in
    let r = drop (length p + 1) text in
    by-test (ltb (length p) (length text))
    (λ t. go (ltb-true (length p) (length text) t) (line_fault before p) refl (bad-from m (suc n) (found (id_said p)) r why line (omega (arith, length-drop (length p + 1) text, ltb-true (length p) (length text) t))))
    (λ t. unended n before text why line e (ltb-false (length p) (length text) t))
  where
    go : length (part newline 0 text) < length text → (f : Fault) → line_fault before (part newline 0 text) ≡ f →
        (lines_from (suc n) (found (id_said (part newline 0 text))) (parted newline (drop (length (part newline 0 text) + 1) text)) ≡ bad why line →
        BadFrom (suc n) (found (id_said (part newline 0 text))) (drop (length (part newline 0 text) + 1) text) why line) → BadFrom n before text why line
    go k (Ok none) u ih = good-line n before text why line e k u ih
    go k (Err w) u ih = bad-line n before text why line e k w u

-- ---- and the first bad line makes the reading

after_on : (e : Entry) (r : Reading) (why : Refusal) (line : ℕ) → r ≡ bad why line → after e r ≡ bad why line
unfolding after
after_on e r why line h = ap (after e) h

drop-front : (s t : List ℕ) (a : ℕ) → drop (length s + 1) (s ++ (a ∷ t)) ≡ t
drop-front [] t a = refl
drop-front (b ∷ s) t a = ap (λ n. drop n (b ∷ (s ++ (a ∷ t)))) (one_on (length s)) ∙ drop-front s t a
  where
    one_on : (n : ℕ) → suc n + 1 ≡ suc (n + 1)
    one_on n = omega arith

rest-after : (x : Entry) (y : Printable x) (more : List ℕ) → drop (length (part newline 0 (ended (line_of x) ++ more)) + 1) (ended (line_of x) ++ more) ≡ more
rest-after x y more =
    ap₂ (λ (l t : List ℕ). drop (length l + 1) t) (printed-front x y more) (append_assoc (line_of x) (newline ∷ []) more) ∙ drop-front (line_of x) more newline

-- good lines at the front are passed
lines-on : (n : ℕ) (before : Found ℤ) (es : List Entry) (rest : List ℕ) (why : Refusal) (line : ℕ) → All Listable es → Rises before es →
    lines_from (n + length es) (last_id before es) (parted newline rest) ≡ bad why line → lines_from n before (parted newline (body es ++ rest)) ≡ bad why line
unfolding joined last_id
lines-on n before [] rest why line g u e = ap (λ m. lines_from m before (parted newline rest)) (sym-zero n) ∙ e
  where
    sym-zero : (m : ℕ) → m ≡ m + 0
    sym-zero m = omega arith
lines-on n before (x ∷ es) rest why line g u e =
    let q = append_assoc (ended (line_of x)) (body es) rest in
    let y : Printable x = record { node = g.0.0.node; typed = g.0.0.typed; bytes = byte-digits x.value g.0.1 } in
    let more = body es ++ rest in
    let t = ended (line_of x) ++ more in
    let f : line_fault before (part newline 0 t) ≡ no_fault = ap (line_fault before) (printed-front x y more) ∙ line-faultless before x g.0 u.0 in
    let i : id_said (part newline 0 t) ≡ x.id = ap id_said (printed-front x y more) ∙ line-id x y.node y.typed g.0.1 in
    let d : drop (length (part newline 0 t) + 1) t ≡ more = rest-after x y more in
    let m : n + length (x ∷ es) ≡ suc n + length es = omega arith in
    let ih = lines-on (suc n) (found x.id) es rest why line g.1 u.1 (ap (λ k. lines_from k (last_id (found x.id) es) (parted newline rest)) (sym m) ∙ e) in
    ap (λ (z : List ℕ). lines_from n before (parted newline z)) q ∙ lines_next n before t (printed-long x y more) ∙
    ap (λ x. unless_bad x n (after (entry_said (part newline 0 t)) (lines_from (suc n) (found (id_said (part newline 0 t))) (parted newline (drop (length (part newline 0 t) + 1) t))))) f ∙
    after_on (entry_said (part newline 0 t)) (lines_from (suc n) (found (id_said (part newline 0 t))) (parted newline (drop (length (part newline 0 t) + 1) t))) why line
    (ap₂ (λ j (z : List ℕ). lines_from (suc n) (found j) (parted newline z)) i d ∙ ih)

form-base : (n : ℕ) (before : Found ℤ) (rest : List ℕ) → (rest ≡ [] → ⊥) → ((e : Entry) (next : List ℕ) → Printable e → ended (line_of e) ++ next ≡ rest → ⊥) → lines_from n before (parted newline rest) ≡ bad LineWrong n
form-base n before rest some none =
    let p = part newline 0 rest in
    let r = drop (length p + 1) rest in
    by-test (ltb (length p) (length rest))
    (λ t.
    let k = ltb-true (length p) (length rest) t in
    by-test (is_line p)
    (λ u. absurd (none (entry_said p) r (said-printable p u) (append_assoc (line_of (entry_said p)) (newline ∷ []) r ∙ ap (λ (l : List ℕ). l ++ (newline ∷ r)) (line-again p u) ∙ sym (front-text newline rest k))))
    (λ u.
    let m = out-of-form before p u in
    lines_next n before rest k ∙ ap (λ x. unless_bad x n (after (entry_said p) (lines_from (suc n) (found (id_said p)) (parted newline r)))) m))
    (λ t. lines-unended n before rest (ne-zero (length rest) (λ z. some (empty rest z))) (ltb-false (length p) (length rest) t))

entry-base : (n : ℕ) (before : Found ℤ) (e : Entry) (y : Printable e) (next : List ℕ) (why : Refusal) → entry_fault before e ≡ because why → lines_from n before (parted newline (ended (line_of e) ++ next)) ≡ bad why n
entry-base n before e y next why w =
    let t = ended (line_of e) ++ next in
    let p = part newline 0 t in
    let r = drop (length p + 1) t in
    lines_next n before t (printed-long e y next) ∙ ap (λ x. unless_bad x n (after (entry_said p) (lines_from (suc n) (found (id_said p)) (parted newline r)))) (printed-fault e y next before ∙ w)

-- ---- entries that a table takes

all-listable : (es : List Entry) → All (ValidEntry full) es → All (λ (e : Entry). Bytewise e.value) es → All (λ (e : Entry). e.origin ≡ Console) es → All Listable es
all-listable [] v b o = tt
all-listable (e ∷ es) v b o = ((v.0, digit-bytes e.value b.0, o.0), all-listable es v.1 b.1 o.1)

all_valid : (es : List Entry) → All Listable es → All (ValidEntry full) es
all_valid [] g = tt
all_valid (e ∷ es) g = (g.0.0, all_valid es g.1)

all-bytes : (es : List Entry) → All Listable es → All (λ (e : Entry). Bytewise e.value) es
all-bytes [] g = tt
all-bytes (e ∷ es) g = (byte-digits e.value g.0.1, all-bytes es g.1)

bytes-all : (es : List Entry) → All (λ (e : Entry). DigitBytes e.value) es → All (λ (e : Entry). Bytewise e.value) es
bytes-all [] g = tt
bytes-all (e ∷ es) g = (byte-digits e.value g.0, bytes-all es g.1)

all-origins : (es : List Entry) → All Listable es → All (λ (e : Entry). e.origin ≡ Console) es
all-origins [] g = tt
all-origins (e ∷ es) g = (g.0.2, all-origins es g.1)

taken-entries : (es : List Entry) → All Listable es → Rises nothing es → TakenEntries es
taken-entries es g u = record { valid = all_valid es g; bytes = all-bytes es g; rises = rising-all es u; origins = all-origins es g }

listed-text : (es : List Entry) (rest : List ℕ) → listing_of es ++ rest ≡ ended header ++ (body es ++ rest)
unfolding listing_of
listed-text es rest = append_assoc (ended header) (body es) rest

-- ---- both ways

module _ (text : List ℕ) (why : Refusal) (line : ℕ) where
  from-lines : (r : List ℕ) → ended header ++ r ≡ text → BadFrom 2 nothing r why line → FirstBad text why line
  from-lines r t (inl f) =
      inr (inl (record {
        es = f.es;
        rest = f.rest;
        taken = taken-entries f.es f.good f.rises;
        begins = listed-text f.es f.rest ∙ ap (λ (x : List ℕ). ended header ++ x) f.begins ∙ t;
        more = f.more;
        none = f.none;
        number = f.number;
        next = f.at ∙ omega arith;
      }))
  from-lines r t (inr f) =
      inr (inr (record {
        es = f.es;
        e = f.e;
        after = f.next;
        taken = taken-entries f.es f.good f.rises;
        printable = f.printable;
        begins = listed-text f.es (ended (line_of f.e) ++ f.next) ∙ ap (λ (x : List ℕ). ended header ++ x) f.begins ∙ t;
        fault = f.fault;
        next = f.at ∙ omega arith;
      }))

  no_header : ((rest : List ℕ) → ended header ++ rest ≡ text → ⊥) → bad LineWrong 1 ≡ bad why line → FirstBad text why line
  no_header none e = inl (record { none = none; number = sym (ap (why_in why) e); first = sym (ap line_in e) })

  wrong-right : reading_of text ≡ bad why line → FirstBad text why line
  wrong-right e =
      by-test (same_bytes (take 14 text) (ended header))
      (λ u. from-lines (drop 14 text) (headed-whole text u) (bad-from (length (drop 14 text)) 2 nothing (drop 14 text) why line (omega arith) (sym (headed text u) ∙ e)))
      (λ u. no_header (λ rest s. head-not text rest s u) (sym (headless text u) ∙ e))

  header-wrong : BadHeader text why line → reading_of text ≡ bad why line
  header-wrong f =
      by-test (same_bytes (take 14 text) (ended header))
      (λ u. absurd (f.none (drop 14 text) (headed-whole text u)))
      (λ u. headless text u ∙ ap₂ (λ a b. bad a b) (sym f.number) (sym f.first))

  lines-wrong : (es : List Entry) (rest : List ℕ) (w : Refusal) → TakenEntries es → listing_of es ++ rest ≡ text → lines_from (2 + length es) (last_id nothing es) (parted newline rest) ≡ bad w (2 + length es) → why ≡ w → line ≡ length es + 2 →
      reading_of text ≡ bad why line
  lines-wrong es rest w t s e a b =
      let l = lines-on 2 nothing es rest w (2 + length es) (all-listable es t.valid t.bytes t.origins) (rises-all es t.rises) e in
      let c : 2 + length es ≡ line = omega arith in
      ap reading_of (sym s ∙ listed-text es rest) ∙ header-on (body es ++ rest) ∙ l ∙ ap₂ (λ x y. bad x y) (sym a) c

  wrong-left : FirstBad text why line → reading_of text ≡ bad why line
  wrong-left (inl f) = header-wrong f
  wrong-left (inr (inl f)) = lines-wrong f.es f.rest LineWrong f.taken f.begins (form-base (2 + length f.es) (last_id nothing f.es) f.rest f.more f.none) f.number f.next
  wrong-left (inr (inr f)) =
      lines-wrong f.es (ended (line_of f.e) ++ f.after) why f.taken f.begins
      (entry-base (2 + length f.es) (last_id nothing f.es) f.e f.printable f.after why f.fault) refl f.next

  pub wrong : reading_of text ≡ bad why line ↔ FirstBad text why line
  wrong = (wrong-right, wrong-left)

pub taken : (text : List ℕ) (es : List Entry) → (reading_of text ≡ good es ↔ ((listing_of es ≡ text) × TakenEntries es))
taken text es = (
  (λ g.
      let s = listing-said text es g in
      (s.0, record { valid = s.1; bytes = bytes-all es s.3; rises = rising-all es s.2; origins = s.4 })),
  (λ t. ap reading_of (sym t.0) ∙ listing-read es (all-listable es t.1.valid t.1.bytes t.1.origins) (rises-all es t.1.rises)),
)

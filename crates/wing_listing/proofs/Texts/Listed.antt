-- A whole text, both ways: the listing of entries is read as these entries, and a text that is read as entries is their listing.
use Prim.Native.Nat.{ℕ, suc, ◌+◌}
use mathlib.Core.Bool.{true}
use mathlib.Core.Path.{◌≡◌, refl, sym, ap, ap₂, ◌∙◌, subst}
use mathlib.Core.List.{List, [], ◌∷◌, ◌++◌, map, append_assoc}
use native.Mathlib.Omega.{arith}
use lib.IntN.{ℤ}
use lib.Signed.{lt_z}
use lib.ListN.{length, get_or, drop}
use Rattle.wing_node.specs.Refusal.{no_fault}
use Rattle.wing_node.specs.Bytes.{joined}
use Rattle.wing_node.proofs.Branches.{if-both}
use Rattle.wing_mirror.specs.Rows.{Found, found, nothing, All}
use Rattle.wing_mirror.specs.Entry.{Entry, entry, from_console, ids, rising_ids}
use Rattle.wing_mirror.specs.Layout.{ValidEntry}
use Rattle.wing_mirror.specs.Record.{full}
use Rattle.wing_mirror.specs.declared.origin.Origin.TheVariants.{Console}
use Rattle.wing_listing.specs.Parts.{newline, parted, part, ended}
use Rattle.wing_listing.specs.Listing.{header, line_of, listing_of}
use Rattle.wing_listing.specs.Reading.{id_said, entry_said, above, line_fault, Reading, good, after, unless_bad, lines_from, reading_of}
use Rattle.wing_listing.proofs.Texts.Parts.{parted-some, parted-ended, front-text}
use Rattle.wing_listing.proofs.Texts.Scans.{faultless-line, faultless-id, faultless-value, Says, next-line, none_left, header-on, headed-whole, header-begins, header-rest}
use Rattle.wing_listing.proofs.Texts.Said.{DigitBytes, text-faultless, line-formed, line-id, line-says, line_plain, line-again, line-valid, line-bytes}

-- 02: each id above the one before, if there is one
abbrev pub Rises : Found ℤ → List Entry → Type 0
Rises before [] = Unit {0}
Rises before (e ∷ es) = (above before e.id ≡ true) × Rises (found e.id) es

rises-after : (e : Entry) (es : List Entry) → rising_ids (ids (e ∷ es)) ≡ true → Rises (found e.id) es
unfolding rising_ids above
rises-after e [] h = tt
rises-after e (f ∷ es) h = let d = if-both (lt_z e.id f.id) (rising_ids (ids (f ∷ es))) h in (d.0, rises-after f es d.1)

pub rises-all : (es : List Entry) → rising_ids (ids es) ≡ true → Rises nothing es
unfolding above
rises-all [] h = tt
rises-all (e ∷ es) h = (refl, rises-after e es h)

rising-after : (e : Entry) (es : List Entry) → Rises (found e.id) es → rising_ids (ids (e ∷ es)) ≡ true
unfolding rising_ids above
rising-after e [] r = refl
rising-after e (f ∷ es) r = rw r.0 (rising-after f es r.1)

pub rising-all : (es : List Entry) → Rises nothing es → rising_ids (ids es) ≡ true
unfolding rising_ids
rising-all [] r = refl
rising-all (e ∷ es) r = rising-after e es r.1

-- an entry that a table takes, its string bytes, from the console
abbrev pub Listable : Entry → Type 0
Listable e = ValidEntry full e × DigitBytes e.value × (e.origin ≡ Console)

-- an entry from the console says nothing else with its origin set aside
console-own : (e : Entry) → e.origin ≡ Console → from_console e ≡ e
console-own e h = ap (entry e.id e.value) (sym h)

abbrev pub body : List Entry → List ℕ
body es = joined (map (λ (e : Entry). ended (line_of e)) es)

pub body-next : (e : Entry) (es : List Entry) → body (e ∷ es) ≡ line_of e ++ (newline ∷ body es)
unfolding joined
body-next e es = append_assoc (line_of e) (newline ∷ []) (body es)

-- ---- what is printed is read

pub line-faultless : (before : Found ℤ) (e : Entry) → Listable e → above before e.id ≡ true → line_fault before (line_of e) ≡ no_fault
unfolding line_fault
line-faultless before e p h =
    rw (line-formed e p.0.node p.0.typed p.1, line-id e p.0.node p.0.typed p.1, h, line-says e p.0.node p.0.typed p.1) (text-faultless e.value p.0.text)

lines-read : (n : ℕ) (before : Found ℤ) (es : List Entry) → All Listable es → Rises before es → Says n before (body es) es
unfolding lines_from joined parted
lines-read n before [] a r = refl
lines-read n before (e ∷ es) a r =
    let p = a.0 in
    let f = line-faultless before e p r.0 in
    let goes : Reading → Reading = λ rest. unless_bad (line_fault before (line_of e)) n (after (entry_said (line_of e)) rest) in
    ap (λ (t : List ℕ). lines_from n before (parted newline t)) (body-next e es) ∙
    ap (lines_from n before) (parted-ended newline (line_of e) (body es) (line_plain e p.0.node p.0.typed p.1) ∙ ap (λ (ps : List (List ℕ)). line_of e ∷ ps) (parted-some newline (body es))) ∙
    ap (λ (ps : List (List ℕ)). goes (lines_from (suc n) (found (id_said (line_of e))) ps)) (sym (parted-some newline (body es))) ∙
    ap (λ i. goes (lines_from (suc n) (found i) (parted newline (body es)))) (line-id e p.0.node p.0.typed p.1) ∙
    ap goes (lines-read (suc n) (found e.id) es a.1 r.1) ∙
    ap (λ x. unless_bad x n (after (entry_said (line_of e)) (good es))) f ∙
    unfold after in (ap (λ (x : Entry). good (x ∷ es)) (line-says e p.0.node p.0.typed p.1 ∙ console-own e p.2))

pub listing-read : (es : List Entry) → All Listable es → Rises nothing es → reading_of (listing_of es) ≡ good es
unfolding listing_of
listing-read es a r = header-on (body es) ∙ lines-read 2 nothing es a r

-- ---- what is read is printed

pub record Listed (before : Found ℤ) (text : List ℕ) (es : List Entry) : Type 0 where
  pub spells : body es ≡ text
  pub valid : All (ValidEntry full) es
  pub rises : Rises before es
  pub bytes : All (λ (e : Entry). DigitBytes e.value) es
  pub origins : All (λ (e : Entry). e.origin ≡ Console) es

first-same : (e f : Entry) (es fs : List Entry) → e ∷ es ≡ f ∷ fs → f ≡ e
first-same e f es fs h = sym (ap (λ (l : List Entry). get_or l 0 e) h)

said-id : (p : List ℕ) (e : Entry) → entry_said p ≡ e → id_said p ≡ e.id
unfolding entry_said
said-id p e q = ap (λ (x : Entry). x.id) q

pub said-origin : (p : List ℕ) → (entry_said p).origin ≡ Console
unfolding entry_said
said-origin p = refl

pub lines-said : (n : ℕ) (before : Found ℤ) (text : List ℕ) (es : List Entry) → Says n before text es → Listed before text es
unfolding joined
lines-said n before text [] s = record { spells = sym (none_left n before text s); valid = tt; rises = tt; bytes = tt; origins = tt }
lines-said n before text (e ∷ es) s =
    let k = next-line n before text (e ∷ es) s (omega arith) in
    let p = part newline 0 text in
    let r = drop (length p + 1) text in
    let line = faultless-line before p k.fault in
    let q : entry_said p ≡ e = first-same e (entry_said p) es (drop 1 (e ∷ es)) k.says in
    let i : id_said p ≡ e.id = said-id p e q in
    let l = lines-said (suc n) (found (id_said p)) r es k.rest in
    record {
      spells = body-next e es ∙ ap₂ (λ (a b : List ℕ). a ++ (newline ∷ b)) (ap line_of (sym q) ∙ line-again p line) l.spells ∙ sym (front-text newline text k.ended);
      valid = (subst (ValidEntry full) q (line-valid p line (faultless-value before p k.fault)), l.valid);
      rises = (ap (above before) (sym i) ∙ faultless-id before p k.fault, subst (λ j. Rises (found j) es) i l.rises);
      bytes = (subst (λ (x : Entry). DigitBytes x.value) q (line-bytes p line), l.bytes);
      origins = (subst (λ (x : Entry). x.origin ≡ Console) q (said-origin p), l.origins);
    }

pub listing-said : (text : List ℕ) (es : List Entry) → reading_of text ≡ good es → (listing_of es ≡ text) × All (ValidEntry full) es × Rises nothing es × All (λ (e : Entry). DigitBytes e.value) es ×
    All (λ (e : Entry). e.origin ≡ Console) es
unfolding listing_of
listing-said text es g =
    let l = lines-said 2 nothing (drop 14 text) es (header-rest text es g) in
    (ap (λ (b : List ℕ). ended header ++ b) l.spells ∙ headed-whole text (header-begins text es g), l.valid, l.rises, l.bytes, l.origins)

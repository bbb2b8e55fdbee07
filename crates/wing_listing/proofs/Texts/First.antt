-- The first bad line, both ways: what a reading says of it is what is said by printed lines.
use Prim.Native.Nat.{ℕ, suc, ◌+◌, ◌<◌}
use mathlib.Core.Bool.{Bool, true, false}
use mathlib.Core.Path.{◌≡◌, refl, sym, ap, ◌∙◌}
use mathlib.Core.Logic.{◌⊎◌, inl, inr}
use mathlib.Core.List.{List, [], ◌∷◌, ◌++◌, append_assoc}
use native.Mathlib.Omega.{arith}
use lib.IntN.{ℤ}
use lib.ListN.{length, get_or, length-append}
use Rattle.wing_node.specs.declared.refusal.Refusal.{Refusal}
use Rattle.wing_node.specs.Refusal.{because}
use Rattle.wing_node.specs.Bytes.{joined}
use Rattle.wing_mirror.specs.Rows.{Found, found, All}
use Rattle.wing_mirror.specs.Entry.{Entry}
use Rattle.wing_listing.specs.Parts.{newline, parted, part, ended}
use Rattle.wing_listing.specs.Listing.{line_of}
use Rattle.wing_listing.specs.Reading.{is_line, above, line_fault, Reading, good, bad, after}
use Rattle.wing_listing.specs.FirstBad.{Printable, last_id, entry_fault}
use Rattle.wing_listing.proofs.Texts.Parts.{parted-ended}
use Rattle.wing_listing.proofs.Texts.Lines.{true-false}
use Rattle.wing_listing.proofs.Texts.Said.{line-formed, line-id, line-says, line_plain}
use Rattle.wing_listing.proofs.Texts.Listed.{Rises, Listable, body}
use Rattle.wing_listing.proofs.Texts.Shown.{digit-bytes}
use Rattle.wing_node.specs.declared.refusal.Refusal.TheVariants.{LineWrong}

-- ---- a printed line at the front of a text

module _ (e : Entry) (p : Printable e) (more : List ℕ) where
  abbrev text : List ℕ
  text = ended (line_of e) ++ more

  parts : parted newline text ≡ line_of e ∷ parted newline more
  parts = ap (parted newline) (append_assoc (line_of e) (newline ∷ []) more) ∙ parted-ended newline (line_of e) more (line_plain e p.node p.typed (digit-bytes e.value p.bytes))

  pub printed-front : part newline 0 text ≡ line_of e
  printed-front = ap (λ (ps : List (List ℕ)). get_or ps 0 []) parts

  pub printed-long : length (part newline 0 text) < length text
  printed-long = omega (arith, ap length printed-front, length-append (ended (line_of e)) more, length-append (line_of e) (newline ∷ []))

  pub printed-formed : is_line (part newline 0 text) ≡ true
  printed-formed = ap is_line printed-front ∙ line-formed e p.node p.typed (digit-bytes e.value p.bytes)

  -- what is wrong with it
  pub printed-fault : (before : Found ℤ) → line_fault before (part newline 0 text) ≡ entry_fault before e
  unfolding line_fault entry_fault
  printed-fault before =
      let b = digit-bytes e.value p.bytes in
      ap (line_fault before) printed-front ∙
      rw (line-formed e p.node p.typed b, line-id e p.node p.typed b, line-says e p.node p.typed b)

-- ---- the first bad line after an id, of the lines from one of a number on

pub record FormFrom (n : ℕ) (before : Found ℤ) (text : List ℕ) (why : Refusal) (line : ℕ) : Type 0 where
  pub es : List Entry
  pub rest : List ℕ
  pub good : All Listable es
  pub rises : Rises before es
  pub begins : body es ++ rest ≡ text
  pub more : rest ≡ [] → ⊥
  pub none : (e : Entry) (next : List ℕ) → Printable e → ended (line_of e) ++ next ≡ rest → ⊥
  pub number : why ≡ LineWrong
  pub at : line ≡ n + length es

pub record EntryFrom (n : ℕ) (before : Found ℤ) (text : List ℕ) (why : Refusal) (line : ℕ) : Type 0 where
  pub es : List Entry
  pub e : Entry
  pub next : List ℕ
  pub good : All Listable es
  pub rises : Rises before es
  pub printable : Printable e
  pub begins : body es ++ (ended (line_of e) ++ next) ≡ text
  pub fault : entry_fault (last_id before es) e ≡ because why
  pub at : line ≡ n + length es

abbrev pub BadFrom : ℕ → Found ℤ → List ℕ → Refusal → ℕ → Type 0
BadFrom n before text why line = FormFrom n before text why line ⊎ EntryFrom n before text why line

abbrev pub why_in : Refusal → Reading → Refusal
why_in other (good es) = other
why_in other (bad why line) = why

abbrev pub line_in : Reading → ℕ
line_in (good es) = 0
line_in (bad why line) = line

abbrev is_good : Reading → Bool
is_good (good es) = true
is_good (bad why line) = false

pub bad-not : {A : Type 0} {es : List Entry} {why : Refusal} {line : ℕ} → good es ≡ bad why line → A
bad-not e = absurd (true-false (ap is_good e))

pub after-bad : (e : Entry) (r : Reading) (why : Refusal) (line : ℕ) → after e r ≡ bad why line → r ≡ bad why line
unfolding after
after-bad e (good es) why line h = bad-not h
after-bad e (bad w l) why line h = h

pub empty : (s : List ℕ) → length s ≡ 0 → s ≡ []
empty [] e = refl
empty (a ∷ s) e = absurd (omega arith)

-- nothing good at the front
module _ (n : ℕ) (before : Found ℤ) (text : List ℕ) where
  pub form-here : (why : Refusal) (line : ℕ) → 0 < length text → ((e : Entry) (next : List ℕ) → Printable e → ended (line_of e) ++ next ≡ text → ⊥) → bad LineWrong n ≡ bad why line → BadFrom n before text why line
  unfolding joined
  form-here why line h none e =
      inl (record {
        es = [];
        rest = text;
        good = tt;
        rises = tt;
        begins = refl;
        more = λ z. omega (arith, h, ap length z);
        none = none;
        number = sym (ap (why_in why) e);
        at = sym (ap line_in e) ∙ omega arith;
      })

  -- one good line more
  pub line-more : (why : Refusal) (line : ℕ) (e : Entry) (r : List ℕ) → Listable e → above before e.id ≡ true → ended (line_of e) ++ r ≡ text → BadFrom (suc n) (found e.id) r why line → BadFrom n before text why line
  unfolding joined last_id
  line-more why line e r g u t (inl f) =
      inl (record {
        es = e ∷ f.es;
        rest = f.rest;
        good = (g, f.good);
        rises = (u, f.rises);
        begins = append_assoc (ended (line_of e)) (body f.es) f.rest ∙ ap (λ (x : List ℕ). ended (line_of e) ++ x) f.begins ∙ t;
        more = f.more;
        none = f.none;
        number = f.number;
        at = f.at ∙ omega arith;
      })
  line-more why line e r g u t (inr f) =
      inr (record {
        es = e ∷ f.es;
        e = f.e;
        next = f.next;
        good = (g, f.good);
        rises = (u, f.rises);
        printable = f.printable;
        begins = append_assoc (ended (line_of e)) (body f.es) (ended (line_of f.e) ++ f.next) ∙ ap (λ (x : List ℕ). ended (line_of e) ++ x) f.begins ∙ t;
        fault = f.fault;
        at = f.at ∙ omega arith;
      })

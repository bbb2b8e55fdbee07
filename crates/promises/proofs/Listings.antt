-- What is promised of listings, as specs/Listing states it.
use Prim.Native.Nat.{ℕ, ◌/◌, ◌≤◌}
use mathlib.Core.Bool.{Bool, true, false, not}
use mathlib.Core.Path.{◌≡◌, refl, sym, ◌∙◌, ap, ap₂, subst}
use mathlib.Core.Logic.{◌⊎◌, inl, inr, ⊎_elim, ◌↔◌}
use mathlib.Core.List.{List, [], ◌∷◌, ◌++◌, map}
use native.Mathlib.Omega.{arith}
use borrow.Author.Tests.{le-ltb, le-leb}
use lib.Dec.{ltb, leb}
use lib.IntN.{ℤ}
use lib.ListN.{length, take, drop}
use Rattle.wing_node.proofs.Refusals.{reason}
use Rattle.promises.specs.Refusals.{string_wrong, no_place, table_unsound, string_long, number_over, line_wrong, id_not_above}
use Rattle.wing_node.specs.Bool.{if}
use Rattle.wing_node.specs.Refusal.{refusal_number, good_beside, because, no_fault, string_not_utf8, Fault}
use Rattle.wing_node.specs.Utf8.{utf8, good as good_of}
use Rattle.wing_node.specs.Value.{NodeValue, integer, float, string}
use Rattle.wing_node.specs.declared.refusal.Refusal.{Refusal}
use Rattle.wing_node.specs.Result.{Result, refused}
use Rattle.wing_node.proofs.Branches.{branch}
use Rattle.wing_wire.specs.Range.{AreBytes}
use Rattle.wing_wire.specs.State.{fresh_state}
use Rattle.wing_wire.specs.Write.{WriteEffect, write_effect, write_of}
use Rattle.wing_wire.specs.Answers.{written_result}
use Rattle.wing_mirror.specs.Rows.{Table, Found, laid, In}
use Rattle.wing_mirror.specs.Entry.{Entry}
use Rattle.wing_mirror.specs.Call.{too_long, not_text}
use Rattle.wing_mirror.specs.Record.{width, record_of, full}
use Rattle.wing_mirror.specs.Table.{table, places_allowed, usable}
use Rattle.wing_listing.specs.Listing.{printed}
use Rattle.wing_listing.specs.Reading.{Reading, good, bad, above, value_fault, reading_of, entries_in}
use Rattle.wing_listing.specs.FirstBad.{entry_fault, BadHeader, BadForm, FirstBad}
use Rattle.wing_listing.specs.Calls.{LoadEffect, load_effect, reply_of, sent_back, load_entries, load_read, load_of, print_of}
use Rattle.wing_listing.specs.Answers.{loaded_result, line_in, Loaded}
use Rattle.wing_listing.specs.BothWays.{EqualMirror}
use Rattle.wing_listing.proofs.Texts.Rounds.{both_ways, loaded-rest}
use Rattle.wing_listing.proofs.Texts.Faults.{Wrong, Known, known-reading}
use Rattle.promises.specs.Lines.{Line, ◌gives◌, by, sends, Answers}
use Rattle.promises.specs.Listing.{reading_fault, load_lines, text_lines, entry_lines, PrintCall, LoadCall}
use Rattle.promises.proofs.Lines.{taken, line, unless, given}
use Rattle.promises.proofs.Tables.{allowed}
use Rattle.promises.proofs.Writers.{at_front, came, Kept, Rest, refused-rest, written-rest, command-writes}
use Rattle.wing_node.specs.declared.refusal.Refusal.TheVariants.{IdNotAbove, OutputShort, StringLong, TableUnsound}
use Rattle.std.specs.Prelude.{Ok, Err}

-- ---- print

-- what a call says that it wrote
abbrev Told : Table → WriteEffect → Type 0
Told t x = (n : ℕ) → x.answer ≡ Ok n → (usable full t ≡ true) × (n ≡ length (printed t)) × (take n x.out ≡ printed t)

refused-told : (t : Table) (k : Refusal) (out : List ℕ) → Told t (write_effect (Err k) out)
refused-told t k out n e = absurd (let z : ◌≡◌ {A = ℕ} 0 1 = cc in omega arith)

written-told : (t : Table) (out : List ℕ) → usable full t ≡ true → Told t (write_of (printed t) out)
unfolding write_of
written-told t out u =
    branch (Told t) (ltb (length out) (length (printed t))) _ _ (λ _. refused-told t OutputShort out)
    (λ _ n q.
    let z : length (printed t) ≡ n = cc in
    (u, sym z, ap (λ (m : ℕ). take m (printed t ++ drop (length (printed t)) out)) (sym z) ∙ at_front (printed t) out))

print-told : (t : Table) (out : List ℕ) → Told t (print_of t out)
unfolding print_of
print-told t out = branch (Told t) (usable full t) _ _ (λ u. written-told t out u) (λ _. refused-told t TableUnsound out)

pub print-call : (t : Table) (out : List ℕ) → AreBytes t.buffer → PrintCall t out (print_of t out).answer (print_of t out).out
unfolding print_of written_result
print-call t out b = record {
  writes = record {
    answered = unless came (Kept out) (printed t) (usable full t) TableUnsound _ _ _ refl (refl, tt) (command-writes (printed t) out).answered;
    rest = λ n e. (went n e).1;
    told = λ n e. (went n e).0;
  };
  counted = λ n e. let p : (usable full t ≡ true) × (n ≡ length (printed t)) × (take n (print_of t out).out ≡ printed t) = unfold print_of in print-told t out n e in p.1;
  loads = λ n e s memory a f.
      let p : (usable full t ≡ true) × (n ≡ length (printed t)) × (take n (print_of t out).out ≡ printed t) = unfold print_of in print-told t out n e in
      subst (λ (x : List ℕ). EqualMirror t memory (load_of x memory)) (sym p.2) (both_ways.back t memory b p.0 (omega (arith, p.1)) a f);
  loads_in_places = λ n e s memory a m f.
      let p : (usable full t ≡ true) × (n ≡ length (printed t)) × (take n (print_of t out).out ≡ printed t) = unfold print_of in print-told t out n e in
      subst (λ (x : List ℕ). EqualMirror t memory (load_of x memory)) (sym p.2) (both_ways.back t memory b p.0 (omega (arith, p.1)) ((allowed (length memory / width)).1 (a, m)) f);
  same = refl;
}
  where
    went : Rest (printed t) out (print_of t out)
    went = branch (Rest (printed t) out) (usable full t) _ _ (λ _. written-rest (printed t) out) (λ _. refused-rest TableUnsound (printed t) out out)

-- ---- load

-- the reason of a refused load, or another
abbrev why_in : Refusal → Loaded → Refusal
why_in other (Ok n) = other
why_in other (Err b) = b.why

abbrev loads : LoadEffect → Result ℕ
loads x = loaded_result x.reply.answer

module _ (memory : List ℕ) where
  abbrev W : LoadEffect → Type 0
  W x = x.memory ≡ memory

  read-answered : (r : Reading) →
      Answers (reading_fault r ∷ (not (leb (length (entries_in r)) (length memory / width)) gives no_place) ∷ []) (length (entries_in r)) (loads (load_read r memory)) (W (load_read r memory))
  unfolding by reading_fault load_read load_entries entries_in loaded_result
  read-answered (good es) =
      line loads W (length es) false no_place _ (sent_back no_place 0 memory) (load_read (good es) memory) refl refl
      (unless loads W (length es) (leb (length es) (length memory / width)) no_place _ _ _ refl refl (taken loads W (length es) (load_effect (reply_of (Ok (length es))) (laid width (map record_of es) memory)) refl))
  read-answered (bad why line) = record { result = refl; as_it_was = λ n p. refl }

  load-answered : (text : List ℕ) → Answers (load_lines text memory) (length (entries_in (reading_of text))) (loads (load_of text memory)) (W (load_of text memory))
  unfolding load_of loaded_result
  load-answered text =
      unless loads W _ (places_allowed (length memory / width)) table_unsound _ _ _ refl refl
      (unless loads W _ (leb (length text) 65536) number_over _ _ _ refl refl (read-answered (reading_of text)))

  -- 7, 14, 6, or what is wrong with a line
  abbrev Others : Refusal → Type 0
  Others why = In why (table_unsound ∷ number_over ∷ line_wrong ∷ id_not_above ∷ string_long ∷ string_wrong (good_beside why) ∷ no_place ∷ [])

  wrong-others : (why : Refusal) → Wrong why → Others why
  wrong-others why (inl e) = inr (inr (inl e))
  wrong-others why (inr (inl e)) = inr (inr (inr (inl e)))
  wrong-others why (inr (inr (inl e))) = inr (inr (inr (inr (inl e))))
  wrong-others why (inr (inr (inr e))) = inr (inr (inr (inr (inr (inl e)))))

  abbrev Reasons : LoadEffect → Type 0
  Reasons x = (why : Refusal) → loads x ≡ refused why → Others why

  sent : (other : Refusal) (line : ℕ) → Others other → Reasons (sent_back other line memory)
  unfolding loaded_result
  sent other line o why e = subst Others (ap (reason other) e) o

  read-reasons : (r : Reading) → Known r → Reasons (load_read r memory)
  unfolding load_read load_entries loaded_result
  read-reasons (good es) k =
      branch Reasons (leb (length es) (length memory / width)) _ _ (λ _ why e. absurd (given (length es) why e)) (λ _. sent no_place 0 (inr (inr (inr (inr (inr (inr (inl refl))))))))
  read-reasons (bad why line) k = sent why line (wrong-others why k)

  load-reasons : (text : List ℕ) → Reasons (load_of text memory)
  unfolding load_of
  load-reasons text =
      branch Reasons (places_allowed (length memory / width)) _ _
      (λ _. branch Reasons (leb (length text) 65536) _ _ (λ _. read-reasons (reading_of text) (known-reading text)) (λ _. sent number_over 0 (inr (inl refl)))) (λ _. sent table_unsound 0 (inl refl))

  -- which line
  abbrev About : List ℕ → LoadEffect → Type 0
  About text x = (why : Refusal) (line : ℕ) → x.reply.answer ≡ Err (record { why = why; line = line }) → (reading_of text ≡ bad why line) ⊎ (line ≡ 0)

  about-none : (text : List ℕ) (a : Loaded) → line_in a ≡ 0 → (why : Refusal) (line : ℕ) → a ≡ Err (record { why = why; line = line }) → (reading_of text ≡ bad why line) ⊎ (line ≡ 0)
  unfolding line_in
  about-none text a z why line e = inr (sym (ap line_in e) ∙ z)

  about-read : (text : List ℕ) (r : Reading) → reading_of text ≡ r → About text (load_read r memory)
  unfolding load_read load_entries line_in
  about-read text (good es) g =
      branch (About text) (leb (length es) (length memory / width)) _ _ (λ _. about-none text (Ok (length es)) refl) (λ _. about-none text (Err (record { why = no_place; line = 0 })) refl)
  about-read text (bad why line) g = λ w l e.
      let a : why ≡ w = ap (why_in why) e in
      let b : line ≡ l = ap line_in e in
      inl (g ∙ ap₂ (λ m n. bad m n) a b)

  load-about : (text : List ℕ) → About text (load_of text memory)
  unfolding load_of line_in
  load-about text =
      branch (About text) (places_allowed (length memory / width)) _ _
      (λ _. branch (About text) (leb (length text) 65536) _ _ (λ _. about-read text (reading_of text) refl) (λ _. about-none text (Err (record { why = number_over; line = 0 })) refl))
      (λ _. about-none text (Err (record { why = table_unsound; line = 0 })) refl)

  load_line : (text : List ℕ) (why : Refusal) (line : ℕ) → places_allowed (length memory / width) ≡ true → length text ≤ 65536 → reading_of text ≡ bad why line → (load_of text memory).reply.answer ≡ Err (record { why = why; line = line })
  unfolding load_of load_read
  load_line text why line a s g = rw (a, le-leb (length text) 65536 s, g)

  -- a first bad line has a number from 1 on
  some-line : (text : List ℕ) (why : Refusal) (line : ℕ) → FirstBad text why line → line ≡ 0 → ⊥
  some-line text why line (inl f) z = omega (arith, f.first)
  some-line text why line (inr (inl f)) z = omega (arith, f.next)
  some-line text why line (inr (inr f)) z = omega (arith, f.next)

  load-first : (text : List ℕ) (why : Refusal) (line : ℕ) → places_allowed (length memory / width) ≡ true → length text ≤ 65536 → ((((load_of text memory).reply.answer ≡ Err (record { why = why; line = line })) × (line ≡ 0 → ⊥)) ↔ FirstBad text why line)
  load-first text why line a s = (
    (λ p. (both_ways.wrong text why line).0 (⊎_elim (λ r. r) (λ z. absurd (p.1 z)) (load-about text why line p.0))),
    (λ f. (load_line text why line a s ((both_ways.wrong text why line).1 f), some-line text why line f)),
  )

  -- 7, 14 and 6 are no bad line's
  not_line : (why : Refusal) → Wrong why → ((why ≡ table_unsound) ⊎ ((why ≡ number_over) ⊎ (why ≡ no_place))) → ⊥
  not_line why w k = among (refusal_number why) (number w) (other k)
    where
      number : Wrong why → (refusal_number why ≡ 17) ⊎ ((refusal_number why ≡ 18) ⊎ ((refusal_number why ≡ 10) ⊎ (refusal_number why ≡ 1)))
      number (inl e) = inl (ap refusal_number e)
      number (inr (inl e)) = inr (inl (ap refusal_number e))
      number (inr (inr (inl e))) = inr (inr (inl (ap refusal_number e)))
      number (inr (inr (inr e))) = inr (inr (inr (ap refusal_number e)))

      other : ((why ≡ table_unsound) ⊎ ((why ≡ number_over) ⊎ (why ≡ no_place))) → (refusal_number why ≡ 7) ⊎ ((refusal_number why ≡ 14) ⊎ (refusal_number why ≡ 6))
      other (inl e) = inl (ap refusal_number e)
      other (inr (inl e)) = inr (inl (ap refusal_number e))
      other (inr (inr e)) = inr (inr (ap refusal_number e))

      among : (n : ℕ) → (n ≡ 17) ⊎ ((n ≡ 18) ⊎ ((n ≡ 10) ⊎ (n ≡ 1))) → ((n ≡ 7) ⊎ ((n ≡ 14) ⊎ (n ≡ 6))) → ⊥
      among n (inl e) (inl f) = omega arith
      among n (inl e) (inr (inl f)) = omega arith
      among n (inl e) (inr (inr f)) = omega arith
      among n (inr (inl e)) (inl f) = omega arith
      among n (inr (inl e)) (inr (inl f)) = omega arith
      among n (inr (inl e)) (inr (inr f)) = omega arith
      among n (inr (inr (inl e))) (inl f) = omega arith
      among n (inr (inr (inl e))) (inr (inl f)) = omega arith
      among n (inr (inr (inl e))) (inr (inr f)) = omega arith
      among n (inr (inr (inr e))) (inl f) = omega arith
      among n (inr (inr (inr e))) (inr (inl f)) = omega arith
      among n (inr (inr (inr e))) (inr (inr f)) = omega arith

  no_line_lem : (text : List ℕ) (a : Loaded) → ((w : Refusal) (l : ℕ) → a ≡ Err (record { why = w; line = l }) → (reading_of text ≡ bad w l) ⊎ (l ≡ 0)) → (why : Refusal) → loaded_result a ≡ refused why → ((why ≡ table_unsound) ⊎ ((why ≡ number_over) ⊎ (why ≡ no_place))) → line_in a ≡ 0
  unfolding loaded_result line_in
  no_line_lem text (Ok n) f why e k = refl
  no_line_lem text (Err b) f why e k =
      ⊎_elim (λ r. absurd (not_line why (subst Wrong (ap (reason b.why) e) (subst Known r (known-reading text))) k)) (λ y. y) (f b.why b.line refl)

  load_fresh : (text : List ℕ) → (load_of text memory).reply.state ≡ fresh_state
  unfolding load_of
  load_fresh text =
      branch (λ (x : LoadEffect). x.reply.state ≡ fresh_state) (places_allowed (length memory / width)) _ _
      (λ _. branch (λ (x : LoadEffect). x.reply.state ≡ fresh_state) (leb (length text) 65536) _ _ (λ _. read-fresh (reading_of text)) (λ _. refl)) (λ _. refl)
    where
      read-fresh : (r : Reading) → (load_read r memory).reply.state ≡ fresh_state
      read-fresh (good es) = unfold load_read in (unfold load_entries in (branch (λ (x : LoadEffect). x.reply.state ≡ fresh_state) (leb (length es) (length memory / width)) _ _ (λ _. refl) (λ _. refl)))
      read-fresh (bad why line) = unfold load_read in refl

  load-prints : (text : List ℕ) (n : ℕ) → (load_of text memory).reply.answer ≡ Ok n → (out : List ℕ) → length text ≤ length out →
      print_of (table (load_of text memory).memory n) out ≡ write_effect (Ok (length text)) (text ++ drop (length text) out)
  unfolding print_of write_of
  load-prints text n e out h =
      let p = both_ways.again text memory n e in
      rw (p.sound, p.prints, le-ltb (length out) (length text) h)

-- a header or a line out of form
out-of-form : (text : List ℕ) (why : Refusal) (line : ℕ) → BadHeader text why line ⊎ BadForm text why line → why ≡ line_wrong
out-of-form text why line (inl f) = f.number
out-of-form text why line (inr f) = f.number

-- the fault that lines come to
abbrev fault_by : List Line → Fault
fault_by [] = no_fault
fault_by ((Ok u) ∷ ls) = fault_by ls
fault_by (Err why ∷ ls) = because why

fault-sends : (ls : List Line) (why : Refusal) → (fault_by ls ≡ because why) ↔ (sends ls ≡ refused why)
unfolding by
fault-sends [] why = ((λ e. absurd (let z : ◌≡◌ {A = ℕ} 0 1 = cc in omega arith)), (λ e. absurd (given tt why e)))
fault-sends ((Ok u) ∷ ls) why = fault-sends ls why
fault-sends (Err k ∷ ls) why = ((λ e. cc), (λ e. cc))

-- what is wrong with a value, by its lines
value-lines : (v : NodeValue) → value_fault v ≡ fault_by (text_lines v)
unfolding value_fault too_long not_text
value-lines (integer x) = refl
value-lines (float bits) = refl
value-lines (string s) = by_tests (leb (length s) 256) (utf8 s)
  where
    by_tests : (short text : Bool) →
        if (not short) (because StringLong) (if (not text) (because (string_not_utf8 s)) no_fault) ≡ fault_by ((not short gives string_long) ∷ (not text gives string_wrong (good_of s)) ∷ [])
    by_tests true true = refl
    by_tests true false = refl
    by_tests false text = refl

entry-within : (before : Found ℤ) (e : Entry) (why : Refusal) → (entry_fault before e ≡ because why) ↔ (sends (entry_lines before e) ≡ refused why)
unfolding entry_fault
entry-within before e why = rw (entry-fault (above before e.id)) (fault-sends (entry_lines before e) why)
  where
    entry-fault : (rises : Bool) → if rises (value_fault e.value) (because IdNotAbove) ≡ fault_by ((not rises gives id_not_above) ∷ text_lines e.value)
    entry-fault true = value-lines e.value
    entry-fault false = refl

pub load_call : (text memory : List ℕ) → LoadCall text memory (load_of text memory).reply (load_of text memory).memory
load_call text memory = record {
  answered = load-answered memory text;
  no_other = load-reasons memory text;
  first = load-first memory text;
  allowed = allowed (length memory / width);
  form = out-of-form text;
  within = entry-within;
  no_line = no_line_lem memory text (load_of text memory).reply.answer (load-about memory text);
  fresh = load_fresh memory text;
  sound = λ n e. (both_ways.again text memory n e).sound;
  rest = loaded-rest text memory;
  origins = λ n e. (both_ways.again text memory n e).origins;
  prints = load-prints memory text;
  same = refl;
}

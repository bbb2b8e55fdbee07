-- 02's two sentences: loading what was printed, and printing what was loaded.
use Prim.Native.Nat.{ℕ, ◌*◌, ◌/◌, ◌≤◌}
use mathlib.Core.Bool.{Bool, true, false}
use mathlib.Core.Path.{◌≡◌, refl, sym, ap, ◌∙◌, subst}
use mathlib.Core.List.{List, [], ◌∷◌, ◌++◌, map}
use native.Mathlib.Omega.{arith}
use native.Mathlib.Nat.{mul-div-le, mul-le-mul_left}
use borrow.Author.Tests.{leb-true, le-leb}
use lib.Dec.{leb, eqb}
use lib.ListN.{length, drop, length-map}
use Rattle.wing_node.specs.declared.refusal.Refusal.{Refusal}
use Rattle.wing_node.specs.Bytes.{joined}
use Rattle.wing_node.specs.Signed.{InBits}
use Rattle.wing_node.specs.Utf8.{Decides}
use Rattle.wing_node.proofs.Branches.{branch}
use Rattle.wing_node.proofs.Numerals.Numbers.{digits-take, digits-drop}
use Rattle.wing_wire.specs.Range.{AreBytes}
use Rattle.wing_mirror.specs.Rows.{Table, records, laid, All}
use Rattle.wing_mirror.specs.Entry.{Entry, from_console, ids, rising_ids}
use Rattle.wing_mirror.specs.Layout.{Row, ValidEntry, origin_cleared}
use Rattle.wing_mirror.specs.Record.{width, kind_in, length_in, payload_in, value_in, entry_in, record_of, key_of, well_formed, full}
use Rattle.wing_mirror.specs.Table.{table, rows, places_allowed, checked_of, sound_of, usable_of, usable}
use Rattle.wing_mirror.specs.History.{rank}
use Rattle.wing_mirror.specs.Origins.{SameButOrigins, Taken}
use Rattle.wing_mirror.specs.declared.origin.Origin.TheVariants.{Console}
use Rattle.wing_mirror.proofs.Tables.Chunks.{Wide, records-laid, length-laid, drop-laid, length-records}
use Rattle.wing_mirror.proofs.Tables.Images.{Stands, rising-map, all_map, all-also, every-all}
use Rattle.wing_mirror.proofs.Records.Words.{are-digits}
use Rattle.wing_mirror.proofs.Records.Full.{full-laws}
use Rattle.wing_mirror.proofs.Records.Ids.{rising-ids}
use Rattle.wing_mirror.proofs.Records.Entries.{each, rows_back, rows-rise}
use Rattle.wing_mirror.proofs.Histories.Rebuilt.{console-rises}
use Rattle.wing_mirror.proofs.Histories.Demand.{clear-all}
use Rattle.wing_mirror.proofs.Histories.Aside.{aside-said}
use Rattle.wing_listing.specs.Parts.{ended}
use Rattle.wing_listing.specs.Listing.{header, line_of, listing_of, printed}
use Rattle.wing_listing.specs.Reading.{is_line, entry_said, Reading, good, bad, reading_of}
use Rattle.wing_listing.specs.Calls.{LoadEffect, load_effect, reply_of, load_entries, load_read, load_of}
use Rattle.wing_listing.specs.FirstBad.{PrintedLine}
use Rattle.wing_listing.specs.BothWays.{EqualMirror, PrintsAgain, BothWays}
use Rattle.wing_listing.proofs.Texts.Numbers.{by-test}
use Rattle.wing_listing.proofs.Texts.Lines.{true-false}
use Rattle.wing_listing.proofs.Texts.Said.{DigitBytes, line-formed, line-again}
use Rattle.wing_listing.proofs.Texts.Shown.{digit-bytes, said-printable}
use Rattle.wing_listing.proofs.Texts.Decided.{taken, wrong}
use Rattle.wing_listing.proofs.Texts.Listed.{rises-all, rising-all, Listable, listing-read, listing-said}
use Rattle.std.specs.Prelude.{Err, Ok}
use Rattle.wing_listing.specs.Answers.{Loaded}

-- ---- entries laid into a memory are a usable table that says them

module _ (es : List Entry) (memory : List ℕ) (valid : All (ValidEntry full) es) (rises : rising_ids (ids es) ≡ true)
    (allowed : places_allowed (length memory / width) ≡ true) (few : length es ≤ length memory / width) where
  abbrev recs : List (List ℕ)
  recs = map record_of es

  abbrev left : Table
  left = table (laid width recs memory) (length es)

  wide : Wide width recs
  wide = all_map record_of (ValidEntry full) (λ (r : List ℕ). length r ≡ width) es (λ e p. full-laws.wide e) valid

  many : length recs ≡ length es
  many = length-map es record_of

  room : width * length recs ≤ length memory
  room = omega (arith, many, mul-le-mul_left width few, mul-div-le (length memory) width)

  pub left-rows : rows full left ≡ recs
  unfolding laid
  left-rows = ap (λ n. records width n (laid width recs memory)) (sym many) ∙ records-laid width recs (drop (width * length recs) memory) wide

  pub left-says : map entry_in (rows full left) ≡ es
  left-says = ap (map entry_in) left-rows ∙ go es valid
    where
      go : (fs : List Entry) → All (ValidEntry full) fs → map entry_in (map record_of fs) ≡ fs
      go [] a = refl
      go (f ∷ fs) a = rw (full-laws.said f a.0, go fs a.1)

  stands : All (Stands key_of rank record_of) es
  stands = all-also (ValidEntry full) (Stands key_of rank record_of) es (λ e p. full-laws.placed e p.node) valid

  pub left-usable : usable full left ≡ true
  unfolding usable_of sound_of checked_of
  left-usable =
      let size = length-laid width recs memory wide room in
      rw (
        size,
        allowed,
        le-leb (length es) (length memory / width) few,
        left-rows,
        every-all well_formed recs (all_map record_of (ValidEntry full) (λ (r : List ℕ). well_formed r ≡ true) es (λ e p. full-laws.formed e p.text p.is_kept) valid),
        rising-map key_of rank record_of es stands,
        rising-ids es (all-also (ValidEntry full) (λ (x : Entry). InBits 31 x.id) es (λ x p. p.node) valid),
        rises,
      )

  pub left-rest : drop (width * length es) left.buffer ≡ drop (width * length es) memory
  left-rest = drop-laid width recs memory (width * length es) wide (omega (arith, ap (λ n. width * n) many))

-- ---- a load that is taken

module _ (text memory : List ℕ) (allowed : places_allowed (length memory / width) ≡ true) (short : length text ≤ 65536) where
  pub load-good : (es : List Entry) → reading_of text ≡ good es → length es ≤ length memory / width →
      load_of text memory ≡ load_effect (reply_of (Ok (length es))) (laid width (map record_of es) memory)
  unfolding load_of load_read load_entries
  load-good es g few =
      rw (allowed, le-leb (length text) 65536 short, g, le-leb (length es) (length memory / width) few)

abbrev is_records : Loaded → Bool
is_records (Ok n) = true
is_records (Err b) = false

abbrev records_in : Loaded → ℕ
records_in (Ok n) = n
records_in (Err b) = 0

not-records : {A : Type 0} {why : Refusal} {line n : ℕ} → ◌≡◌ {A = Loaded} (Err (record { why = why; line = line })) (Ok n) → A
not-records e = absurd (true-false (sym (ap is_records e)))

-- what a text is that is loaded
pub record Loads (text memory : List ℕ) (n : ℕ) : Type 0 where
  pub allowed : places_allowed (length memory / width) ≡ true
  pub short : length text ≤ 65536
  pub es : List Entry
  pub reads : reading_of text ≡ good es
  pub few : length es ≤ length memory / width
  pub counted : length es ≡ n

loads-entries : (text memory : List ℕ) (n : ℕ) → places_allowed (length memory / width) ≡ true → length text ≤ 65536 →
    (r : Reading) → reading_of text ≡ r → (load_read r memory).reply.answer ≡ Ok n → Loads text memory n
unfolding load_read load_entries
loads-entries text memory n a s (good es) g e =
    by-test (leb (length es) (length memory / width))
    (λ t. record { allowed = a; short = s; es = es; reads = g; few = leb-true (length es) (length memory / width) t; counted = ap records_in (rw t at e) })
    (λ t. not-records (rw t at e))
loads-entries text memory n a s (bad why line) g e = not-records e

pub loads-only : (text memory : List ℕ) (n : ℕ) → (load_of text memory).reply.answer ≡ Ok n → Loads text memory n
unfolding load_of
loads-only text memory n e =
    by-test (places_allowed (length memory / width))
    (λ a. by-test (leb (length text) 65536)
    (λ s. loads-entries text memory n a (leb-true (length text) 65536 s) (reading_of text) refl (rw (a, s) at e))
    (λ s. not-records (rw (a, s) at e)))
    (λ a. not-records (rw a at e))

-- ---- the two sentences

-- a record's string is of bytes
row-bytes : (r : List ℕ) → Row full r → DigitBytes (value_in r)
unfolding value_in
row-bytes r g =
    branch DigitBytes (eqb (kind_in r) 0) _ _ (λ _. tt)
    (λ _. branch DigitBytes (eqb (kind_in r) 1) _ _ (λ _. tt) (λ _. digits-take 256 (length_in r) (payload_in r) (digits-drop 256 8 r (are-digits r g.bytes))))

-- an origin is not printed
no_origin : (es : List Entry) → listing_of (map from_console es) ≡ listing_of es
unfolding listing_of line_of
no_origin es = ap (λ (l : List (List ℕ)). ended header ++ joined l) (go es)
  where
    go : (es : List Entry) → map (λ (e : Entry). ended (line_of e)) (map from_console es) ≡ map (λ (e : Entry). ended (line_of e)) es
    go [] = refl
    go (e ∷ es) = ap (λ (l : List (List ℕ)). ended (line_of e) ∷ l) (go es)

origins : (t u : Table) → Taken full t → Taken full u → SameButOrigins full t u → printed t ≡ printed u
origins t u a b q =
    sym (no_origin (map entry_in (rows full t))) ∙ ap listing_of (aside-said full-laws t u a b q) ∙ no_origin (map entry_in (rows full u))

-- a valid entry is one whoever gave it
console-valid : (e : Entry) → ValidEntry full e → ValidEntry full (from_console e)
console-valid e p = record { node = p.node; typed = p.typed; text = p.text; is_kept = p.is_kept }

module _ (t : Table) (memory : List ℕ) (bytes : AreBytes t.buffer) (u : usable full t ≡ true) where
  abbrev held : List Entry
  held = map entry_in (rows full t)

  -- 02: what is loaded comes from the console
  abbrev entries : List Entry
  entries = map from_console held

  listable : All Listable entries
  listable = go (rows full t) (each full-laws t bytes u)
    where
      go : (rs : List (List ℕ)) → All (Row full) rs → All Listable (map from_console (map entry_in rs))
      go [] a = tt
      go (r ∷ rs) a = ((console-valid (entry_in r) (full-laws.valid r a.0), unfold entry_in in (row-bytes r a.0), refl), go rs a.1)

  valid : All (ValidEntry full) entries
  valid = all-also Listable (ValidEntry full) entries (λ e p. p.0) listable

  rising : rising_ids (ids entries) ≡ true
  rising =
      sym (rising-ids entries (all-also (ValidEntry full) (λ (x : Entry). InBits 31 x.id) entries (λ x p. p.node) valid)) ∙
      console-rises held (rows-rise full-laws t bytes u)

  many-entries : length entries ≡ t.count
  many-entries = length-map held from_console ∙ length-map (rows full t) entry_in ∙ length-records width t.count t.buffer

  back : length (printed t) ≤ 65536 → places_allowed (length memory / width) ≡ true → t.count ≤ length memory / width → EqualMirror t memory (load_of (printed t) memory)
  back s a f =
      let few : length entries ≤ length memory / width = omega (arith, many-entries) in
      let g : reading_of (printed t) ≡ good entries = ap reading_of (sym (no_origin held)) ∙ listing-read entries listable (rises-all entries rising) in
      let l = load-good (printed t) memory a s entries g few in
      let same : rows full (table (laid width (map record_of entries) memory) (length entries)) ≡ map (origin_cleared full) (rows full t) =
      left-rows entries memory valid rising a few ∙ sym (clear-all full-laws held) ∙ ap (map (origin_cleared full)) (rows_back full-laws t bytes u) in
      subst (EqualMirror t memory) (sym l)
      (record {
        counted = ap Ok many-entries;
        fresh = refl;
        sound = subst (λ n. usable full (table (laid width (map record_of entries) memory) n) ≡ true) many-entries (left-usable entries memory valid rising a few);
        equal = record { counts = refl; records = ap (λ n. rows full (table (laid width (map record_of entries) memory) n)) (sym many-entries) ∙ same };
        rest = subst (λ n. drop (width * n) (laid width (map record_of entries) memory) ≡ drop (width * n) memory) many-entries (left-rest entries memory valid rising a few);
      })

again : (text memory : List ℕ) (n : ℕ) → (load_of text memory).reply.answer ≡ Ok n → PrintsAgain text (load_of text memory) n
again text memory n e =
    let l = loads-only text memory n e in
    let es = l.es in
    let s = listing-said text es l.reads in
    let up = rising-all es s.2 in
    let f = load-good text memory l.allowed l.short es l.reads l.few in
    subst (λ (x : LoadEffect). PrintsAgain text x n) (sym f)
    (subst (PrintsAgain text (load_effect (reply_of (Ok (length es))) (laid width (map record_of es) memory))) l.counted
    (record {
      sound = left-usable es memory s.1 up l.allowed l.few;
      prints = ap listing_of (left-says es memory s.1 up l.allowed l.few) ∙ s.0;
      origins = subst (All (λ (x : Entry). x.origin ≡ Console)) (sym (left-says es memory s.1 up l.allowed l.few)) s.4;
    }))

pub loaded-rest : (text memory : List ℕ) (n : ℕ) → (load_of text memory).reply.answer ≡ Ok n → drop (width * n) (load_of text memory).memory ≡ drop (width * n) memory
loaded-rest text memory n e =
    let l = loads-only text memory n e in
    let s = listing-said text l.es l.reads in
    let f = load-good text memory l.allowed l.short l.es l.reads l.few in
    subst (λ (x : LoadEffect). drop (width * n) x.memory ≡ drop (width * n) memory) (sym f)
    (subst (λ m. drop (width * m) (laid width (map record_of l.es) memory) ≡ drop (width * m) memory) l.counted (left-rest l.es memory s.1 (rising-all l.es s.2) l.allowed l.few))

form : (line : List ℕ) → Decides (is_line line) (PrintedLine line)
form line =
    record {
      right = λ e. record { e = entry_said line; printable = said-printable line e; prints = line-again line e };
      whole = λ p. ap is_line (sym p.prints) ∙ line-formed p.e p.printable.node p.printable.typed (digit-bytes p.e.value p.printable.bytes);
    }

pub both_ways : BothWays
both_ways = record { form = form; taken = taken; wrong = wrong; back = back; origins = origins; again = again }

-- What is promised of a listing (02), printed and loaded, by each call's arguments, its answer and the lent buffer after it.
use Rattle.std.specs.Prelude.{ℕ, ◌*◌, ◌/◌, ◌≤◌, true, not, ◌≡◌, ◌⊎◌, ◌↔◌, List, [], ◌∷◌, ◌++◌, map, leb, ℤ, length, take, drop, Ok, Err}
use Rattle.wing_node.specs.Refusal.{good_beside, no_fault, because}
use Rattle.wing_node.specs.Utf8.{utf8, good as good_of}
use Rattle.wing_node.specs.Value.{NodeValue, integer, float, string}
use Rattle.wing_node.specs.declared.refusal.Refusal.{Refusal}
use Rattle.wing_node.specs.Result.{refused, Result}
use Rattle.wing_wire.specs.State.{fresh_state}
use Rattle.wing_wire.specs.Write.{write_effect}
use Rattle.wing_mirror.specs.Rows.{Table, Found, All, In}
use Rattle.wing_mirror.specs.Entry.{Entry}
use Rattle.wing_mirror.specs.Record.{width, entry_in, full}
use Rattle.wing_mirror.specs.Table.{table, rows, places_allowed, usable}
use Rattle.wing_mirror.specs.declared.origin.Origin.TheVariants.{Console}
use Rattle.wing_listing.specs.Listing.{printed}
use Rattle.wing_listing.specs.Reading.{Reading, good, bad, above, reading_of, entries_in}
use Rattle.wing_listing.specs.FirstBad.{entry_fault, BadHeader, BadForm, FirstBad}
use Rattle.wing_listing.specs.Calls.{load_effect, print_of, load_of}
use Rattle.wing_listing.specs.Answers.{loaded_result, line_in}
use Rattle.wing_listing.specs.BothWays.{EqualMirror}
use Rattle.wing_listing.specs.declared.answer.LoadReply.{LoadReply}
use Rattle.promises.specs.Refusals.{string_wrong, no_place, table_unsound, string_long, number_over, line_wrong, id_not_above}
use Rattle.promises.specs.Lines.{Line, ◌gives◌, sends, Answers}
use Rattle.promises.specs.Wire.{command_lines, Writes}

-- print: the table, too short an output
abbrev pub print_lines : Table → List ℕ → List Line
print_lines t out = (not (usable full t) gives table_unsound) ∷ command_lines (printed t) out

-- what is wrong with the first bad line, if any is
unfoldable pub reading_fault : Reading → Line
reading_fault (good es) = no_fault
reading_fault (bad why line) = because why

-- 02: load: 7 by the places alone and 14, then the first bad line, and 6 only when no line is bad
abbrev pub load_lines : List ℕ → List ℕ → List Line
load_lines text memory =
    (not (places_allowed (length memory / width)) gives table_unsound) ∷
    (not (leb (length text) 65536) gives number_over) ∷
    reading_fault (reading_of text) ∷
    (not (leb (length (entries_in (reading_of text))) (length memory / width)) gives no_place) ∷ []

-- 02: a string over 256 bytes, then one that isn't UTF-8, with its good
abbrev pub text_lines : NodeValue → List Line
text_lines (integer x) = []
text_lines (float bits) = []
text_lines (string s) = (not (leb (length s) 256) gives string_long) ∷ (not (utf8 s) gives string_wrong (good_of s)) ∷ []

-- 02: within a line in form, by its entry: an id not above the one before, then what is wrong with a string
abbrev pub entry_lines : Found ℤ → Entry → List Line
entry_lines before e = (not (above before e.id) gives id_not_above) ∷ text_lines e.value

-- print
pub record PrintCall (t : Table) (out : List ℕ) (answer : Result ℕ) (after : List ℕ) : Type 0 where
  -- demand 1: 7, 9; else the listing, n bytes, and the output past it as it was
  pub writes : Writes (print_lines t out) (printed t) out answer after (Unit {0})
  pub counted : (n : ℕ) → answer ≡ Ok n → n ≡ length (printed t)
  -- 02: loading what was printed in at most 65,536 bytes, into 1 to 1,024 places and at least as many as it has records, gives an equal mirror, the
  -- origin set aside, with a fresh decoder, whatever the memory held
  pub loads : (n : ℕ) → answer ≡ Ok n → n ≤ 65536 → (memory : List ℕ) → places_allowed (length memory / width) ≡ true → t.count ≤ length memory / width →
      EqualMirror t memory (load_of (take n after) memory)
  -- the same in figures: 1 to 1,024 places of 264 bytes each
  pub loads_in_places : (n : ℕ) → answer ≡ Ok n → n ≤ 65536 → (memory : List ℕ) → 1 ≤ length memory / 264 → length memory / 264 ≤ 1024 → t.count ≤ length memory / 264 →
      EqualMirror t memory (load_of (take n after) memory)
  -- it is the call that BothWays of wing_listing's specs/ speaks of
  pub same : write_effect answer after ≡ print_of t out

-- load
pub record LoadCall (text memory : List ℕ) (reply : LoadReply) (after : List ℕ) : Type 0 where
  -- demand 1: 7, 14, 17, 18, 10, 1, 6, and then the table memory is untouched; else the number of the text's entries
  pub answered : Answers (load_lines text memory) (length (entries_in (reading_of text))) (loaded_result reply.answer) (after ≡ memory)
  -- 02: a load is refused with 7, 14, 17, 18, 10, 1 with the string's good, or 6, and no other
  pub no_other : (why : Refusal) → loaded_result reply.answer ≡ refused why →
      In why (table_unsound ∷ number_over ∷ line_wrong ∷ id_not_above ∷ string_long ∷ string_wrong (good_beside why) ∷ no_place ∷ [])
  -- 02: after 7 and 14 the first bad line decides, and no other: what is wrong with it, and which line it is
  pub first : (why : Refusal) (line : ℕ) → places_allowed (length memory / width) ≡ true → length text ≤ 65536 →
      (((reply.answer ≡ Err (record { why = why; line = line })) × (line ≡ 0 → ⊥)) ↔ FirstBad text why line)
  -- 02: the places that a load takes are 1 to 1,024 of 264 bytes each
  pub allowed : places_allowed (length memory / width) ≡ true ↔ ((1 ≤ length memory / 264) × (length memory / 264 ≤ 1024))
  -- 02: a header or line out of form is 17
  pub form : (why : Refusal) (line : ℕ) → BadHeader text why line ⊎ BadForm text why line → why ≡ line_wrong
  -- 02: within a line in form 18, 10, 1
  pub within : (before : Found ℤ) (e : Entry) (why : Refusal) → (entry_fault before e ≡ because why) ↔ (sends (entry_lines before e) ≡ refused why)
  -- 7, 14 and 6 are about no line
  pub no_line : (why : Refusal) → loaded_result reply.answer ≡ refused why → ((why ≡ table_unsound) ⊎ ((why ≡ number_over) ⊎ (why ≡ no_place))) → line_in reply.answer ≡ 0
  -- 02: a fresh decoder
  pub fresh : reply.state ≡ fresh_state
  -- the table is sound, and the bytes past its last record are as they were
  pub sound : (n : ℕ) → reply.answer ≡ Ok n → usable full (table after n) ≡ true
  pub rest : (n : ℕ) → reply.answer ≡ Ok n → drop (width * n) after ≡ drop (width * n) memory
  -- 02: its origins are 0
  pub origins : (n : ℕ) → reply.answer ≡ Ok n → All (λ (e : Entry). e.origin ≡ Console) (map entry_in (rows full (table after n)))
  -- 02: printing a loaded text gives its bytes again
  pub prints : (n : ℕ) → reply.answer ≡ Ok n → (out : List ℕ) → length text ≤ length out →
      print_of (table after n) out ≡ write_effect (Ok (length text)) (text ++ drop (length text) out)
  -- it is the call that BothWays of wing_listing's specs/ speaks of
  pub same : load_effect reply after ≡ load_of text memory

-- The numbers of a bad line: 17, 18, 10 and 1, and no other.
use Prim.Native.Nat.{ℕ, suc}
use mathlib.Core.Path.{◌≡◌, refl}
use mathlib.Core.Logic.{◌⊎◌, inl, inr}
use mathlib.Core.List.{List, [], ◌∷◌}
use lib.Dec.{eqb}
use lib.IntN.{ℤ}
use lib.ListN.{length}
use Rattle.wing_node.specs.declared.refusal.Refusal.TheVariants.{StringNotUtf8, IdNotAbove, LineWrong, StringLong}
use Rattle.wing_node.specs.declared.refusal.Refusal.{Refusal}
use Rattle.wing_node.specs.Refusal.{good_beside, string_not_utf8, no_fault, because, Fault}
use Rattle.wing_node.specs.Bool.{if}
use Rattle.wing_node.specs.Value.{NodeValue}
use Rattle.wing_node.proofs.Branches.{branch}
use Rattle.wing_mirror.specs.Rows.{Found, found, nothing}
use Rattle.wing_mirror.specs.Entry.{Entry}
use Rattle.wing_mirror.specs.Call.{text_in, too_long, not_text}
use Rattle.wing_mirror.specs.Query.{same_bytes}
use Rattle.wing_listing.specs.Parts.{newline, parted}
use Rattle.wing_listing.specs.Listing.{header}
use Rattle.wing_listing.specs.Reading.{is_line, id_said, entry_said, above, value_fault, line_fault, Reading, good, bad, after, unless_bad, lines_from, after_header, reading_of}
use Rattle.std.specs.Prelude.{Ok, Err}

-- one of the four
abbrev pub Wrong : Refusal → Type 0
Wrong why = (why ≡ LineWrong) ⊎ ((why ≡ IdNotAbove) ⊎ ((why ≡ StringLong) ⊎ (why ≡ StringNotUtf8 (good_beside why))))

abbrev pub Known : Reading → Type 0
Known (good es) = Unit {0}
Known (bad why line) = Wrong why

-- nothing is wrong, or it is one of the four
abbrev Judged : Fault → Type 0
Judged (Ok u) = Unit {0}
Judged (Err why) = Wrong why

known-line : (before : Found ℤ) (line : List ℕ) → Judged (line_fault before line)
unfolding line_fault value_fault
known-line before line =
    branch Judged (is_line line) _ (because LineWrong) (λ _. branch Judged (above before (id_said line)) _ (because IdNotAbove) (λ _. known-value (entry_said line).value) (λ _. inr (inl refl))) (λ _. inl refl)
  where
    known-value : (v : NodeValue) → Judged (if (too_long v) (because StringLong) (if (not_text v) (because (string_not_utf8 (text_in v))) no_fault))
    known-value v =
        branch Judged (too_long v) (because StringLong) _ (λ _. inr (inr (inl refl))) (λ _. branch Judged (not_text v) (because (string_not_utf8 (text_in v))) no_fault (λ _. inr (inr (inr refl))) (λ _. tt))

known-after : (e : Entry) (r : Reading) → Known r → Known (after e r)
unfolding after
known-after e (good es) w = tt
known-after e (bad why line) w = w

known-unless : (f : Fault) (n : ℕ) (rest : Reading) → Judged f → Known rest → Known (unless_bad f n rest)
known-unless (Ok u) n rest j k = k
known-unless (Err why) n rest j k = j

known-lines : (n : ℕ) (before : Found ℤ) (ps : List (List ℕ)) → Known (lines_from n before ps)
unfolding lines_from
known-lines n before [] = tt
known-lines n before (rest ∷ []) = branch Known (eqb (length rest) 0) (good []) (bad LineWrong n) (λ _. tt) (λ _. inl refl)
known-lines n before (line ∷ next ∷ lines) =
    known-unless (line_fault before line) n (after (entry_said line) (lines_from (suc n) (found (id_said line)) (next ∷ lines))) (known-line before line)
    (known-after (entry_said line) (lines_from (suc n) (found (id_said line)) (next ∷ lines)) (known-lines (suc n) (found (id_said line)) (next ∷ lines)))

known-header : (ps : List (List ℕ)) → Known (after_header ps)
unfolding after_header
known-header [] = inl refl
known-header (rest ∷ []) = inl refl
known-header (line ∷ next ∷ lines) =
    branch Known (same_bytes line header) (lines_from 2 nothing (next ∷ lines)) (bad LineWrong 1) (λ _. known-lines 2 nothing (next ∷ lines)) (λ _. inl refl)

pub known-reading : (text : List ℕ) → Known (reading_of text)
unfolding reading_of
known-reading text = known-header (parted newline text)

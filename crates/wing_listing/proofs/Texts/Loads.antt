-- A load by its steps: what is wrong with the text, the records laid, the answer.
use Prim.Native.Nat.{ℕ, ◌*◌, ◌/◌, ◌≤◌}
use mathlib.Core.Path.{◌≡◌, ap, ◌∙◌, sym, refl}
use mathlib.Core.List.{List, map}
use native.Mathlib.Omega.{arith}
use native.Mathlib.Nat.{mul-div-le, mul-le-mul_left}
use borrow.Author.Tests.{leb-true}
use lib.Dec.{leb}
use lib.ListN.{length, take}
use lib.Seq.{take-length}
use Rattle.wing_wire.specs.State.{fresh_state}
use Rattle.wing_wire.specs.declared.state.State.{State}
use Rattle.wing_mirror.specs.Rows.{laid}
use Rattle.wing_mirror.specs.Entry.{Entry}
use Rattle.wing_mirror.specs.Record.{width, record_of}
use Rattle.wing_mirror.specs.Table.{places_allowed}
use Rattle.wing_listing.specs.Reading.{Reading, good, bad, reading_of, entries_in}
use Rattle.wing_listing.specs.Steps.{scanned_as, fitting, checked_as}
use Rattle.wing_listing.specs.Calls.{LoadEffect, load_effect, reply_of, load_entries, load_read, load_of}
use Rattle.wing_listing.proofs.Texts.Numbers.{by-test}
use Rattle.std.specs.Prelude.{Err, Ok, is_ok}
use Rattle.wing_listing.specs.Answers.{Loaded}
use mathlib.Core.Bool.{true≢false}
use Rattle.wing_listing.specs.declared.answer.BadLine.{BadLine}

-- ---- the steps

module _ (memory : List ℕ) where
  -- what is left of a text that was checked
  abbrev leaves : Loaded → List Entry → LoadEffect
  leaves (Ok n) es = load_effect (reply_of (Ok n)) (laid width (map record_of (take n es)) memory)
  leaves (Err b) es = load_effect (reply_of (Err b)) memory

  read-steps : (r : Reading) → leaves (fitting (scanned_as r) (length memory / width)) (entries_in r) ≡ load_read r memory
  unfolding fitting scanned_as entries_in load_read load_entries
  read-steps (good es) =
      by-test (leb (length es) (length memory / width))
      (λ t. rw t (ap (λ (fs : List Entry). load_effect (reply_of (Ok (length es))) (laid width (map record_of fs) memory)) (take-length es)))
      (λ t. rw t)
  read-steps (bad why line) = refl

  pub load-steps : (text : List ℕ) → leaves (checked_as text (length memory / width)) (entries_in (reading_of text)) ≡ load_of text memory
  unfolding checked_as load_of
  load-steps text =
      by-test (places_allowed (length memory / width))
      (λ a. by-test (leb (length text) 65536)
      (λ s. rw (a, s) (read-steps (reading_of text)))
      (λ s. rw (a, s)))
      (λ a. rw a)

-- how many are to be laid
abbrev count_of : Loaded → ℕ
count_of (Ok n) = n
count_of (Err b) = 0

-- the records to be laid are there, and have room
few-read : (r : Reading) (places n : ℕ) → fitting (scanned_as r) places ≡ Ok n → (n ≤ length (entries_in r)) × (n ≤ places)
unfolding fitting scanned_as entries_in
few-read (good es) places n e =
    by-test (leb (length es) places)
    (λ t. let z : length es ≡ n = ap count_of (rw t at e) in let k = leb-true (length es) places t in (omega (arith, z), omega (arith, z, k)))
    (λ t. absurd (true≢false (sym (ap is_ok (rw t at e)))))
few-read (bad why line) places n e = absurd (true≢false (sym (ap is_ok e)))

pub few-checked : (text : List ℕ) (places n : ℕ) → checked_as text places ≡ Ok n → (n ≤ length (entries_in (reading_of text))) × (n ≤ places)
unfolding checked_as
few-checked text places n e =
    by-test (places_allowed places)
    (λ a. by-test (leb (length text) 65536)
    (λ s. few-read (reading_of text) places n (rw (a, s) at e))
    (λ s. absurd (true≢false (sym (ap is_ok (rw (a, s) at e))))))
    (λ a. absurd (true≢false (sym (ap is_ok (rw a at e)))))

pub room-checked : (count : ℕ) (memory : List ℕ) → count ≤ length memory / width → width * count ≤ length memory
room-checked count memory h = omega (arith, mul-le-mul_left width h, mul-div-le (length memory) width)

-- what is left of a text whose records are laid, and of one that is sent back
pub laid-leaves : (memory m : List ℕ) (es : List Entry) (a : Loaded) (n : ℕ) → a ≡ Ok n → m ≡ laid width (map record_of (take n es)) memory →
    load_effect (reply_of a) m ≡ leaves memory a es
laid-leaves memory m es a n e h = rw (e, h)

pub back-leaves : (memory m : List ℕ) (es : List Entry) (a : Loaded) (b : BadLine) → a ≡ Err b → m ≡ memory → load_effect (reply_of a) m ≡ leaves memory a es
back-leaves memory m es a b e h = rw (e, h)

-- from what the calls say
pub load-done : (text memory : List ℕ) (a : Loaded) (state : State) (m : List ℕ) → a ≡ checked_as text (length memory / width) → state ≡ fresh_state →
    load_effect (reply_of a) m ≡ leaves memory a (entries_in (reading_of text)) → load_effect (record { answer = a; state = state }) m ≡ load_of text memory
load-done text memory a state m e g h =
    ap (λ (t : State). load_effect (record { answer = a; state = t }) m) g ∙ h ∙
    ap (λ (x : Loaded). leaves memory x (entries_in (reading_of text))) e ∙ load-steps memory text

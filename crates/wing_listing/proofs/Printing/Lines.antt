-- A table's lines, record by record: how long they are at most, and what the listing is that a print leaves.
use Prim.Native.Nat.{ℕ, zero, suc, ◌+◌, ◌*◌, ◌≤◌, ◌<◌}
use mathlib.Core.Bool.{true, false}
use mathlib.Core.Path.{◌≡◌, ◌∙◌, ap}
use mathlib.Core.List.{List, [], ◌++◌}
use native.Mathlib.Omega.{arith}
use lib.ListN.{length, length-append}
use lib.Seq.{sets}
use Rattle.wing_node.specs.Bytes.{joined}
use Rattle.wing_wire.specs.Write.{write_effect, write_of}
use Rattle.wing_mirror.specs.Rows.{Table, records}
use Rattle.wing_mirror.specs.Record.{entry_in, full}
use Rattle.wing_mirror.specs.Table.{rows, row_at, usable}
use Rattle.wing_mirror.proofs.Tables.Tests.{from, from_all, from_next, from-none}
use Rattle.wing_mirror.proofs.Tables.Chunks.{row_fits, row-wide}
use Rattle.wing_mirror.proofs.Records.Usables.{room}
use Rattle.wing_mirror.proofs.Calls.Sends.{row-formed}
use Rattle.wing_listing.specs.Parts.{ended}
use Rattle.wing_listing.specs.Listing.{header, line_of, listing_of, printed}
use Rattle.wing_listing.specs.Steps.{lines_of}
use Rattle.wing_listing.specs.Calls.{print_of}
use Rattle.wing_listing.proofs.Printing.Values.{line-le}
use Rattle.wing_node.specs.declared.refusal.Refusal.TheVariants.{TableUnsound}
use Rattle.std.specs.Prelude.{Err}

-- ---- the records one by one

-- the line of the record of a number
abbrev pub line_at : ℕ → List ℕ → List ℕ
line_at i b = ended (line_of (entry_in (row_at i b)))

-- the lines of the records from the i-th on
abbrev pub left : ℕ → ℕ → List ℕ → List ℕ
left n i b = lines_of (from 264 n i b)

pub left-all : (n : ℕ) (b : List ℕ) → lines_of (records 264 n b) ≡ left n 0 b
left-all n b = ap lines_of (from_all 264 n b)

pub left-next : (n i : ℕ) (b : List ℕ) → i < n → left n i b ≡ line_at i b ++ left n (i + 1) b
unfolding joined
left-next n i b h = ap lines_of (from_next 264 n i b h)

pub left-none : (n i : ℕ) (b : List ℕ) → n ≤ i → left n i b ≡ []
unfolding joined
left-none n i b h = ap lines_of (from-none 264 n i b h)

pub left_less : (n i : ℕ) (b : List ℕ) → i < n → length (left n i b) ≡ length (line_at i b) + length (left n (i + 1) b)
left_less n i b h = ap length (left-next n i b h) ∙ length-append (line_at i b) (left n (i + 1) b)

module _ (t : Table) (u : usable full t ≡ true) where
  -- the bytes of a record
  pub row_in : (i : ℕ) → i < t.count → 264 * i + 264 ≤ length t.buffer
  row_in i h = row_fits 264 i t.count (length t.buffer) h (room full t u)

  pub row-le : (i : ℕ) → i < t.count → length (line_at i t.buffer) ≤ 527
  row-le i h = line-le (row_at i t.buffer) (row-wide 264 i t.buffer (row_in i h)) (row-formed t u i h)

  left_le : (k i : ℕ) → i + k ≡ t.count → length (left t.count i t.buffer) ≤ 527 * k
  left_le zero i e = rw (left-none t.count i t.buffer (omega arith)) (omega arith)
  left_le (suc k) i e = omega (arith, left_less t.count i t.buffer (omega arith), row-le i (omega arith), left_le k (i + 1) (omega arith))

  -- no more than 527 bytes for each record
  pub lines-le : length (lines_of (rows full t)) ≤ 527 * t.count
  lines-le = omega (arith, left_le t.count 0 (omega arith), ap length (left-all t.count t.buffer))

-- ---- the whole

module _ (t : Table) where
  -- 01: the header's line, then the lines
  pub printed-size : length (printed t) ≡ 14 + length (lines_of (rows full t))
  unfolding listing_of
  printed-size = omega arith

  pub listed : (d h : List ℕ) → h ≡ sets d 0 (ended header) → sets h 14 (lines_of (rows full t)) ≡ sets d 0 (printed t)
  unfolding listing_of
  listed d h e = rw e

  pub print-usable : (out : List ℕ) → usable full t ≡ true → write_of (printed t) out ≡ print_of t out
  unfolding print_of
  print-usable out u = rw u

  pub print-unusable : (out : List ℕ) → usable full t ≡ false → write_effect (Err TableUnsound) out ≡ print_of t out
  unfolding print_of
  print-unusable out u = rw u

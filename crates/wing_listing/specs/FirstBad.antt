-- 02: the first bad line decides. Which texts are taken, which line is the first bad one and what is wrong with it, told by printed lines alone.
use Rattle.std.specs.Prelude.{ℕ, ◌+◌, true, ◌≡◌, ◌⊎◌, List, [], ◌∷◌, ◌++◌, ℤ, length}
use Rattle.wing_node.specs.declared.refusal.Refusal.{Refusal}
use Rattle.wing_node.specs.Refusal.{because, Fault}
use Rattle.wing_node.specs.Bool.{if}
use Rattle.wing_node.specs.Signed.{InBits}
use Rattle.wing_node.specs.Value.{NodeValue, integer, float, string}
use Rattle.wing_wire.specs.Range.{AreBytes}
use Rattle.wing_mirror.specs.Rows.{Found, found, nothing, All}
use Rattle.wing_mirror.specs.Entry.{Entry, Typed, ids, rising_ids}
use Rattle.wing_mirror.specs.Layout.{ValidEntry}
use Rattle.wing_mirror.specs.Record.{full}
use Rattle.wing_mirror.specs.declared.origin.Origin.TheVariants.{Console}
use Rattle.wing_listing.specs.Parts.{ended}
use Rattle.wing_listing.specs.Listing.{header, line_of, listing_of}
use Rattle.wing_listing.specs.Reading.{above, value_fault}
use Rattle.wing_node.specs.declared.refusal.Refusal.TheVariants.{IdNotAbove, LineWrong}

-- a string's bytes are bytes
abbrev pub Bytewise : NodeValue → Type 0
Bytewise (integer x) = Unit {0}
Bytewise (float bits) = Unit {0}
Bytewise (string s) = AreBytes s

-- an entry that can be printed: id and numbers have 32 bits and a string is of bytes, as the types of the code have them
pub record Printable (e : Entry) : Type 0 where
  pub node : InBits 31 e.id
  pub typed : Typed e.value
  pub bytes : Bytewise e.value

-- a line that is printed of some entry
pub record PrintedLine (line : List ℕ) : Type 0 where
  pub e : Entry
  pub printable : Printable e
  pub prints : line_of e ≡ line

-- entries that a table takes, in rising order of their ids, all with origin 0
pub record TakenEntries (es : List Entry) : Type 0 where
  pub valid : All (ValidEntry full) es
  pub bytes : All (λ (e : Entry). Bytewise e.value) es
  pub rises : rising_ids (ids es) ≡ true
  pub origins : All (λ (e : Entry). e.origin ≡ Console) es

-- the last id of entries, or one before them
unfoldable pub last_id : Found ℤ → List Entry → Found ℤ
last_id before [] = before
last_id before (e ∷ es) = last_id (found e.id) es

-- 02: an id not above the one before is 18, then 10, then 1
unfoldable pub entry_fault : Found ℤ → Entry → Fault
entry_fault before e = if (above before e.id) (value_fault e.value) (because IdNotAbove)

-- the text does not begin with the header: 17, line 1
pub record BadHeader (text : List ℕ) (why : Refusal) (line : ℕ) : Type 0 where
  pub none : (rest : List ℕ) → ended header ++ rest ≡ text → ⊥
  pub number : why ≡ LineWrong
  pub first : line ≡ 1

-- after the header and good lines there is more, and it does not begin with the line of any entry: 17
pub record BadForm (text : List ℕ) (why : Refusal) (line : ℕ) : Type 0 where
  pub es : List Entry
  pub rest : List ℕ
  pub taken : TakenEntries es
  pub begins : listing_of es ++ rest ≡ text
  pub more : rest ≡ [] → ⊥
  pub none : (e : Entry) (after : List ℕ) → Printable e → ended (line_of e) ++ after ≡ rest → ⊥
  pub number : why ≡ LineWrong
  pub next : line ≡ length es + 2

-- after the header and good lines comes the line of an entry that is wrong there: 18, 10, 1 with its good
pub record BadEntry (text : List ℕ) (why : Refusal) (line : ℕ) : Type 0 where
  pub es : List Entry
  pub e : Entry
  pub after : List ℕ
  pub taken : TakenEntries es
  pub printable : Printable e
  pub begins : listing_of es ++ (ended (line_of e) ++ after) ≡ text
  pub fault : entry_fault (last_id nothing es) e ≡ because why
  pub next : line ≡ length es + 2

-- 02: the first bad line and its number
abbrev pub FirstBad : List ℕ → Refusal → ℕ → Type 0
FirstBad text why line = BadHeader text why line ⊎ (BadForm text why line ⊎ BadEntry text why line)

-- 01, Escapes: the decoder turns bytes into units.
use Rattle.std.specs.Prelude.{ℕ, ◌+◌, Bool, true, false, ◌≡◌, ℤ, drop, List, [], ◌∷◌, ◌++◌, Option, None, Some}
use Rattle.wing_node.specs.Bool.{if}
use Rattle.wing_wire.specs.State.{escape, control}
use Rattle.wing_wire.specs.Escape.{decode_of, decode_next_of}
use Rattle.wing_wire.specs.Unit.{unit_of}
use Rattle.wing_wire.specs.Stream.{after_unit, Fed, handle}
use Rattle.wing_wire.specs.declared.state.Escape.{Escape}
use Rattle.wing_wire.specs.declared.escape.Unit.{Unit}
use Rattle.wing_wire.specs.declared.escape.Unit.TheVariants.{Nothing, Bare, Appended}
use Rattle.wing_wire.specs.declared.unit.Answer.{Answer}

-- a unit, and whether it is appended to a body
pub record StreamUnit : Type 0 where
  pub unit : ℕ
  pub appended : Bool

-- a unit by its value and whether it is appended
abbrev pub stream_unit : ℕ → Bool → StreamUnit
stream_unit unit appended = record { unit = unit; appended = appended }

-- the units of bytes in their order, and the escapes after them
pub record Units : Type 0 where
  pub units : List StreamUnit
  pub escape : Escape

-- units by their list and the escapes after them
abbrev pub units : List StreamUnit → Escape → Units
units us e = record { units = us; escape = e }

-- 01: a pending byte is the next unit and is appended to the body
abbrev pub pending_units : Option ℕ → List StreamUnit
pending_units None = []
pending_units (Some u) = stream_unit u true ∷ []

-- the unit that a byte gives, if it gives one
abbrev pub byte_units : Unit → List StreamUnit
byte_units Nothing = []
byte_units (Bare u) = stream_unit u false ∷ []
byte_units (Appended u) = stream_unit u true ∷ []

-- the escapes once the pending byte is a unit
abbrev pub settled : Escape → Escape
settled e = escape e.escaped e.channel None

-- 01: the pending byte first, then what each byte gives; a byte that becomes pending is the unit before that of the next byte
unfoldable pub units_of : Escape → List ℕ → Units
units_of e [] = units (pending_units e.pending) (settled e)
units_of e (b ∷ bs) =
    let d = decode_of (settled e) b in
    let rest = units_of d.escape bs in
    units (pending_units e.pending ++ (byte_units d.unit ++ rest.units)) rest.escape

-- the units of the bytes from the place n on are the one that a step of the decoder gives, if it gives one, and those of the bytes after it
abbrev pub UnitsByStep : Type 0
UnitsByStep = (e : Escape) (bytes : List ℕ) (n : ℕ) →
    units_of e (drop n bytes) ≡
    (let d = decode_next_of e bytes n in
    let rest = units_of d.escape (drop d.at bytes) in
    units (byte_units d.unit ++ rest.units) rest.escape)

-- 1 for a pending byte
abbrev pub pending_count : Option ℕ → ℕ
pending_count None = 0
pending_count (Some u) = 1

-- how many units the escapes may still give without a byte of their own: 1 if escaped, 1 if a byte is pending
abbrev pub weight : Escape → ℕ
weight e = (if e.escaped 1 0) + pending_count e.pending

-- ---- units through every answer

-- the same, with other escapes
abbrev pub with_escape : {M : Type 0} → Escape → Fed M → Fed M
with_escape e x = record { control = control e x.control.node x.control.token; store = x.store; memo = x.memo }

module _ {M : Type 0} (h : ℤ → Answer → List ℕ → M → M) where
  -- one unit for the token in progress; the escapes stay
  abbrev pub unit_taken : Fed M → StreamUnit → Fed M
  unit_taken x g = handle h (after_unit x.control.escape (unit_of x.control.node x.control.token x.store g.unit g.appended)) x.memo

  -- units one after the other
  unfoldable pub units_taken : Fed M → List StreamUnit → Fed M
  units_taken x [] = x
  units_taken x (g ∷ gs) = units_taken (unit_taken x g) gs

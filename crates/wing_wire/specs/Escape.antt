-- 01, Escapes: the decoder turns bytes into units; here the next unit, with the escapes after it.
use Rattle.std.specs.Prelude.{ℕ, ◌+◌, ◌-◌, true, false, ◌≡◌, List, ltb, eqb, pos, length, get_or, Option, None, Some}
use Rattle.std.specs.Int.Signed.{lt_z}
use Rattle.wing_node.specs.Bool.{if}
use Rattle.wing_wire.specs.State.{escape, sound_escape}
use Rattle.wing_wire.specs.declared.state.Escape.{Escape}
use Rattle.wing_wire.specs.declared.escape.Unit.{Unit}
use Rattle.wing_wire.specs.declared.escape.Unit.TheVariants.{Nothing, Bare, Appended}
use Rattle.wing_wire.specs.declared.escape.Decoded.{Decoded}
use Rattle.wing_wire.specs.declared.escape.NextUnit.{NextUnit}

-- the escapes after a byte, and its unit
abbrev pub decoded : Escape → Unit → Decoded
decoded e u = record { escape = e; unit = u }

-- the same channel, unescaped
abbrev pub ended : Escape → Escape
ended e = escape false e.channel e.pending

-- 01, others: with channel 0 or more, unit df, appended, and the byte is pending; with channel −1 the byte alone, appended
unfoldable pub other_of : Escape → ℕ → Decoded
other_of e b =
    if (lt_z e.channel (pos 0)) (decoded (ended e) (Appended b))
    (decoded (escape false e.channel (Some b)) (Appended 0xdf))

-- 01: df: unit df, still escaped, nothing appended. Anything else ends escaped: de: unit df, appended; d0 to dd: channel becomes byte − d0, no unit
unfoldable pub escaped_of : Escape → ℕ → Decoded
escaped_of e b =
    if (eqb b 0xdf) (decoded e (Bare 0xdf))
    (if (eqb b 0xde) (decoded (ended e) (Appended 0xdf))
    (if (ltb b 0xd0) (other_of e b)
    (if (ltb b 0xde) (decoded (escape false (pos (b - 0xd0)) e.pending) Nothing)
    (other_of e b))))

-- 01: unescaped: df sets escaped; any other byte is a unit, appended
unfoldable pub plain_of : Escape → ℕ → Decoded
plain_of e b = if (eqb b 0xdf) (decoded (escape true e.channel e.pending) Nothing) (decoded e (Appended b))

-- one byte, where nothing is pending: by whether the escapes are escaped
unfoldable pub decode_of : Escape → ℕ → Decoded
decode_of e b = if e.escaped (escaped_of e b) (plain_of e b)

-- the escapes, the next unit, if there is one, and the place of the byte after it
abbrev pub next_unit : Escape → Unit → ℕ → NextUnit
next_unit e u n = record { escape = e; unit = u; at = n }

-- the byte at the place, if there is one, is taken and gives its unit or none
unfoldable pub byte_next : Escape → List ℕ → ℕ → NextUnit
byte_next e bytes n =
    if (ltb n (length bytes)) (next_unit (decode_of e (get_or bytes n 0)).escape (decode_of e (get_or bytes n 0)).unit (n + 1))
    (next_unit e Nothing n)

-- 01: a pending byte is the next unit and is appended to the body: no byte is taken, and nothing is pending after it
abbrev pub pending_next : Option ℕ → Escape → List ℕ → ℕ → NextUnit
pending_next None e bytes n = byte_next e bytes n
pending_next (Some u) e bytes n = next_unit (escape e.escaped e.channel None) (Appended u) n

-- 01: the decoder turns bytes into units: one step of it from the place n on
unfoldable pub decode_next_of : Escape → List ℕ → ℕ → NextUnit
decode_next_of e bytes n = pending_next e.pending e bytes n

-- 01: channel −1 to 13, and a pending byte only when unescaped with channel at least 0: where that holds, it holds after a step, whatever the bytes
abbrev pub DecodeNextSound : Type 0
DecodeNextSound =
    (e : Escape) (bytes : List ℕ) (n : ℕ) → sound_escape e ≡ true → sound_escape (decode_next_of e bytes n).escape ≡ true

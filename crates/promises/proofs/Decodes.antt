-- What is promised of decode_next, as specs/Wire states it.
use Prim.Native.Nat.{ℕ, ◌+◌, ◌<◌, ◌≤◌}
use mathlib.Core.Path.{◌≡◌}
use mathlib.Core.List.{List}
use borrow.Author.Tests.{lt-ltb, le-ltb}
use lib.ListN.{length, get_or}
use Rattle.wing_wire.specs.Escape.{decode_of, next_unit, byte_next, decode_next_of}
use Rattle.wing_wire.specs.Units.{settled}
use Rattle.wing_wire.specs.declared.escape.Unit.TheVariants.{Nothing, Appended}
use Rattle.wing_wire.specs.declared.state.Escape.{Escape}
use Rattle.wing_wire.proofs.Reading.NextUnits.{units-by-step}
use Rattle.wing_wire.proofs.Laws.{decoder-laws}
use Rattle.promises.specs.Wire.{DecodeCall}
use Rattle.std.specs.Prelude.{None, Some}

next-pending : (e : Escape) (bytes : List ℕ) (at u : ℕ) → e.pending ≡ Some u → decode_next_of e bytes at ≡ next_unit (settled e) (Appended u) at
unfolding decode_next_of
next-pending e bytes at u p = rw p

next-byte : (e : Escape) (bytes : List ℕ) (at : ℕ) → e.pending ≡ None → at < length bytes →
    decode_next_of e bytes at ≡ next_unit (decode_of e (get_or bytes at 0)).escape (decode_of e (get_or bytes at 0)).unit (at + 1)
unfolding decode_next_of byte_next
next-byte e bytes at p l = rw (p, lt-ltb at (length bytes) l)

next_end : (e : Escape) (bytes : List ℕ) (at : ℕ) → e.pending ≡ None → length bytes ≤ at → decode_next_of e bytes at ≡ next_unit e Nothing at
unfolding decode_next_of byte_next
next_end e bytes at p l = rw (p, le-ltb at (length bytes) l)

pub decode_call : (e : Escape) (bytes : List ℕ) (at : ℕ) → DecodeCall e bytes at (decode_next_of e bytes at)
decode_call e bytes at = record { pending = next-pending e bytes at; byte = next-byte e bytes at; end = next_end e bytes at; first = units-by-step e bytes at; sound = decoder-laws.sound.step e bytes at }

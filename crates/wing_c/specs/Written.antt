-- What a call leaves, by its numbers and the lent buffers after it: the library's effect, with numbers for its answer.
use Rattle.std.specs.Prelude.{ℕ, List, ℤ}
use Rattle.wing_node.specs.Writer.{BodyEffect}
use Rattle.wing_wire.specs.Write.{WriteEffect}
use Rattle.wing_wire.specs.Meter.{RequestEffect, PacketEffect}
use Rattle.wing_mirror.specs.Mirror.{SetEffect}
use Rattle.wing_listing.specs.Calls.{LoadEffect}
use Rattle.wing_c.specs.Numbers.{written_numbers, set_numbers, requested_numbers, meters_numbers, loaded_numbers}
use Rattle.wing_c.specs.declared.answers.WingWritten.{WingWritten}
use Rattle.wing_c.specs.declared.answers.WingSet.{WingSet}
use Rattle.wing_c.specs.declared.answers.WingRequested.{WingRequested}
use Rattle.wing_c.specs.declared.answers.WingMeters.{WingMeters}
use Rattle.wing_c.specs.declared.answers.WingLoaded.{WingLoaded}

-- a command, a definition written, or a listing: its numbers and the output
pub record Command : Type 0 where
  pub numbers : WingWritten
  pub out : List ℕ

-- numbers and an output
abbrev pub command : WingWritten → List ℕ → Command
command r out = record { numbers = r; out = out }

-- of what the library's call leaves
abbrev pub command_of : WriteEffect → Command
command_of e = command (written_numbers e.answer) e.out

-- of what the writer of definitions leaves
abbrev pub body_from : BodyEffect → Command
body_from e = command (written_numbers e.answer) e.out

-- a set through the mirror: its numbers, the output and the table buffer
pub record MirrorCommand : Type 0 where
  pub numbers : WingSet
  pub out : List ℕ
  pub table : List ℕ

-- numbers, an output and a table buffer
abbrev pub mirror_command : WingSet → List ℕ → List ℕ → MirrorCommand
mirror_command r out buffer = record { numbers = r; out = out; table = buffer }

-- of what the library's call leaves
abbrev pub mirror_command_of : SetEffect → MirrorCommand
mirror_command_of e = mirror_command (set_numbers e.answer e.table.count) e.out e.table.buffer

-- a meter request: its numbers and the output
pub record Request : Type 0 where
  pub numbers : WingRequested
  pub out : List ℕ

-- numbers and an output
abbrev pub request : WingRequested → List ℕ → Request
request r out = record { numbers = r; out = out }

-- of what the library's call leaves
abbrev pub request_of : RequestEffect → Request
request_of e = request (requested_numbers e.answer) e.out

-- a meter packet: its numbers and the readings' buffer
pub record Packet : Type 0 where
  pub numbers : WingMeters
  pub out : List ℤ

-- numbers and a buffer
abbrev pub packet : WingMeters → List ℤ → Packet
packet r out = record { numbers = r; out = out }

-- of what the library's call leaves
abbrev pub packet_from : PacketEffect → Packet
packet_from e = packet (meters_numbers e.answer) e.out

-- a load: its numbers and the table buffer
pub record TableLoad : Type 0 where
  pub numbers : WingLoaded
  pub table : List ℕ

-- numbers and a table buffer
abbrev pub table_load : WingLoaded → List ℕ → TableLoad
table_load r buffer = record { numbers = r; table = buffer }

-- of what the library's call leaves; the state beside its answer is always a fresh one (`load_fresh` in Meanings)
abbrev pub table_load_of : LoadEffect → TableLoad
table_load_of e = table_load (loaded_numbers e.reply.answer) e.memory

-- 01, Meters and requests: what is written for meters, and what a packet holds.
use Rattle.std.specs.Prelude.{ℕ, zero, suc, ◌+◌, List, [], ◌∷◌, ◌++◌, ltb, leb, eqb, ℤ, length, take, drop, Err, Ok}
use Rattle.wing_node.specs.Bool.{if}
use Rattle.wing_node.specs.Field.{big}
use Rattle.wing_node.specs.Signed.{signed}
use Rattle.wing_wire.specs.Write.{escaped, field}
use Rattle.wing_wire.specs.declared.meter.Meter.{Meter}
use Rattle.wing_wire.specs.declared.meter.Meter.TheVariants.{Channel, Aux, Bus, Main, Matrix, Dca, Fx, Source, Output, Monitor, Rta, Channel2, Aux2, Bus2, Main2, Matrix2}
use Rattle.wing_wire.specs.declared.meter.MeterItem.{MeterItem}
use Rattle.wing_wire.specs.declared.meter.MeterItem.TheVariants.{Alone, Indexed}
use Rattle.wing_wire.specs.declared.meter.Requested.{Requested}
use Rattle.wing_wire.specs.declared.meter.MetersRead.{MetersRead}
use Rattle.wing_node.specs.declared.refusal.Refusal.TheVariants.{MeterIdLast, MetersOver, OutputShort, PacketSize}
use Rattle.wing_node.specs.Result.{Result}

-- 01: items a0 to a8 with index: channel, aux, bus, main, matrix, dca, fx, source, output; a9 monitor, aa rta alone;
-- ab to af: channel2, aux2, bus2, main2, matrix2
unfoldable pub item_of : Meter → MeterItem
item_of (Channel n) = Indexed 0xa0 n
item_of (Aux n) = Indexed 0xa1 n
item_of (Bus n) = Indexed 0xa2 n
item_of (Main n) = Indexed 0xa3 n
item_of (Matrix n) = Indexed 0xa4 n
item_of (Dca n) = Indexed 0xa5 n
item_of (Fx n) = Indexed 0xa6 n
item_of (Source n) = Indexed 0xa7 n
item_of (Output n) = Indexed 0xa8 n
item_of Monitor = Alone 0xa9
item_of Rta = Alone 0xaa
item_of (Channel2 n) = Indexed 0xab n
item_of (Aux2 n) = Indexed 0xac n
item_of (Bus2 n) = Indexed 0xad n
item_of (Main2 n) = Indexed 0xae n
item_of (Matrix2 n) = Indexed 0xaf n

-- 01: the byte of the kind, alone or with the index
unfoldable pub item_bytes : MeterItem → List ℕ
item_bytes (Alone kind) = kind ∷ []
item_bytes (Indexed kind n) = kind ∷ escaped (n ∷ [])

-- one meter
abbrev pub meter_bytes : Meter → List ℕ
meter_bytes m = item_bytes (item_of m)

-- meters one after the other
unfoldable pub meters_bytes : List Meter → List ℕ
meters_bytes [] = []
meters_bytes (m ∷ ms) = meter_bytes m ++ meters_bytes ms

-- 01: meter request: df d3 d3 port d4 id port dc stand before its items
unfoldable pub request_head : ℕ → ℕ → List ℕ
request_head port id = 0xdf ∷ 0xd3 ∷ 0xd3 ∷ (field 2 port ++ (0xd4 ∷ (field 2 id ++ (field 2 port ++ (0xdc ∷ [])))))

-- 01: the head, the items, de df d1
unfoldable pub meter_request : ℕ → ℕ → List Meter → List ℕ
meter_request port id ms = request_head port id ++ (meters_bytes ms ++ (0xde ∷ 0xdf ∷ 0xd1 ∷ []))

-- what a meter request leaves: its answer and the output
pub record RequestEffect : Type 0 where
  pub answer : Result Requested
  pub out : List ℕ

-- an answer and the output
abbrev pub request_effect : Result Requested → List ℕ → RequestEffect
request_effect answer out = record { answer = answer; out = out }

-- 01: output too short for the whole is 9, as it was; else the bytes, and the new id
unfoldable pub write_request_of : List ℕ → ℕ → List ℕ → RequestEffect
write_request_of bytes id out =
    if (ltb (length out) (length bytes)) (request_effect (Err OutputShort) out)
    (request_effect (Ok (record { len = length bytes; id = id })) (bytes ++ drop (length bytes) out))

-- 01: id = last id + 1. More than 64 meters is 11, then last meter id 65,535 is 12, then 9
unfoldable pub request_meter : ℕ → ℕ → List Meter → ℕ → List ℕ → RequestEffect
request_meter port last ms count out =
    if (leb count 64)
    (if (eqb last 65535) (request_effect (Err MeterIdLast) out) (write_request_of (meter_request port (last + 1) (take count ms)) (last + 1) out))
    (request_effect (Err MetersOver) out)

-- 01: df d3 d4 id port df d1
unfoldable pub keep_alive : ℕ → ℕ → List ℕ
keep_alive port id = 0xdf ∷ 0xd3 ∷ 0xd4 ∷ (field 2 id ++ (field 2 port ++ (0xdf ∷ 0xd1 ∷ [])))

-- 01: for ids from last to 1
unfoldable pub keep_alives : ℕ → ℕ → List ℕ
keep_alives port zero = []
keep_alives port (suc n) = keep_alive port (suc n) ++ keep_alives port n

-- 01: signed 16-bit readings; an odd last byte is dropped
unfoldable pub readings : List ℕ → List ℤ
readings [] = []
readings (a ∷ []) = []
readings (a ∷ b ∷ s) = signed 15 (big (a ∷ b ∷ [])) ∷ readings s

-- what reading a packet leaves: its answer and the readings' buffer
pub record PacketEffect : Type 0 where
  pub answer : Result MetersRead
  pub out : List ℤ

-- an answer and the buffer
abbrev pub packet_effect : Result MetersRead → List ℤ → PacketEffect
packet_effect answer out = record { answer = answer; out = out }

-- 01: packet: id 2, two ignored, readings. Outside 4 to 8,192 bytes is 13, then output too short for the whole is 9
unfoldable pub packet_of : List ℕ → List ℤ → PacketEffect
packet_of p out =
    let rs = readings (drop 4 p) in
    if (ltb (length p) 4) (packet_effect (Err PacketSize) out)
    (if (ltb 8192 (length p)) (packet_effect (Err PacketSize) out)
    (if (ltb (length out) (length rs)) (packet_effect (Err OutputShort) out)
    (packet_effect (Ok (record { id = big (take 2 p); count = length rs })) (rs ++ drop (length rs) out))))

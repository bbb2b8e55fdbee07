-- What is promised of the commands, the meter request and the packets, as specs/Wire states it.
use Prim.Native.Nat.{ℕ, ◌+◌, ◌-◌, ◌*◌, ◌/◌, ◌<◌}
use mathlib.Core.Path.{◌≡◌, refl, sym, ◌∙◌, ap}
use mathlib.Core.List.{List, ◌++◌}
use native.Mathlib.Omega.{arith}
use lib.Dec.{ltb, leb, eqb}
use lib.IntN.{ℤ, pos}
use lib.ListN.{length, take, drop, get_or, length-drop, get_or-append}
use lib.Seq.{take-append_seam, drop-append_seam}
use Rattle.wing_node.specs.Refusal.{string_not_utf8}
use Rattle.wing_node.specs.declared.refusal.Refusal.{Refusal}
use Rattle.wing_node.specs.Field.{big, field_at}
use Rattle.wing_node.specs.Result.{Result, ok}
use Rattle.wing_node.specs.Utf8.{utf8}
use Rattle.wing_node.specs.Signed.{InBits, signed}
use Rattle.wing_node.specs.Value.{NodeValue, string}
use Rattle.wing_node.proofs.Branches.{branch}
use Rattle.wing_wire.specs.Write.{WriteEffect, write_effect, write_of}
use Rattle.wing_wire.specs.Command.{set_bytes, set_string}
use Rattle.wing_wire.specs.Meter.{RequestEffect, request_effect, write_request_of, meter_request, request_meter, PacketEffect, packet_effect, readings, packet_of}
use Rattle.wing_wire.specs.Answers.{written_result, MeterRequest, requested_result, MeterPacket, meters_result}
use Rattle.wing_wire.specs.declared.meter.Meter.{Meter}
use Rattle.wing_wire.specs.RoundTrip.{Settable}
use Rattle.wing_wire.proofs.BothWays.Orders.{reads-as-set, reads-as-string}
use Rattle.wing_wire.proofs.Writing.Packets.{readings-length, reading-at}
use Rattle.promises.specs.Wire.{Writes, CommandCall, command_lines, string_lines, SetOrder, MeterCall, PacketCall}
use Rattle.promises.proofs.Lines.{taken, line, unless}
use Rattle.wing_node.specs.declared.refusal.Refusal.TheVariants.{MeterIdLast, MetersOver, OutputShort, PacketSize, StringLong}
use Rattle.std.specs.Prelude.{Ok, Err}
use Rattle.wing_wire.specs.declared.meter.Requested.{Requested}
use Rattle.wing_wire.specs.declared.meter.MetersRead.{MetersRead}

-- the bytes at the front, and those after them
pub at_front : {A : Type 0} (bytes out : List A) → take (length bytes) (bytes ++ drop (length bytes) out) ≡ bytes
at_front bytes out = take-append_seam bytes (drop (length bytes) out)

pub past-front : {A : Type 0} (bytes out : List A) (n : ℕ) → length bytes ≡ n → drop n (bytes ++ drop (length bytes) out) ≡ drop n out
past-front bytes out n e = rw (← e) (drop-append_seam bytes (drop (length bytes) out))

-- ---- commands

-- what a command came to
abbrev pub came : WriteEffect → Result (List ℕ)
came x = written_result x.answer x.out

-- the output is as it was
abbrev pub Kept : List ℕ → WriteEffect → Type 0
Kept out x = (x.out ≡ out) × Unit {0}

-- the number told is that of the bytes written, and the bytes past them are as they were
abbrev pub Rest : List ℕ → List ℕ → WriteEffect → Type 0
Rest bytes out x = (n : ℕ) → x.answer ≡ Ok n → (n ≡ length bytes) × (drop n x.out ≡ drop n out)

-- a refusal wrote nothing
pub refused-rest : (k : Refusal) (bytes out after : List ℕ) → Rest bytes out (write_effect (Err k) after)
refused-rest k bytes out after n e = absurd (let z : ◌≡◌ {A = ℕ} 0 1 = cc in omega arith)

pub whole-rest : (bytes out : List ℕ) → Rest bytes out (write_effect (Ok (length bytes)) (bytes ++ drop (length bytes) out))
whole-rest bytes out n e = let z : length bytes ≡ n = cc in (sym z, past-front bytes out n z)

pub written-rest : (bytes out : List ℕ) → Rest bytes out (write_of bytes out)
unfolding write_of
written-rest bytes out =
    branch (Rest bytes out) (ltb (length out) (length bytes)) _ _ (λ _. refused-rest OutputShort bytes out out) (λ _. whole-rest bytes out)

-- every command of given bytes
pub command-writes : (bytes out : List ℕ) → CommandCall bytes out (write_of bytes out).answer (write_of bytes out).out
unfolding write_of written_result
command-writes bytes out = record {
  answered = line came (Kept out) bytes (ltb (length out) (length bytes)) OutputShort _ _ _ refl (refl, tt) (taken came (Kept out) bytes (write_effect (Ok (length bytes)) (bytes ++ drop (length bytes) out)) (ap ok (at_front bytes out)));
  rest = λ n e. (went n e).1;
  told = λ n e. (went n e).0;
}
  where
    went : Rest bytes out (write_of bytes out)
    went = unfold write_of in written-rest bytes out

-- a set order of a string
pub string-writes : (id : ℤ) (s out : List ℕ) → Writes (string_lines id s out) (set_bytes id (string s)) out (set_string id s out).answer (set_string id s out).out (Unit {0})
unfolding set_string written_result
string-writes id s out = record {
  answered = unless came (Kept out) bytes (leb (length s) 256) StringLong _ _ _ refl (refl, tt) (unless came (Kept out) bytes (utf8 s) (string_not_utf8 s) _ _ _ refl (refl, tt) (command-writes bytes out).answered);
  rest = λ n e. (went n e).1;
  told = λ n e. (went n e).0;
}
  where
    bytes : List ℕ
    bytes = set_bytes id (string s)

    went : Rest bytes out (set_string id s out)
    went = branch (Rest bytes out) (leb (length s) 256) _ _ (λ _. branch (Rest bytes out) (utf8 s) _ _ (λ _. written-rest bytes out) (λ _. refused-rest (string_not_utf8 s) bytes out out)) (λ _. refused-rest StringLong bytes out out)

-- ---- set orders: what was written is read back

pub order-call : (id : ℤ) (v : NodeValue) (out : List ℕ) → InBits 31 id → Settable v →
    SetOrder (command_lines (set_bytes id v) out) id v out (write_of (set_bytes id v) out).answer (write_of (set_bytes id v) out).out
order-call id v out i h = record { writes = command-writes (set_bytes id v) out; reads = reads-as-set id v i h out _ _ refl }

pub string-call : (id : ℤ) (s out : List ℕ) → InBits 31 id → SetOrder (string_lines id s out) id (string s) out (set_string id s out).answer (set_string id s out).out
string-call id s out i = record { writes = string-writes id s out; reads = reads-as-string id s out _ _ i refl }

-- ---- meters

-- how many bytes a request took, and how many readings were read; 0 for a refusal
abbrev request_len : Result Requested → ℕ
request_len (Ok r) = r.len
request_len (Err why) = 0

abbrev read_count : Result MetersRead → ℕ
read_count (Ok r) = r.count
read_count (Err why) = 0

pub meters-write : (port last : ℕ) (ms : List Meter) (count : ℕ) (out : List ℕ) → MeterCall port last ms count out (request_meter port last ms count out).answer (request_meter port last ms count out).out
unfolding request_meter write_request_of requested_result
meters-write port last ms count out = record {
  answered = unless result-of W request (leb count 64) MetersOver _ _ _ refl refl (line result-of W request (eqb last 65535) MeterIdLast _ _ _ refl refl
      (line result-of W request (ltb (length out) (length bytes)) OutputShort _ _ _ refl refl (taken result-of W request (request_effect (Ok (record { len = length bytes; id = (last + 1) })) (bytes ++ drop (length bytes) out)) (ap (λ (b : List ℕ). ok (record { bytes = b; id = last + 1 })) (at_front bytes out)))));
  rest = λ n id e. (went n id e).1;
  told = λ n id e. (went n id e).0;
}
  where
    bytes : List ℕ
    bytes = meter_request port (last + 1) (take count ms)

    request : MeterRequest
    request = record { bytes = bytes; id = last + 1 }

    result-of : RequestEffect → Result MeterRequest
    result-of x = requested_result x.answer x.out

    W : RequestEffect → Type 0
    W x = x.out ≡ out

    R : RequestEffect → Type 0
    R x = (n id : ℕ) → x.answer ≡ Ok (record { len = n; id = id }) → (n ≡ length bytes) × (drop n x.out ≡ drop n out)

    of-refused : (k : Refusal) → R (request_effect (Err k) out)
    of-refused k n id e = absurd (let z : ◌≡◌ {A = ℕ} 0 1 = cc in omega arith)

    went : R (request_meter port last ms count out)
    went =
        branch R (leb count 64) _ _
        (λ _. branch R (eqb last 65535) _ _ (λ _. of-refused MeterIdLast) (λ _. branch R (ltb (length out) (length bytes)) _ _ (λ _. of-refused OutputShort) (λ _ n id e. let z : length bytes ≡ n = ap request_len e in (sym z, past-front bytes out n z))))
        (λ _. of-refused MetersOver)

pub packet-reads : (p : List ℕ) (out : List ℤ) → PacketCall p out (packet_of p out).answer (packet_of p out).out
unfolding packet_of meters_result
packet-reads p out = record {
  answered = line result-of W packet (ltb (length p) 4) PacketSize _ _ _ refl refl (line result-of W packet (ltb 8192 (length p)) PacketSize _ _ _ refl refl
      (line result-of W packet (ltb (length out) (length rs)) OutputShort _ _ _ refl refl (taken result-of W packet (packet_effect (Ok (record { id = big (take 2 p); count = length rs })) (rs ++ drop (length rs) out)) (ap (λ (r : List ℤ). ok (record { id = big (take 2 p); readings = r })) (at_front rs out)))));
  rest = λ id n e. (went id n e).1;
  told = λ id n e. (went id n e).0;
  each = branch E (ltb (length p) 4) _ _ (λ _. none PacketSize) (λ _. branch E (ltb 8192 (length p)) _ _ (λ _. none PacketSize) (λ _. branch E (ltb (length out) (length rs)) _ _ (λ _. none OutputShort) (λ _ id n e k l.
      let z : length rs ≡ n = ap read_count e in
      get_or-append rs (drop (length rs) out) (pos 0) k (omega arith) ∙ sym (reading-at p k (omega (arith, number))))));
}
  where
    rs : List ℤ
    rs = readings (drop 4 p)

    packet : MeterPacket
    packet = record { id = big (take 2 p); readings = rs }

    result-of : PacketEffect → Result MeterPacket
    result-of x = meters_result x.answer x.out

    W : PacketEffect → Type 0
    W x = x.out ≡ out

    R : PacketEffect → Type 0
    R x = (id n : ℕ) → x.answer ≡ Ok (record { id = id; count = n }) → (n ≡ (length p - 4) / 2) × (drop n x.out ≡ drop n out)

    of-refused : (k : Refusal) → R (packet_effect (Err k) out)
    of-refused k id n e = absurd (let z : ◌≡◌ {A = ℕ} 0 1 = cc in omega arith)

    E : PacketEffect → Type 0
    E x = (id n : ℕ) → x.answer ≡ Ok (record { id = id; count = n }) → (k : ℕ) → k < n → get_or x.out k (pos 0) ≡ signed 15 (field_at 2 p (4 + 2 * k))

    none : (k : Refusal) → E (packet_effect (Err k) out)
    none k id n e i l = absurd (let z : ◌≡◌ {A = ℕ} 0 1 = cc in omega arith)

    number : length rs ≡ (length p - 4) / 2
    number = readings-length (drop 4 p) ∙ ap (λ (n : ℕ). n / 2) (length-drop 4 p)

    went : R (packet_of p out)
    went =
        branch R (ltb (length p) 4) _ _ (λ _. of-refused PacketSize)
        (λ _. branch R (ltb 8192 (length p)) _ _ (λ _. of-refused PacketSize) (λ _. branch R (ltb (length out) (length rs)) _ _ (λ _. of-refused OutputShort) (λ _ id n e. let z : length rs ≡ n = ap read_count e in (sym z ∙ number, past-front rs out n z))))

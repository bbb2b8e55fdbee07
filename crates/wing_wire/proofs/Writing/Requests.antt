-- Meter requests and keep-alives: the cases of a request, and the turns of the loops.
use Prim.Native.Nat.{ℕ, zero, suc, ◌+◌, ◌-◌, ◌≤◌, ◌<◌}
use mathlib.Core.Path.{◌≡◌, refl, sym, ap, ◌∙◌}
use mathlib.Core.Bool.{Bool, true, false}
use mathlib.Core.List.{List, [], ◌∷◌, ◌++◌, append_assoc, append-nil}
use native.Mathlib.Omega.{arith}
use native.Mathlib.Numerals.{add-one}
use lib.ListN.{length, take, drop, get_or}
use lib.Dec.{ltb}
use lib.Seq.{take-suc}
use borrow.Author.Tests.{le-leb, lt-leb, eq-eqb, ne_eqb}
use Rattle.wing_node.specs.Bool.{if}
use Rattle.wing_wire.specs.declared.meter.Meter.{Meter}
use Rattle.wing_wire.specs.declared.meter.Meter.TheVariants.{Channel}
use Rattle.wing_wire.specs.declared.meter.Requested.{Requested}
use Rattle.wing_wire.specs.Write.{WriteEffect, write_effect, write_of}
use Rattle.wing_wire.specs.Meter.{meter_bytes, meters_bytes, meter_request, RequestEffect, request_effect, write_request_of, request_meter, keep_alive, keep_alives}
use Rattle.wing_node.specs.declared.refusal.Refusal.TheVariants.{OutputShort, MeterIdLast, MetersOver}
use Rattle.wing_node.specs.Result.{Result}
use Rattle.std.specs.Prelude.{ℕ, Ok, Err}

-- a request answers as its bytes are written, with its id
abbrev pub with_id : ℕ → WriteEffect → RequestEffect
with_id id w = request_effect (answer w.answer) w.out
  where
    answer : Result ℕ → Result Requested
    answer (Ok n) = Ok (record { len = n; id = id })
    answer (Err why) = Err why

write-request : (id : ℕ) (s d : List ℕ) → with_id id (write_of s d) ≡ write_request_of s id d
unfolding write_of write_request_of
write-request id s d = go (ltb (length d) (length s))
  where
    go : (q : Bool) → with_id id (if q (write_effect (Err OutputShort) d) (write_effect (Ok (length s)) (s ++ drop (length s) d))) ≡ if q (request_effect (Err OutputShort) d) (request_effect (Ok (record { len = (length s); id = id })) (s ++ drop (length s) d))
    go true = refl
    go false = refl

module _ (port last : ℕ) (ms : List Meter) (count : ℕ) (out : List ℕ) where
  pub too_many : 64 < count → request_effect (Err MetersOver) out ≡ request_meter port last ms count out
  unfolding request_meter
  too_many h = simp (lt-leb count 64 h)

  pub spent : count ≤ 64 → last ≡ 65535 → request_effect (Err MeterIdLast) out ≡ request_meter port last ms count out
  unfolding request_meter
  spent h e = simp (le-leb count 64 h, eq-eqb last 65535 e)

  -- and else it is the bytes written, with the id
  pub request-answer : {w : WriteEffect} → count ≤ 64 → (last ≡ 65535 → ⊥) → w ≡ write_of (meter_request port (last + 1) (take count ms)) out → with_id (last + 1) w ≡ request_meter port last ms count out
  unfolding request_meter
  request-answer h ne e =
      ap (with_id (last + 1)) e ∙ write-request (last + 1) (meter_request port (last + 1) (take count ms)) out ∙ simp (le-leb count 64 h, ne_eqb last 65535 ne)

meters-append : (ms ns : List Meter) → meters_bytes (ms ++ ns) ≡ meters_bytes ms ++ meters_bytes ns
unfolding meters_bytes
meters-append [] ns = refl
meters-append (m ∷ ms) ns = ap (λ (l : List ℕ). meter_bytes m ++ l) (meters-append ms ns) ∙ sym (append_assoc (meter_bytes m) (meters_bytes ms) (meters_bytes ns))

-- one meter more
pub meters-more : (ms : List Meter) (i : ℕ) → i < length ms → meters_bytes (take (i + 1) ms) ≡ meters_bytes (take i ms) ++ meter_bytes (get_or ms i (Channel 0))
unfolding meters_bytes
meters-more ms i h =
    rw (add-one i, take-suc ms i (Channel 0) h, meters-append (take i ms) (get_or ms i (Channel 0) ∷ [])) (rw (append-nil (meter_bytes (get_or ms i (Channel 0)))))

-- one keep-alive, and those of the ids below
pub one-alive : (port id : ℕ) → 0 < id → keep_alives port id ≡ keep_alive port id ++ keep_alives port (id - 1)
unfolding keep_alives
one-alive port zero h = absurd (omega arith)
one-alive port (suc id) h = let e : suc id - 1 ≡ id = omega arith in rw e

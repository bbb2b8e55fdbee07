-- How long commands are at most, and that each of these sizes is reached.
use Prim.Native.Nat.{ℕ, zero, suc, ◌+◌, ◌*◌, ◌-◌, ◌≤◌, ◌<◌}
use mathlib.Core.Path.{◌≡◌, refl}
use mathlib.Core.Bool.{Bool, true, false}
use mathlib.Core.Logic.{◌⊎◌, inl, inr}
use mathlib.Core.List.Memᴰ
use mathlib.Core.List.{List, [], ◌∷◌, ◌++◌, Memᴰ}
use native.Mathlib.Omega.{arith}
use lib.Dec.{T, eqb, leb, ltb, leb→le}
use lib.IntN.{ℤ, pos, negsuc, nat_abs}
use lib.ListN.{length, take, replicate, length-append, length-take}
use Rattle.wing_node.specs.Bool.{if, and}
use Rattle.wing_node.specs.Digits.{digits_in}
use Rattle.wing_node.specs.Field.{bytes_of}
use Rattle.wing_node.specs.Signed.{unsigned}
use Rattle.wing_node.specs.Value.{integer, float, string}
use Rattle.wing_node.specs.Utf8.{Range, chars, Matches, end, byte, Octets, empty, char, holds, begins, first_that, char_length, good_from, good, utf8}
use Rattle.wing_node.proofs.Below.{and-T-left, and-T-right}
use Rattle.wing_node.proofs.Characters.Fronts.{matches-length}
use borrow.Author.Tests.{ltb-true, ltb-false, ne_eqb}
use Rattle.wing_wire.proofs.Writing.Lays.{escaped-append}
use Rattle.wing_node.proofs.Numerals.Numbers.{length-digits_in}
use Rattle.wing_wire.specs.declared.meter.Meter.{Meter}
use Rattle.wing_wire.specs.declared.meter.Meter.TheVariants.{Channel}
use Rattle.wing_wire.specs.declared.meter.MeterItem.{MeterItem}
use Rattle.wing_wire.specs.declared.meter.MeterItem.TheVariants.{Alone, Indexed}
use Rattle.wing_wire.specs.Meter.{item_of, item_bytes, meter_bytes, meters_bytes, request_head, meter_request, keep_alive, keep_alives}
use Rattle.wing_wire.specs.Write.{escaped, field}
use Rattle.wing_wire.specs.Command.{from◌to◌, integer_bytes, float_bytes, length_bytes, string_bytes, value_bytes, id_bytes, suffix_bytes, set_bytes, request_bytes}
use Rattle.std.specs.Prelude.{Option, ℕ, None, Some}

-- either of two lists
either-le : (q : Bool) (s t : List ℕ) (n : ℕ) → length s ≤ n → length t ≤ n → length (if q s t) ≤ n
either-le true s t n h g = h
either-le false s t n h g = g

pub escaped-le : (s : List ℕ) → length (escaped s) ≤ 2 * length s
unfolding escaped
escaped-le [] = omega arith
escaped-le (b ∷ s) = let h = escaped-le s in either-le (eqb b 0xdf) (0xdf ∷ 0xde ∷ escaped s) (b ∷ escaped s) (2 * suc (length s)) (omega arith) (omega arith)

pub field-le : (w n : ℕ) → length (field w n) ≤ 2 * w
field-le w n = omega (arith, escaped-le (bytes_of w n), length-digits_in 256 w n)

pub id-le : (prefix : ℕ) (id : ℤ) (t : List ℕ) → length (id_bytes prefix id t) ≤ 9 + length t
unfolding id_bytes
id-le prefix id t = omega (arith, field-le 4 (unsigned 31 id), length-append (field 4 (unsigned 31 id)) t)

pub format-le : (prefix : ℕ) (id : ℤ) (suffix : Option ℕ) → length (id_bytes prefix id (suffix_bytes suffix)) ≤ 10
unfolding suffix_bytes
format-le prefix id None = omega (arith, id-le prefix id [])
format-le prefix id (Some b) = omega (arith, id-le prefix id (b ∷ []))

integer-le : (x : ℤ) → length (integer_bytes x) ≤ 9
unfolding integer_bytes
integer-le x =
    let h = field-le 2 (unsigned 15 x) in
    let g = field-le 4 (unsigned 31 x) in
    either-le (from◌to◌ (pos 0) (pos 63) x) (nat_abs x ∷ [])
    (if (from◌to◌ (negsuc 32767) (pos 32767) x) (0xd3 ∷ field 2 (unsigned 15 x)) (0xd4 ∷ field 4 (unsigned 31 x))) 9 (omega arith)
    (either-le (from◌to◌ (negsuc 32767) (pos 32767) x) (0xd3 ∷ field 2 (unsigned 15 x)) (0xd4 ∷ field 4 (unsigned 31 x)) 9 (omega arith) (omega arith))

pub set-int-le : (id x : ℤ) → length (set_bytes id (integer x)) ≤ 18
unfolding set_bytes value_bytes
set-int-le id x = omega (arith, id-le 0xd7 id (integer_bytes x), integer-le x)

pub set-float-le : (id : ℤ) (bits : ℕ) → length (set_bytes id (float bits)) ≤ 18
unfolding set_bytes value_bytes float_bytes
set-float-le id bits = omega (arith, id-le 0xd7 id (float_bytes bits), field-le 4 bits)

pub request-le : (what : ℕ) (id : ℤ) → length (request_bytes what id) ≤ 10
unfolding request_bytes
request-le what (pos n) =
    let h = id-le 0xd7 (pos n) (what ∷ []) in
    either-le (eqb n 0) (0xda ∷ what ∷ []) (id_bytes 0xd7 (pos n) (what ∷ [])) 10 (omega arith) (omega arith)
request-le what (negsuc n) = omega (arith, id-le 0xd7 (negsuc n) (what ∷ []))

-- the bytes of a character's row at most: df can stand only where its range reaches it
row_size : List Range → ℕ
row_size [] = 0
row_size (r ∷ rs) = if (ltb r.high 0xdf) 1 2 + row_size rs

byte_le : (r : Range) (b n : ℕ) (s : List ℕ) → b ≤ r.high → length (escaped s) ≤ n → length (escaped (b ∷ s)) ≤ if (ltb r.high 0xdf) 1 2 + n
unfolding escaped
byte_le r b n s h l = go (ltb r.high 0xdf) refl
  where
    go : (q : Bool) → ltb r.high 0xdf ≡ q → length (if (eqb b 0xdf) (0xdf ∷ 0xde ∷ escaped s) (b ∷ escaped s)) ≤ if q 1 2 + n
    go true e =
        let k : r.high < 0xdf = ltb-true r.high 0xdf e in
        rw (ne_eqb b 0xdf (λ p. omega arith)) (omega arith)
    go false e = either-le (eqb b 0xdf) (0xdf ∷ 0xde ∷ escaped s) (b ∷ escaped s) (2 + n) (omega arith) (omega arith)

row-le : {row : List Range} {c : List ℕ} → Matches row c → length (escaped c) ≤ row_size row
unfolding escaped row_size
row-le end = omega arith
row-le (byte {r} {b} {rs} {s} low high m) = byte_le r b (row_size rs) s high (row-le m)

-- no row of the grammar grows by more than half
fair : List (List Range) → Bool
fair [] = true
fair (row ∷ rows) = and (leb (2 * row_size row) (3 * length row)) (fair rows)

fair-row : (rows : List (List Range)) (row : List Range) → T (fair rows) → Memᴰ row rows → 2 * row_size row ≤ 3 * length row
unfolding row_size fair
fair-row [] row t m = absurd (Memᴰ.not-nil m)
fair-row (x ∷ rows) row t m =
    let here = leb→le (2 * row_size x) (3 * length x) (and-T-left (leb (2 * row_size x) (3 * length x)) (fair rows) t) in
    go (Memᴰ.cases_cons m) here (fair-row rows row (and-T-right (leb (2 * row_size x) (3 * length x)) (fair rows) t))
  where
    go : (row ≡ x) ⊎ Memᴰ row rows → 2 * row_size x ≤ 3 * length x → (Memᴰ row rows → 2 * row_size row ≤ 3 * length row) → 2 * row_size row ≤ 3 * length row
    go (inl e) h ih = rw e h
    go (inr n) h ih = ih n

-- a UTF-8 string has a df for every other byte at most, since each leads a character of two bytes
pub utf8-le : {s : List ℕ} → Octets s → 2 * length (escaped s) ≤ 3 * length s
unfolding escaped fair row_size
utf8-le empty = omega arith
utf8-le (char {row} {c} {s} m c' o) =
    rw (escaped-append c s, length-append (escaped c) (escaped s), length-append c s)
    (omega (arith, fair-row chars row tt m, row-le c', matches-length c', utf8-le o))

length-le : (n : ℕ) → length (length_bytes n) ≤ 3
unfolding length_bytes
length-le n =
    let h = escaped-le ((n - 1) ∷ []) in
    either-le (eqb n 0) (0xd0 ∷ []) (if (leb n 64) ((0x80 + (n - 1)) ∷ []) (0xd1 ∷ escaped ((n - 1) ∷ []))) 3 (omega arith)
    (either-le (leb n 64) ((0x80 + (n - 1)) ∷ []) (0xd1 ∷ escaped ((n - 1) ∷ [])) 3 (omega arith) (omega arith))

length-but : (n : ℕ) → 224 < n → length (length_bytes n) ≤ 2
unfolding length_bytes escaped
length-but n h =
    rw (ne_eqb (n - 1) 0xdf (λ e. omega arith))
    (either-le (eqb n 0) (0xd0 ∷ []) (if (leb n 64) ((0x80 + (n - 1)) ∷ []) (0xd1 ∷ (n - 1) ∷ [])) 2 (omega arith)
    (either-le (leb n 64) ((0x80 + (n - 1)) ∷ []) (0xd1 ∷ (n - 1) ∷ []) 2 (omega arith) (omega arith)))

pub set-string-le : (id : ℤ) (s : List ℕ) → Octets s → length s ≤ 256 → length (set_bytes id (string s)) ≤ 395
unfolding set_bytes value_bytes string_bytes
set-string-le id s o h = go (ltb 224 (length s)) refl
  where
    n : length (id_bytes 0xd7 id (length_bytes (length s) ++ escaped s)) ≤ 9 + (length (length_bytes (length s)) + length (escaped s))
    n = omega (arith, id-le 0xd7 id (length_bytes (length s) ++ escaped s), length-append (length_bytes (length s)) (escaped s))

    go : (q : Bool) → ltb 224 (length s) ≡ q → length (id_bytes 0xd7 id (length_bytes (length s) ++ escaped s)) ≤ 395
    go true e = omega (arith, n, utf8-le o, length-but (length s) (ltb-true 224 (length s) e))
    go false e = omega (arith, n, utf8-le o, length-le (length s), ltb-false 224 (length s) e)

item-le : (i : MeterItem) → length (item_bytes i) ≤ 3
unfolding item_bytes
item-le (Alone kind) = omega arith
item-le (Indexed kind n) = omega (arith, escaped-le (n ∷ []))

pub meters-le : (ms : List Meter) → length (meters_bytes ms) ≤ 3 * length ms
unfolding meters_bytes
meters-le [] = omega arith
meters-le (m ∷ ms) = omega (arith, length-append (meter_bytes m) (meters_bytes ms), item-le (item_of m), meters-le ms)

pub head-le : (port id : ℕ) → length (request_head port id) ≤ 17
unfolding request_head
head-le port id =
    simp length-append (omega (arith, field-le 2 port, field-le 2 id))

pub meter-request-le : (port id : ℕ) (ms : List Meter) (count : ℕ) → count ≤ 64 → length (meter_request port id (take count ms)) ≤ 212
unfolding meter_request
meter-request-le port id ms count h =
    simp length-append (omega (arith, head-le port id, meters-le (take count ms), length-take count ms))

pub keep-alive-le : (port id : ℕ) → length (keep_alive port id) ≤ 13
unfolding keep_alive
keep-alive-le port id = simp length-append (omega (arith, field-le 2 port, field-le 2 id))

pub keep-alives-le : (port last : ℕ) → length (keep_alives port last) ≤ 13 * last
unfolding keep_alives
keep-alives-le port zero = omega arith
keep-alives-le port (suc last) = omega (arith, length-append (keep_alive port (suc last)) (keep_alives port last), keep-alive-le port (suc last), keep-alives-le port last)

-- each size is reached: by ids, values and ports of df alone, and by a string of 128 characters that begin with df
pub format-reached : length (id_bytes 0xd7 (negsuc 0x20202020) (suffix_bytes (Some 0))) ≡ 10
unfolding id_bytes suffix_bytes escaped digits_in
format-reached = refl

pub set-int-reached : length (set_bytes (negsuc 0x20202020) (integer (negsuc 0x20202020))) ≡ 18
unfolding set_bytes value_bytes id_bytes integer_bytes escaped digits_in
set-int-reached = refl

pub set-float-reached : length (set_bytes (negsuc 0x20202020) (float 0xdfdfdfdf)) ≡ 18
unfolding set_bytes value_bytes id_bytes float_bytes escaped digits_in
set-float-reached = refl

unfoldable pub leads : ℕ → List ℕ
leads zero = []
leads (suc n) = 0xdf ∷ 0x80 ∷ leads n

pub set-string-reached : (utf8 (leads 128) ≡ true) × (length (set_bytes (negsuc 0x20202020) (string (leads 128))) ≡ 395)
unfolding set_bytes value_bytes id_bytes string_bytes length_bytes leads escaped digits_in utf8 good_from good char_length first_that begins holds
set-string-reached = (refl, refl)

pub request-reached : length (request_bytes 0xdd (negsuc 0x20202020)) ≡ 10
unfolding request_bytes id_bytes escaped digits_in
request-reached = refl

pub meter-request-reached : length (meter_request 0xdfdf 0xdfdf (replicate 64 (Channel 0xdf))) ≡ 212
unfolding meter_request request_head meters_bytes item_of item_bytes escaped digits_in
meter-request-reached = refl

pub keep-alive-reached : length (keep_alive 0xdfdf 0xdfdf) ≡ 13
unfolding keep_alive escaped digits_in
keep-alive-reached = refl

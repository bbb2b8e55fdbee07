-- What a record says, as the code reads it.
use Prim.Native.Nat.{ℕ, zero, suc, ◌+◌, ◌*◌, ◌<◌, min}
use mathlib.Core.Path.{◌≡◌, sym, ◌∙◌, ap, ap₂}
use mathlib.Core.List.{List, []}
use native.Mathlib.Omega.{arith}
use native.Mathlib.Nat.{mul-suc, mul-zero}
use borrow.Author.Tests.{eq-eqb, ne_eqb}
use lib.IntN.{ℤ}
use lib.ListN.{length, take, drop, get_or, replicate, length-take}
use lib.Seq.{sets, drop-drop}
use Rattle.wing_node.specs.Field.{field_at}
use Rattle.wing_node.specs.Signed.{signed}
use Rattle.wing_node.specs.Value.{NodeValue, integer, float, string, node_value}
use Rattle.wing_node.specs.declared.value.Value.{Value}
use Rattle.wing_node.specs.declared.value.Value.TheVariants.{Integer, Float, String}
use Rattle.wing_node.proofs.Numerals.Placed.{field-whole}
use Rattle.wing_wire.specs.Reader.{filled}
use Rattle.wing_mirror.specs.Rows.{records}
use Rattle.wing_mirror.specs.Origin.{origin_of}
use Rattle.wing_mirror.specs.Entry.{entry}
use Rattle.wing_mirror.specs.Record.{id_in, value_in, origin_byte, entry_in}
use Rattle.wing_mirror.specs.Query.{value_of, bytes_beside, beside_zeros, read_of}
use Rattle.wing_mirror.specs.declared.origin.Origin.{Origin}
use Rattle.wing_mirror.proofs.Tables.Laying.{take-least, sets_over}
use Rattle.wing_mirror.proofs.Tables.Chunks.{chunks-records}
use Rattle.std.specs.Simd.{first_chunks}
use Rattle.wing_mirror.specs.declared.answer.RecordRead.{RecordRead}

-- the row of a number
pub row_of : (w n i : ℕ) (b : List ℕ) → i < n → get_or (records w n b) i [] ≡ take w (drop (w * i) b)
unfolding records
row_of w zero i b h = absurd (omega arith)
row_of w (suc n) zero b h = rw (mul-zero w)
row_of w (suc n) (suc i) b h =
    let y : w * suc i ≡ w + w * i = omega (arith, mul-suc w i) in
    rw (y, ← drop-drop (w * i) w b) (row_of w n i (drop w b) (omega arith))

-- and as the library cuts them
pub chunk-row : (w n i : ℕ) (b : List ℕ) → i < n → {rs : List (List ℕ)} → rs ≡ first_chunks w n b → get_or rs i [] ≡ take w (drop (w * i) b)
chunk-row w n i b h e = ap (λ (rs : List (List ℕ)). get_or rs i []) (e ∙ chunks-records w n b) ∙ row_of w n i b h

pub string-said : (id : ℤ) (o : Origin) (n len : ℕ) (p out : List ℕ) → length p ≡ 256 → len ≡ min n 256 → out ≡ sets (replicate 256 0) 0 (take len p) →
    ◌≡◌ {A = RecordRead} (record { id = id; value = String len; origin = o; string = out }) (read_of (entry id (string (take n p)) o))
unfolding read_of value_of bytes_beside
string-said id o n len p out h l e =
    let z : len ≡ min n (length p) = l ∙ ap (min n) (sym h) in
    let t : take len p ≡ take n p = ap (λ (m : ℕ). take m p) z ∙ take-least n p in
    let m : len ≡ length (take n p) = z ∙ sym (length-take n p) in
    let f : out ≡ filled 256 (take n p) = e ∙ ap (λ (q : List ℕ). sets (replicate 256 0) 0 q) t ∙ sets_over (take n p) (replicate 256 0) in
    ap₂ (λ (a : ℕ) (b : List ℕ). record { id = id; value = String a; origin = o; string = b }) m f

module _ (r : List ℕ) (wide : length r ≡ 264) where
  pub id-said : (id : ℤ) → id ≡ signed 31 (field_at 4 r 0) → id ≡ id_in r
  id-said id e = e ∙ ap (signed 31) (field-whole 4 r 0 (omega arith))

  pub integer-value : (x : ℤ) → get_or r 4 0 ≡ 0 → x ≡ signed 31 (field_at 4 r 8) → integer x ≡ value_in r
  unfolding value_in
  integer-value x k e = rw (eq-eqb (get_or r 4 0) 0 k) (ap integer (e ∙ ap (signed 31) (field-whole 4 r 8 (omega arith))))

  pub float_value : (bits : ℕ) → (get_or r 4 0 ≡ 0 → ⊥) → get_or r 4 0 ≡ 1 → bits ≡ field_at 4 r 8 → float bits ≡ value_in r
  unfolding value_in
  float_value bits j k e = rw (ne_eqb (get_or r 4 0) 0 j, eq-eqb (get_or r 4 0) 1 k) (ap float (e ∙ field-whole 4 r 8 (omega arith)))

  pub string-value : (n : ℕ) → (get_or r 4 0 ≡ 0 → ⊥) → (get_or r 4 0 ≡ 1 → ⊥) → n ≡ field_at 2 r 6 → string (take n (drop 8 r)) ≡ value_in r
  unfolding value_in
  string-value n j k e =
      rw (ne_eqb (get_or r 4 0) 0 j, ne_eqb (get_or r 4 0) 1 k) (ap (λ (m : ℕ). string (take m (drop 8 r))) (e ∙ field-whole 2 r 6 (omega arith)))

-- id, value and origin, read one after the other
pub entry-held : (id : ℤ) (v : Value) (o : Origin) (p r : List ℕ) → id ≡ id_in r → node_value v p ≡ value_in r → o ≡ origin_of (origin_byte r) → entry id (node_value v p) o ≡ entry_in r
unfolding entry_in
entry-held id v o p r i e f = ap₂ (λ (x : ℤ) (y : NodeValue). entry x y o) i e ∙ ap (entry (id_in r) (value_in r)) f

-- what a record that holds v says, its string's bytes in p
module _ (id : ℤ) (v : Value) (o : Origin) (p r : List ℕ) (e : entry id (node_value v p) o ≡ entry_in r) where
  pub integer-held : (x : ℤ) → v ≡ Integer x → entry id (integer x) o ≡ entry_in r
  unfolding node_value
  integer-held x q = rw q at e

  pub float-held : (bits : ℕ) → v ≡ Float bits → entry id (float bits) o ≡ entry_in r
  unfolding node_value
  float-held bits q = rw q at e

  pub string-held : (n : ℕ) → v ≡ String n → entry id (string (take n p)) o ≡ entry_in r
  unfolding node_value
  string-held n q = rw q at e

  pub integer-said : (x : ℤ) → v ≡ Integer x → beside_zeros id v o ≡ read_of (entry_in r)
  unfolding read_of value_of bytes_beside
  integer-said x q = rw q (ap read_of (integer-held x q))

  pub float-said : (bits : ℕ) → v ≡ Float bits → beside_zeros id v o ≡ read_of (entry_in r)
  unfolding read_of value_of bytes_beside
  float-said bits q = rw q (ap read_of (float-held bits q))

-- Recall, record by record: what a record's order is, how long the orders are at most, and what a writer laid.
use Prim.Native.Nat.{ℕ, zero, suc, ◌+◌, ◌*◌, ◌/◌, ◌≤◌, ◌<◌}
use mathlib.Core.Bool.{Bool, true, false}
use mathlib.Core.Path.{◌≡◌, sym, ◌∙◌, ap}
use mathlib.Core.List.{List, [], ◌∷◌, ◌++◌}
use native.Mathlib.Omega.{arith}
use borrow.Author.Tests.{eqb-false, le-ltb, lt-leb, leb-true}
use lib.Dec.{leb, eqb}
use lib.ListN.{length, take, drop, get_or, length-append, length-drop}
use lib.Seq.{sets-eq, length-take-le}
use Rattle.wing_node.specs.Bool.{if}
use Rattle.wing_node.specs.Field.{big}
use Rattle.wing_node.specs.Signed.{signed}
use Rattle.wing_node.specs.Utf8.{utf8}
use Rattle.wing_node.specs.Value.{NodeValue, integer, float, string}
use Rattle.wing_node.proofs.Branches.{branch, if-both}
use Rattle.wing_wire.specs.State.{zeros}
use Rattle.wing_wire.specs.Write.{Laid, write_effect, write_of, WriteEffect}
use Rattle.wing_wire.specs.Command.{set_bytes}
use Rattle.wing_wire.proofs.Laws.{writer-laws}
use Rattle.wing_node.specs.Bytes.{joined}
use Rattle.wing_mirror.specs.Rows.{Table, records}
use Rattle.wing_mirror.specs.Record.{kind_in, length_in, payload_in, id_in, value_in, entry_in, string_kept, well_kept, well_formed, full}
use Rattle.wing_mirror.specs.Table.{rows, every, row_at, places_allowed, usable}
use Rattle.wing_mirror.specs.Recall.{recall_bytes, recall_of}
use Rattle.wing_mirror.specs.Sending.{order_in, orders_of, size_in}
use Rattle.wing_mirror.proofs.Tables.Chunks.{length-records}
use Rattle.wing_mirror.proofs.Records.Said.{row_of}
use Rattle.wing_mirror.proofs.Tables.Tests.{from, from_all, from_next, from-none}
use Rattle.wing_mirror.proofs.Records.Usables.{in-range, few, room, formed}
use Rattle.wing_node.specs.declared.refusal.Refusal.TheVariants.{TableUnsound}
use Rattle.wing_node.specs.Result.{Result}
use Rattle.std.specs.Prelude.{ℕ, Ok, Err}

-- ---- a record

-- what is kept and is no number is a string of at most 256 bytes, UTF-8
kept-string : (k n : ℕ) (p : List ℕ) → well_kept k n p ≡ true → (k ≡ 0 → ⊥) → (k ≡ 1 → ⊥) → (n ≤ 256) × (utf8 (take n p) ≡ true)
unfolding well_kept string_kept
kept-string k n p h a b =
    let s = if-both (eqb k 2) (if (leb n 256) (if (zeros (drop n p)) (utf8 (take n p)) false) false) (rw (lt-leb k 1 (omega arith)) at h) in
    let t = if-both (leb n 256) (if (zeros (drop n p)) (utf8 (take n p)) false) s.1 in
    (leb-true n 256 t.0, (if-both (zeros (drop n p)) (utf8 (take n p)) t.1).1)

module _ (r : List ℕ) (wide : length r ≡ 264) (form : well_formed r ≡ true) where
  pub text : (get_or r 4 0 ≡ 0 → ⊥) → (get_or r 4 0 ≡ 1 → ⊥) → (length_in r ≤ 256) × (utf8 (take (length_in r) (payload_in r)) ≡ true)
  text a b = kept-string (kind_in r) (length_in r) (payload_in r) (if-both (leb (get_or r 5 0) 1) (well_kept (kind_in r) (length_in r) (payload_in r)) (unfold well_formed in form)).1 a b

  -- no order of a record is longer than 395 bytes
  pub order_le : length (order_in r) ≤ 395
  unfolding entry_in value_in
  order_le =
      let P : NodeValue → Type 0 = λ v. length (set_bytes (id_in r) v) ≤ 395 in
      let s : List ℕ = take (length_in r) (payload_in r) in
      branch P (eqb (get_or r 4 0) 0) (integer (signed 31 (big (take 4 (payload_in r))))) _ (λ _. omega (arith, writer-laws.integer_size (id_in r) (signed 31 (big (take 4 (payload_in r))))))
      (λ j. branch P (eqb (get_or r 4 0) 1) (float (big (take 4 (payload_in r)))) (string s) (λ _. omega (arith, writer-laws.float_size (id_in r) (big (take 4 (payload_in r)))))
      (λ k.
      let t = text (eqb-false (get_or r 4 0) 0 j) (eqb-false (get_or r 4 0) 1 k) in
      writer-laws.string_size (id_in r) s (omega (arith, t.0, length-take-le (length_in r) (payload_in r) (omega (arith, length-drop 8 r)))) t.1))

-- a writer laid the whole, where there was room for it
pub laid-whole : (w : Result ℕ) (s d e : List ℕ) → write_effect w e ≡ write_of s d → length s ≤ length d → Laid s 0 d e (size_in w)
unfolding write_of size_in
laid-whole w s d e q h =
    let z : 0 + length s ≡ length s = omega arith in
    let p : write_effect w e ≡ write_effect (Ok (length s)) (s ++ drop (length s) d) = q ∙ rw (le-ltb (length d) (length s) h) in
    record {
      bytes = ap (λ (x : WriteEffect). x.out) p ∙ sym (sets-eq s d 0 (omega arith) ∙ rw z);
      next = ap (λ (x : WriteEffect). size_in x.answer) p ∙ sym z;
    }

-- ---- the records one by one

-- the orders of the records from the i-th on
abbrev pub left : ℕ → ℕ → List ℕ → List ℕ
left n i b = orders_of (from 264 n i b)

pub left-all : (n : ℕ) (b : List ℕ) → orders_of (records 264 n b) ≡ left n 0 b
left-all n b = ap orders_of (from_all 264 n b)

pub left-next : (n i : ℕ) (b : List ℕ) → i < n → left n i b ≡ order_in (row_at i b) ++ left n (i + 1) b
unfolding joined
left-next n i b h = ap orders_of (from_next 264 n i b h)

pub left-none : (n i : ℕ) (b : List ℕ) → n ≤ i → left n i b ≡ []
unfolding joined
left-none n i b h = ap orders_of (from-none 264 n i b h)

pub left_less : (n i : ℕ) (b : List ℕ) → i < n → length (left n i b) ≡ length (order_in (row_at i b)) + length (left n (i + 1) b)
left_less n i b h = ap length (left-next n i b h) ∙ length-append (order_in (row_at i b)) (left n (i + 1) b)

every-at : {A : Type 0} (p : A → Bool) (xs : List A) (i : ℕ) (d : A) → i < length xs → every p xs ≡ true → p (get_or xs i d) ≡ true
unfolding every
every-at p [] i d h e = absurd (omega arith)
every-at p (x ∷ xs) zero d h e = (if-both (p x) (every p xs) e).0
every-at p (x ∷ xs) (suc i) d h e = every-at p xs i d (omega arith) (if-both (p x) (every p xs) e).1

module _ (t : Table) (u : usable full t ≡ true) where
  -- 01: at most 1,024 places
  pub few-records : t.count ≤ 1024
  unfolding places_allowed
  few-records =
      let n : ℕ = length t.buffer / 264 in
      omega (arith, few full t u, leb-true n 1024 (if-both (leb 1 n) (leb n 1024) (in-range full t u)).1)

  pub row-formed : (i : ℕ) → i < t.count → well_formed (row_at i t.buffer) ≡ true
  row-formed i h =
      rw (row_of 264 t.count i t.buffer h) at (every-at well_formed (rows full t) i [] (omega (arith, length-records 264 t.count t.buffer)) (formed full t u))

  pub row-le : (i : ℕ) → i < t.count → length (order_in (row_at i t.buffer)) ≤ 395
  row-le i h =
      order_le (row_at i t.buffer) (length-take-le 264 (drop (264 * i) t.buffer) (omega (arith, room full t u, length-drop (264 * i) t.buffer))) (row-formed i h)

  left_le : (k i : ℕ) → i + k ≡ t.count → length (left t.count i t.buffer) ≤ 395 * k
  left_le zero i e = rw (left-none t.count i t.buffer (omega arith)) (omega arith)
  left_le (suc k) i e = omega (arith, left_less t.count i t.buffer (omega arith), row-le i (omega arith), left_le k (i + 1) (omega arith))

  -- no more than 395 bytes for each record
  pub orders-le : length (orders_of (rows full t)) ≤ 395 * t.count
  orders-le = omega (arith, left_le t.count 0 (omega arith), ap length (left-all t.count t.buffer))

-- ---- the whole

module _ (t : Table) where
  -- 01: df d1, then the orders
  pub recall-size : length (recall_bytes full t) ≡ 2 + length (orders_of (rows full t))
  unfolding recall_bytes
  recall-size = omega arith

  pub recalled : (out : List ℕ) → usable full t ≡ true → write_of (recall_bytes full t) out ≡ recall_of full t out
  unfolding recall_of
  recalled out u = rw u

  pub unusable : (out : List ℕ) → usable full t ≡ false → write_effect (Err TableUnsound) out ≡ recall_of full t out
  unfolding recall_of
  unusable out u = rw u

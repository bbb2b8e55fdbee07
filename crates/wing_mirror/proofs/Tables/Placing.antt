-- What the branches of has_room and put come to, for any width of record.
use Prim.Native.Nat.{ℕ, suc, ◌+◌, ◌-◌, ◌*◌, ◌/◌, ◌≤◌, ◌<◌}
use mathlib.Core.Bool.{Bool, true, false}
use mathlib.Core.Path.{◌≡◌, sym, ◌∙◌, ap, ap₂}
use mathlib.Core.List.{List, ◌++◌, append_assoc}
use native.Mathlib.Omega.{arith}
use native.Mathlib.Nat.{mul-div-le, mul-le-mul_left}
use borrow.Author.Tests.{lt-ltb, le-ltb}
use lib.Dec.{ltb}
use Rattle.std.proofs.Common.{Result, Ok, Err}
use Rattle.std.specs.Result.{is_ok}
use lib.ListN.{length, take, drop}
use lib.Seq.{sets, sets-eq}
use Rattle.wing_node.specs.Bool.{if}
use Rattle.wing_mirror.specs.Rows.{records, holds, below, insert, takes, store}
use Rattle.wing_mirror.specs.Record.{key_of}
use Rattle.wing_mirror.specs.Table.{table}
use Rattle.wing_mirror.specs.Puts.{PutEffect}
use Rattle.wing_mirror.specs.Order.{position_of, InOrder, put_row}
use Rattle.wing_mirror.proofs.Tables.Ordered.{length-insert}
use Rattle.wing_mirror.proofs.Tables.Chunks.{length-records, row_fits}
use Rattle.wing_mirror.proofs.Tables.Stays.{store-new, store-over}
use Rattle.wing_mirror.proofs.Tables.Laying.{gap-laid}
use Rattle.wing_mirror.proofs.Tables.Finds.{at_most, found_below, position-ok, position-err, ok-position}

-- the bytes of one record more, where a place is free
pub free-fits : (w n l : ℕ) → n < l / w → w * n + w ≤ l
free-fits w n l h = row_fits w n (l / w) l h (mul-div-le l w)

abbrev kept : List ℕ → ℕ → PutEffect
kept buffer count = record { after = table buffer count; taken = true }

module _ (w : ℕ) (b r : List ℕ) (n : ℕ) (o : InOrder w (table b n)) (wide : length r ≡ w) where
  abbrev rs : List (List ℕ)
  rs = records w n b

  abbrev at : ℕ
  at = below key_of (key_of r) rs

  in_rows : w * at ≤ w * n
  in_rows = mul-le-mul_left w (at_most w key_of (key_of r) n b)

  counted : (t : Bool) → holds key_of (key_of r) rs ≡ t → length (insert key_of r rs) ≡ if t n (suc n)
  counted t q = length-insert key_of r rs o.up ∙ rw (q, length-records w n b)

  put-over : holds key_of (key_of r) rs ≡ true → kept (sets b (w * at) r) n ≡ put_row w r (table b n)
  unfolding put_row takes store
  put-over q =
      let l : at < n = found_below w key_of (key_of r) n b o.up q in
      let f : w * at + w ≤ length b = row_fits w at n (length b) l o.room in
      let s : sets b (w * at) r ≡ take (w * at) b ++ (r ++ drop (w * at + w) b) = sets-eq r b (w * at) (omega arith) ∙ rw wide (append_assoc (take (w * at) b) r _) in
      rw (q, counted true q) (ap (λ (x : List ℕ). kept x n) (s ∙ sym (store-over w key_of r (table b n) o.up q l)))

  put-none : holds key_of (key_of r) rs ≡ false → length b / w ≤ n → record { after = table b n; taken = false } ≡ put_row w r (table b n)
  unfolding put_row takes
  put-none q h = rw (q, le-ltb n (length b / w) h)

  put-new : holds key_of (key_of r) rs ≡ false → n < length b / w → (c : List ℕ) →
      c ≡ take (w * at + w) b ++ (take (w * n - w * at) (drop (w * at) b) ++ drop (w * n + w) b) →
      kept (sets c (w * at) r) (n + 1) ≡ put_row w r (table b n)
  unfolding put_row takes store
  put-new q h c e =
      rw (q, lt-ltb n (length b / w) h, counted false q, e, gap-laid b (w * at) (w * n) w r in_rows (free-fits w n (length b) h) wide)
      (ap₂ (λ (x : List ℕ) (m : ℕ). kept x m) (sym (store-new w key_of r (table b n) o.up q (at_most w key_of (key_of r) n b))) (omega arith))

  -- the same, as the code has them: the record's key k, and what the search for it answers
  module _ (k : ℕ) (ek : k ≡ key_of r) (m : ℕ) where
    module _ (e : Ok m ≡ position_of key_of k rs) where
      there : (m ≡ at) × (holds key_of (key_of r) rs ≡ true)
      there = position-ok m at _ (e ∙ ap (λ (x : ℕ). position_of key_of x rs) ek)

      pub found-fits : w * m + w ≤ length b
      found-fits = row_fits w m n (length b) (rw there.0 (found_below w key_of (key_of r) n b o.up there.1)) o.room

      pub over-it : (c : List ℕ) → c ≡ sets b (w * m) r → kept c n ≡ put_row w r (table b n)
      over-it c q = rw (q, there.0) (put-over there.1)

    module _ (e : Err m ≡ position_of key_of k rs) where
      absent : (m ≡ at) × (holds key_of (key_of r) rs ≡ false)
      absent = position-err m at _ (e ∙ ap (λ (x : ℕ). position_of key_of x rs) ek)

      pub in_table : w * m ≤ w * n
      in_table = rw absent.0 in_rows

      pub none_free : length b / w ≤ n → record { after = table b n; taken = false } ≡ put_row w r (table b n)
      none_free = put-none absent.1

      pub new-one : (c d : List ℕ) → n < length b / w →
          c ≡ take (w * m + w) b ++ (take (w * n - w * m) (drop (w * m) b) ++ drop (w * n + w) b) → d ≡ sets c (w * m) r →
          kept d (n + 1) ≡ put_row w r (table b n)
      new-one c d l q f = rw (f, absent.0) (put-new absent.1 l c (rw absent.0 at q))

  -- the same of the test for room
  pub takes-is : (k : ℕ) → k ≡ key_of r → (p : Result ℕ ℕ) → p ≡ position_of key_of k rs → takes w key_of r (table b n) ≡ if (is_ok p) true (ltb n (length b / w))
  unfolding takes
  takes-is k ek p e =
      let h = sym (ap is_ok (e ∙ ap (λ (x : ℕ). position_of key_of x rs) ek) ∙ ok-position at (holds key_of (key_of r) rs)) in
      ap (λ (t : Bool). if t true (ltb n (length b / w))) h

-- How many keys a search from the high end reads, for any elements and any key; and its turns over a table.
use Prim.Native.Nat.{ℕ, zero, suc, ◌+◌, ◌-◌, ◌≤◌, ◌<◌}
use mathlib.Core.Bool.{Bool, true, false}
use mathlib.Core.Path.{◌≡◌, refl, sym, ◌∙◌, ap, ap₂}
use mathlib.Core.List.{List, [], ◌∷◌, ◌++◌, map, reverse, reverse-cons, reverse-append, reverse-reverse}
use native.Mathlib.Omega.{arith}
use borrow.Author.Tests.{lt-ltb, le-ltb, ltb-false}
use lib.Dec.{ltb}
use Rattle.std.proofs.Common.{Result}
use lib.ListN.{length, length-append, length-map}
use Rattle.wing_node.specs.Bool.{if}
use Rattle.wing_mirror.specs.Rows.{row, records, rising, All}
use Rattle.wing_mirror.specs.Table.{every}
use Rattle.wing_mirror.specs.Lists.{filter}
use Rattle.wing_mirror.specs.Order.{position, position_of}
use Rattle.wing_mirror.specs.HighEnd.{above_and_one, read_in_turn, reads, counted_of}
use Rattle.wing_mirror.specs.declared.order.Counted.{Counted}
use Rattle.wing_mirror.proofs.Tables.Ordered.{rising-tail}
use Rattle.wing_mirror.proofs.Tables.Finds.{last-above, rising-front, rows_last, down, stops, hits, none_left}
use Rattle.wing_mirror.proofs.Tables.Images.{every_map, every-last}
use Rattle.wing_mirror.proofs.Lists.Filtered.{filter-append, filter_none, filter_same, filter_map}

module _ {A : Type 0} (above : A → Bool) where
  -- one more above, after others
  one-above : (xs : List A) (x : A) → above x ≡ true → above_and_one above (xs ++ (x ∷ [])) ≡ suc (above_and_one above xs)
  unfolding above_and_one filter
  one-above xs x h =
      let l : length (filter above (xs ++ (x ∷ []))) ≡ length (filter above xs) + 1 =
      ap length (filter-append above xs (x ∷ [])) ∙ length-append (filter above xs) (filter above (x ∷ [])) ∙ rw h in
      rw (every-last above xs x h) (omega arith)

  -- some, and none of them above
  none_above : (x : A) (xs : List A) → All (λ (x : A). above x ≡ false) (x ∷ xs) → above_and_one above (x ∷ xs) ≡ 1
  unfolding above_and_one every
  none_above x xs a = rw (filter_none above (x ∷ xs) a, a.0)

-- where an element is above exactly if its image is, as many of the images are
pub above_map : {A B : Type 0} (p : A → Bool) (q : B → Bool) (f : A → B) (xs : List A) → All (λ (x : A). p x ≡ q (f x)) xs → above_and_one p xs ≡ above_and_one q (map f xs)
unfolding above_and_one
above_map {A} p q f xs a =
    let r : A → Bool = λ x. q (f x) in
    let m : length (filter q (map f xs)) ≡ length (filter r xs) = ap length (filter_map q f xs) ∙ length-map (filter r xs) f in
    ap₂ (λ (n : ℕ) (t : Bool). n + if t 0 1) (ap length (filter_same p r xs a) ∙ sym m) (every_map p q f xs a)

module _ {A : Type 0} (key : A → ℕ) (k : ℕ) where
  abbrev above : A → Bool
  above x = ltb k (key x)

  -- where the last of a rising list is not above k, none is
  none-to-last : (xs : List A) (x : A) → rising key (xs ++ (x ∷ [])) ≡ true → key x ≤ k → All (λ (y : A). above y ≡ false) (xs ++ (x ∷ []))
  none-to-last [] x r h = (le-ltb k (key x) h, tt)
  none-to-last (y ∷ xs) x r h = let l = last-above key y xs x r in (le-ltb k (key y) (omega arith), none-to-last xs x (rising-tail key y (xs ++ (x ∷ [])) r) h)

  ends_at : (xs : List A) (x : A) → rising key (xs ++ (x ∷ [])) ≡ true → key x ≤ k → above_and_one above (xs ++ (x ∷ [])) ≡ 1
  ends_at [] x r h = none_above above x [] (none-to-last [] x r h)
  ends_at (y ∷ xs) x r h = none_above above y (xs ++ (x ∷ [])) (none-to-last (y ∷ xs) x r h)

  -- from the last on, which stands first in the reversed list
  in-turn : (zs : List A) → rising key (reverse zs) ≡ true → read_in_turn key k zs ≡ above_and_one above (reverse zs)
  unfolding read_in_turn above_and_one filter every
  in-turn [] r = refl
  in-turn (z ∷ zs) r = go (ltb k (key z)) refl (in-turn zs) ∙ sym (ap (above_and_one above) (reverse-cons z zs))
    where
      up : rising key (reverse zs ++ (z ∷ [])) ≡ true
      up = sym (ap (rising key) (reverse-cons z zs)) ∙ r

      go : (t : Bool) → ltb k (key z) ≡ t → (rising key (reverse zs) ≡ true → read_in_turn key k zs ≡ above_and_one above (reverse zs)) →
          if t (suc (read_in_turn key k zs)) 1 ≡ above_and_one above (reverse zs ++ (z ∷ []))
      go true q ih = ap suc (ih (rising-front key (reverse zs) (z ∷ []) up)) ∙ sym (one-above above (reverse zs) z q)
      go false q ih = sym (ends_at (reverse zs) z up (ltb-false k (key z) q))

  -- 02: the count of a search in a rising list: those above k, and one more if any is not above it
  pub reads-above : (xs : List A) → rising key xs ≡ true → reads key k xs ≡ above_and_one above xs
  unfolding reads
  reads-above xs r = in-turn (reverse xs) (ap (rising key) (reverse-reverse xs) ∙ r) ∙ ap (above_and_one above) (reverse-reverse xs)

  -- the last key is read first: above k the search goes on, else it ends
  pub reads_on : (xs : List A) (x : A) → k < key x → reads key k (xs ++ (x ∷ [])) ≡ suc (reads key k xs)
  unfolding reads read_in_turn
  reads_on xs x h = ap (read_in_turn key k) (reverse-append xs (x ∷ [])) ∙ rw (lt-ltb k (key x) h)

  pub reads_end : (xs : List A) (x : A) → key x ≤ k → reads key k (xs ++ (x ∷ [])) ≡ 1
  unfolding reads read_in_turn
  reads_end xs x h = ap (read_in_turn key k) (reverse-append xs (x ∷ [])) ∙ rw (le-ltb k (key x) h)

-- ---- the turns of a search over a table

abbrev counted : Result ℕ ℕ → ℕ → Counted
counted p reads = record { position = p; reads = reads }

-- where n keys were read and these records are left
abbrev pub counted_from : ℕ → (List ℕ → ℕ) → ℕ → List (List ℕ) → Counted
counted_from n key k rs = counted (position_of key k rs) (n + reads key k rs)

pub from-none : (key : List ℕ → ℕ) (k : ℕ) (rs : List (List ℕ)) → counted_of key k rs ≡ counted_from 0 key k rs
from-none key k rs = ap (counted (position_of key k rs)) (omega arith)

module _ (w : ℕ) (key : List ℕ → ℕ) (k i n : ℕ) (b : List ℕ) (some : 0 < i) where
  abbrev last : List ℕ
  last = row w (i - 1) b

  last-read : key last ≤ k → n + reads key k (records w i b) ≡ n + 1
  last-read h = ap (λ (rs : List (List ℕ)). n + reads key k rs) (rows_last w i b some) ∙ ap (λ (m : ℕ). n + m) (reads_end key k (records w (i - 1) b) last h)

  pub goes_down : k < key last → counted_from n key k (records w i b) ≡ counted_from (n + 1) key k (records w (i - 1) b)
  goes_down h =
      let l : reads key k (records w i b) ≡ suc (reads key k (records w (i - 1) b)) = ap (reads key k) (rows_last w i b some) ∙ reads_on key k (records w (i - 1) b) last h in
      ap₂ counted (down w key k i b some h) (omega arith)

  module _ (r : rising key (records w i b) ≡ true) where
    pub stops-below : key last < k → counted_from n key k (records w i b) ≡ counted (position i false) (n + 1)
    stops-below h = ap₂ counted (stops w key k i b some r h) (last-read (omega arith))

    pub stops-there : key last ≡ k → counted_from n key k (records w i b) ≡ counted (position (i - 1) true) (n + 1)
    stops-there e = ap₂ counted (hits w key k i b some r e) (last-read (omega arith))

pub stops-under : (w : ℕ) (key : List ℕ → ℕ) (k i n : ℕ) (b : List ℕ) → i ≤ 0 → counted_from n key k (records w i b) ≡ counted (position i false) n
unfolding records reads read_in_turn
stops-under w key k zero n b h = ap₂ counted (none_left w key k zero b h) (omega arith)
stops-under w key k (suc i) n b h = absurd (omega arith)

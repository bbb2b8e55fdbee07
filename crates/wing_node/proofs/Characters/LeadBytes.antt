-- The rows that a byte begins, and what the code decides of a lead byte: one test, computed at each of 256 bytes.
use Prim.Native.Nat.{ℕ, ◌-◌, ◌<◌}
use mathlib.Core.Bool.{Bool, true}
use mathlib.Core.Path.{◌≡◌, ap, subst}
use mathlib.Core.List.{List, [], ◌∷◌}
use lib.Count.{count_leading_zeros}
use lib.Dec.{T, eqb, ltb, eqb→eq}
use lib.ListN.{take, drop, replicate}
use borrow.Author.Tests.{ne_eqb}
use Rattle.wing_node.specs.Bool.{if, and}
use Rattle.wing_node.specs.Utf8.{Range, utf8_tail, chars, holds, begins, first_that, row_of, lead_length, ones_in, class, class_length, ClassesHold, second}
use Rattle.wing_node.proofs.Below.{and-T-left, and-T-right, below}
use Rattle.wing_node.proofs.Characters.Rows.{alone, same, same-eq}

abbrev pub leads : ℕ → List Range → Bool
leads b row = begins (take 1 row) (b ∷ [])

-- what the grammar has after a lead byte
abbrev pub rest : ℕ → List Range
rest b = if (ltb (lead_length b) 2) [] (second b ∷ replicate (lead_length b - 2) utf8_tail)

-- the class gives the length, of a byte that begins a character
abbrev classed : ℕ → Bool
classed b = if (eqb (lead_length b) 0) true (eqb (lead_length b) (class_length (class b)))

-- what the code decides
abbrev pub by_ones : ℕ → ℕ → ℕ
by_ones ones b = if (eqb ones 0) 1 (if (eqb ones 2) (if (ltb b 0xc2) 0 2) (if (eqb ones 3) 3 (if (eqb ones 4) (if (ltb b 0xf5) 4 0) 0)))

abbrev pub low_of : ℕ → ℕ
low_of b = if (eqb b 0xe0) 0xa0 (if (eqb b 0xf0) 0x90 0x80)

abbrev pub high_of : ℕ → ℕ
high_of b = if (eqb b 0xed) 0x9f (if (eqb b 0xf4) 0x8f 0xbf)

-- what holds of a lead byte: at most one row has it, and the code decides as that row says
pub record Lead (b : ℕ) : Type 0 where
  pub one : T (alone (leads b) chars)
  pub follows : drop 1 (row_of b) ≡ rest b
  pub ones : count_leading_zeros 8 (255 - b) ≡ class b
  pub right : T (classed b)
  pub long : by_ones (class b) b ≡ lead_length b
  pub lowest : low_of b ≡ (second b).low
  pub highest : high_of b ≡ (second b).high

agrees : ℕ → Bool
agrees b =
    and (alone (leads b) chars) (and (same (drop 1 (row_of b)) (rest b))
    (and (eqb (count_leading_zeros 8 (255 - b)) (class b)) (and (classed b)
    (and (eqb (by_ones (class b) b) (lead_length b)) (and (eqb (low_of b) (second b).low) (eqb (high_of b) (second b).high))))))

computed : (b : ℕ) → b < 256 → T (agrees b)
unfolding agrees count_leading_zeros holds begins first_that row_of lead_length ones_in class second
computed = below agrees 256 tt

pub lead : (b : ℕ) → b < 256 → Lead b
unfolding agrees
lead b h =
    let t = computed b h in
    let u = and-T-right (alone (leads b) chars) _ t in
    let v = and-T-right (same (drop 1 (row_of b)) (rest b)) _ u in
    let w = and-T-right (eqb (count_leading_zeros 8 (255 - b)) (class b)) _ v in
    let x = and-T-right (classed b) _ w in
    let y = and-T-right (eqb (by_ones (class b) b) (lead_length b)) _ x in
    record {
      one = and-T-left (alone (leads b) chars) _ t;
      follows = same-eq (drop 1 (row_of b)) (rest b) (and-T-left (same (drop 1 (row_of b)) (rest b)) _ u);
      ones = eqb→eq _ _ (and-T-left (eqb (count_leading_zeros 8 (255 - b)) (class b)) _ v);
      right = and-T-left (classed b) _ w;
      long = eqb→eq _ _ (and-T-left (eqb (by_ones (class b) b) (lead_length b)) _ x);
      lowest = eqb→eq _ _ (and-T-left (eqb (low_of b) (second b).low) _ y);
      highest = eqb→eq _ _ (and-T-right (eqb (low_of b) (second b).low) _ y);
    }

pub classes-hold : ClassesHold
classes-hold b h n = eqb→eq _ _ (subst T (ap (λ q. if q true (eqb (lead_length b) (class_length (class b)))) (ne_eqb (lead_length b) 0 n)) (lead b h).right)

-- A part of bytes, as far as they reach.
use mathlib.Core.Path.{◌≡◌, refl, ◌∙◌, ap, sym}
use mathlib.Core.List.{List, []}
use Prim.Native.Nat.{ℕ, min, ◌-◌, ◌≤◌, ◌<◌}
use native.Mathlib.Omega.{arith}
use lib.Dec.{ltb}
use mathlib.Core.Bool.{Bool, true, false}
use borrow.Author.Tests.{ltb-true, ltb-false}
use lib.ListN.{length, take, drop, length-drop, drop_of_length-le}
use lib.Seq.{take_all}
use Rattle.wing_node.proofs.Bodies.Checks.{take-there}

pub part-taken : (s : List ℕ) (from len start n : ℕ) → start ≡ min from (length s) → n ≡ min len (length s - start) → take n (drop start s) ≡ take len (drop from s)
part-taken s from len start n a b = go (ltb (length s) from) refl
  where
    go : (past : Bool) → ltb (length s) from ≡ past → take n (drop start s) ≡ take len (drop from s)
    go true e =
        let p : length s < from = ltb-true (length s) from e in
        rw (drop_of_length-le s {i = start} (omega arith), drop_of_length-le s {i = from} (omega arith)) (take_all n [] (omega arith) ∙ sym (take_all len [] (omega arith)))
    go false e =
        let p : from ≤ length s = ltb-false (length s) from e in
        let same : start ≡ from = omega arith in
        let k : n ≡ min len (length (drop from s)) = b ∙ ap (λ m. min len m) (rw same (sym (length-drop from s))) in
        rw (same, k) (take-there len (drop from s))

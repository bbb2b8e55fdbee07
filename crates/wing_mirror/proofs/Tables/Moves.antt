-- The list after some bytes went up by w, from the end down, and bytes copied over a part of a list.
use Prim.Native.Nat.{ℕ, zero, suc, ◌+◌, ◌-◌, ◌≤◌, ◌<◌}
use mathlib.Core.Path.{◌≡◌, refl, sym, ◌∙◌}
use mathlib.Core.List.{List, ◌++◌, append_assoc}
use native.Mathlib.Omega.{arith}
use native.Mathlib.Nat.{suc-add}
use lib.ListN.{length, take, drop, set, get_or, take-append-drop, get_or-append}
use lib.Seq.{length-take-le, take-suc, take_all, drop-cons, set_at, sets, sets-eq, get_or-take}
use borrow.Rule.Slice.PartMut.{put_mid}
use Rattle.std.proofs.lemmas.Slice.{put_mid-paste}

-- those from i to end are up
unfoldable pub moved : List ℕ → ℕ → ℕ → ℕ → List ℕ
moved l i end w = take (i + w) l ++ (take (end - i) (drop i l) ++ drop (end + w) l)

pub no_move : (l : List ℕ) (end w : ℕ) → l ≡ moved l end end w
unfolding moved
no_move l end w = let z : end - end ≡ 0 = omega arith in rw z (sym (take-append-drop (end + w) l))

value : (l : List ℕ) (j end w : ℕ) → j < end → end + w ≤ length l → get_or (moved l (suc j) end w) j 0 ≡ get_or l j 0
unfolding moved
value l j end w h k =
    let f : suc j + w ≤ length l = omega arith in
    let e : length (take (suc j + w) l) ≡ suc j + w = length-take-le (suc j + w) l f in
    get_or-append (take (suc j + w) l) _ 0 j (omega arith) ∙ get_or-take (suc j + w) l j 0 (omega arith)

step : (l : List ℕ) (j end w v : ℕ) → j < end → end + w ≤ length l → v ≡ get_or l j 0 → set (moved l (suc j) end w) (j + w) v ≡ moved l j end w
unfolding moved
step l j end w v h k q =
    let f : j + w < length l = omega arith in
    let g : j < length l = omega arith in
    let n : end - j ≡ suc (end - suc j) = omega arith in
    rw (suc-add j w, take-suc l (j + w) 0 f, append_assoc)
    (set_at (take (j + w) l) _ _ v (j + w) (length-take-le (j + w) l (omega arith)) ∙ rw (n, drop-cons l j 0 g, q))

pub again : (l : List ℕ) (i end w : ℕ) → 0 < i → i ≤ end → end + w ≤ length l →
    set (moved l i end w) (i - 1 + w) (get_or (moved l i end w) (i - 1) 0) ≡ moved l (i - 1) end w
again l zero end w p h k = absurd (omega arith)
again l (suc j) end w p h k =
    let z : suc j - 1 ≡ j = omega arith in
    rw z (step l j end w _ h k (value l j end w h k))

-- a part that holds the bytes y now has them laid over it
pub copied : (x y : List ℕ) (at : ℕ) (z : List ℕ) → z ≡ y → at + length y ≤ length x → put_mid at (at + length y - at) x z ≡ sets x at y
copied x y at z e h = put_mid-paste at (at + length y - at) x z y (length y) e (omega arith) refl ∙ rw (take_all (length y) y (omega arith)) (sym (sets-eq y x at h))

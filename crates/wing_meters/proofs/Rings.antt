-- Levels in a ring: those held, the oldest first, after one more goes in.
use Prim.Native.Nat.{ℕ, suc, ◌+◌, ◌-◌, ◌≤◌, ◌<◌}
use mathlib.Core.Logic.{◌⊎◌, inl, inr, ⊎_elim}
use mathlib.Core.Path.{◌≡◌, refl, sym, ap, ◌∙◌}
use mathlib.Core.List.{List, [], ◌∷◌, ◌++◌, append_assoc, append-nil}
use native.Mathlib.Omega.{arith}
use native.Mathlib.Numerals.{add-one}
use lib.Dec.{ltb}
use lib.ListN.{length, take, drop, set, length-append, length-set, drop_of_length-le, take-append-drop}
use lib.Seq.{length-take-le, take_all, take-set-lt, take-suc-set, drop-set-lt, drop-cons}
use borrow.Author.Tests.{lt-ltb, le-ltb, ltb-true, ltb-false}
use Rattle.wing_node.proofs.Branches.{branch}
use Rattle.wing_meters.specs.Afresh.{last_of}
use Rattle.wing_meters.specs.Window.{in_order, grown, onward}

-- ---- a list turned

pub turned-whole : (n : ℕ) (r : List ℕ) → length r ≤ n → in_order n r ≡ r
unfolding in_order
turned-whole n r h = rw (drop_of_length-le r h) (take_all n r h)

pub turned_none : (r : List ℕ) → in_order 0 r ≡ r
unfolding in_order
turned_none r = append-nil r

pub length-turned : (n : ℕ) (r : List ℕ) → length (in_order n r) ≡ length r
unfolding in_order
length-turned n r =
    length-append (drop n r) (take n r) ∙
    omega (arith, length-append (take n r) (drop n r), ap length (take-append-drop n r))

-- one replaced where the list is turned: the first leaves, and it comes last
turned_set : (r : List ℕ) (n v : ℕ) → n < length r → in_order (suc n) (set r n v) ≡ drop 1 (in_order n r ++ (v ∷ []))
unfolding in_order
turned_set r n v h =
    rw (drop-set-lt (suc n) r n v (omega arith), take-suc-set r n v h, drop-cons r n 0 h) (sym (append_assoc (drop (suc n) r) (take n r) (v ∷ [])))

-- the place after one, in a ring as long as it is wide
turned-onward : (r : List ℕ) (n width : ℕ) → n < width → length r ≤ width → in_order (onward n width) r ≡ in_order (suc n) r
turned-onward r n width h l =
    branch (λ (m : ℕ). in_order m r ≡ in_order (suc n) r) (ltb (n + 1) width) _ _ (λ e. rw (add-one n) refl)
    (λ e. let over : width ≤ n + 1 = ltb-false _ _ e in turned_none r ∙ sym (turned-whole (suc n) r (omega arith)))

-- ---- the last of a list

pub last-all : {A : Type 0} (n : ℕ) (xs : List A) → length xs ≤ n → last_of n xs ≡ xs
last-all n xs h = let e : length xs - n ≡ 0 = omega arith in ap (λ (k : ℕ). drop k xs) e

pub last-but : {A : Type 0} (n : ℕ) (xs : List A) → length xs ≡ n + 1 → last_of n xs ≡ drop 1 xs
last-but n xs h = let e : length xs - n ≡ 1 = omega arith in ap (λ (k : ℕ). drop k xs) e

-- ---- one more level goes in

module _ (levels : List ℕ) (width v : ℕ) (fits : width ≤ length levels) where
  -- while there is room it stands after the others
  pub unfilled : (held : ℕ) → held < width → in_order (onward held width) (take (held + 1) (set levels held v)) ≡ in_order held (take held levels) ++ (v ∷ [])
  unfilled held h =
      let r = take held levels in
      let size : length r ≡ held = length-take-le held levels (omega arith) in
      let more : length (r ++ (v ∷ [])) ≡ suc held = length-append r (v ∷ []) ∙ omega arith in
      let put : take (held + 1) (set levels held v) ≡ r ++ (v ∷ []) =
      ap (λ (n : ℕ). take n (set levels held v)) (add-one held) ∙ take-suc-set levels held v (omega arith) in
      ap (in_order (onward held width)) put ∙
      (turned-onward (r ++ (v ∷ [])) held width h (omega arith) ∙
      (turned-whole (suc held) (r ++ (v ∷ [])) (omega arith) ∙
      ap (λ (l : List ℕ). l ++ (v ∷ [])) (sym (turned-whole held r (omega arith)))))

  -- then the oldest, which stands at the next place, leaves
  pub full : (next : ℕ) → next < width → in_order (onward next width) (take width (set levels next v)) ≡ drop 1 (in_order next (take width levels) ++ (v ∷ []))
  full next h =
      let r = take width levels in
      let size : length r ≡ width = length-take-le width levels fits in
      let sizes : length (set r next v) ≡ width = length-set r next v ∙ size in
      ap (in_order (onward next width)) (take-set-lt width levels next v h) ∙
      (turned-onward (set r next v) next width h (omega arith) ∙ turned_set r next v (omega arith))

-- ---- where the next place is after that

-- until the ring is full the next place is after the last one, then any of the ring
abbrev pub Place : ℕ → ℕ → ℕ → Type 0
Place width held next = ((held < width) × (next ≡ held)) ⊎ ((held ≡ width) × (next < width))

module _ (width held next : ℕ) (some : 1 ≤ width) where
  pub grown-below : held < width → grown held width ≡ held + 1
  grown-below h = simp (lt-ltb held width h)

  pub grown-full : held ≡ width → grown held width ≡ held
  grown-full h = simp (le-ltb held width (omega arith))

  onward-in : onward next width < width
  onward-in = branch (λ (n : ℕ). n < width) (ltb (next + 1) width) _ _ (λ e. ltb-true _ _ e) (λ e. omega arith)

  below_on : held < width → next ≡ held → Place width (held + 1) (onward next width)
  below_on h e =
      branch (Place width (held + 1)) (ltb (next + 1) width) _ _
      (λ t. let l : next + 1 < width = ltb-true _ _ t in inl (omega arith, omega arith))
      (λ t. let l : width ≤ next + 1 = ltb-false _ _ t in inr (omega arith, omega arith))

  pub place-on : Place width held next → Place width (grown held width) (onward next width)
  place-on p =
      ⊎_elim (λ u. rw (grown-below u.0) (below_on u.0 u.1)) (λ f. rw (grown-full f.0) (inr (f.0, onward-in))) p

-- Texts parted by a byte: the first part, and what is after it.
use Prim.Native.Nat.{ℕ, suc, ◌+◌, ◌≤◌, ◌<◌}
use mathlib.Core.Bool.{Bool, true, not, cond}
use mathlib.Core.Path.{◌≡◌, refl, sym, ap, ◌∙◌}
use mathlib.Core.List.{List, [], ◌∷◌, ◌++◌}
use native.Mathlib.Omega.{arith}
use borrow.Author.Tests.{ltb-false, eqb-true, eqb-false, not-true, eq-eqb, ne_eqb}
use lib.Dec.{eqb, ltb}
use Rattle.std.specs.List.{position_or_len}
use Rattle.std.specs.Option.{unwrap_or}
use Rattle.std.proofs.Common.{Option, Some, None}
use Rattle.std.proofs.lemmas.List.Recursion.{is_position_or_len}
use lib.ListN.{length, get_or, take, drop}
use Rattle.wing_node.proofs.Branches.{if-both}
use Rattle.wing_mirror.specs.Table.{every}
use Rattle.wing_listing.specs.Parts.{onto, parted, part}
use Rattle.wing_listing.proofs.Texts.Numbers.{by-test}

-- none of the bytes is b
abbrev pub plain : ℕ → List ℕ → Bool
plain b s = every (λ a. not (eqb a b)) s

one_more : (n : ℕ) → suc (n + 1) ≡ suc n + 1
one_more n = omega arith

module _ (b : ℕ) where
  onto-first : (a : ℕ) (ps : List (List ℕ)) → get_or (onto a ps) 0 [] ≡ a ∷ get_or ps 0 []
  unfolding onto
  onto-first a [] = refl
  onto-first a (p ∷ ps) = refl

  pub front-hit : (a : ℕ) (s : List ℕ) → a ≡ b → part b 0 (a ∷ s) ≡ []
  unfolding parted
  front-hit a s e = rw (eq-eqb a b e)

  pub front-on : (a : ℕ) (s : List ℕ) → (a ≡ b → ⊥) → part b 0 (a ∷ s) ≡ a ∷ part b 0 s
  unfolding parted
  front-on a s e = rw (ne_eqb a b e) (onto-first a (parted b s))

  pub front-nil : part b 0 [] ≡ []
  unfolding parted
  front-nil = refl

  pub front-le : (s : List ℕ) → length (part b 0 s) ≤ length s
  front-le [] = omega (arith, ap length front-nil)
  front-le (a ∷ s) =
      by-test (eqb a b) (λ t. omega (arith, ap length (front-hit a s (eqb-true a b t))))
      (λ t. omega (arith, ap length (front-on a s (eqb-false a b t)), front-le s))

  -- as the library finds it
  pub front-place : (s : List ℕ) → length (part b 0 s) ≡ position_or_len (λ (a : ℕ). eqb a b) s
  front-place = is_position_or_len (λ (s : List ℕ). length (part b 0 s)) (λ (a : ℕ). eqb a b) (ap length front-nil) step
    where
      step : (a : ℕ) (s : List ℕ) → length (part b 0 (a ∷ s)) ≡ cond (eqb a b) 0 (1 + length (part b 0 s))
      step a s =
          by-test (eqb a b) (λ t. rw t (ap length (front-hit a s (eqb-true a b t))))
          (λ t. rw t (ap length (front-on a s (eqb-false a b t)) ∙ omega arith))

  pub first-place : (s : List ℕ) (o : Option ℕ) →
      o ≡ cond (ltb (position_or_len (λ (a : ℕ). eqb a b) s) (length s)) (Some (position_or_len (λ (a : ℕ). eqb a b) s)) None →
      unwrap_or o (length s) ≡ length (part b 0 s)
  first-place s o e =
      by-test (ltb (position_or_len (λ (a : ℕ). eqb a b) s) (length s))
      (λ t. rw e (rw t (sym (front-place s))))
      (λ t. rw e (rw t (omega (arith, front-le s, front-place s, ltb-false _ _ t))))

  -- there is always one part
  pub parted-some : (s : List ℕ) → parted b s ≡ part b 0 s ∷ drop 1 (parted b s)
  unfolding parted onto
  parted-some [] = refl
  parted-some (a ∷ s) = by-test (eqb a b) (λ t. rw t) (λ t. rw t (some (parted b s)))
    where
      some : (ps : List (List ℕ)) → onto a ps ≡ get_or (onto a ps) 0 [] ∷ drop 1 (onto a ps)
      some [] = refl
      some (p ∷ ps) = refl

  parted-first : (a : ℕ) (s : List ℕ) → a ≡ b → parted b (a ∷ s) ≡ [] ∷ parted b s
  unfolding parted
  parted-first a s e = rw (eq-eqb a b e)

  parted-on : (a : ℕ) (s : List ℕ) → (a ≡ b → ⊥) → parted b (a ∷ s) ≡ onto a (parted b s)
  unfolding parted
  parted-on a s e = rw (ne_eqb a b e)

  -- where the first part is not the whole, b stands after it, and then the other parts
  pub parted-hit : (s : List ℕ) → length (part b 0 s) < length s → parted b s ≡ part b 0 s ∷ parted b (drop (length (part b 0 s) + 1) s)
  unfolding onto
  parted-hit [] h = absurd (omega arith)
  parted-hit (a ∷ s) h =
      by-test (eqb a b)
      (λ t.
      let e = eqb-true a b t in
      parted-first a s e ∙ ap (λ (q : List ℕ). q ∷ parted b (drop (length q + 1) (a ∷ s))) (sym (front-hit a s e)))
      (λ t.
      let e = eqb-false a b t in
      let p = front-on a s e in
      parted-on a s e ∙ ap (onto a) (parted-hit s (omega (arith, ap length p, h))) ∙ ap (λ j. (a ∷ part b 0 s) ∷ parted b (drop j (a ∷ s))) (one_more (length (part b 0 s))) ∙ ap (λ (q : List ℕ). q ∷ parted b (drop (length q + 1) (a ∷ s))) (sym p))

  -- where it is, there is no other
  pub parted-whole : (s : List ℕ) → length s ≤ length (part b 0 s) → parted b s ≡ s ∷ []
  unfolding onto parted
  parted-whole [] h = refl
  parted-whole (a ∷ s) h =
      by-test (eqb a b)
      (λ t. absurd (omega (arith, ap length (front-hit a s (eqb-true a b t)), h)))
      (λ t. let e = eqb-false a b t in parted-on a s e ∙ ap (onto a) (parted-whole s (omega (arith, ap length (front-on a s e), h))))

  -- the text is its first part, b, and the rest
  pub front-text : (s : List ℕ) → length (part b 0 s) < length s → s ≡ part b 0 s ++ (b ∷ drop (length (part b 0 s) + 1) s)
  front-text [] h = absurd (omega arith)
  front-text (a ∷ s) h =
      by-test (eqb a b)
      (λ t.
      let e = eqb-true a b t in
      ap (λ c. c ∷ s) e ∙ ap (λ (q : List ℕ). q ++ (b ∷ drop (length q + 1) (a ∷ s))) (sym (front-hit a s e)))
      (λ t.
      let e = eqb-false a b t in
      let p = front-on a s e in
      ap (λ (q : List ℕ). a ∷ q) (front-text s (omega (arith, ap length p, h))) ∙ ap (λ j. a ∷ (part b 0 s ++ (b ∷ drop j (a ∷ s)))) (one_more (length (part b 0 s))) ∙ ap (λ (q : List ℕ). q ++ (b ∷ drop (length q + 1) (a ∷ s))) (sym p))

  pub front-take : (s : List ℕ) → part b 0 s ≡ take (length (part b 0 s)) s
  front-take [] = front-nil ∙ ap (λ (q : List ℕ). take (length q) []) (sym front-nil)
  front-take (a ∷ s) =
      by-test (eqb a b)
      (λ t. let p = front-hit a s (eqb-true a b t) in p ∙ ap (λ (q : List ℕ). take (length q) (a ∷ s)) (sym p))
      (λ t. let p = front-on a s (eqb-false a b t) in p ∙ ap (λ (q : List ℕ). a ∷ q) (front-take s) ∙ ap (λ (q : List ℕ). take (length q) (a ∷ s)) (sym p))

  -- bytes without b, b, and the rest
  pub parted-plain : (s : List ℕ) → plain b s ≡ true → parted b s ≡ s ∷ []
  unfolding every parted onto
  parted-plain [] e = refl
  parted-plain (a ∷ s) e =
      let d = if-both (not (eqb a b)) (plain b s) e in
      parted-on a s (eqb-false a b (not-true (eqb a b) d.0)) ∙ ap (onto a) (parted-plain s d.1)

  pub parted-ended : (s t : List ℕ) → plain b s ≡ true → parted b (s ++ (b ∷ t)) ≡ s ∷ parted b t
  unfolding every onto
  parted-ended [] t e = parted-first b t refl
  parted-ended (a ∷ s) t e =
      let d = if-both (not (eqb a b)) (plain b s) e in
      parted-on a (s ++ (b ∷ t)) (eqb-false a b (not-true (eqb a b) d.0)) ∙ ap (onto a) (parted-ended s t d.1)

-- Decision trees, line by line.
use Prim.Native.Nat.{ℕ}
use mathlib.Core.Bool.{Bool, true, false, not}
use mathlib.Core.Path.{◌≡◌, sym, ◌∙◌}
use mathlib.Core.List.{List, [], ◌∷◌}
use native.Mathlib.Omega.{arith}
use Rattle.wing_node.specs.declared.refusal.Refusal.{Refusal}
use Rattle.wing_node.specs.Bool.{if}
use Rattle.wing_node.specs.Result.{Result, ok, refused}
use Rattle.promises.specs.Lines.{Line, ◌gives◌, by, Answers}

-- what is given is no refusal
pub given : {A : Type 0} (a : A) (why : Refusal) → ok a ≡ refused why → ⊥
given a why e = let z : ◌≡◌ {A = ℕ} 0 1 = cc in omega arith

-- x is what a call leaves: `came` tells what it came to, and W that all is as it was
module _ {X A : Type 0} (came : X → Result A) (W : X → Type 0) (a : A) where
  -- taken, with no line left
  pub taken : (x : X) → came x ≡ ok a → Answers [] a (came x) (W x)
  unfolding by
  taken x e = record { result = e; as_it_was = λ n p. absurd (given a n (sym e ∙ p)) }

  -- sent back by this line, or told by the lines after it
  pub line : (test : Bool) (k : Refusal) (ls : List Line) (x y : X) → came x ≡ refused k → W x → Answers ls a (came y) (W y) →
      Answers ((test gives k) ∷ ls) a (came (if test x y)) (W (if test x y))
  unfolding by
  line true k ls x y e w t = record { result = e; as_it_was = λ n p. w }
  line false k ls x y e w t = record { result = t.result; as_it_was = t.as_it_was }

  -- the same where the test says that the call goes on
  pub unless : (test : Bool) (k : Refusal) (ls : List Line) (x y : X) → came x ≡ refused k → W x → Answers ls a (came y) (W y) →
      Answers ((not test gives k) ∷ ls) a (came (if test y x)) (W (if test y x))
  unless true k ls x y e w t = line false k ls x y e w t
  unless false k ls x y e w t = line true k ls x y e w t

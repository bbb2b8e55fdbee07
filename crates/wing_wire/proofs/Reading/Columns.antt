-- The token table's rule: one test of both columns, computed at each of the 256 first units.
use mathlib.Core.Bool.{Bool}
use mathlib.Core.Path.{◌≡◌, refl, sym, ap, ◌∙◌}
use mathlib.Core.List.{List, [], ◌∷◌, ◌++◌}
use Prim.Native.Nat.{ℕ, zero, suc, ◌<◌}
use lib.Dec.{T, eqb, eqb→eq}
use lib.ListN.{get_or, replicate}
use Rattle.wing_node.specs.Bool.{and}
use Rattle.wing_node.proofs.Below.{and-T-left, and-T-right, below}
use Rattle.wing_wire.specs.Token.{rule, classes, class_number, rule_in, rule_of}
use Rattle.wing_wire.specs.declared.token.Class.{Class}
use Rattle.wing_wire.specs.declared.token.Class.TheVariants.{NoEvent, Integer, String, Length, Int16, Int32, Float, Node, End, Count, LongCount}
use Rattle.wing_wire.specs.declared.token.Rule.{Rule}

-- a class again from its number
named : ℕ → Class
named n = get_or (classes ++ (LongCount ∷ [])) n NoEvent

named-number : (c : Class) → named (class_number c) ≡ c
unfolding named
named-number NoEvent = refl
named-number Integer = refl
named-number String = refl
named-number Length = refl
named-number Int16 = refl
named-number Int32 = refl
named-number Float = refl
named-number Node = refl
named-number End = refl
named-number Count = refl
named-number LongCount = refl

same_class : (a b : Class) → class_number a ≡ class_number b → a ≡ b
same_class a b e = sym (named-number a) ∙ ap named e ∙ named-number b

-- the code's columns, in runs: 00–3f, 40–7f, 80–cf (80–bf, c0–cf), d0–df, e0–ff
unfoldable pub class_column : List Class
class_column =
    replicate 64 Integer ++ (replicate 64 NoEvent ++ (replicate 80 String ++ (
    String ∷ Length ∷ NoEvent ∷ Int16 ∷ Int32 ∷ Float ∷ Float ∷ Node ∷ NoEvent ∷ NoEvent ∷ NoEvent ∷ NoEvent ∷ NoEvent ∷ NoEvent ∷ End ∷ Count ∷ replicate 32 NoEvent)))

-- n, n + 1, .. , k numbers
abbrev counting : ℕ → ℕ → List ℕ
counting n zero = []
counting n (suc k) = n ∷ counting (suc n) k

unfoldable pub wants_column : List ℕ
wants_column =
    replicate 128 0 ++ (counting 1 64 ++ (counting 1 16 ++ (
    0 ∷ 1 ∷ 2 ∷ 2 ∷ 4 ∷ 4 ∷ 4 ∷ 4 ∷ 0 ∷ 1 ∷ 0 ∷ 0 ∷ 0 ∷ 0 ∷ 0 ∷ 2 ∷ replicate 32 0)))

-- the entries for t, as a rule
unfoldable pub entry_of : ℕ → Rule
entry_of t = rule (get_or class_column t NoEvent) (get_or wants_column t 0)

same_rule : Rule → Rule → Bool
same_rule a b = and (eqb (class_number a.class) (class_number b.class)) (eqb a.wants b.wants)

same-rule : (a b : Rule) → T (same_rule a b) → a ≡ b
unfolding same_rule
same-rule a b t =
    let p = eqb (class_number a.class) (class_number b.class) in
    let q = eqb a.wants b.wants in
    let c : a.class ≡ b.class = same_class _ _ (eqb→eq _ _ (and-T-left p q t)) in
    let w : a.wants ≡ b.wants = eqb→eq _ _ (and-T-right p q t) in
    ap (λ (x : Class). rule x a.wants) c ∙ ap (rule b.class) w

right : ℕ → Bool
right t = same_rule (entry_of t) (rule_of t)

computed : (t : ℕ) → t < 256 → T (right t)
unfolding right same_rule entry_of class_column wants_column rule_of rule_in
computed = below right 256 tt

-- the columns are 01's table
pub entry-right : (t : ℕ) → t < 256 → entry_of t ≡ rule_of t
unfolding right
entry-right t h = same-rule _ _ (computed t h)

-- A match takes a type by the number of its variant, which is 01's number of the type: what holds for each type of an arm holds for the one that took it.
use mathlib.Core.Path.{◌≡◌, ◌∙◌, ap, sym, refl, subst}
use mathlib.Core.List.{List, [], ◌∷◌}
use Prim.Native.Nat.{ℕ}
use types.Run.{OneOf}
use mathlib.Core.Logic.{inl, inr}
use denote.Enum.Declared.{tag_of}
use lib.ListN.{get_or}
use Rattle.wing_node.specs.Types.{types as all_types}
use Rattle.wing_node.specs.declared.node_type.NodeType.{NodeType}
use Rattle.wing_node.specs.declared.node_type.NodeType.TheVariants.{Node, LinearFloat, LogarithmicFloat, FaderLevel, Integer, StringEnum, FloatEnum, String}
use Rattle.wing_node.specs.contracts.node_type.NodeType as K

-- the type of a number
abbrev pub kind_at : ℕ → NodeType
kind_at n = get_or all_types n Node

numbered : (t : NodeType) → t ≡ kind_at (tag_of K.the_type t)
numbered Node = refl
numbered LinearFloat = refl
numbered LogarithmicFloat = refl
numbered FaderLevel = refl
numbered Integer = refl
numbered StringEnum = refl
numbered FloatEnum = refl
numbered String = refl

-- for each of the numbers
abbrev pub Each : (NodeType → Type 0) → List ℕ → Type 0
Each P [] = Unit
Each P (k ∷ ks) = P (kind_at k) × Each P ks

at : (P : NodeType → Type 0) (t : NodeType) (k : ℕ) → tag_of K.the_type t ≡ k → P (kind_at k) → P t
at P t k e p = subst P (sym (numbered t ∙ ap kind_at e)) p

pub by_arm : (P : NodeType → Type 0) (ks : List ℕ) (t : NodeType) → OneOf ks (tag_of K.the_type t) → Each P ks → P t
by_arm P [] t h ps = absurd h
by_arm P (k ∷ []) t e ps = at P t k e ps.0
by_arm P (k ∷ k' ∷ ks) t (inl e) ps = at P t k e ps.0
by_arm P (k ∷ k' ∷ ks) t (inr h) ps = by_arm P (k' ∷ ks) t h ps.1

-- What the parser, the item calls and the writers answer is such an answer: a refusal is a number alone that is neither 1 nor 5, or 5 with its good; details are
-- those of the type, and an integer of a body has 32 bits.
use Prim.Native.Nat.{ℕ, zero, suc, ◌≤◌, ◌<◌, ◌^◌}
use mathlib.Core.List.{List, [], ◌∷◌}
use native.Mathlib.Omega.{arith}
use native.Mathlib.Nat.{pow-le-pow_right}
use lib.ListN.{take, length, length-take}
use Rattle.wing_node.specs.Refusal.{is_refused, Fault}
use Rattle.wing_node.specs.Field.{big}
use Rattle.wing_node.specs.Cursor.{Cursor, Reading, number, from, fault, value_of, read_at, reads, start}
use Rattle.wing_node.specs.Definition.{header, added, named, past, kind_from, details_from, details_at, definition_from, parsed_from, definition_of}
use Rattle.wing_node.proofs.Branches.{branch}
use Rattle.wing_node.proofs.Numerals.Numbers.{Digits, digits-take, digits-drop, number-below}
use Rattle.wing_node.proofs.Numerals.Signs.{signed-in}
use Rattle.wing_node.specs.declared.node_type.NodeType.{NodeType}
use Rattle.wing_node.specs.declared.node_type.NodeType.TheVariants.{Node, LinearFloat, LogarithmicFloat, FaderLevel, Integer, StringEnum, FloatEnum, String}
use Rattle.wing_node.specs.declared.definition.Definition.{Definition}
use Rattle.wing_wire.specs.Range.{AreBytes, no_bytes, byte_then}
use Rattle.wing_c.specs.DefinitionMeanings.{OfType, OfParsed}
use Rattle.wing_c.specs.DefinitionMeanings.OfType.{node, linear, logarithmic, fader, integers, strings, floats, text}
use Rattle.std.specs.Prelude.{Ok, Err}

bytes-at : (s : List ℕ) → AreBytes s → Digits 256 s
bytes-at [] no_bytes i = omega arith
bytes-at (b ∷ s) (byte_then l ls) zero = l
bytes-at (b ∷ s) (byte_then l ls) (suc i) = bytes-at s ls i

four_bytes : (s : List ℕ) → Digits 256 s → big (take 4 s) < 2 ^ 32
four_bytes s b =
    let below : big (take 4 s) < 256 ^ length (take 4 s) = number-below 256 (take 4 s) (digits-take 256 4 s b) in
    let few : length (take 4 s) ≤ 4 = simp length-take (omega arith) in
    let more : 256 ^ length (take 4 s) ≤ 256 ^ 4 = pow-le-pow_right (omega arith) few in
    omega arith

number_fits : (body : List ℕ) (c : Cursor) → Digits 256 body → (read_at (number 4) body c).value < 2 ^ 32
unfolding read_at value_of
number_fits body c b =
    branch (λ (r : Reading). r.value < 2 ^ 32) (is_refused c.fault) _ _ (λ _. omega arith)
    (λ _.
    branch (λ (r : Reading). r.value < 2 ^ 32) (is_refused (fault (number 4) (from body c))) _ _ (λ _. omega arith)
    (λ _. four_bytes (from body c) (digits-drop 256 c.at body b)))

of-type : (t : NodeType) (body : List ℕ) (c : Cursor) (first : ℕ) → Digits 256 body → OfType t (details_from t (named (added t) body c) first)
unfolding reads
of-type Node body c first b = node
of-type LinearFloat body c first b = linear
of-type LogarithmicFloat body c first b = logarithmic
of-type FaderLevel body c first b = fader
of-type Integer body c first b =
    integers (signed-in 31 _ (number_fits body c b)) (signed-in 31 _ (number_fits body (read_at (number 4) body c).next b))
of-type StringEnum body c first b = strings
of-type FloatEnum body c first b = floats
of-type String body c first b = text

-- ---- the parser

parsed-of : (x : Fault) (d : Definition) → OfType d.node_type d.details → OfParsed (parsed_from x d)
parsed-of (Ok u) d t = t
parsed-of (Err why) d t = tt

pub parsed-answer : (body : List ℕ) → AreBytes body → OfParsed (definition_of body)
unfolding definition_of details_at
parsed-answer body b =
    let f = named header body start in
    let t = kind_from f in
    let c = past header body start in
    parsed-of (details_at t body c).next.fault (definition_from f (details_at t body c).details) (of-type t body c _ (bytes-at body b))

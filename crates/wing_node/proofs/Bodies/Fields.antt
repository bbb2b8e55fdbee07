-- Lists of fields: in a row, after a refusal, and item by item.
use mathlib.Core.Path.{◌≡◌, refl, ◌∙◌, ap}
use mathlib.Core.Bool.{true}
use mathlib.Core.List.{List, [], ◌∷◌, ◌++◌}
use Prim.Native.Nat.{ℕ, zero, suc, ◌-◌, ◌≤◌, ◌<◌}
use native.Mathlib.Omega.{arith}
use Rattle.wing_node.specs.Refusal.{is_refused}
use Rattle.wing_node.specs.Cursor.{Cursor, Field, read_at, after}
use Rattle.wing_node.specs.Definition.{times, item_of, items_of, item_at}
use Rattle.wing_node.specs.declared.node_type.NodeType.{NodeType}
use Rattle.wing_node.proofs.Bodies.Cases.{read-refused}

pub after-append : (fs gs : List Field) (body : List ℕ) (c : Cursor) → after (fs ++ gs) body c ≡ after gs body (after fs body c)
unfolding after
after-append [] gs body c = refl
after-append (f ∷ fs) gs body c = after-append fs gs body (read_at f body c).next

pub after-refused : (fs : List Field) (body : List ℕ) (c : Cursor) → is_refused c.fault ≡ true → after fs body c ≡ c
unfolding after
after-refused [] body c h = refl
after-refused (f ∷ fs) body c h = ap (λ r. after fs body r.next) (read-refused f body c h) ∙ after-refused fs body c h

-- one item of those that are left
pub items-turn : (t : NodeType) (n : ℕ) (body : List ℕ) (c : Cursor) → 0 < n →
    after (items_of t n) body c ≡ after (items_of t (n - 1)) body (item_at t body c).next
unfolding times item_at
items-turn t zero body c h = absurd (omega arith)
items-turn t (suc n) body c h =
    let e : suc n - 1 ≡ n = omega arith in
    rw e (after-append (item_of t) (times n (item_of t)) body c)

pub items-none : (t : NodeType) (n : ℕ) (body : List ℕ) (c : Cursor) → n ≤ 0 → after (items_of t n) body c ≡ c
unfolding times after
items-none t zero body c h = refl
items-none t (suc n) body c h = absurd (omega arith)

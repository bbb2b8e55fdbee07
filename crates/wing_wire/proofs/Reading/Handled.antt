-- What a feed hands to its handler: from a sound state each answer is in range, and its string or body within bounds.
use Prim.Native.Nat.{ℕ}
use mathlib.Core.Path.{◌≡◌}
use lib.IntN.{ℤ}
use mathlib.Core.List.{List, [], ◌∷◌}
use Rattle.wing_node.proofs.Branches.{branch}
use Rattle.wing_node.specs.Signed.{InBits}
use Rattle.wing_wire.specs.Stream.{StepEffect, is_more, settle_of, first_of, Fed, handle, fed_pending, fed_byte, fed_from, feed_of}
use Rattle.wing_wire.specs.Range.{AreBytes, no_bytes, byte_then, Within, StoreIn, InRange, AnswerIn}
use Rattle.wing_wire.specs.declared.unit.Answer.{Answer}
use Rattle.wing_wire.proofs.Reading.Pieces.{settle-not-pending}
use Rattle.wing_wire.proofs.Reading.Sound.{Good, Kept, settle-good, first_good}
use Rattle.wing_wire.proofs.Reading.Ranges.{StepEffectIn, after-in, settle-in, first-in}
use Rattle.std.specs.Prelude.{None}

module _ {M : Type 0} (h : ℤ → Answer → List ℕ → M → M) (P : M → Type 0)
    (keeps : (node : ℤ) (a : Answer) (s : List ℕ) (m : M) → InBits 31 node → Within a s → AnswerIn a → StoreIn s → P m → P (h node a s m)) where
  handle-keeps : (o : StepEffect) (m : M) → Kept o → StepEffectIn o → P m → P (handle h o m).memo
  handle-keeps o m k g p = branch P (is_more o.answered.answer) _ _ (λ _. p) (λ _. keeps o.answered.control.node o.answered.answer o.store m g.node k.1 g.answer g.store p)

  pending-keeps : (x : Fed M) → Good x.control x.store → InRange x.control x.store → P x.memo → P (fed_pending h x).memo
  pending-keeps x g r p = handle-keeps (settle_of x.control x.store) x.memo (settle-good x.control x.store g) (settle-in x.control x.store r) p

  fed-keeps : (x : Fed M) (bytes : List ℕ) → AreBytes bytes → x.control.escape.pending ≡ None → Good x.control x.store → InRange x.control x.store → P x.memo →
      P (fed_from h x bytes).memo
  unfolding fed_from
  fed-keeps x [] no_bytes q g r p = p
  fed-keeps x (b ∷ bs) (byte_then l ls) q g r p =
      let o = first_of x.control x.store b in
      let k = first_good x.control x.store b l q g in
      let i = first-in x.control x.store b l r in
      let y : Fed M = handle h o x.memo in
      fed-keeps (fed_byte h x b) bs ls (settle-not-pending _ _) (settle-good y.control y.store k.0).0
      (after-in (settle_of y.control y.store) (settle-in y.control y.store (after-in o i)))
      (pending-keeps y k.0 (after-in o i) (handle-keeps o x.memo k i p))

  -- what the handler keeps for every such answer, a feed keeps
  pub feed-keeps : (x : Fed M) (bytes : List ℕ) → AreBytes bytes → Good x.control x.store → InRange x.control x.store → P x.memo → P (feed_of h x bytes).memo
  unfolding feed_of
  feed-keeps x bytes l g r p =
      fed-keeps (fed_pending h x) bytes l (settle-not-pending _ _) (settle-good x.control x.store g).0
      (after-in (settle_of x.control x.store) (settle-in x.control x.store r)) (pending-keeps x g r p)

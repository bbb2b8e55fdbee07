-- Two handlers, and a map between what they make that agrees with each answer: it agrees with the whole feed.
use Prim.Native.Nat.{ℕ}
use mathlib.Core.Bool.{Bool, true, false}
use mathlib.Core.Path.{◌≡◌, refl, ◌∙◌, ap}
use mathlib.Core.List.{List, [], ◌∷◌}
use lib.IntN.{ℤ}
use Rattle.wing_node.specs.Bool.{if}
use Rattle.wing_wire.specs.Stream.{StepEffect, is_more, released, settle_of, first_of, Fed, handle, fed_pending, fed_byte, fed_from, feed_of}
use Rattle.wing_wire.specs.DecoderLaws.{Handler, mapped}
use Rattle.wing_wire.specs.declared.unit.Answer.{Answer}

module _ {M N : Type 0} (h : Handler M) (k : Handler N) (f : M → N)
    (along : (node : ℤ) (a : Answer) (s : List ℕ) (m : M) → f (h node a s m) ≡ k node a s (f m)) where
  -- one answer
  handle-along : (o : StepEffect) (m : M) → mapped f (handle h o m) ≡ handle k o (f m)
  handle-along o m =
      ap (λ (n : N). record { control = o.answered.control; store = released o.answered.answer o.store; memo = n }) (go (is_more o.answered.answer))
    where
      go : (t : Bool) → f (if t m (h o.answered.control.node o.answered.answer o.store m)) ≡ if t (f m) (k o.answered.control.node o.answered.answer o.store (f m))
      go true = refl
      go false = along o.answered.control.node o.answered.answer o.store m

  -- the pending byte
  pending-along : (x : Fed M) → mapped f (fed_pending h x) ≡ fed_pending k (mapped f x)
  pending-along x = handle-along (settle_of x.control x.store) x.memo

  -- one byte
  byte-along : (x : Fed M) (b : ℕ) → mapped f (fed_byte h x b) ≡ fed_byte k (mapped f x) b
  byte-along x b = pending-along (handle h (first_of x.control x.store b) x.memo) ∙ ap (fed_pending k) (handle-along (first_of x.control x.store b) x.memo)

  -- bytes one after the other
  from-along : (x : Fed M) (bs : List ℕ) → mapped f (fed_from h x bs) ≡ fed_from k (mapped f x) bs
  unfolding fed_from
  from-along x [] = refl
  from-along x (b ∷ bs) = from-along (fed_byte h x b) bs ∙ ap (λ (y : Fed N). fed_from k y bs) (byte-along x b)

  -- the whole feed
  pub feed-along : (x : Fed M) (bs : List ℕ) → mapped f (feed_of h x bs) ≡ feed_of k (mapped f x) bs
  unfolding feed_of
  feed-along x bs = from-along (fed_pending h x) bs ∙ ap (λ (y : Fed N). fed_from k y bs) (pending-along x)

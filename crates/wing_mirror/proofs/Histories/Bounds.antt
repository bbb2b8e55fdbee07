-- 01: the sum of a feed's six counts is at most its bytes plus 1; what a set sends fits its output.
use Prim.Native.Nat.{ℕ, ◌+◌, ◌≤◌}
use mathlib.Core.Path.{◌≡◌, refl}
use mathlib.Core.List.{List, [], ◌∷◌}
use native.Mathlib.Omega.{arith}
use borrow.Author.Tests.{ltb-false}
use lib.IntN.{ℤ}
use lib.ListN.{length, drop, length-append, length-take, length-drop}
use Rattle.wing_node.specs.Value.{NodeValue}
use Rattle.wing_wire.specs.Command.{set_bytes}
use Rattle.wing_mirror.specs.Rows.{Table}
use Rattle.wing_mirror.specs.Layout.{Layout}
use Rattle.wing_mirror.specs.Counts.{total, counts_in}
use Rattle.wing_mirror.specs.Call.{Call, feed, set, run_all}
use Rattle.wing_mirror.specs.Mirror.{mirror_feed, SetEffect, mirror_set}
use Rattle.wing_mirror.specs.History.{Mirror, feed_outcome, set_outcome, mirror_step, Bounded, Each}
use Rattle.wing_mirror.proofs.Calls.Outcomes.{set_cases}
use Rattle.wing_mirror.proofs.Calls.Feeds.{feed-counts}
use Rattle.wing_node.specs.Result.{Result}
use Rattle.std.specs.Prelude.{ℕ, Ok, Err}
use Rattle.wing_mirror.specs.declared.answer.Counts.{Counts}

module _ (L : Layout) where
  -- a set keeps the length of its output
  set-length : (id : ℤ) (v : NodeValue) (t : Table) (out : List ℕ) → length (mirror_set L id v t out).out ≡ length out
  set-length id v t out =
      set_cases L id v t out (λ (x : SetEffect). length x.out ≡ length out) (λ n. refl)
      (λ k a b c d. omega (arith, length-append (set_bytes id v) (drop (length (set_bytes id v)) out), length-drop (length (set_bytes id v)) out, ltb-false (length out) (length (set_bytes id v)) d))

  -- of one call on any mirror
  step-bounded : (m : Mirror) (c : Call) → Bounded c (mirror_step L m c).outcome
  unfolding mirror_step
  step-bounded m (feed bytes) = go (mirror_feed L m.decoder m.table bytes).answer (feed-counts L m.decoder m.table bytes)
    where
      go : (a : Result Counts) → total (counts_in a) ≤ length bytes + 1 → Bounded (feed bytes) (feed_outcome a)
      go (Ok c) h = h
      go (Err why) h = tt
  step-bounded m (set id v out) = go (mirror_set L id v m.table out).answer (mirror_set L id v m.table out).out (set-length id v m.table out)
    where
      go : (a : Result ℕ) (left : List ℕ) → length left ≡ length out → Bounded (set id v out) (set_outcome a left)
      go (Ok n) left h = omega (arith, length-take n left)
      go (Err n) left h = tt

  -- of every call of a history
  pub run-bounded : (m : Mirror) (cs : List Call) → Each Bounded cs (run_all (mirror_step L) m cs).outcomes
  unfolding run_all
  run-bounded m [] = tt
  run-bounded m (c ∷ cs) = (step-bounded m c, run-bounded (mirror_step L m c).state cs)

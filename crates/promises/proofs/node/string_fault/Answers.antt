-- The contract of wing_node's `string_fault`, and the fault of a string as a line.
use mathlib.Core.Bool.{Bool, true, false, not}
use mathlib.Core.Path.{◌≡◌, refl, ◌∙◌}
use mathlib.Core.List.{List}
use Prim.Native.Nat.{ℕ}
use lib.ListN.{take}
use Rattle.wing_node.specs.Bool.{if}
use Rattle.wing_node.specs.Refusal.{string_fault, no_fault, because}
use Rattle.wing_node.specs.Utf8.{good, utf8}
use Rattle.promises.specs.Refusals.{string_wrong}
use Rattle.promises.specs.Lines.{◌gives◌}
use Rattle.promises.proofs.node.string_fault.Goals as goal

as_line : (s : List ℕ) → string_fault s ≡ (not (utf8 s) gives string_wrong (good s))
unfolding string_fault
as_line s = by-test (utf8 s)
  where
    by-test : (t : Bool) → if t no_fault (because (string_wrong (good s))) ≡ (not t gives string_wrong (good s))
    by-test true = refl
    by-test false = refl

pub returns : goal.returns
returns c = c.string_fault.ensures ∙ as_line (take c.args.n c.args.s.now)

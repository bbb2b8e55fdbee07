-- What the types of the code say of a window by value.
use Prim.Native.Nat.{ℕ}
use mathlib.Core.List.{List}
use mir.Syntax.{w16}
use mir.Val.{Val, Fits}
use denote.Laws.{Is}
use denote.Struct.Declared.{row}
use lib.ListN.{get_or}
use borrow.Author.Rules.{rules}
use Rattle.wing_meters.specs.Moving.{Typed}
use Rattle.wing_meters.specs.declared.window.Window.{Window}
use Rattle.wing_meters.specs.contracts.window.Window as windows

module _ (w : Window) (vs : List Val) (r : Is (row windows.the_type) w vs) where
  level-at : (k : ℕ) → Fits w16 (get_or w.levels k 0)
  level-at k = search rules

  pub window-typed : Typed w
  window-typed = record { size = search rules; levels = λ k. (level-at k).fits }

-- A window's state: levels in a ring, what is kept up of them, and which states some list of readings leaves.
use Rattle.std.specs.Prelude.{ℕ, ◌+◌, Bool, false, ltb, eqb, ℤ, take, drop, set, replicate}
use mathlib.Core.List.{List, map, ◌++◌, foldl}
use Rattle.wing_node.specs.Bool.{if, and}
use Rattle.wing_meters.specs.Level.{level_of, reading_at, added, greatest}
use Rattle.wing_meters.specs.declared.window.Control.{Control}
use Rattle.wing_meters.specs.declared.window.Window.{Window}

-- the width, how many are held, the place of the next one, the largest level, the sum of the levels
abbrev pub control : ℕ → ℕ → ℕ → ℕ → ℕ → Control
control width held next top sum = record { width = width; held = held; next = next; top = top; sum = sum }

-- what is kept up, and the levels
abbrev pub window : Control → List ℕ → Window
window c levels = record { control = c; levels = levels }

-- a window by its levels: the largest and the sum are theirs
abbrev pub around : ℕ → ℕ → ℕ → List ℕ → Window
around width held next levels = window (control width held next (greatest levels) (added levels)) levels

-- 02: a window that holds none
abbrev pub fresh_window : ℕ → Window
fresh_window width = window (control width 0 0 0 0) (replicate 256 0)

-- one more is held, until it is full
abbrev pub grown : ℕ → ℕ → ℕ
grown held width = if (ltb held width) (held + 1) held

-- the place after one, in the ring
abbrev pub onward : ℕ → ℕ → ℕ
onward next width = if (ltb (next + 1) width) (next + 1) 0

-- 02: a reading goes in; once the window is full the oldest, which stands at the next place, leaves
unfoldable pub taking : Window → ℤ → Window
taking w x =
    let c = w.control in
    around c.width (grown c.held c.width) (onward c.next c.width) (set w.levels c.next (level_of x))

-- the state that a list of readings leaves in a window of that width
abbrev pub leaves : ℕ → List ℤ → Window
leaves width xs = foldl taking (fresh_window width) xs

-- the levels held, the oldest first
unfoldable pub in_order : ℕ → List ℕ → List ℕ
in_order next ring = drop next ring ++ take next ring

-- the readings that a window holds, the oldest first
unfoldable pub kept_in : Window → List ℤ
kept_in w = let c = w.control in map reading_at (in_order c.next (take c.held w.levels))

-- a width from 1 to 256; until the window is full the next place is after the last one, then any of the ring
unfoldable pub sound_control : Control → Bool
sound_control c =
    if (ltb c.width 1) false
    (if (ltb 256 c.width) false
    (if (ltb c.held c.width) (eqb c.next c.held)
    (if (eqb c.held c.width) (ltb c.next c.width) false)))

-- besides, the sum and the largest are those of the levels, and places not used yet are 0
unfoldable pub sound_window : Window → Bool
sound_window w =
    let c = w.control in
    and (sound_control c)
    (and (eqb (added w.levels) c.sum) (and (eqb (greatest w.levels) c.top) (eqb (greatest (drop c.held w.levels)) 0)))

-- What a usable table is.
use Prim.Native.Nat.{◌*◌, ◌≤◌}
use mathlib.Core.Bool.{true}
use mathlib.Core.Path.{◌≡◌}
use native.Mathlib.Omega.{arith}
use native.Mathlib.Nat.{mul-div-le, mul-le-mul_left}
use borrow.Author.Tests.{leb-true}
use lib.Dec.{leb}
use lib.ListN.{length}
use Rattle.wing_node.proofs.Branches.{if-both}
use Rattle.wing_mirror.specs.Rows.{Table, places, rising}
use Rattle.wing_mirror.specs.Layout.{Layout}
use Rattle.wing_mirror.specs.Table.{rows, every, checked_of, checked, sound_of, sound_table, usable_of, places_allowed, usable}

module _ (L : Layout) (t : Table) where
  open L use {width, key_of, well_formed}

  -- as many records as there are places have room
  pub few-room : t.count ≤ places width t → width * t.count ≤ length t.buffer
  few-room h = omega (arith, mul-le-mul_left width h, mul-div-le (length t.buffer) width)

  module _ (u : usable L t ≡ true) where
    range-and-sound : (places_allowed (places width t) ≡ true) × (sound_table L t ≡ true)
    range-and-sound = if-both _ _ (unfold usable_of in u)

    pub in-range : places_allowed (places width t) ≡ true
    in-range = range-and-sound.0

    few-and-checked : (leb t.count (places width t) ≡ true) × (checked L (rows L t) ≡ true)
    few-and-checked = if-both _ _ (unfold sound_of in range-and-sound.1)

    pub few : t.count ≤ places width t
    few = leb-true _ _ few-and-checked.0

    pub room : width * t.count ≤ length t.buffer
    room = few-room few

    pub formed : every well_formed (rows L t) ≡ true
    formed = (if-both (every well_formed (rows L t)) (rising key_of (rows L t)) (unfold checked_of in few-and-checked.1)).0

    pub up : rising key_of (rows L t) ≡ true
    up = (if-both (every well_formed (rows L t)) (rising key_of (rows L t)) (unfold checked_of in few-and-checked.1)).1

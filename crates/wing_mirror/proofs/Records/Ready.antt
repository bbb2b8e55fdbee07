-- What search and put ask of a table, and what a put leaves, of the usable tables with records of 264 bytes.
use mathlib.Core.Bool.{true}
use mathlib.Core.Path.{◌≡◌, refl}
use mathlib.Core.List.{List}
use native.Mathlib.Omega.{arith}
use Prim.Native.Nat.{ℕ}
use Rattle.std.proofs.Common.{Option, Some, None}
use Rattle.std.specs.Option.{unwrap_or}
use Rattle.wing_mirror.specs.Rows.{Table}
use Rattle.wing_mirror.specs.Record.{full}
use Rattle.wing_mirror.specs.Table.{table, usable}
use Rattle.wing_mirror.specs.Puts.{put_of, put_effect}
use Rattle.wing_mirror.specs.Order.{InOrder, put_row}
use Rattle.wing_mirror.proofs.Records.Usables.{room, up}

pub in_order_lem : (t : Table) → usable full t ≡ true → InOrder 264 t
in_order_lem t u = record { wide = omega arith; room = room full t u; up = up full t u }

pub put_is : (r : List ℕ) (t : Table) → put_row 264 r t ≡ put_of full r t
unfolding put_row put_of
put_is r t = refl

-- the count after a put, the one before where nothing was put
pub effect-count : (count : ℕ) (p : Option ℕ) (buffer : List ℕ) → table buffer (unwrap_or p count) ≡ (put_effect count p buffer).after
effect-count count (Some now) buffer = refl
effect-count count None buffer = refl

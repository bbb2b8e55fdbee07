-- The part of the record from the ninth byte on is its only chunk (`chunk-row`).
use Prim.Native.Nat.{◌/◌, ◌<◌}
use mathlib.Core.Path.{ap, ◌∙◌, ◌≡◌}
use native.Mathlib.Omega.{arith}
use lib.ListN.{drop, length, length-drop, take}
use lib.Seq.{take_all, length-take-le}
use Rattle.wing_mirror.proofs.Records.Said.{chunk-row}
use Rattle.wing_mirror.proofs.record.payload.Goals as goal

pub returns : goal.returns
returns c =
    let r = c.args.rec.now in
    let s = take 256 (drop 8 r) in
    let whole : take 256 (drop 8 r) ≡ drop 8 r = take_all 256 (drop 8 r) (omega (arith, length-drop 8 r)) in
    let size : length s ≡ 256 = length-take-le 256 (drop 8 r) (omega (arith, length-drop 8 r)) in
    let below : 0 < length s / 256 = rw size (omega arith) in
    chunk-row 256 (length s / 256) 0 s below c.as_chunks.ensures.front ∙ (ap (take 256) whole ∙ whole)

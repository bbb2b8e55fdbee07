-- As far as the body reaches, the bytes are the same (`part-taken`).
use mathlib.Core.Path.{◌≡◌}
use Prim.Native.Nat.{◌+◌, ◌-◌}
use native.Mathlib.Omega.{arith}
use Rattle.wing_node.proofs.Bodies.Parts.{part-taken}
use Rattle.wing_node.proofs.anew.part_of.Goals as goal

pub returns : goal.returns
returns c =
    let args = c.args in
    let body = args.body.now in
    let start = c.min-start.result in
    let n = c.min.result in
    let e : start + n - start ≡ n = omega arith in
    (omega arith, omega (arith, c.min.ensures, c.min-start.ensures), rw e (part-taken body args.from args.len start n c.min-start.ensures c.min.ensures))

-- Each return is a case of `read_at`: no length byte or too few bytes (`string-short`), not all good (`string-wrong`), or all good
-- (`string-right`).
use mathlib.Core.Path.{◌≡◌, sym, refl, ap}
use Prim.Native.Nat.{◌-◌, ◌+◌}
use native.Mathlib.Omega.{arith}
use lib.ListN.{get_or}
use Rattle.wing_node.specs.Refusal.{no_fault}
use Rattle.wing_node.specs.Cursor.{cursor, field_of}
use Rattle.wing_node.proofs.Bodies.Cases.{string-short, string-wrong, string-right}
use Rattle.wing_node.proofs.cursor.read_string.Goals as goal

pub returns-then-there-lt1 : goal.returns-then-there-lt1
returns-then-there-lt1 c = sym (ap field_of (string-short c.args.body.now (cursor c.args.at no_fault) refl (omega arith)))

pub returns-then-rest-len : goal.returns-then-rest-len
returns-then-rest-len c = sym (ap field_of (string-short c.args.body.now (cursor c.args.at no_fault) refl (omega arith)))

pub returns-then-good-len : goal.returns-then-good-len
returns-then-good-len c =
    let at = c.args.at in
    let e = c.min.result in
    let n : at + 1 + e - (at + 1) ≡ get_or c.args.body.now at 0 = omega arith in
    sym (ap field_of (string-wrong c.args.body.now (cursor at no_fault) refl (omega arith) (omega arith) _ (rw n at c.good_len-good.ensures.value) c.if-good-len.true))

pub overflow_cast-result : goal.overflow_cast-result
overflow_cast-result c =
    omega (arith, c.type_inv.body c.args.at)

pub returns : goal.returns
returns c =
    let at = c.args.at in
    let e = c.min.result in
    let all : e ≡ get_or c.args.body.now at 0 = omega arith in
    let n : at + 1 + e - (at + 1) ≡ get_or c.args.body.now at 0 = omega (arith, all) in
    rw all (sym (ap field_of (string-right c.args.body.now (cursor at no_fault) refl (omega arith) (omega arith) _ (rw n at c.good_len-good.ensures.value) (omega arith))))

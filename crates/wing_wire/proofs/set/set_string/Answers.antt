-- Each return is a case of `set_string` (`string-long`, `string-bad`, `string-good`); an order of UTF-8 is not over 395 bytes (`set-string-le`).
use borrow.Author.Rules.{rules}
use mathlib.Core.Path.{◌≡◌, ap, sym, ◌∙◌}
use mathlib.Core.Bool.{true}
use native.Mathlib.Omega.{arith}
use lib.Seq.{take_all}
use Rattle.wing_node.specs.Utf8.{utf8}
use Rattle.wing_node.proofs.Refusals.{handed-on, string-right, string-wrong}
use Rattle.wing_node.proofs.Characters.Grammar.{decides}
use Rattle.wing_wire.specs.Write.{write_effect}
use Rattle.wing_wire.proofs.Writing.Choices.{string-long, string-bad, string-good}
use Rattle.wing_node.specs.Value.{string}
use Rattle.wing_wire.specs.Command.{set_bytes}
use Rattle.wing_wire.proofs.Writing.Sizes.{set-string-le}
use Rattle.wing_wire.proofs.set.set_string.Goals as goal

pub returns-then-value-gt256 : goal.returns-then-value-gt256
returns-then-value-gt256 c =
    string-long c.args.id c.args.value.now c.args.out.now c.if-value-gt256.true

pub returns-in_err-string_fault : goal.returns-in_err-string_fault
returns-in_err-string_fault c =
    let s = c.args.value.now in
    let w = string-wrong s _ (sym (rw (take_all 256 s c.if-value-gt256.false) at c.in_err-string_fault.ensures)) in
    ap (λ r. write_effect r c.args.out.now) (handed-on _ _ c.from_residual.ensures.1) ∙ rw w.1 (string-bad c.args.id s c.args.out.now (omega arith) w.0)

pub write_by-requires-clause-bounded : goal.write_by-requires-clause-bounded
write_by-requires-clause-bounded c =
    let s = c.args.value.now in
    let u : utf8 s ≡ true = string-right s (sym (rw (take_all 256 s c.if-value-gt256.false) at c.in_ok-string_fault.ensures)) in
    (set_bytes c.args.id (string s), λ d r e p. search rules, set-string-le c.args.id s ((decides s).right u) (omega arith))

pub returns : goal.returns
returns c =
    let s = c.args.value.now in
    let u : utf8 s ≡ true = string-right s (sym (rw (take_all 256 s c.if-value-gt256.false) at c.in_ok-string_fault.ensures)) in
    c.write_by.ensures (set_bytes c.args.id (string s)) (λ d r e p. search rules) ∙ string-good c.args.id s c.args.out.now (omega arith) u

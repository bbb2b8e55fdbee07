-- Each arm is the line of `event_numbers` with that answer; the node and an integer come back from their bits as they went in.
use mir.Syntax.{w32}
use mir.Val.{to_z, of_z}
use mathlib.Core.Path.{◌≡◌, ◌∙◌, refl}
use borrow.Author.Rules.{rules}
use Rattle.wing_node.proofs.Numerals.Signs.{writes}
use Rattle.wing_c.proofs.answers.event.Goals as goal

pub returns-in-More : goal.returns-in-More
returns-in-More c =
    let back : to_z w32 (of_z w32 c.args.node) ≡ c.args.node = search rules in
    (rw back at c.without_event.ensures) ∙ simp (c.no_refusal.ensures, c.in-More.is)

pub returns-in-Integer : goal.returns-in-Integer
returns-in-Integer c =
    let back : to_z w32 (of_z w32 c.args.node) ≡ c.args.node = search rules in
    let value : to_z w32 (of_z w32 c.in-Integer.x) ≡ c.in-Integer.x = search rules in
    (rw back at c.event_of.ensures) ∙ simp (rw (value, writes w32 refl c.in-Integer.x) at c.cast_unsigned.ensures, c.in-Integer.is)

pub returns-in-Float : goal.returns-in-Float
returns-in-Float c =
    let back : to_z w32 (of_z w32 c.args.node) ≡ c.args.node = search rules in
    (rw back at c.event_of-in-Float.ensures) ∙ simp c.in-Float.is

pub returns-in-String : goal.returns-in-String
returns-in-String c =
    let back : to_z w32 (of_z w32 c.args.node) ≡ c.args.node = search rules in
    (rw back at c.event_of-in-String.ensures) ∙ simp c.in-String.is

pub returns-in-Body : goal.returns-in-Body
returns-in-Body c =
    let back : to_z w32 (of_z w32 c.args.node) ≡ c.args.node = search rules in
    (rw back at c.event_of-in-Body.ensures) ∙ simp c.in-Body.is

pub returns-in-End : goal.returns-in-End
returns-in-End c =
    let back : to_z w32 (of_z w32 c.args.node) ≡ c.args.node = search rules in
    (rw back at c.event_of-in-End.ensures) ∙ simp c.in-End.is

pub returns-in-Refused : goal.returns-in-Refused
returns-in-Refused c =
    let back : to_z w32 (of_z w32 c.args.node) ≡ c.args.node = search rules in
    (rw back at c.without_event-in-Refused.ensures) ∙ simp (c.sent_back.ensures, c.in-Refused.is)

-- The tests are those of `next_sound`, in its order; the bytes read as the state (`head-sound`).
use mathlib.Core.Path.{◌≡◌, ap}
use mir.Syntax.{w32}
use mir.Val.{to_z, of_z}
use borrow.Author.Tests.{le-leb, lt-leb}
use Rattle.wing_c.specs.Kept.{kept_next, next_sound, next_state}
use Rattle.wing_c.specs.declared.answers.WingEvent.{WingEvent}
use Rattle.wing_c.proofs.Keeps.{head-sound}
use borrow.Author.Rules.{rules}
use Rattle.wing_c.proofs.state.next_sound.Goals as goal

pub returns-then-bytes-gt65536 : goal.returns-then-bytes-gt65536
unfolding next_sound next_state
returns-then-bytes-gt65536 c =
    let back : to_z w32 (of_z w32 c.args.c.node) ≡ c.args.c.node = search rules in
    rw (lt-leb _ _ c.if-bytes-gt65536.true)
    (record { out_after = ap (λ (r : WingEvent). kept_next r c.args.state.now c.args.out.now) (rw back at c.event.ensures); state_after = head-sound c.args.state.now c.args.c c.requires.0 c.requires.1 })

pub returns-then-out-lt-BODY_LIMIT : goal.returns-then-out-lt-BODY_LIMIT
unfolding next_sound next_state
returns-then-out-lt-BODY_LIMIT c =
    let back : to_z w32 (of_z w32 c.args.c.node) ≡ c.args.c.node = search rules in
    rw (le-leb _ _ c.if-bytes-gt65536.false, lt-leb _ _ c.if-out-lt-BODY_LIMIT.true)
    (record { out_after = ap (λ (r : WingEvent). kept_next r c.args.state.now c.args.out.now) (rw back at c.event-then-out-lt-BODY_LIMIT.ensures); state_after = head-sound c.args.state.now c.args.c c.requires.0 c.requires.1 })

pub returns : goal.returns
unfolding next_sound next_state
returns c = rw (le-leb _ _ c.if-bytes-gt65536.false, le-leb _ _ c.if-out-lt-BODY_LIMIT.false) c.next_on.ensures

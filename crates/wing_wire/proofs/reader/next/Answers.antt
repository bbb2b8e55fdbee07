-- Each return is the branch of `next_of` and `next_event` with that test, by the contracts of `read_on` and `refuse`; the law `next-event` reads the
-- event from what stands beside the answer.
use borrow.Author.Tests.{le-leb, lt-leb}
use mathlib.Core.Path.{◌≡◌, refl}
use lib.ListN.{length}
use Rattle.wing_wire.specs.State.{body_limit}
use Rattle.wing_wire.specs.Reader.{event_of, next_of, next_event}
use Rattle.wing_wire.proofs.Reading.Beside.{next-event}
use borrow.Author.Rules.{rules}
use Rattle.wing_wire.proofs.reader.next.Goals as goal

pub returns-then-bytes-le65536 : goal.returns-then-bytes-le65536
unfolding next_of
returns-then-bytes-le65536 c =
    let l : length c.args.s.store ≡ body_limit = search rules in
    let e = next-event c.args.s c.args.bytes.now l in
    simp (← c.is_sound.ensures, c.if-is_sound.true, le-leb _ _ c.if-bytes-le65536.true, c.read_on.ensures)
    (record { value = refl; result_value = simp (← c.is_sound.ensures, c.if-is_sound.true, le-leb _ _ c.if-bytes-le65536.true) at e })

pub returns-then-is_sound : goal.returns-then-is_sound
unfolding next_of next_event event_of
returns-then-is_sound c =
    simp (← c.is_sound.ensures, c.if-is_sound.true, lt-leb _ _ c.if-bytes-le65536.false, c.refuse.ensures) (record { value = refl; result_value = refl })

pub returns : goal.returns
unfolding next_of next_event event_of
returns c = simp (← c.is_sound.ensures, c.if-is_sound.false, c.refuse-2.ensures) (record { value = refl; result_value = refl })

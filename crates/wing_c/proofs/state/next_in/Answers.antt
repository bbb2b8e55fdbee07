-- Whether the state is sound says what its bytes read as (`head-sound`, `head-unsound`); then the call is that of `next_sound`.
use Prim.Native.Nat.{ℕ}
use mathlib.Core.Path.{sym, ◌∙◌, ap}
use mathlib.Core.List.{List}
use Rattle.wing_wire.specs.State.{state_of, sound_state}
use Rattle.wing_c.specs.Kept.{next_with, kept_next, state_next}
use Rattle.wing_c.specs.declared.answers.WingEvent.{WingEvent}
use Rattle.wing_c.proofs.Keeps.{lent-part, head-sound, head-unsound}
use Rattle.wing_c.proofs.state.next_in.Goals as goal

pub next_sound-requires : goal.next_sound-requires
next_sound-requires c =
    (c.requires, ap (λ (l : List ℕ). sound_state (state_of c.args.c l)) (sym (lent-part c.args.state.now)) ∙ sym c.is_sound_lent.ensures ∙ c.if-is_sound_lent.true)

pub returns-then-is_sound_lent : goal.returns-then-is_sound_lent
unfolding next_with state_next
returns-then-is_sound_lent c =
    rw (head-sound c.args.state.now c.args.c c.requires (ap (λ (l : List ℕ). sound_state (state_of c.args.c l)) (sym (lent-part c.args.state.now)) ∙ sym c.is_sound_lent.ensures ∙ c.if-is_sound_lent.true))
    c.next_sound.ensures

pub returns : goal.returns
unfolding next_with state_next
returns c =
    let no = head-unsound c.args.state.now c.args.c c.requires (ap (λ (l : List ℕ). sound_state (state_of c.args.c l)) (sym (lent-part c.args.state.now)) ∙ sym c.is_sound_lent.ensures ∙ c.if-is_sound_lent.false) in
    record { out_after = rw no (ap (λ (r : WingEvent). kept_next r c.args.state.now c.args.out.now) c.event.ensures); state_after = rw no }

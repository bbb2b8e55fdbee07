-- Each return is the branch of `carry_of` with those tests: the carried state is sound exactly if the old one was (law `sound-carried`).
use mathlib.Core.Bool.{true, false}
use mathlib.Core.Path.{◌≡◌, sym, ◌∙◌}
use Rattle.wing_wire.specs.State.{sound_state}
use Rattle.wing_wire.specs.Earlier.{carried, carry_of}
use Rattle.wing_wire.proofs.Reading.CarriedOver.{sound-carried}
use Rattle.wing_wire.proofs.earlier.carry_over.Goals as goal

pub returns-then-is_started : goal.returns-then-is_started
unfolding carry_of
returns-then-is_started c =
    let u = sym c.is_started.ensures ∙ c.if-is_started.true in
    simp u

pub returns-then-is_sound : goal.returns-then-is_sound
unfolding carry_of
returns-then-is_sound c =
    let s = c.args.s in
    let over = c.carried_state-over.ensures in
    let u = sym c.is_started.ensures ∙ c.if-is_started.false in
    let k : sound_state (carried s) ≡ true = rw over at (sym c.is_sound.ensures ∙ c.if-is_sound.true) in
    simp (over, u, sym (sound-carried s) ∙ k)

pub returns : goal.returns
unfolding carry_of
returns c =
    let s = c.args.s in
    let u = sym c.is_started.ensures ∙ c.if-is_started.false in
    let k : sound_state (carried s) ≡ false = rw c.carried_state-over.ensures at (sym c.is_sound.ensures ∙ c.if-is_sound.false) in
    simp (u, sym (sound-carried s) ∙ k)

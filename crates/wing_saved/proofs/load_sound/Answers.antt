-- What `lay` leaves of a store of as many bytes are the bytes (law `laid_same`); both returns are the branches of `sound_only` by what `is_sound`
-- tells.
use Prim.Native.Nat.{ℕ}
use mathlib.Core.Path.{◌≡◌, ◌∙◌, sym}
use lib.ListN.{replicate, length-replicate}
use Rattle.wing_wire.specs.State.{body_limit}
use Rattle.wing_saved.specs.Saved.{sound_only}
use Rattle.wing_saved.proofs.Saving.Fronts.{laid_same}
use borrow.Author.Rules.{rules}
use Rattle.wing_saved.proofs.load_sound.Goals as goal

pub returns-then-is_sound : goal.returns-then-is_sound
unfolding sound_only
returns-then-is_sound c =
    let a = c.args in
    let e : c.lay.new.out ≡ a.bytes.now = c.lay.ensures ∙ laid_same a.bytes.now (replicate body_limit 0) (length-replicate {A = ℕ} body_limit 0 ∙ sym (search rules)) in
    rw (← e) (simp (← c.is_sound.ensures, c.if-is_sound.true))

pub returns : goal.returns
unfolding sound_only
returns c =
    let a = c.args in
    let e : c.lay.new.out ≡ a.bytes.now = c.lay.ensures ∙ laid_same a.bytes.now (replicate body_limit 0) (length-replicate {A = ℕ} body_limit 0 ∙ sym (search rules)) in
    rw (← e) (simp (← c.is_sound.ensures, c.if-is_sound.false))

-- The bytes of a field each are stored at their places and those of four written by `put_number`, which are the fields in their order (law
-- `fields-put`).
use mathlib.Core.Path.{◌≡◌, ◌∙◌}
use mir.Val.{to_z, of_z}
use mir.Syntax.{w8, w32}
use Rattle.wing_saved.specs.Saved.{head_under}
use Rattle.wing_saved.proofs.Saving.Heads.{fields-put, flag_same, bits_same}
use borrow.Author.Rules.{rules}
use Rattle.wing_saved.proofs.head_of.Goals as goal

pub returns : goal.returns
unfolding head_under
returns c =
    let a = c.args.c in
    let k : to_z w8 (of_z w8 a.escape.channel) ≡ a.escape.channel = search rules in
    let l : to_z w32 (of_z w32 a.node) ≡ a.node = search rules in
    fields-put _ _ _ _ _ _ _ _ _ _ _ _ c.put_number.ensures c.put_number-2.ensures c.put_number-3.ensures c.put_number-4.ensures c.put_number-5.ensures
    ∙ rw (c.from.ensures, flag_same a.escape.escaped, c.cast_unsigned.ensures, k, bits_same a.escape.channel, c.pending_flag.ensures, c.pending_byte.ensures, c.fields_of-k.ensures, l)

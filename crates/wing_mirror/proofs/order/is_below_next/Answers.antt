-- Both returns are the branches of `next_above` with that test of the number, by the contract of `key_at`.
use Rattle.wing_mirror.proofs.Tables.Chunks.{row_fits}
use Rattle.wing_mirror.proofs.order.is_below_next.Goals as goal

pub key_at-requires : goal.key_at-requires
key_at-requires g c = (c.requires.0, row_fits _ _ _ _ c.requires.2 c.requires.1)

pub key_at-requires-else-count-number : goal.key_at-requires-else-count-number
key_at-requires-else-count-number g c = (c.requires.0, row_fits _ _ _ _ c.if-count-number.false c.requires.1)

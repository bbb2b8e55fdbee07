-- The contract of the mirror's feed on the store where it stands: what it leaves, and that this reads as the state after it (`fed-in`). A taken feed leaves a sound state (`fed-sound`).
use Rattle.wing_saved.proofs.Saving.Types.{are-bytes}
use Rattle.wing_mirror.specs.Table.{table}
use Rattle.wing_c.proofs.Keeps.{kept-typed, fed-sound, fed-in}
use borrow.Author.Rules.{rules}
use Rattle.wing_c.proofs.mirror.feed_in.Goals as goal

pub keep_state-requires : goal.keep_state-requires
keep_state-requires c = (
  let state = c.args.state.now in
      let typed = kept-typed c.args.c _ c.well_formed.1.0 state (are-bytes state (λ i. (c.slice_known-1.given i).fits)) c.requires.size in
      let are = are-bytes c.args.bytes.now (λ i. (c.type_inv.bytes i).fits) in
      fed-sound state c.args.c (table c.args.table.now c.args.count) c.args.bytes.now c.requires c.feed_lent-r.result c.feed_lent-r.new.store c.feed_lent-r.new.table c.feed_lent-r.ensures typed are,
  search rules,
)

pub returns : goal.returns
returns c =
    let p = fed-in c.args.state.now c.args.c (table c.args.table.now c.args.count) c.args.bytes.now c.requires c.feed_lent-r.result c.feed_lent-r.new.store c.feed_lent-r.new.table
    c.feed_lent-r.ensures c.fed.ensures c.keep_state.ensures.state_after c.keep_state.ensures.state_after_2 in
    record { table_after = p.0; state_after = p.1 }

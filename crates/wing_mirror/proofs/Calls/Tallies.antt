-- The six counts of a feed: each event counts at most once, and counts only add.
use Prim.Native.Nat.{suc, ◌+◌, ◌≤◌}
use mathlib.Core.Bool.{Bool, true, false}
use mathlib.Core.Path.{◌≡◌, refl, ap}
use mathlib.Core.List.{List, [], ◌∷◌}
use native.Mathlib.Omega.{arith}
use native.Mathlib.Nat.{add-zero, add_assoc}
use lib.IntN.{ℤ}
use lib.ListN.{length}
use Rattle.wing_node.specs.Refusal.{refusal_number}
use Rattle.wing_node.specs.Bool.{if}
use Rattle.wing_node.specs.Definition.{definition_of}
use Rattle.wing_node.proofs.Branches.{branch}
use Rattle.wing_wire.specs.Reader.{Event, more, value, body, end, refused}
use Rattle.wing_mirror.specs.Rows.{Table}
use Rattle.wing_mirror.specs.Entry.{entry}
use Rattle.wing_mirror.specs.Layout.{Keeping, kept, unkept, unless_kept, Layout}
use Rattle.wing_mirror.specs.Table.{put, fits}
use Rattle.wing_mirror.specs.Counts.{zero_counts, mark_number, one, tick, refusal_mark, body_mark, total, add_counts}
use Rattle.wing_mirror.specs.Mirror.{TableTally, table_tally, keep_event}
use Rattle.wing_mirror.specs.Machine.{StreamEvent}
use Rattle.wing_mirror.specs.declared.answer.Counts.{Counts}
use Rattle.wing_mirror.specs.declared.counts.Mark.{Mark}
use Rattle.wing_mirror.specs.declared.counts.Mark.TheVariants.{Stored, Unplaced, StringRefused, DefinitionRead, DefinitionRefused, Ended, Uncounted}
use Rattle.wing_mirror.specs.declared.origin.Origin.TheVariants.{Console}
use Rattle.wing_mirror.proofs.Records.Choices.{keeping-cases}
use Rattle.wing_mirror.proofs.Histories.Along.{fold_events}

-- a mark is at most one more in all
one-total : (m : Mark) → total (one m) ≤ 1
unfolding one mark_number
one-total Stored = omega arith
one-total Unplaced = omega arith
one-total StringRefused = omega arith
one-total DefinitionRead = omega arith
one-total DefinitionRefused = omega arith
one-total Ended = omega arith
one-total Uncounted = omega arith

tick-total : (m : Mark) (c : Counts) → total (tick m c) ≤ suc (total c)
tick-total m c = omega (arith, one-total m)

-- each event counts at most once
pub keep-total : (L : Layout) (node : ℤ) (e : Event) (k : TableTally) → total (keep_event L node e k).counts ≤ suc (total k.counts)
unfolding keep_event
keep-total L node more k = omega arith
keep-total L node (value v) k =
    keeping-cases P (L.keeping v) _ _ (λ mark why. tick-total mark k.counts)
    (λ _. branch P (fits L (entry node v Console) k.table) _ _ (λ _. tick-total Stored k.counts) (λ _. tick-total Unplaced k.counts))
  where
    P : TableTally → Type 0
    P x = total x.counts ≤ suc (total k.counts)
keep-total L node (body b) k = tick-total (body_mark (definition_of b)) k.counts
keep-total L node end k = tick-total Ended k.counts
keep-total L node (refused why) k = tick-total (refusal_mark (refusal_number why)) k.counts

-- so the counts sum to at most the events
pub fold-total : (L : Layout) (rs : List StreamEvent) (k : TableTally) → total (fold_events (keep_event L) rs k).counts ≤ total k.counts + length rs
unfolding fold_events
fold-total L [] k = omega arith
fold-total L (r ∷ rs) k = omega (arith, fold-total L rs (keep_event L r.node r.event k), keep-total L r.node r.event k)

-- counts c, and those of k
abbrev pub atop : Counts → TableTally → TableTally
atop c k = table_tally k.table (add_counts c k.counts)

-- a mark on a sum is one on its second part
tick-adds : (m : Mark) (c d : Counts) → add_counts c (tick m d) ≡ tick m (add_counts c d)
tick-adds m c d = simp add_assoc

-- nothing added
pub add-zero-counts : (c : Counts) → add_counts c zero_counts ≡ c
add-zero-counts c = simp add-zero

-- what is kept does not look at the counts before
pub keep-adds : (L : Layout) (c : Counts) (node : ℤ) (e : Event) (k : TableTally) → atop c (keep_event L node e k) ≡ keep_event L node e (atop c k)
unfolding keep_event
keep-adds L c node more k = refl
keep-adds L c node (value v) k = go (L.keeping v) (fits L (entry node v Console) k.table)
  where
    t : Table
    t = put L (entry node v Console) k.table

    go : (o : Keeping) (b : Bool) →
        atop c (unless_kept o (λ mark why. table_tally k.table (tick mark k.counts)) (if b (table_tally t (tick Stored k.counts)) (table_tally k.table (tick Unplaced k.counts))))
        ≡ unless_kept o (λ mark why. table_tally k.table (tick mark (add_counts c k.counts)))
        (if b (table_tally t (tick Stored (add_counts c k.counts))) (table_tally k.table (tick Unplaced (add_counts c k.counts))))
    go (unkept mark why) b = ap (table_tally k.table) (tick-adds mark c k.counts)
    go kept true = ap (table_tally t) (tick-adds Stored c k.counts)
    go kept false = ap (table_tally k.table) (tick-adds Unplaced c k.counts)
keep-adds L c node (body b) k = ap (table_tally k.table) (tick-adds (body_mark (definition_of b)) c k.counts)
keep-adds L c node end k = ap (table_tally k.table) (tick-adds Ended c k.counts)
keep-adds L c node (refused why) k = ap (table_tally k.table) (tick-adds (refusal_mark (refusal_number why)) c k.counts)

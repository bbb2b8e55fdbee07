-- What a feed reads and counts, as specs/Mirror states it.
use Prim.Native.Nat.{ℕ, ◌+◌}
use mathlib.Core.Path.{◌≡◌, refl, sym, ◌∙◌, ap}
use mathlib.Core.Logic.{inl, inr}
use mathlib.Core.List.{List, []}
use native.Mathlib.Nat.{add-zero}
use borrow.Author.Tests.{leb-true}
use lib.Dec.{leb}
use lib.ListN.{length}
use Rattle.wing_node.specs.Refusal.{refusal_number}
use Rattle.wing_node.specs.declared.refusal.Refusal.{Refusal}
use Rattle.wing_node.specs.Result.{ok, refused, Result}
use Rattle.wing_node.specs.Definition.{definition_of}
use Rattle.wing_node.specs.Answers.{DefinitionValues, parsed_result}
use Rattle.wing_node.proofs.Branches.{branch}
use Rattle.wing_node.proofs.Refusals.{reason}
use Rattle.wing_node.proofs.Bodies.Walks.{definitions}
use Rattle.wing_node.specs.Parsing.{FourOrFive}
use Rattle.wing_wire.specs.State.{sound_state}
use Rattle.wing_wire.specs.Range.{AreBytes, InRange}
use Rattle.wing_wire.specs.Repeated.{fed_state, NextCalls}
use Rattle.wing_wire.specs.declared.state.State.{State}
use Rattle.wing_wire.proofs.Reading.Repeats.{until-more}
use Rattle.wing_mirror.specs.Rows.{Table}
use Rattle.wing_mirror.specs.Record.{full}
use Rattle.wing_mirror.specs.Entry.{entry}
use Rattle.wing_mirror.specs.Table.{usable, put}
use Rattle.wing_mirror.specs.Counts.{six, zero_counts, mark_number, one, tick, refusal_mark, body_mark, counts_in}
use Rattle.wing_mirror.specs.Mirror.{TableTally, table_tally, keep_event, FeedEffect, fed_all, mirror_feed}
use Rattle.wing_mirror.specs.Machine.{decode_all}
use Rattle.wing_mirror.specs.declared.counts.Mark.{Mark}
use Rattle.wing_mirror.specs.declared.counts.Mark.TheVariants.{Stored, Unplaced, StringRefused, DefinitionRead, DefinitionRefused, Ended}
use Rattle.wing_mirror.specs.declared.origin.Origin.TheVariants.{Console}
use Rattle.promises.specs.Wire.{with_event}
use Rattle.promises.specs.Mirror.{MachineReads, EventsCounted}
use Rattle.promises.proofs.Lines.{given}
use Rattle.wing_node.specs.declared.definition.Definition.{Definition}
use Rattle.std.specs.Prelude.{Ok, Err, is_ok}
use mathlib.Core.Bool.{true≢false}
use Rattle.wing_mirror.specs.declared.answer.Counts.{Counts}

-- ---- next until 'more'

pub machine-reads : MachineReads
unfolding decode_all
machine-reads s bytes a p b = until-more with_event s bytes [] a p b

pub feed-runs : (s : State) (t : Table) (bytes : List ℕ) → InRange s.control s.store → AreBytes bytes →
    let x = mirror_feed full s t bytes in
    (k : Counts) → x.answer ≡ ok k → NextCalls (keep_event full) s bytes (table_tally t zero_counts) (fed_state (keep_event full) x.state (table_tally x.table k))
unfolding mirror_feed fed_all
feed-runs s t bytes inside are =
    branch P (sound_state s) _ _
    (λ g. branch P (usable full t) _ _
    (λ _. branch P (leb (length bytes) 65536) _ _
    (λ l k e. let c : (fed_all full s t bytes).memo.counts ≡ k = ap counts_in e in
    rw (← c) (until-more (keep_event full) s bytes (table_tally t zero_counts) (record { sound = g; store = inside.store.size; most = leb-true (length bytes) 65536 l }) inside.pending are))
    (λ _ k z. no z)) (λ _ k z. no z)) (λ _ k z. no z)
  where
    P : FeedEffect → Type 0
    P x = (k : Counts) → x.answer ≡ ok k → NextCalls (keep_event full) s bytes (table_tally t zero_counts) (fed_state (keep_event full) x.state (table_tally x.table k))

    no : {A : Type 0} {why : Refusal} {k : Counts} → ◌≡◌ {A = Result Counts} (refused why) (ok k) → A
    no e = absurd (true≢false (sym (ap is_ok e)))

-- ---- what is counted

-- one more of each mark, in figures
module _ (t : Table) (a b c d e f : ℕ) where
  now : Mark → TableTally
  now m = table_tally t (tick m (six a b c d e f))

  one-string : now StringRefused ≡ table_tally t (six a b (c + 1) d e f)
  unfolding now one mark_number
  one-string = simp add-zero

  one-read : now DefinitionRead ≡ table_tally t (six a b c (d + 1) e f)
  unfolding now one mark_number
  one-read = simp add-zero

  one-refused : now DefinitionRefused ≡ table_tally t (six a b c d (e + 1) f)
  unfolding now one mark_number
  one-refused = simp add-zero

  one_end : now Ended ≡ table_tally t (six a b c d e (f + 1))
  unfolding now one mark_number
  one_end = simp add-zero

  one-stored : now Stored ≡ table_tally t (six (a + 1) b c d e f)
  unfolding now one mark_number
  one-stored = simp add-zero

  one-unplaced : now Unplaced ≡ table_tally t (six a (b + 1) c d e f)
  unfolding now one mark_number
  one-unplaced = simp add-zero

-- a body's mark, by what the parser answers
mark-refused : (bytes : List ℕ) (why : Refusal) (x : Result Definition) → parsed_result bytes x ≡ refused why → FourOrFive why → body_mark x ≡ DefinitionRefused
unfolding body_mark refusal_mark
mark-refused bytes why (Ok d) q h = absurd (given _ why q)
mark-refused bytes why (Err other) q (inl h) = ap (λ (w : Refusal). refusal_mark (refusal_number w)) (ap (reason why) q ∙ h)
mark-refused bytes why (Err other) q (inr h) = ap (λ (w : Refusal). refusal_mark (refusal_number w)) (ap (reason why) q ∙ h)

mark-read : (bytes : List ℕ) (v : DefinitionValues) (x : Result Definition) → parsed_result bytes x ≡ ok v → body_mark x ≡ DefinitionRead
unfolding body_mark
mark-read bytes v (Ok d) q = refl
mark-read bytes v (Err why) q = absurd (given v why (sym q))

pub events-counted : EventsCounted
unfolding keep_event refusal_mark now
events-counted node t a b c d e f = record {
  string = λ good. one-string t a b c d e f;
  long = one-refused t a b c d e f;
  empty = one-refused t a b c d e f;
  unreadable = λ bytes why q. ap (now t a b c d e f) (mark-refused bytes why (definition_of bytes) q ((definitions.parsing bytes).others why q)) ∙ one-refused t a b c d e f;
  readable = λ bytes x q. ap (now t a b c d e f) (mark-read bytes x (definition_of bytes) q) ∙ one-read t a b c d e f;
  ended = one_end t a b c d e f;
  stored = λ v q. rw q (one-stored (put full (entry node v Console) t) a b c d e f);
  unplaced = λ v q. rw q (one-unplaced t a b c d e f);
}

-- The mirror: what feed and set make of a table of any layout, and what they answer.
use Rattle.std.specs.Prelude.{ℕ, not, List, ◌++◌, ltb, leb, eqb, ℤ, length, drop, Ok, Err}
use Rattle.wing_node.specs.declared.refusal.Refusal.{Refusal}
use Rattle.wing_node.specs.Refusal.{refusal_number, string_not_utf8}
use Rattle.wing_node.specs.Bool.{if}
use Rattle.wing_node.specs.Value.{NodeValue}
use Rattle.wing_node.specs.Definition.{definition_of}
use Rattle.wing_wire.specs.State.{body_limit, state_of, sound_state}
use Rattle.wing_wire.specs.Stream.{Fed, feed_of}
use Rattle.wing_wire.specs.Reader.{Event, more, value, body, end, refused, event_of}
use Rattle.wing_wire.specs.Command.{set_bytes}
use Rattle.wing_wire.specs.declared.state.State.{State}
use Rattle.wing_wire.specs.declared.unit.Answer.{Answer}
use Rattle.wing_mirror.specs.Rows.{Table}
use Rattle.wing_mirror.specs.Entry.{entry}
use Rattle.wing_mirror.specs.Layout.{Layout, unless_kept}
use Rattle.wing_mirror.specs.Table.{table, usable, put, fits}
use Rattle.wing_mirror.specs.Call.{text_in, too_long, not_text}
use Rattle.wing_mirror.specs.Counts.{zero_counts, tick, refusal_mark, body_mark}
use Rattle.wing_mirror.specs.declared.answer.Counts.{Counts}
use Rattle.wing_mirror.specs.declared.counts.Mark.TheVariants.{Stored, Unplaced, Ended}
use Rattle.wing_mirror.specs.declared.origin.Origin.TheVariants.{Console, SetOrder}
use Rattle.wing_mirror.specs.declared.answer.FeedReply.{FeedReply}
use Rattle.wing_mirror.specs.declared.answer.LentFeedReply.{LentFeedReply}
use Rattle.wing_mirror.specs.declared.answer.SetReply.{SetReply}
use Rattle.wing_node.specs.declared.refusal.Refusal.TheVariants.{NoPlace, OutputShort, StringLong, TableUnsound, NumberOver, StateUnsound}
use Rattle.wing_node.specs.Result.{Result}

-- a table, and the counts of a feed so far
pub record TableTally : Type 0 where
  pub table : Table
  pub counts : Counts

-- a table with counts
abbrev pub table_tally : Table → Counts → TableTally
table_tally t c = record { table = t; counts = c }

-- what a feed leaves
pub record FeedEffect : Type 0 where
  pub answer : Result Counts
  pub state : State
  pub table : Table

-- 01: a refused feed changes and counts nothing
abbrev pub refused_feed : Refusal → State → Table → FeedEffect
refused_feed why s t = record { answer = Err why; state = s; table = t }

-- 01: a feed that is taken: the six counts, the state and the table
abbrev pub taken_feed : Fed TableTally → FeedEffect
taken_feed x = record { answer = Ok x.memo.counts; state = record { control = x.control; store = x.store }; table = x.memo.table }

-- what the call leaves, by its reply and the lent buffer
abbrev pub feed_effect : FeedReply → List ℕ → FeedEffect
feed_effect r buffer = record { answer = r.answer; state = r.state; table = table buffer r.count }

-- the same where the store is lent too
abbrev pub lent_effect : LentFeedReply → List ℕ → List ℕ → FeedEffect
lent_effect r store buffer = record { answer = r.answer; state = state_of r.control store; table = table buffer r.count }

-- what a set leaves
pub record SetEffect : Type 0 where
  pub answer : Result ℕ
  pub out : List ℕ
  pub table : Table

-- 01: refused, all is as it was
abbrev pub refused_set : Refusal → Table → List ℕ → SetEffect
refused_set why t out = record { answer = Err why; out = out; table = t }

-- what the call leaves, by its reply and the lent buffers
abbrev pub set_effect : SetReply → List ℕ → List ℕ → SetEffect
set_effect r out buffer = record { answer = r.answer; out = out; table = table buffer r.count }

module _ (L : Layout) where
  open L use {keeping}

  -- 01: a value is stored at its node, or has no place; a definition leaves the table alone. A value that is not kept is only counted.
  -- 02: its origin is the console
  unfoldable pub keep_event : ℤ → Event → TableTally → TableTally
  keep_event node more k = k
  keep_event node (value v) k =
      unless_kept (keeping v) (λ mark why. table_tally k.table (tick mark k.counts))
      (if (fits L (entry node v Console) k.table) (table_tally (put L (entry node v Console) k.table) (tick Stored k.counts))
      (table_tally k.table (tick Unplaced k.counts)))
  keep_event node (body b) k = table_tally k.table (tick (body_mark (definition_of b)) k.counts)
  keep_event node end k = table_tally k.table (tick Ended k.counts)
  keep_event node (refused why) k = table_tally k.table (tick (refusal_mark (refusal_number why)) k.counts)

  -- the same of an answer, whose bytes stand in the decoder's store
  abbrev pub keep : ℤ → Answer → List ℕ → TableTally → TableTally
  keep node a s k = keep_event node (event_of a s s) k

  -- 01: next until "more" (wing_wire's feed_of), each answer kept
  unfoldable pub fed_all : State → Table → List ℕ → Fed TableTally
  fed_all s t bytes = feed_of keep (record { control = s.control; store = s.store; memo = table_tally t zero_counts }) bytes

  -- 01: feed takes up to 65,536 bytes; 8, 7, 14
  unfoldable pub mirror_feed : State → Table → List ℕ → FeedEffect
  mirror_feed s t bytes =
      if (sound_state s)
      (if (usable L t)
      (if (leb (length bytes) 65536) (taken_feed (fed_all s t bytes)) (refused_feed NumberOver s t))
      (refused_feed TableUnsound s t))
      (refused_feed StateUnsound s t)

  -- the same where the state's store is lent: one of another size than a state's is no sound state's
  unfoldable pub lent_feed : State → Table → List ℕ → FeedEffect
  lent_feed s t bytes = if (eqb (length s.store) body_limit) (mirror_feed s t bytes) (refused_feed StateUnsound s t)

  -- 01: set through the mirror writes the command and stores the value; 7, the number of a value that is not kept, 10, 1, 6, 9. 02: its
  -- origin is the set order
  unfoldable pub mirror_set : ℤ → NodeValue → Table → List ℕ → SetEffect
  mirror_set id v t out =
      if (not (usable L t)) (refused_set TableUnsound t out)
      (unless_kept (keeping v) (λ mark why. refused_set why t out)
      (if (too_long v) (refused_set StringLong t out)
      (if (not_text v) (refused_set (string_not_utf8 (text_in v)) t out)
      (if (not (fits L (entry id v SetOrder) t)) (refused_set NoPlace t out)
      (if (ltb (length out) (length (set_bytes id v))) (refused_set OutputShort t out)
      (record { answer = Ok (length (set_bytes id v)); out = set_bytes id v ++ drop (length (set_bytes id v)) out; table = put L (entry id v SetOrder) t }))))))

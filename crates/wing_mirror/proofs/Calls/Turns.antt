-- One turn of a feed: an answer makes what is left smaller, adds at most one to the counts, and leaves the table usable.
use Prim.Native.Nat.{ℕ, ◌+◌, ◌-◌, ◌*◌, ◌≤◌}
use mathlib.Core.Bool.{Bool, true, false}
use mathlib.Core.Logic.{⊎_elim}
use mathlib.Core.Path.{◌≡◌, refl, sym, ◌∙◌, ap, subst}
use mathlib.Core.List.{List}
use native.Mathlib.Omega.{arith}
use lib.IntN.{ℤ}
use lib.ListN.{length, take, drop, length-drop}
use lib.Seq.{take_all, drop-drop}
use Rattle.wing_node.specs.Bool.{if}
use Rattle.wing_node.specs.Value.{NodeValue, integer, float, string}
use Rattle.wing_node.proofs.Branches.{branch}
use Rattle.wing_wire.specs.Units.{pending_count}
use Rattle.wing_wire.specs.Range.{Within, TokenWithin, StepEffectWithin}
use Rattle.wing_wire.specs.Reader.{value, event_of}
use Rattle.wing_wire.specs.Stream.{is_more, Run, run, advance_of, released, Fed, feed_of}
use Rattle.wing_wire.specs.declared.state.Control.{Control}
use Rattle.wing_wire.specs.declared.stream.Advanced.{Advanced}
use Rattle.wing_wire.specs.declared.unit.Answer.{Answer}
use Rattle.wing_wire.specs.declared.unit.Answer.TheVariants.{More, Integer, Float, String, Body, End, Refused}
use Rattle.wing_wire.proofs.Laws.{decoder-laws}
use Rattle.wing_mirror.specs.Rows.{Table, takes, store}
use Rattle.wing_mirror.specs.Entry.{entry, storable}
use Rattle.wing_mirror.specs.Layout.{kept, Layout, Lawful}
use Rattle.wing_mirror.specs.Table.{usable, fits, put}
use Rattle.wing_mirror.specs.Puts.{PutEffect, put_of}
use Rattle.wing_mirror.specs.Counts.{zero_counts, tick, total}
use Rattle.wing_mirror.specs.Mirror.{TableTally, table_tally, keep, keep_event}
use Rattle.wing_mirror.specs.declared.answer.Counts.{Counts}
use Rattle.wing_mirror.specs.declared.counts.Mark.TheVariants.{Stored, Unplaced}
use Rattle.wing_mirror.specs.declared.origin.Origin.TheVariants.{Console}
use Rattle.wing_mirror.proofs.Records.Choices.{keeping-cases}
use Rattle.wing_mirror.proofs.Records.Lasting.{entry-usable}
use Rattle.wing_mirror.proofs.Calls.Tallies.{keep-total}
use Rattle.wing_mirror.proofs.Histories.Decodes.{string-text}
use Rattle.std.specs.Prelude.{Option, ℕ, None, Some}

-- ---- what is left: two for each byte, and one for a pending byte

pending-one : (p : Option ℕ) → pending_count p ≤ 1
pending-one None = omega arith
pending-one (Some u) = omega arith

-- an answer takes a byte, or the pending byte
pub smaller : (c : Control) (s bytes : List ℕ) → is_more (advance_of c s bytes).effect.answered.answer ≡ false →
    pending_count (advance_of c s bytes).effect.answered.control.escape.pending + 1 ≤ 2 * (advance_of c s bytes).taken + pending_count c.escape.pending
smaller c s bytes p =
    let r = advance_of c s bytes in
    ⊎_elim (λ b. omega (arith, b, pending-one r.effect.answered.control.escape.pending))
    (λ q. let z : pending_count r.effect.answered.control.escape.pending ≡ 0 = ap pending_count q.1 in omega (arith, q.0)) (decoder-laws.next.takes c s bytes p)

-- ---- what is kept of an answer

-- a put of a value's record, counted by whether it was taken
pub put-kept : (L : Layout) (node : ℤ) (v : NodeValue) (t : Table) (counts : Counts) (r : List ℕ) (x : PutEffect) →
    L.keeping v ≡ kept → r ≡ L.record_of (entry node v Console) → x ≡ put_of L r t →
    table_tally x.after (tick (if x.taken Stored Unplaced) counts) ≡ keep_event L node (value v) (table_tally t counts)
unfolding put_of keep_event put fits
put-kept L node v t counts r x o e d =
    rw o (ap (λ (x : PutEffect). tally x) (d ∙ ap (λ (x : List ℕ). put_of L x t) e) ∙ go (takes L.width L.key_of (L.record_of (entry node v Console)) t))
  where
    tally : PutEffect → TableTally
    tally x = table_tally x.after (tick (if x.taken Stored Unplaced) counts)

    after : Table
    after = store L.width L.key_of (L.record_of (entry node v Console)) t

    go : (b : Bool) → tally (if b (record { after = after; taken = true }) (record { after = t; taken = false })) ≡ if b (table_tally after (tick Stored counts)) (table_tally t (tick Unplaced counts))
    go true = refl
    go false = refl

-- a value that may be kept leaves the table usable
pub value-usable : {L : Layout} → Lawful L → (node : ℤ) (v : NodeValue) (k : TableTally) → (L.keeping v ≡ kept → storable v ≡ true) → usable L k.table ≡ true → usable L (keep_event L node (value v) k).table ≡ true
unfolding keep_event
value-usable {L} laws node v k h u =
    keeping-cases P (L.keeping v) _ _ (λ mark why. u)
    (λ o. branch P (fits L (entry node v Console) k.table) _ _ (λ f. entry-usable laws (entry node v Console) k.table (h o) o u f) (λ _. u))
  where
    P : TableTally → Type 0
    P x = usable L x.table ≡ true

-- what is kept of an answer within its bounds leaves the table usable
pub kept-usable : {L : Layout} → Lawful L → (node : ℤ) (a : Answer) (s : List ℕ) (k : TableTally) → Within a s → usable L k.table ≡ true → usable L (keep L node a s k).table ≡ true
unfolding event_of keep_event storable
kept-usable laws node More s k w u = u
kept-usable laws node (Integer x) s k w u = value-usable laws node (integer x) k (λ _. refl) u
kept-usable laws node (Float bits) s k w u = value-usable laws node (float bits) k (λ _. refl) u
kept-usable laws node (String n) s k w u = value-usable laws node (string (take n s)) k (λ _. string-text n s w.0 w.1) u
kept-usable laws node (Body n) s k w u = u
kept-usable laws node End s k w u = u
kept-usable laws node (Refused n) s k w u = u

-- ---- a turn

abbrev pub left : List ℕ → Control → ℕ → ℕ
left bytes c i = 2 * (length bytes - i) + pending_count c.escape.pending

-- a decoder, and what a feed has kept so far
abbrev pub fed : Control → List ℕ → TableTally → Fed TableTally
fed c s k = record { control = c; store = s; memo = k }

-- where a feed stands: the bytes up to i are taken
pub record FeedInvariant (L : Layout) (bytes : List ℕ) (start : Fed TableTally) (c : Control) (s : List ℕ) (k : TableTally) (i : ℕ) : Type 0 where
  pub within : i ≤ length bytes
  pub same : feed_of (keep L) (fed c s k) (drop i bytes) ≡ feed_of (keep L) start bytes
  pub bounded : TokenWithin c.token
  pub ready : usable L k.table ≡ true
  pub few : total k.counts + left bytes c i ≤ 131073

pub begun : (L : Layout) (bytes : List ℕ) (c : Control) (s : List ℕ) (t : Table) (counts : Counts) → counts ≡ zero_counts → length bytes ≤ 65536 → TokenWithin c.token → usable L t ≡ true →
    FeedInvariant L bytes (fed c s (table_tally t zero_counts)) c s (table_tally t counts) 0
begun L bytes c s t counts e h g u =
    record {
      within = omega arith;
      same = ap (λ (x : Counts). feed_of (keep L) (fed c s (table_tally t x)) bytes) e;
      bounded = g;
      ready = u;
      few = omega (arith, ap (λ (x : Counts). total x) e, pending-one c.escape.pending);
    }

module _ {L : Layout} (laws : Lawful L) {bytes : List ℕ} {start : Fed TableTally} {c : Control} {s : List ℕ} {k : TableTally} {i : ℕ} (g : FeedInvariant L bytes start c s k i)
    (r : Advanced) (t : List ℕ) (e : run r t ≡ advance_of c s (take (length bytes - i) (drop i bytes))) where
  -- the bytes lent are those not taken yet
  said : run r t ≡ advance_of c s (drop i bytes)
  said = e ∙ ap (λ (b : List ℕ). advance_of c s b) (take_all (length bytes - i) (drop i bytes) (omega (arith, length-drop i bytes)))

  pub inside : i + r.taken ≤ length bytes
  inside =
      let h = ap (λ (x : Run). x.taken) said in
      let w = g.within in
      omega (arith, decoder-laws.next.within c s (drop i bytes), length-drop i bytes)

  -- the call that answers more is the last
  pub ended : is_more r.answer ≡ true → fed r.control t k ≡ feed_of (keep L) start bytes
  ended m =
      let h : is_more (advance_of c s (drop i bytes)).effect.answered.answer ≡ true = ap (λ (x : Run). is_more x.effect.answered.answer) (sym said) ∙ m in
      ap (λ (x : Run). fed x.effect.answered.control x.effect.store k) said ∙ sym (decoder-laws.feed.ends (keep L) (fed c s k) (drop i bytes) h) ∙ g.same

  pub less-left : is_more r.answer ≡ false → left bytes r.control (i + r.taken) + 1 ≤ left bytes c i
  less-left m =
      let h : is_more (advance_of c s (drop i bytes)).effect.answered.answer ≡ false = ap (λ (x : Run). is_more x.effect.answered.answer) (sym said) ∙ m in
      let n = ap (λ (x : Run). x.taken) said in
      let p = ap (λ (x : Run). pending_count x.effect.answered.control.escape.pending) said in
      omega (arith, smaller c s (drop i bytes) h, inside)

  -- what was answered is within bounds
  pub answer-bounded : StepEffectWithin (length s) (run r t).effect
  answer-bounded = subst (λ (x : Run). StepEffectWithin (length s) x.effect) (sym said) (decoder-laws.next.bounded c s (drop i bytes) g.bounded)

  -- after a turn, with what was kept and released
  turn : is_more r.answer ≡ false →
      FeedInvariant L bytes start r.control (released r.answer t) (keep L r.control.node r.answer t k) (i + r.taken)
  turn m =
      let h : is_more (advance_of c s (drop i bytes)).effect.answered.answer ≡ false = ap (λ (x : Run). is_more x.effect.answered.answer) (sym said) ∙ m in
      let w = answer-bounded in
      record {
        within = inside;
        same =
            ap (λ (b : List ℕ). feed_of (keep L) (fed r.control (released r.answer t) (keep L r.control.node r.answer t k)) b) (sym (drop-drop r.taken i bytes))
            ∙ ap (λ (x : Run). feed_of (keep L) (fed x.effect.answered.control (released x.effect.answered.answer x.effect.store) (keep L x.effect.answered.control.node x.effect.answered.answer x.effect.store k)) (drop x.taken (drop i bytes))) said
            ∙ sym (decoder-laws.feed.again (keep L) (fed c s k) (drop i bytes) h)
            ∙ g.same;
        bounded = w.token;
        ready = kept-usable laws r.control.node r.answer t k w.within g.ready;
        few = let f = g.few in omega (arith, less-left m, keep-total L r.control.node (event_of r.answer t t) k);
      }

  pub again : is_more r.answer ≡ false → (t' : List ℕ) → t' ≡ released r.answer t → (k' : TableTally) → k' ≡ keep L r.control.node r.answer t k →
      FeedInvariant L bytes start r.control t' k' (i + r.taken)
  again m t' et k' ek =
      subst (λ (x : List ℕ). FeedInvariant L bytes start r.control x k' (i + r.taken)) (sym et)
      (subst (λ (x : TableTally). FeedInvariant L bytes start r.control (released r.answer t) x (i + r.taken)) (sym ek) (turn m))

-- What is promised of the mirror's calls, as specs/Mirror states it.
use Prim.Native.Nat.{ℕ, zero, suc, ◌-◌, ◌<◌, ◌≤◌, ◌+◌}
use mathlib.Core.Bool.{Bool, true, false, not, true≢false}
use mathlib.Core.Path.{◌≡◌, refl, sym, ◌∙◌, ap, subst}
use mathlib.Core.Logic.{◌↔◌}
use mathlib.Core.List.{List, [], ◌∷◌, ◌++◌, map}
use native.Mathlib.Omega.{arith}
use native.Mathlib.Nat.{suc-sub-suc}
use borrow.Author.Tests.{ltb-true, leb-true, eq-eqb, ne_eqb}
use lib.Dec.{ltb, leb}
use lib.IntN.{ℤ}
use lib.ListN.{length, drop, get_or, replicate, length-replicate}
use Rattle.wing_node.specs.Refusal.{string_not_utf8}
use Rattle.wing_node.specs.Bool.{if}
use Rattle.wing_node.specs.Result.{Result, ok, refused}
use Rattle.wing_node.specs.Signed.{InBits}
use Rattle.wing_node.specs.Utf8.{utf8}
use Rattle.wing_node.specs.Value.{NodeValue, integer, float, string}
use Rattle.wing_node.specs.declared.value.Value.TheVariants.{String}
use Rattle.wing_node.proofs.Branches.{branch, if-both}
use Rattle.wing_wire.specs.Range.{AreBytes}
use Rattle.wing_wire.specs.State.{body_limit, sound_state}
use Rattle.wing_wire.specs.Write.{WriteEffect, write_effect, write_of}
use Rattle.wing_wire.specs.Command.{set_bytes}
use Rattle.wing_wire.specs.RoundTrip.{Settable}
use Rattle.wing_wire.specs.SetOrders.{ReadsAsSet}
use Rattle.wing_wire.specs.Answers.{written_result}
use Rattle.wing_wire.specs.declared.state.State.{State}
use Rattle.wing_wire.proofs.Reading.Overs.{over-whole}
use Rattle.wing_wire.proofs.BothWays.Orders.{reads-as-set}
use Rattle.wing_mirror.specs.Rows.{Table, Found, found, nothing}
use Rattle.wing_mirror.specs.Entry.{Entry, entry, storable, Typed}
use Rattle.wing_mirror.specs.Record.{entry_in, full}
use Rattle.wing_mirror.specs.Table.{rows, usable, put, fits, lookup_of}
use Rattle.wing_mirror.specs.Query.{answer_of, lookup_answer, value_of, bytes_beside, read_of, record_answer, same_tables, same_answer}
use Rattle.wing_mirror.specs.Answers.{lookup_result, record_result}
use Rattle.wing_mirror.specs.Call.{text_in, too_long, not_text}
use Rattle.wing_mirror.specs.Lookups.{RecordOf}
use Rattle.wing_mirror.specs.Counts.{counts_in, total}
use Rattle.wing_mirror.specs.Mirror.{FeedEffect, fed_all, taken_feed, mirror_feed, lent_feed, SetEffect, refused_set, mirror_set}
use Rattle.wing_mirror.specs.Recall.{recall_bytes, recall_of}
use Rattle.wing_mirror.specs.History.{Equal, mirror_step}
use Rattle.wing_mirror.specs.Origins.{entries_of, Taken}
use Rattle.wing_mirror.specs.declared.answer.Counts.{Counts}
use Rattle.wing_mirror.specs.declared.answer.RecordRead.{RecordRead}
use Rattle.wing_mirror.specs.declared.origin.Origin.{Origin}
use Rattle.wing_mirror.specs.declared.origin.Origin.TheVariants.{SetOrder}
use Rattle.wing_mirror.proofs.Records.Full.{full-laws}
use Rattle.wing_mirror.proofs.Histories.Origins.{who-set-it}
use Rattle.wing_mirror.proofs.Records.Equals.{same-decides}
use Rattle.wing_mirror.proofs.Records.Lookups.{read-row, lookups}
use Rattle.wing_mirror.proofs.Calls.Outcomes.{passed, set_cases}
use Rattle.wing_mirror.proofs.Calls.Feeds.{feed-counts}
use Rattle.wing_mirror.proofs.Histories.Demand.{histories}
use Rattle.promises.specs.Refusals.{no_place}
use Rattle.promises.specs.Lines.{Line, ◌gives◌, by, sends, Answers}
use Rattle.promises.specs.TableBytes.{place_at, id_at, NoPlaceLeft}
use Rattle.promises.specs.Mirror.{mirror, value_lines, set_lines, set_value_lines, table_lines, record_lines, same_lines, said, beside, FeedCall, LentFeedCall, SetCall, RecallCall, LookupCall, RecordCall, SameCall}
use Rattle.promises.proofs.Lines.{taken, line, unless, given}
use Rattle.promises.proofs.Feeding.{feed-runs}
use Rattle.promises.proofs.Writers.{at_front, Rest, refused-rest, whole-rest, written-rest, command-writes}
use Rattle.promises.proofs.Tables.{id-there, formed as row-formed, no_place_lem}
use Rattle.wing_node.specs.declared.refusal.Refusal.TheVariants.{NoPlace, NumberOver, OutputShort, StateUnsound, StringLong, TableUnsound}
use Rattle.std.specs.Prelude.{Ok, Err}
use Rattle.wing_node.specs.declared.refusal.Refusal.{Refusal}

-- ---- feed

pub feed-call : (s : State) (t : Table) (bytes : List ℕ) →
    let x = mirror_feed full s t bytes in
    FeedCall (mirror s t) bytes x.answer (mirror x.state x.table)
unfolding mirror_feed mirror_step
feed-call s t bytes = record {
  answered = unless feeds W counts (sound_state s) StateUnsound _ _ _ refl refl
      (unless feeds W counts (usable full t) TableUnsound _ _ _ refl refl
      (unless feeds W counts (leb (length bytes) 65536) NumberOver _ _ _ refl refl (taken feeds W counts (taken_feed (fed_all full s t bytes)) refl)));
  step = refl;
  origins = (who-set-it full-laws).by_feed s t bytes;
  bounded = λ k e. subst (λ (c : Counts). total c ≤ length bytes + 1) (ap counts_in e) (unfold mirror_feed in feed-counts full s t bytes);
  runs = feed-runs s t bytes;
}
  where
    counts : Counts
    counts = (fed_all full s t bytes).memo.counts

    feeds : FeedEffect → Result Counts
    feeds x = x.answer

    W : FeedEffect → Type 0
    W x = mirror x.state x.table ≡ mirror s t

pub lent-feed-call : (s : State) (t : Table) (bytes : List ℕ) →
    let x = lent_feed full s t bytes in
    LentFeedCall (mirror s t) bytes x.answer (mirror x.state x.table)
unfolding lent_feed
lent-feed-call s t bytes = record {
  whole = λ e. rw (eq-eqb (length s.store) body_limit e) (feed-call s t bytes);
  other = λ n. rw (ne_eqb (length s.store) body_limit n) (refl, refl);
}

-- ---- set

-- what passes both tests is what a set order can hold
settable : (v : NodeValue) → Typed v → too_long v ≡ false → not_text v ≡ false → Settable v
unfolding too_long not_text
settable (integer x) h p q = h
settable (float bits) h p q = omega arith
settable (string s) h p q = (leb-true (length s) 256 (passed (leb (length s) 256) p), passed (utf8 s) q)

-- a value that no line of its own sends back passes both tests
value_passes : (v : NodeValue) → sends (value_lines v) ≡ ok tt → (too_long v ≡ false) × (not_text v ≡ false)
unfolding by too_long not_text
value_passes (integer x) h = (refl, refl)
value_passes (float bits) h = (refl, refl)
value_passes (string s) h = go (leb (length s) 256) (utf8 s) h
  where
    go : (a b : Bool) → sends ((not a gives StringLong) ∷ (not b gives string_not_utf8 s) ∷ []) ≡ ok tt → (not a ≡ false) × (not b ≡ false)
    go true true h = (refl, refl)
    go true false h = absurd (given tt (string_not_utf8 s) (sym h))
    go false b h = absurd (given tt StringLong (sym h))

module _ (t : Table) (out : List ℕ) where
  -- what a set came to, and that all is as it was
  abbrev sets : SetEffect → Result (List ℕ)
  sets x = written_result x.answer x.out

  abbrev Stays : SetEffect → Type 0
  Stays x = (x.out ≡ out) × (x.table ≡ t)

  -- the tests of a value are its lines
  value-answered : (v : NodeValue) (bytes : List ℕ) (ls : List Line) (y : SetEffect) → Answers ls bytes (sets y) (Stays y) →
      let x = if (too_long v) (refused_set StringLong t out) (if (not_text v) (refused_set (string_not_utf8 (text_in v)) t out) y) in
      Answers (value_lines v ++ ls) bytes (sets x) (Stays x)
  unfolding too_long not_text written_result
  value-answered (integer x) bytes ls y h = h
  value-answered (float bits) bytes ls y h = h
  value-answered (string s) bytes ls y h =
      line sets Stays bytes (not (leb (length s) 256)) StringLong _ _ _ refl (refl, refl)
      (line sets Stays bytes (not (utf8 s)) (string_not_utf8 s) _ _ _ refl (refl, refl) h)

module _ (id : ℤ) (v : NodeValue) (t : Table) (out : List ℕ) where
  bytes : List ℕ
  bytes = set_bytes id v

  set-answered : Answers (set_lines id v t out) bytes (sets t out (mirror_set full id v t out)) (Stays t out (mirror_set full id v t out))
  unfolding mirror_set bytes written_result
  set-answered =
      line (sets t out) (Stays t out) bytes (not (usable full t)) TableUnsound _ _ _ refl (refl, refl)
      (line (sets t out) (Stays t out) bytes (too_long v) StringLong _ _ _ refl (refl, refl)
      (line (sets t out) (Stays t out) bytes (not_text v) (string_not_utf8 (text_in v)) _ _ _ refl (refl, refl)
      (line (sets t out) (Stays t out) bytes (not (fits full (entry id v SetOrder) t)) NoPlace _ _ _ refl (refl, refl)
      (line (sets t out) (Stays t out) bytes (ltb (length out) (length bytes)) OutputShort _ _ _ refl (refl, refl) (taken (sets t out) (Stays t out) bytes (record { answer = Ok (length bytes); out = bytes ++ drop (length bytes) out; table = put full (entry id v SetOrder) t }) (ap ok (at_front bytes out)))))))

  set-by-value : Answers (set_value_lines id v t out) bytes (sets t out (mirror_set full id v t out)) (Stays t out (mirror_set full id v t out))
  unfolding mirror_set bytes written_result
  set-by-value =
      line (sets t out) (Stays t out) bytes (not (usable full t)) TableUnsound _ _ _ refl (refl, refl)
      (value-answered t out v bytes _ _
      (line (sets t out) (Stays t out) bytes (not (fits full (entry id v SetOrder) t)) NoPlace _ _ _ refl (refl, refl)
      (line (sets t out) (Stays t out) bytes (ltb (length out) (length bytes)) OutputShort _ _ _ refl (refl, refl)
      (taken (sets t out) (Stays t out) bytes (record { answer = Ok (length bytes); out = bytes ++ drop (length bytes) out; table = put full (entry id v SetOrder) t }) (ap ok (at_front bytes out))))))

  set_rest : (n : ℕ) → (mirror_set full id v t out).answer ≡ Ok n → (n ≡ length (set_bytes id v)) × (drop n (mirror_set full id v t out).out ≡ drop n out)
  unfolding bytes
  set_rest =
      set_cases full id v t out (λ x. (n : ℕ) → x.answer ≡ Ok n → (n ≡ length bytes) × (drop n x.out ≡ drop n out)) (λ k n e. absurd (let z : ◌≡◌ {A = ℕ} 0 1 = cc in omega arith))
      (λ o p q f d. whole-rest bytes out)

  whole : ltb (length out) (length bytes) ≡ false → write_effect (Ok (length bytes)) (bytes ++ drop (length bytes) out) ≡ write_of bytes out
  unfolding write_of
  whole d = rw d

  set_reads : InBits 31 id → Typed v → ReadsAsSet id v (mirror_set full id v t out).answer (mirror_set full id v t out).out
  unfolding bytes
  set_reads i h =
      set_cases full id v t out (λ x. ReadsAsSet id v x.answer x.out) (λ k. tt)
      (λ o p q f d. reads-as-set id v i (settable v h p q) out (Ok (length bytes)) (bytes ++ drop (length bytes) out) (whole d))

  -- 6 comes exactly where the value does not fit, once the lines before it are passed
  set-six : usable full t ≡ true → sends (value_lines v) ≡ ok tt → ((mirror_set full id v t out).answer ≡ Err no_place ↔ fits full (entry id v SetOrder) t ≡ false)
  unfolding mirror_set
  set-six u h = let p = value_passes v h in rw (u, p.0, p.1) (go (fits full (entry id v SetOrder) t) (ltb (length out) (length (set_bytes id v))) _ _)
    where
      go : (f l : Bool) (o : List ℕ) (w : Table) → ((if (not f) (refused_set NoPlace t out) (if l (refused_set OutputShort t out) (record { answer = Ok (length (set_bytes id v)); out = o; table = w }))).answer ≡ Err NoPlace ↔ f ≡ false)
      go false l o w = (λ _. refl, λ _. refl)
      go true true o w = (λ e. absurd (let z : ◌≡◌ {A = ℕ} 9 6 = cc in omega arith), λ e. absurd (true≢false e))
      go true false o w = (λ e. absurd (let z : ◌≡◌ {A = ℕ} 0 1 = cc in omega arith), λ e. absurd (true≢false e))

  set-unplaced : InBits 31 id → AreBytes t.buffer → usable full t ≡ true → sends (value_lines v) ≡ ok tt → ((mirror_set full id v t out).answer ≡ Err no_place ↔ NoPlaceLeft id t)
  set-unplaced i b u h =
      let s = set-six u h in
      let p = no_place_lem t id v SetOrder b i u in
      (λ e. p.0 (s.0 e), λ x. s.1 (p.1 x))

  pub set-call : InBits 31 id → Typed v → SetCall id v t out (mirror_set full id v t out).answer (mirror_set full id v t out).table (mirror_set full id v t out).out
  unfolding mirror_step bytes
  set-call i h = record {
    writes = record { answered = set-answered; rest = λ n e. (set_rest n e).1; told = λ n e. (set_rest n e).0 };
    by_value = set-by-value;
    reads = set_reads i h;
    step = λ s. refl;
    origins = λ b n e. (who-set-it full-laws).by_set t id v out n b (i, h) e;
    unplaced = set-unplaced i;
  }

-- ---- recall

pub recall-call : (t : Table) (out : List ℕ) → AreBytes t.buffer → RecallCall t out (recall_of full t out).answer (recall_of full t out).out
unfolding recall_of written_result
recall-call t out b = record {
  writes = record {
    answered = unless came W (recall_bytes full t) (usable full t) TableUnsound _ _ _ refl (refl, tt) (command-writes (recall_bytes full t) out).answered;
    rest = λ n e. (went n e).1;
    told = λ n e. (went n e).0;
  };
  rebuilds = unfold recall_of in (histories full-laws).tables t b out;
  order = unfold recall_bytes in refl;
}
  where
    came : WriteEffect → Result (List ℕ)
    came x = written_result x.answer x.out

    went : Rest (recall_bytes full t) out (recall_of full t out)
    went = branch (Rest (recall_bytes full t) out) (usable full t) _ _ (λ _. written-rest (recall_bytes full t) out) (λ _. refused-rest TableUnsound (recall_bytes full t) out out)

    W : WriteEffect → Type 0
    W x = (x.out ≡ out) × Unit {0}

-- ---- queries

-- a record read that is sent back
record-7 : (t : Table) (number : ℕ) → usable full t ≡ false → record_answer full t number ≡ Err TableUnsound
unfolding record_answer
record-7 t number p = rw p

record-14 : (t : Table) (number : ℕ) → usable full t ≡ true → ltb number t.count ≡ false → record_answer full t number ≡ Err NumberOver
unfolding record_answer
record-14 t number p q = rw (p, q)

refused-record-result : (t : Table) (number : ℕ) (why : Refusal) → record_answer full t number ≡ Err why → record_result (record_answer full t number) ≡ refused why
unfolding record_result
refused-record-result t number why e = rw e

-- two usable tables are compared
same_asked : (t u : Table) → usable full t ≡ true → usable full u ≡ true → same_answer full t u ≡ ok (same_tables full t u)
unfolding same_answer
same_asked t u p q = rw (p, q)

-- ---- what the queries come to

lookup-result : (t : Table) (id : ℤ) → lookup_result (lookup_answer full t id) ≡ by (table_lines t) (lookup_of full id t)
unfolding lookup_answer answer_of lookup_result by
lookup-result t id = go (usable full t) (lookup_of full id t)
  where
    go : (a : Bool) (f : Found ℕ) → lookup_result (if a (answer_of f) (Err TableUnsound)) ≡ by ((not a gives TableUnsound) ∷ []) f
    go true (found k) = refl
    go true nothing = refl
    go false f = refl

record-result : (t : Table) (number : ℕ) → AreBytes t.buffer → record_result (record_answer full t number) ≡ by (record_lines t number) (entry_in (get_or (rows full t) number []))
unfolding by
record-result t number b = go (usable full t) refl (ltb number t.count) refl
  where
    e : Entry
    e = entry_in (get_or (rows full t) number [])

    go : (u : Bool) → usable full t ≡ u → (l : Bool) → ltb number t.count ≡ l → record_result (record_answer full t number) ≡ by ((not u gives TableUnsound) ∷ (not l gives NumberOver) ∷ []) e
    go true p true q = read-row full-laws t b p number (ltb-true number t.count q)
    go true p false q = refused-record-result t number NumberOver (record-14 t number p q)
    go false p l q = refused-record-result t number TableUnsound (record-7 t number p)

-- zeros after some of them
fewer-zeros : (k m : ℕ) → ◌≡◌ {A = List ℕ} (drop k (replicate m 0)) (replicate (m - k) 0)
fewer-zeros zero m = let e : m - 0 ≡ m = omega arith in rw e
fewer-zeros (suc k) zero = let e : zero - suc k ≡ 0 = omega arith in rw e
fewer-zeros (suc k) (suc m) = rw (suc-sub-suc m k) (fewer-zeros k m)

-- the reply of an entry, where its value may stand in a table
read_whole : (id : ℤ) (v : NodeValue) (o : Origin) → storable v ≡ true → ◌≡◌ {A = RecordRead} (read_of (entry id v o)) (record { id = id; value = said v; origin = o; string = beside v })
unfolding read_of value_of bytes_beside storable
read_whole id (integer x) o h = refl
read_whole id (float bits) o h = refl
read_whole id (string s) o h =
    let l : length s ≤ 256 = leb-true (length s) 256 (if-both (leb (length s) 256) (utf8 s) h).0 in
    ap (λ (x : List ℕ). record { id = id; value = String (length s); origin = o; string = x })
    (over-whole s (replicate 256 0) (omega (arith, length-replicate {A = ℕ} 256 0)) ∙ ap (λ (x : List ℕ). s ++ x) (fewer-zeros (length s) 256))

record-whole : (t : Table) (number : ℕ) → AreBytes t.buffer → (e : Entry) → record_result (record_answer full t number) ≡ ok e →
    record_answer full t number ≡ ok (record { id = e.id; value = said e.value; origin = e.origin; string = beside e.value })
unfolding record_answer
record-whole t number b e = go (usable full t) refl (ltb number t.count) refl
  where
    go : (u : Bool) → usable full t ≡ u → (l : Bool) → ltb number t.count ≡ l → record_result (record_answer full t number) ≡ ok e →
        ◌≡◌ {A = Result RecordRead} (if u (if l (ok (read_of (entry_in (get_or (rows full t) number [])))) (Err NumberOver)) (Err TableUnsound)) (ok (record { id = e.id; value = said e.value; origin = e.origin; string = beside e.value }))
    go true p true q h =
        let l = ltb-true number t.count q in
        let same : ◌≡◌ {A = Result Entry} (ok (entry_in (get_or (rows full t) number []))) (ok e) = sym (read-row full-laws t b p number l) ∙ h in
        let w : ◌≡◌ {A = Entry} (entry_in (get_or (rows full t) number [])) e = cc in
        rw (← w) (ap ok (read_whole (entry_in (get_or (rows full t) number [])).id (entry_in (get_or (rows full t) number [])).value (entry_in (get_or (rows full t) number [])).origin (full-laws.valid (get_or (rows full t) number []) (row-formed t b p number l)).text))
    go true p false q h = absurd (given e NumberOver (sym h ∙ refused-record-result t number NumberOver (record-14 t number p q)))
    go false p l q h = absurd (given e TableUnsound (sym h ∙ refused-record-result t number TableUnsound (record-7 t number p)))

same-result : (t u : Table) → same_answer full t u ≡ by (same_lines t u) (same_tables full t u)
unfolding same_answer by
same-result t u = go (usable full t) (usable full u) (same_tables full t u)
  where
    go : (a b c : Bool) → if {A = Result Bool} a (if b (Ok c) (Err TableUnsound)) (Err TableUnsound) ≡ by ((not a gives TableUnsound) ∷ (not b gives TableUnsound) ∷ []) c
    go true true c = refl
    go true false c = refl
    go false b c = refl

same-equal : (t u : Table) → usable full t ≡ true → usable full u ≡ true → (same_answer full t u ≡ ok true ↔ Equal full t u)
same-equal t u p q = (λ e. let d = (same-decides full t u).right (said e) in record { counts = d.0; records = d.1 }, λ x. answered ∙ ap ok ((same-decides full t u).whole (x.counts, x.records)))
  where
    answered : same_answer full t u ≡ ok (same_tables full t u)
    answered = same_asked t u p q

    said : same_answer full t u ≡ ok true → same_tables full t u ≡ true
    said e = let w : ◌≡◌ {A = Result Bool} (ok (same_tables full t u)) (ok true) = sym answered ∙ e in cc

same_entries : (t u : Table) → Taken full t → Taken full u → (same_answer full t u ≡ ok true ↔ entries_of full t ≡ entries_of full u)
same_entries t u a b = (λ e. ap (map entry_in) ((same-equal t u a.1 b.1).0 e).records, λ q. ((who-set-it full-laws).compared t u a b).1 q)

-- a record that is there and has this id, by the table's bytes
module _ (t : Table) (b : AreBytes t.buffer) (u : usable full t ≡ true) (id : ℤ) (n : ℕ) where
  said-id : RecordOf full t n id → (n < t.count) × (id_at (place_at n t.buffer) ≡ id)
  said-id r = go (ltb n t.count) refl
    where
      go : (x : Bool) → ltb n t.count ≡ x → (n < t.count) × (id_at (place_at n t.buffer) ≡ id)
      go true q =
          let l = ltb-true n t.count q in
          let same : ◌≡◌ {A = Result Entry} (ok (entry_in (get_or (rows full t) n []))) (ok (entry id r.value r.origin)) = sym (read-row full-laws t b u n l) ∙ r.read in
          let w : ◌≡◌ {A = Entry} (entry_in (get_or (rows full t) n [])) (entry id r.value r.origin) = cc in
          (l, sym (id-there t n l) ∙ ap (λ (x : Entry). x.id) w)
      go false q = absurd (given (entry id r.value r.origin) NumberOver (sym r.read ∙ refused-record-result t n NumberOver (record-14 t n u q)))

  id-said : (n < t.count) × (id_at (place_at n t.buffer) ≡ id) → RecordOf full t n id
  id-said x =
      let e = entry_in (get_or (rows full t) n []) in
      record { value = e.value; origin = e.origin; read = read-row full-laws t b u n x.0 ∙ ap (λ (j : ℤ). ok (entry j e.value e.origin)) (id-there t n x.0 ∙ x.1) }

pub lookup-call : (t : Table) (id : ℤ) → AreBytes t.buffer → InBits 31 id → LookupCall t id (lookup_answer full t id)
lookup-call t id b i = record {
  result = lookup-result t id;
  at = λ number. (lookups full-laws).at t id number b i;
  nowhere = λ u. (lookups full-laws).none t id b i u;
  there = λ u n. let at = (lookups full-laws).at t id n b i in (λ e. said-id t b u id n (at.0 e), λ x. at.1 (id-said t b u id n x));
}

pub record-call : (t : Table) (number : ℕ) → AreBytes t.buffer → RecordCall t number (record_answer full t number)
record-call t number b = record { result = record-result t number b; whole = record-whole t number b }

pub same-call : (t u : Table) → SameCall t u (same_answer full t u)
same-call t u = record { result = same-result t u; equal = same-equal t u; entries = same_entries t u }

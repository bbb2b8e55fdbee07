-- What a feed and a set through the mirror give, case by case.
use Prim.Native.Nat.{ℕ, ◌≤◌}
use mathlib.Core.Bool.{Bool, true, false, not}
use mathlib.Core.Path.{◌≡◌, refl, sym}
use mathlib.Core.List.{List, ◌++◌}
use borrow.Author.Tests.{le-leb}
use lib.Dec.{ltb, leb}
use lib.IntN.{ℤ}
use lib.ListN.{length, drop}
use Rattle.wing_node.specs.declared.refusal.Refusal.{Refusal}
use Rattle.wing_node.specs.Refusal.{string_not_utf8}
use Rattle.wing_node.specs.Bool.{if}
use Rattle.wing_node.specs.Utf8.{utf8}
use Rattle.wing_node.specs.Value.{NodeValue, integer, float, string}
use Rattle.wing_node.proofs.Branches.{branch}
use Rattle.wing_wire.specs.State.{sound_state}
use Rattle.wing_wire.specs.Command.{set_bytes}
use Rattle.wing_wire.specs.declared.state.State.{State}
use Rattle.wing_mirror.specs.Rows.{Table}
use Rattle.wing_mirror.specs.Entry.{entry, storable}
use Rattle.wing_mirror.specs.Layout.{kept, Layout}
use Rattle.wing_mirror.specs.Table.{usable, put, fits}
use Rattle.wing_mirror.specs.Call.{text_in, too_long, not_text}
use Rattle.wing_mirror.specs.Counts.{zero_counts}
use Rattle.wing_mirror.specs.Mirror.{table_tally, keep_event, fed_all, taken_feed, mirror_feed, SetEffect, refused_set, mirror_set}
use Rattle.wing_mirror.specs.Machine.{decode_all, events}
use Rattle.wing_mirror.specs.declared.origin.Origin.TheVariants.{SetOrder}
use Rattle.wing_mirror.proofs.Records.Choices.{keeping-cases}
use Rattle.wing_mirror.proofs.Histories.Along.{fold_events, feed-events}
use Rattle.wing_node.specs.declared.refusal.Refusal.TheVariants.{NoPlace, OutputShort, StringLong, TableUnsound}
use Rattle.std.specs.Prelude.{Ok}

module _ (L : Layout) (s : State) (t : Table) (bytes : List ℕ) where
  -- a feed that is not refused keeps every answer
  pub feed-taken : sound_state s ≡ true → usable L t ≡ true → length bytes ≤ 65536 → mirror_feed L s t bytes ≡ taken_feed (fed_all L s t bytes)
  unfolding mirror_feed
  feed-taken g u l = rw (g, u, le-leb (length bytes) 65536 l)

  -- the mirror keeps what the machine reads
  pub fed-events : fed_all L s t bytes ≡ record { control = (decode_all s bytes).control; store = (decode_all s bytes).store; memo = fold_events (keep_event L) (events s bytes) (table_tally t zero_counts) }
  unfolding fed_all
  fed-events = feed-events (keep_event L) s (table_tally t zero_counts) bytes

-- what passes both tests may be kept
pub text-storable : (v : NodeValue) → too_long v ≡ false → not_text v ≡ false → storable v ≡ true
unfolding too_long not_text storable
text-storable (integer x) p q = refl
text-storable (float bits) p q = refl
text-storable (string s) p q = go (leb (length s) 256) (utf8 s) p q
  where
    go : (a b : Bool) → not a ≡ false → not b ≡ false → if a b false ≡ true
    go true true p q = refl
    go true false p q = sym q
    go false b p q = sym p

-- a test whose negation failed
pub passed : (a : Bool) → not a ≡ false → a ≡ true
passed true e = refl
passed false e = sym e

module _ (L : Layout) (id : ℤ) (v : NodeValue) (t : Table) (out : List ℕ) where
  open L use {keeping}

  -- what holds after every refusal, and after a set that is taken
  pub set_cases : (P : SetEffect → Type 0) → ((why : Refusal) → P (refused_set why t out)) →
      (keeping v ≡ kept → too_long v ≡ false → not_text v ≡ false → not (fits L (entry id v SetOrder) t) ≡ false → ltb (length out) (length (set_bytes id v)) ≡ false →
      P (record { answer = Ok (length (set_bytes id v)); out = set_bytes id v ++ drop (length (set_bytes id v)) out; table = put L (entry id v SetOrder) t })) →
      P (mirror_set L id v t out)
  unfolding mirror_set
  set_cases P r w =
      branch P (not (usable L t)) _ _ (λ _. r TableUnsound)
      (λ _. keeping-cases P (keeping v) _ _ (λ mark why. r why)
      (λ k. branch P (too_long v) _ _ (λ _. r StringLong)
      (λ a. branch P (not_text v) _ _ (λ _. r (string_not_utf8 (text_in v)))
      (λ b. branch P (not (fits L (entry id v SetOrder) t)) _ _ (λ _. r NoPlace)
      (λ c. branch P (ltb (length out) (length (set_bytes id v))) _ _ (λ _. r OutputShort) (w k a b c))))))

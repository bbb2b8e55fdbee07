-- The invariant of the plain machine: its decoder is sound and in range, its map valid.
use Prim.Native.Nat.{ℕ}
use mathlib.Core.Bool.{false, not}
use mathlib.Core.Path.{◌≡◌}
use mathlib.Core.List.{List, [], ◌∷◌}
use lib.Dec.{ltb}
use lib.IntN.{ℤ}
use lib.ListN.{length}
use Rattle.wing_node.specs.Signed.{InBits}
use Rattle.wing_node.specs.Value.{NodeValue}
use Rattle.wing_node.proofs.Branches.{branch}
use Rattle.wing_wire.specs.Range.{AreBytes}
use Rattle.wing_wire.specs.Command.{set_bytes}
use Rattle.wing_mirror.specs.Rows.{All}
use Rattle.wing_mirror.specs.Entry.{entry, Typed}
use Rattle.wing_mirror.specs.Layout.{kept, Layout, ValidEntry}
use Rattle.wing_mirror.specs.Table.{places_allowed}
use Rattle.wing_mirror.specs.Counts.{zero_counts}
use Rattle.wing_mirror.specs.Call.{Call, feed, set, too_long, not_text, Step, run_all, TypedCall}
use Rattle.wing_mirror.specs.Machine.{Machine, new_machine, map_tally, room, events, machine_step}
use Rattle.wing_mirror.specs.declared.origin.Origin.TheVariants.{SetOrder}
use Rattle.wing_mirror.proofs.Records.Choices.{keeping-cases}
use Rattle.wing_mirror.proofs.Histories.Maps.{ValidMap, valid-empty, valid-put}
use Rattle.wing_mirror.proofs.Histories.Decodes.{ValidState, fresh-valid, after-valid, events-valid}
use Rattle.wing_mirror.proofs.Histories.Events.{machine-events-valid}
use Rattle.wing_mirror.proofs.Calls.Outcomes.{passed, text-storable}

-- a machine whose decoder and map are valid
pub record Invariant (L : Layout) (places : ℕ) (s : Machine) : Type 0 where
  pub decoder : ValidState s.decoder
  pub map : ValidMap L places s.map

-- an entry that set lets through may be kept
pub set-valid : {L : Layout} (id : ℤ) (v : NodeValue) → InBits 31 id → Typed v → L.keeping v ≡ kept → too_long v ≡ false → not_text v ≡ false → ValidEntry L (entry id v SetOrder)
set-valid id v i t k a b = record { node = i; typed = t; text = text-storable v a b; is_kept = k }

module _ (L : Layout) (places : ℕ) where
  open L use {keeping}

  -- a step leaves it
  abbrev P : Step Machine → Type 0
  P x = Invariant L places x.state

  -- the new machine has it
  pub invariant-new : Invariant L places new_machine
  invariant-new = record { decoder = fresh-valid; map = valid-empty places }

  -- after a feed
  invariant-feed : (s : Machine) (bytes : List ℕ) → AreBytes bytes → Invariant L places s → Invariant L places (machine_step keeping places s (feed bytes)).state
  unfolding machine_step
  invariant-feed s bytes t w =
      branch P (not (places_allowed places)) _ _ (λ _. w)
      (λ _. branch P (ltb 65536 (length bytes)) _ _ (λ _. w)
      (λ _. record {
        decoder = after-valid s.decoder bytes t w.decoder;
        map = machine-events-valid L places (events s.decoder bytes) (map_tally s.map zero_counts) (events-valid s.decoder bytes t w.decoder L) w.map;
      }))

  -- after a set
  invariant-set : (s : Machine) (id : ℤ) (v : NodeValue) (out : List ℕ) → TypedCall (set id v out) → Invariant L places s → Invariant L places (machine_step keeping places s (set id v out)).state
  unfolding machine_step
  invariant-set s id v out t w =
      branch P (not (places_allowed places)) _ _ (λ _. w)
      (λ _. keeping-cases P (keeping v) _ _ (λ mark why. w)
      (λ k. branch P (too_long v) _ _ (λ _. w)
      (λ a. branch P (not_text v) _ _ (λ _. w)
      (λ b. branch P (not (room places id s.map)) _ _ (λ _. w)
      (λ c. branch P (ltb (length out) (length (set_bytes id v))) _ _ (λ _. w)
      (λ _. record { decoder = w.decoder; map = valid-put places (entry id v SetOrder) s.map w.map (set-valid id v t.0 t.1 k a b) (passed (room places id s.map) c) }))))))

  -- a call keeps it
  pub invariant-step : (s : Machine) (c : Call) → TypedCall c → Invariant L places s → Invariant L places (machine_step keeping places s c).state
  invariant-step s (feed bytes) t w = invariant-feed s bytes t w
  invariant-step s (set id v out) t w = invariant-set s id v out t w

  -- so does every history
  pub invariant-run : (s : Machine) (cs : List Call) → All TypedCall cs → Invariant L places s → Invariant L places (run_all (machine_step keeping places) s cs).state
  unfolding run_all
  invariant-run s [] t w = w
  invariant-run s (c ∷ cs) t w = invariant-run (machine_step keeping places s c).state cs t.1 (invariant-step s c t.0 w)

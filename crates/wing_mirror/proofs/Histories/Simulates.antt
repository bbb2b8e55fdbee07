-- The mirror is an image of the plain machine: each call on the image is the image of the call.
use Prim.Native.Nat.{ℕ}
use mathlib.Core.Bool.{Bool, true, false}
use mathlib.Core.Path.{◌≡◌, refl, sym, ◌∙◌, ap}
use mathlib.Core.List.{List, [], ◌∷◌}
use borrow.Author.Tests.{le-leb, lt-leb, ltb-true, ltb-false}
use lib.Dec.{ltb}
use lib.IntN.{ℤ}
use lib.ListN.{length, drop}
use lib.Seq.{take_at}
use Rattle.wing_node.specs.Value.{NodeValue}
use Rattle.wing_wire.specs.State.{fresh_state, sound_state}
use Rattle.wing_wire.specs.Range.{AreBytes}
use Rattle.wing_wire.specs.Command.{set_bytes}
use Rattle.wing_mirror.specs.Rows.{Table, All}
use Rattle.wing_mirror.specs.Entry.{entry}
use Rattle.wing_mirror.specs.Layout.{Keeping, kept, unkept, Layout, ValidEntry, Lawful}
use Rattle.wing_mirror.specs.Table.{places_allowed, usable, fits}
use Rattle.wing_mirror.specs.Counts.{zero_counts}
use Rattle.wing_mirror.specs.Call.{Call, feed, set, too_long, not_text, Step, History, run_all, TypedCall}
use Rattle.wing_mirror.specs.Mirror.{table_tally, keep_event, mirror_feed, mirror_set}
use Rattle.wing_mirror.specs.Machine.{Machine, new_machine, map_tally, room, events, machine_feed, machine_step}
use Rattle.wing_mirror.specs.History.{Mirror, new_mirror, mirror_step, places_in, in_order}
use Rattle.wing_mirror.specs.declared.origin.Origin.TheVariants.{SetOrder}
use Rattle.wing_mirror.proofs.Tables.Chunks.{laid_nil}
use Rattle.wing_mirror.proofs.Histories.Along.{fold_events}
use Rattle.wing_mirror.proofs.Histories.Mirrored.{table_of, usable-image, fits-image, put-image}
use Rattle.wing_mirror.proofs.Histories.Decodes.{events-valid}
use Rattle.wing_mirror.proofs.Histories.Events.{table_tally_of, keep-all-image}
use Rattle.wing_mirror.proofs.Calls.Outcomes.{fed-events}
use Rattle.wing_mirror.proofs.Histories.Invariant.{Invariant, invariant-new, set-valid, invariant-step}

module _ (L : Layout) (buffer : List ℕ) where
  -- the mirror that a machine makes of the buffer
  abbrev pub mirror_of : Machine → Mirror
  mirror_of s = record { decoder = s.decoder; table = table_of L buffer s.map }

  -- the image of a step
  abbrev image_step : Step Machine → Step Mirror
  image_step r = record { state = mirror_of r.state; outcome = r.outcome }

  -- the image of a history
  abbrev pub image_run : History Machine → History Mirror
  image_run r = record { state = mirror_of r.state; outcomes = r.outcomes }

module _ {L : Layout} (laws : Lawful L) (buffer : List ℕ) where
  open L use {width, keeping}

  -- a feed
  feed-image : (s : Machine) (bytes : List ℕ) → AreBytes bytes → Invariant L (places_in L buffer) s →
      mirror_step L (mirror_of L buffer s) (feed bytes) ≡ image_step L buffer (machine_step keeping (places_in L buffer) s (feed bytes))
  unfolding mirror_step machine_step mirror_feed
  feed-image s bytes t w = go (places_allowed (places_in L buffer)) refl (ltb 65536 (length bytes)) refl
    where
      T : Table
      T = table_of L buffer s.map

      g : sound_state s.decoder ≡ true
      g = w.decoder.sound

      u : usable L T ≡ places_allowed (places_in L buffer)
      u = usable-image laws buffer s.map w.map

      events-counted : fold_events (keep_event L) (events s.decoder bytes) (table_tally T zero_counts) ≡ table_tally_of L buffer (machine_feed keeping (places_in L buffer) s bytes)
      events-counted = keep-all-image laws buffer (events s.decoder bytes) (map_tally s.map zero_counts) (events-valid s.decoder bytes t w.decoder L) w.map

      go : (a : Bool) → places_allowed (places_in L buffer) ≡ a → (b : Bool) → ltb 65536 (length bytes) ≡ b →
          mirror_step L (mirror_of L buffer s) (feed bytes) ≡ image_step L buffer (machine_step keeping (places_in L buffer) s (feed bytes))
      go false p b q = rw (g, u, p)
      go true p true q = rw (g, u, p, q, lt-leb (length bytes) 65536 (ltb-true 65536 (length bytes) q))
      go true p false q = rw (g, u, p, q, le-leb (length bytes) 65536 (ltb-false 65536 (length bytes) q), fed-events L s.decoder T bytes, events-counted)

  -- a set
  set-image : (s : Machine) (id : ℤ) (v : NodeValue) (out : List ℕ) → TypedCall (set id v out) → Invariant L (places_in L buffer) s →
      mirror_step L (mirror_of L buffer s) (set id v out) ≡ image_step L buffer (machine_step keeping (places_in L buffer) s (set id v out))
  unfolding mirror_step machine_step mirror_set
  set-image s id v out t w =
      go (places_allowed (places_in L buffer)) refl (keeping v) refl (too_long v) refl (not_text v) refl (room (places_in L buffer) id s.map) refl (ltb (length out) (length (set_bytes id v))) refl
    where
      T : Table
      T = table_of L buffer s.map

      u : usable L T ≡ places_allowed (places_in L buffer)
      u = usable-image laws buffer s.map w.map

      go : (a : Bool) → places_allowed (places_in L buffer) ≡ a → (k : Keeping) → keeping v ≡ k → (b : Bool) → too_long v ≡ b → (c : Bool) → not_text v ≡ c →
          (d : Bool) → room (places_in L buffer) id s.map ≡ d → (l : Bool) → ltb (length out) (length (set_bytes id v)) ≡ l →
          mirror_step L (mirror_of L buffer s) (set id v out) ≡ image_step L buffer (machine_step keeping (places_in L buffer) s (set id v out))
      go false p k o b q c r d e l f = rw (u, p)
      go true p (unkept mark why) o b q c r d e l f = rw (u, p, o)
      go true p kept o true q c r d e l f = rw (u, p, o, q)
      go true p kept o false q true r d e l f = rw (u, p, o, q, r)
      go true p kept o false q false r d e l f = last d e l f
        where
          valid : ValidEntry L (entry id v SetOrder)
          valid = set-valid id v t.0 t.1 o q r

          i : fits L (entry id v SetOrder) T ≡ room (places_in L buffer) id s.map
          i = fits-image laws buffer s.map w.map (entry id v SetOrder) valid

          last : (d : Bool) → room (places_in L buffer) id s.map ≡ d → (l : Bool) → ltb (length out) (length (set_bytes id v)) ≡ l →
              mirror_step L (mirror_of L buffer s) (set id v out) ≡ image_step L buffer (machine_step keeping (places_in L buffer) s (set id v out))
          last false e l f = rw (u, p, o, q, r, i, e)
          last true e true f = rw (u, p, o, q, r, i, e, f)
          last true e false f =
              rw (u, p, o, q, r, i, e, f, take_at (set_bytes id v) (drop (length (set_bytes id v)) out) (length (set_bytes id v)) refl, put-image laws buffer s.map w.map (entry id v SetOrder) valid)

  -- any call
  pub step-image : (s : Machine) (c : Call) → TypedCall c → Invariant L (places_in L buffer) s → mirror_step L (mirror_of L buffer s) c ≡ image_step L buffer (machine_step keeping (places_in L buffer) s c)
  step-image s (feed bytes) t w = feed-image s bytes t w
  step-image s (set id v out) t w = set-image s id v out t w

  -- any list of calls
  pub run-image : (s : Machine) (cs : List Call) → All TypedCall cs → Invariant L (places_in L buffer) s →
      run_all (mirror_step L) (mirror_of L buffer s) cs ≡ image_run L buffer (run_all (machine_step keeping (places_in L buffer)) s cs)
  unfolding run_all
  run-image s [] t w = refl
  run-image s (c ∷ cs) t w =
      ap (λ (x : Step Mirror). record { state = (run_all (mirror_step L) x.state cs).state; outcomes = x.outcome ∷ (run_all (mirror_step L) x.state cs).outcomes }) (step-image s c t.0 w)
      ∙ ap (λ (x : History Mirror). record { state = x.state; outcomes = (machine_step keeping (places_in L buffer) s c).outcome ∷ x.outcomes })
      (run-image (machine_step keeping (places_in L buffer) s c).state cs t.1 (invariant-step L (places_in L buffer) s c t.0 w))

  -- a fresh mirror is the image of the new machine
  start-image : mirror_of L buffer new_machine ≡ new_mirror buffer
  unfolding in_order
  start-image = ap (λ (b : List ℕ). record { decoder = fresh_state; table = record { buffer = b; count = 0 } }) (laid_nil width buffer)

  -- the mirror's whole state is given by the machine's and the first bytes of the buffer
  pub whole-image : (cs : List Call) → All TypedCall cs → run_all (mirror_step L) (new_mirror buffer) cs ≡ image_run L buffer (run_all (machine_step keeping (places_in L buffer)) new_machine cs)
  whole-image cs t = ap (λ (x : Mirror). run_all (mirror_step L) x cs) (sym start-image) ∙ run-image new_machine cs t (invariant-new L (places_in L buffer))

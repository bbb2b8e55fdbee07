-- Demand 3: a mirror and the plain machine agree after any history, in order and in what their equality means.
use Prim.Native.Nat.{ℕ}
use mathlib.Core.Path.{◌≡◌, refl, sym, ◌∙◌, ap, subst}
use mathlib.Core.List.{List, map}
use lib.ListN.{length}
use Rattle.wing_node.specs.Signed.{InBits}
use Rattle.wing_mirror.specs.Rows.{In, All}
use Rattle.wing_mirror.specs.Entry.{Entry}
use Rattle.wing_mirror.specs.Layout.{Layout, ValidEntry, Lawful}
use Rattle.wing_mirror.specs.Call.{Call, History, TypedCall}
use Rattle.wing_mirror.specs.Machine.{Machine, new_machine}
use Rattle.wing_mirror.specs.History.{rank, in_order, mirror_run, machine_run, places_in, Agree, Agreement, RisingOrder, Equal, Equality, SameMap}
use Rattle.wing_mirror.proofs.Tables.Members.{one_list}
use Rattle.wing_mirror.proofs.Histories.Maps.{ValidMap, all-order, order-rising}
use Rattle.wing_mirror.proofs.Tables.Images.{all-also}
use Rattle.wing_mirror.proofs.Records.Ids.{rising-ids}
use Rattle.wing_mirror.proofs.Histories.Mirrored.{rows-image, recs-back, rest-image, size-image}
use Rattle.wing_mirror.proofs.Histories.InOrder.{order-in, in_order_lem}
use Rattle.wing_mirror.proofs.Histories.Invariant.{invariant-new, invariant-run}
use Rattle.wing_mirror.proofs.Histories.Simulates.{image_run, whole-image}

-- the map that a history leaves is valid
pub map-valid : (L : Layout) (places : ℕ) (calls : List Call) → All TypedCall calls → ValidMap L places (machine_run L places calls).state.map
map-valid L places calls t = (invariant-run L places new_machine calls t (invariant-new L places)).map

module _ {L : Layout} (laws : Lawful L) where
  open L use {record_of, entry_in}

  -- a machine's history agrees with its image
  pub image-agrees : (buffer : List ℕ) (y : History Machine) → ValidMap L (places_in L buffer) y.state.map → Agree L buffer (image_run L buffer y) y
  image-agrees buffer y g =
      let m : List Entry = y.state.map in
      record {
        outcomes = refl;
        decoders = refl;
        counts = refl;
        records = rows-image laws buffer m g;
        entries = ap (map entry_in) (rows-image laws buffer m g) ∙ recs-back laws (places_in L buffer) m g;
        rest = rest-image laws buffer m g;
        size = size-image laws buffer m g;
      }

  -- the mirror and the machine agree
  pub run-agrees : Agreement L
  run-agrees buffer calls t = rw (whole-image laws buffer calls t) (image-agrees buffer (machine_run L (places_in L buffer) calls) (map-valid L (places_in L buffer) calls t))

  -- in rising id order, exactly the entries of the map
  pub run-order : RisingOrder L
  run-order places calls t =
      let m : List Entry = (machine_run L places calls).state.map in
      let f : ValidMap L places m = map-valid L places calls t in
      let typed : All (λ (e : Entry). InBits 31 e.id) (in_order m) =
      all-also (ValidEntry L) (λ (e : Entry). InBits 31 e.id) (in_order m) (λ e p. p.node) (all-order (ValidEntry L) m f.valid) in
      (sym (rising-ids (in_order m) typed) ∙ order-rising m, λ e. (order-in e m, in_order_lem e m f.apart))

  -- two mirrors are equal exactly if their machines' maps hold the same
  pub run-equal : Equality L
  run-equal b c xs ys tx ty = (there, back)
    where
      m : List Entry
      m = (machine_run L (places_in L b) xs).state.map

      n : List Entry
      n = (machine_run L (places_in L c) ys).state.map

      fm : ValidMap L (places_in L b) m
      fm = map-valid L (places_in L b) xs tx

      fn : ValidMap L (places_in L c) n
      fn = map-valid L (places_in L c) ys ty

      there : Equal L (mirror_run L b xs).state.table (mirror_run L c ys).state.table → SameMap m n
      there q e = (
        λ i. order-in e n (subst (λ (l : List Entry). In e l) p (in_order_lem e m fm.apart i)),
        λ i. order-in e m (subst (λ (l : List Entry). In e l) (sym p) (in_order_lem e n fn.apart i)),
      )
        where
          p : in_order m ≡ in_order n
          p = sym (run-agrees b xs tx).entries ∙ ap (map entry_in) q.records ∙ (run-agrees c ys ty).entries

      back : SameMap m n → Equal L (mirror_run L b xs).state.table (mirror_run L c ys).state.table
      back q = record {
        counts = (run-agrees b xs tx).counts ∙ sym fm.apart ∙ ap length p ∙ fn.apart ∙ sym (run-agrees c ys ty).counts;
        records = (run-agrees b xs tx).records ∙ ap (map record_of) p ∙ sym (run-agrees c ys ty).records;
      }
        where
          p : in_order m ≡ in_order n
          p = one_list rank (in_order m) (in_order n) (order-rising m) (order-rising n)
              (λ e i. in_order_lem e n fn.apart ((q e).0 (order-in e m i))) (λ e i. in_order_lem e m fm.apart ((q e).1 (order-in e n i)))

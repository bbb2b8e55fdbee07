-- Demand 3: what a mirror answers after any history when it is compared or recalled.
use Prim.Native.Nat.{ℕ}
use mathlib.Core.Bool.{Bool, true, false}
use mathlib.Core.Path.{◌≡◌, refl, ◌∙◌, ap}
use mathlib.Core.Logic.{◌↔◌}
use mathlib.Core.List.{List}
use native.Mathlib.Omega.{arith}
use Rattle.wing_mirror.specs.Rows.{Table, All}
use Rattle.wing_mirror.specs.Entry.{Entry}
use Rattle.wing_mirror.specs.Layout.{Layout, Lawful}
use Rattle.wing_mirror.specs.Table.{places_allowed, usable}
use Rattle.wing_mirror.specs.Query.{same_tables, same_answer}
use Rattle.wing_mirror.specs.Recall.{recall_of}
use Rattle.wing_mirror.specs.Call.{Call, TypedCall}
use Rattle.wing_mirror.specs.History.{mirror_run, machine_run, places_in, Equal, Comparing, Recalling}
use Rattle.wing_mirror.proofs.Records.Equals.{same-decides}
use Rattle.wing_mirror.proofs.Histories.Mirrored.{usable-image}
use Rattle.wing_mirror.proofs.Histories.Simulates.{whole-image}
use Rattle.wing_mirror.proofs.Histories.Agrees.{map-valid, run-equal}
use Rattle.wing_node.specs.Result.{Result}
use Rattle.std.specs.Prelude.{Bool, Ok, Err}

module _ {L : Layout} (laws : Lawful L) where
  -- a mirror with 1 to 1,024 places is usable after any history
  run-usable : (b : List ℕ) (calls : List Call) → All TypedCall calls → places_allowed (places_in L b) ≡ true → usable L (mirror_run L b calls).state.table ≡ true
  run-usable b calls t r =
      let m : List Entry = (machine_run L (places_in L b) calls).state.map in
      rw (whole-image laws b calls t) (usable-image laws b m (map-valid L (places_in L b) calls t) ∙ r)

  abbrev same_number : Result Bool → ℕ
  same_number (Ok true) = 0
  same_number (Ok false) = 1
  same_number (Err n) = 2

  -- the call says yes exactly if count and records are equal
  pub says_same : (t u : Table) → usable L t ≡ true → usable L u ≡ true → ((same_answer L t u ≡ (Ok true)) ↔ Equal L t u)
  unfolding same_answer
  says_same t u p q = rw (p, q) (λ e. from-answer (same_tables L t u) refl e, λ e. rw ((same-decides L t u).whole (e.counts, e.records)))
    where
      from-answer : (s : Bool) → same_tables L t u ≡ s → ◌≡◌ {A = Result Bool} (Ok s) (Ok true) → Equal L t u
      from-answer true e h = let d = (same-decides L t u).right e in record { counts = d.0; records = d.1 }
      from-answer false e h = absurd (let z = ap same_number h in omega arith)

  pub comparing : Comparing L
  comparing b c xs ys tx ty p q =
      let s = says_same (mirror_run L b xs).state.table (mirror_run L c ys).state.table (run-usable b xs tx p) (run-usable c ys ty q) in
      let e = run-equal laws b c xs ys tx ty in
      (λ y. e.0 (s.0 y), λ m. s.1 (e.1 m))

  pub recalling : Recalling L
  unfolding recall_of
  recalling b calls t r out = rw (run-usable b calls t r)

-- Origins of any tables: which byte they are, that tables compare with them, and what is left where they are set aside.
use Prim.Native.Nat.{ℕ}
use mathlib.Core.Path.{◌≡◌, refl, sym, ◌∙◌, ap, ap₂}
use mathlib.Core.Logic.{◌↔◌}
use mathlib.Core.List.{List, [], ◌∷◌, map}
use lib.ListN.{length, drop, get_or}
use Rattle.wing_node.specs.Bytes.{joined}
use Rattle.wing_mirror.specs.Rows.{Table, All}
use Rattle.wing_mirror.specs.Origin.{origin_number}
use Rattle.wing_mirror.specs.Entry.{Entry, entry, from_console}
use Rattle.wing_mirror.specs.Layout.{Layout, origin_cleared, ValidEntry, Row, Lawful}
use Rattle.wing_mirror.specs.Table.{rows}
use Rattle.wing_mirror.specs.Query.{same_answer}
use Rattle.wing_mirror.specs.Recall.{set_of, recall_bytes}
use Rattle.wing_mirror.specs.History.{Equal, EqualButOrigins}
use Rattle.wing_mirror.specs.Origins.{entries_of, SameButOrigins, Taken}
use Rattle.wing_mirror.specs.declared.origin.Origin.TheVariants.{Console}
use Rattle.wing_mirror.proofs.Tables.Chunks.{length-records}
use Rattle.wing_mirror.proofs.Records.Entries.{each, rows_back}
use Rattle.wing_mirror.proofs.Histories.Answers.{says_same}
use Rattle.wing_mirror.proofs.Histories.Demand.{clear-all}
use Rattle.std.specs.Prelude.{Ok, true}

module _ {L : Layout} (laws : Lawful L) where
  open L use {record_of, entry_in, origin_at}

  -- the origin's byte
  pub origin-bytes : (t : Table) → Taken L t → map (λ (r : List ℕ). get_or r origin_at 0) (rows L t) ≡ map (λ (e : Entry). origin_number e.origin) (entries_of L t)
  origin-bytes t a = ap (map (λ (r : List ℕ). get_or r origin_at 0)) (sym (rows_back laws t a.0 a.1)) ∙ go (entries_of L t)
    where
      go : (es : List Entry) → map (λ (r : List ℕ). get_or r origin_at 0) (map record_of es) ≡ map (λ (e : Entry). origin_number e.origin) es
      go [] = refl
      go (e ∷ es) = rw (laws.origin e, go es)

  -- records are equal exactly if what they say is
  pub compared : (t u : Table) → Taken L t → Taken L u → (same_answer L t u ≡ (Ok true) ↔ entries_of L t ≡ entries_of L u)
  compared t u a b =
      let s = says_same laws t u a.1 b.1 in
      (λ y. ap (map entry_in) (s.0 y).records, λ q. s.1 (alike (sym (rows_back laws t a.0 a.1) ∙ ap (map record_of) q ∙ rows_back laws u b.0 b.1)))
    where
      alike : rows L t ≡ rows L u → Equal L t u
      alike r =
          record { counts = sym (length-records L.width t.count t.buffer) ∙ ap length r ∙ length-records L.width u.count u.buffer; records = r }

  -- a record with its origin cleared says the same node and value, from the console
  cleared-said : (rs : List (List ℕ)) → All (Row L) rs → map entry_in (map (origin_cleared L) rs) ≡ map from_console (map entry_in rs)
  cleared-said [] a = refl
  cleared-said (r ∷ rs) a =
      let e : Entry = entry_in r in
      let v = laws.valid r a.0 in
      let q : origin_cleared L r ≡ record_of (from_console e) = ap (origin_cleared L) (sym (laws.back r a.0)) ∙ laws.cleared e in
      let w : ValidEntry L (from_console e) = record { node = v.node; typed = v.typed; text = v.text; is_kept = v.is_kept } in
      ap₂ {C = List Entry} (λ x y. x ∷ y) (ap entry_in q ∙ laws.said (from_console e) w) (cleared-said rs a.1)

  -- tables that differ in their origins alone say the same otherwise
  pub aside-said : (t u : Table) → Taken L t → Taken L u → SameButOrigins L t u → map from_console (entries_of L t) ≡ map from_console (entries_of L u)
  aside-said t u a b q =
      sym (cleared-said (rows L t) (each laws t a.0 a.1)) ∙ ap (map entry_in) q ∙ cleared-said (rows L u) (each laws u b.0 b.1)

  pub recalled : (t u : Table) → Taken L t → Taken L u → SameButOrigins L t u → recall_bytes L t ≡ recall_bytes L u
  unfolding recall_bytes
  recalled t u a b q =
      ap (λ (l : List (List ℕ)). 0xdf ∷ 0xd1 ∷ joined l) (sym (sent-alike (entries_of L t)) ∙ ap (map set_of) (aside-said t u a b q) ∙ sent-alike (entries_of L u))
    where
      sent-alike : (es : List Entry) → map set_of (map from_console es) ≡ map set_of es
      sent-alike [] = refl
      sent-alike (e ∷ es) = ap (λ (l : List (List ℕ)). set_of e ∷ l) (sent-alike es)

  -- entries are the same with their origins set aside exactly if these are all the console
  all-console : (es : List Entry) → map from_console es ≡ es → All (λ (e : Entry). e.origin ≡ Console) es
  all-console [] q = tt
  all-console (e ∷ es) q =
      (ap (λ (l : List Entry). (get_or l 0 (from_console e)).origin) (sym q), all-console es (ap (λ (l : List Entry). drop 1 l) q))

  console-all : (es : List Entry) → All (λ (e : Entry). e.origin ≡ Console) es → map from_console es ≡ es
  console-all [] a = refl
  console-all (e ∷ es) a = ap₂ {C = List Entry} (λ x y. x ∷ y) (ap (entry e.id e.value) (sym a.0)) (console-all es a.1)

  pub aside : (t u : Table) → Taken L u → EqualButOrigins L t u → (Equal L t u ↔ All (λ (e : Entry). e.origin ≡ Console) (entries_of L u))
  aside t u b g = (
    λ e. all-console (entries_of L u) (sym (cleared-said (rows L u) (each laws u b.0 b.1)) ∙ ap (map entry_in) (sym g.records ∙ e.records)),
    λ a. record { counts = g.counts; records = g.records ∙ ap (map (origin_cleared L)) (sym back) ∙ clear-all laws (entries_of L u) ∙ ap (map record_of) (console-all (entries_of L u) a) ∙ back },
  )
    where
      back : map record_of (entries_of L u) ≡ rows L u
      back = rows_back laws u b.0 b.1

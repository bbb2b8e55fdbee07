-- What the branches of a set come to.
use Prim.Native.Nat.{ℕ, min, ◌≤◌, ◌<◌}
use mathlib.Core.Bool.{Bool, true, false}
use mathlib.Core.Path.{◌≡◌, refl, sym, ◌∙◌, ap}
use mathlib.Core.List.{List}
use borrow.Author.Tests.{le-leb, lt-leb, leb-true}
use lib.Dec.{ltb, leb}
use lib.IntN.{ℤ}
use lib.ListN.{length, take}
use Rattle.wing_node.specs.Refusal.{string_not_utf8}
use Rattle.wing_node.specs.Bool.{if}
use Rattle.wing_node.specs.Utf8.{utf8}
use Rattle.wing_node.specs.Value.{NodeValue, integer, float, string}
use Rattle.wing_node.proofs.Branches.{if-both}
use Rattle.wing_wire.specs.Write.{WriteEffect, write_effect, write_of}
use Rattle.wing_wire.specs.Command.{set_bytes, set_string}
use Rattle.wing_wire.proofs.Laws.{writer-laws}
use Rattle.wing_mirror.specs.Rows.{Table, takes}
use Rattle.wing_mirror.specs.Entry.{entry, storable}
use Rattle.wing_mirror.specs.Layout.{kept, Layout}
use Rattle.wing_mirror.specs.Table.{usable, put, fits}
use Rattle.wing_mirror.specs.Puts.{put_of}
use Rattle.wing_mirror.specs.Call.{too_long, not_text}
use Rattle.wing_mirror.specs.Mirror.{SetEffect, refused_set, mirror_set, set_effect}
use Rattle.wing_mirror.specs.Sets.{Replied, replied, kept_of}
use Rattle.wing_mirror.specs.declared.answer.SetReply.{SetReply}
use Rattle.wing_mirror.specs.declared.origin.Origin.TheVariants.{SetOrder}
use Rattle.wing_mirror.proofs.Tables.Laying.{take-least}
use Rattle.wing_node.specs.declared.refusal.Refusal.TheVariants.{NoPlace, StringLong, TableUnsound}
use Rattle.wing_node.specs.Result.{Result}
use Rattle.std.specs.Prelude.{ℕ}

-- a value that may be stored is not refused for itself
pub not-long : (v : NodeValue) → storable v ≡ true → too_long v ≡ false
unfolding storable too_long
not-long (integer x) h = refl
not-long (float bits) h = refl
not-long (string s) h = rw (if-both (leb (length s) 256) (utf8 s) h).0

is-text : (v : NodeValue) → storable v ≡ true → not_text v ≡ false
unfolding storable not_text
is-text (integer x) h = refl
is-text (float bits) h = refl
is-text (string s) h = rw (if-both (leb (length s) 256) (utf8 s) h).1

-- 01: a string of at most 256 bytes, UTF-8
pub storable-string : (s : List ℕ) → length s ≤ 256 → utf8 s ≡ true → storable (string s) ≡ true
unfolding storable
storable-string s h t = rw (le-leb (length s) 256 h) t

-- the writer of a string, given the first n of the bytes lent
pub string-sent : (id : ℤ) (n len : ℕ) (s out : List ℕ) → len ≡ min n (length s) → storable (string (take n s)) ≡ true →
    set_string id (take len s) out ≡ write_of (set_bytes id (string (take n s))) out
unfolding storable
string-sent id n len s out l h =
    ap (λ (p : List ℕ). set_string id p out) (ap (λ (m : ℕ). take m s) l ∙ take-least n s)
    ∙ sym (writer-laws.accepted id (take n s) out (leb-true (length (take n s)) 256 b.0) b.1)
  where
    b : (leb (length (take n s)) 256 ≡ true) × (utf8 (take n s) ≡ true)
    b = if-both (leb (length (take n s)) 256) (utf8 (take n s)) h

abbrev settled : Replied → List ℕ → SetEffect
settled k out = record { answer = k.answer; out = out; table = k.after }

module _ (L : Layout) (id : ℤ) (v : NodeValue) (t : Table) (out : List ℕ) where
  open L use {width, key_of, record_of, keeping}

  pub unusable : usable L t ≡ false → refused_set TableUnsound t out ≡ mirror_set L id v t out
  unfolding mirror_set
  unusable u = rw u

  -- of a value that may be stored
  module _ (u : usable L t ≡ true) (o : keeping v ≡ kept) (s : storable v ≡ true) (rec : List ℕ) (er : rec ≡ record_of (entry id v SetOrder)) (h : Bool) (eh : h ≡ takes width key_of rec t) where
    takes-is : takes width key_of (record_of (entry id v SetOrder)) t ≡ h
    takes-is = ap (λ (r : List ℕ). takes width key_of r t) (sym er) ∙ sym eh

    pub no_room : h ≡ false → refused_set NoPlace t out ≡ mirror_set L id v t out
    unfolding mirror_set fits
    no_room q = rw (u, o, not-long v s, is-text v s, takes-is, q)

    after : WriteEffect → SetEffect
    after x = settled (kept_of L x.answer (record_of (entry id v SetOrder)) t) x.out

    -- 6 is met already: what is left is 9
    written : h ≡ true → (b : Bool) → ltb (length out) (length (set_bytes id v)) ≡ b → after (write_of (set_bytes id v) out) ≡ mirror_set L id v t out
    unfolding mirror_set after write_of kept_of put_of put fits
    written q true e = rw (u, o, not-long v s, is-text v s, e, takes-is, q)
    written q false e = rw (u, o, not-long v s, is-text v s, e, takes-is, q)

    pub kept-so : h ≡ true → (w : Result ℕ) (o : List ℕ) → write_effect w o ≡ write_of (set_bytes id v) out →
        (r : SetReply) (b : List ℕ) → replied r b ≡ kept_of L w rec t → set_effect r o b ≡ mirror_set L id v t out
    unfolding after
    kept-so q w o ew r b ek =
        ap (λ (k : Replied). settled k o) (ek ∙ ap (λ (x : List ℕ). kept_of L w x t) er) ∙ ap after ew
        ∙ written q (ltb (length out) (length (set_bytes id v))) refl

-- of a string that is refused for what it is: 7 before that
module _ (L : Layout) (id : ℤ) (s : List ℕ) (t : Table) (out : List ℕ) (o : L.keeping (string s) ≡ kept) where
  pub long-string : 256 < length s → refused_set (if (usable L t) StringLong TableUnsound) t out ≡ mirror_set L id (string s) t out
  unfolding mirror_set too_long
  long-string h = go (usable L t) refl
    where
      go : (b : Bool) → usable L t ≡ b → refused_set (if b StringLong TableUnsound) t out ≡ mirror_set L id (string s) t out
      go true u = rw (u, o, lt-leb (length s) 256 h)
      go false u = rw u

  pub bad-string : length s ≤ 256 → utf8 s ≡ false → refused_set (if (usable L t) (string_not_utf8 s) TableUnsound) t out ≡ mirror_set L id (string s) t out
  unfolding mirror_set too_long not_text
  bad-string h q = go (usable L t) refl
    where
      go : (b : Bool) → usable L t ≡ b → refused_set (if b (string_not_utf8 s) TableUnsound) t out ≡ mirror_set L id (string s) t out
      go true u = rw (u, o, le-leb (length s) 256 h, q)
      go false u = rw u

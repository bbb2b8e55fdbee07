-- Bytes that begin with others, and bytes laid into a buffer one part after the other.
use Prim.Native.Nat.{ℕ, ◌+◌, ◌-◌, ◌≤◌}
use mathlib.Core.Bool.{Bool, true, false, ◌&&◌}
use mathlib.Core.Path.{◌≡◌, refl, ◌∙◌, ap₂, sym}
use mathlib.Core.List.{List, [], ◌∷◌, ◌++◌, append-nil, append_assoc}
use native.Mathlib.Omega.{arith}
use borrow.Author.Tests.{eq-eqb, ne_eqb, eqb-true, eqb-false}
use borrow.Rule.Slice.PartMut.{put_mid}
use lib.Dec.{eqb}
use lib.ListN.{length, take, drop, drop_of_length-le}
use lib.Seq.{sets, sets-eq, drop-drop}
use Rattle.std.specs.List.{starts_with}
use Rattle.wing_node.specs.Bool.{and}
use Rattle.wing_node.proofs.Branches.{and_left, and_right}
use Rattle.wing_wire.specs.Write.{Laid, write_effect, write_of}
use Rattle.wing_wire.proofs.Laws.{writer-laws}
use Rattle.wing_saved.specs.Saved.{begins}
use Rattle.std.specs.Prelude.{Ok}

-- what is joined begins with its first part
pub begins-joined : (front s : List ℕ) → begins front (front ++ s) ≡ true
unfolding begins
begins-joined [] s = refl
begins-joined (a ∷ front) s = rw (eq-eqb a a refl) (begins-joined front s)

-- bytes that begin with others are these and the rest
pub begins-parts : (front s : List ℕ) → begins front s ≡ true → front ++ drop (length front) s ≡ s
unfolding begins
begins-parts [] s e = refl
begins-parts (a ∷ front) [] e = absurd (let z : ◌≡◌ {A = ℕ} 0 1 = cc in omega arith)
begins-parts (a ∷ front) (b ∷ s) e =
    ap₂ {C = List ℕ} (λ x l. x ∷ l) (sym (eqb-true b a (and_left (eqb b a) (begins front s) e))) (begins-parts front s (and_right (eqb b a) (begins front s) e))

eqb-sym : (a b : ℕ) → eqb a b ≡ eqb b a
eqb-sym a b = go (eqb b a) refl
  where
    go : (p : Bool) → eqb b a ≡ p → eqb a b ≡ p
    go true e = eq-eqb a b (sym (eqb-true b a e))
    go false e = ne_eqb a b (λ p. eqb-false b a e (sym p))

-- the library's test, which has the two the other way round
pub starts_begins : (front s : List ℕ) → starts_with eqb s front ≡ begins front s
unfolding begins
starts_begins [] s = refl
starts_begins (a ∷ front) [] = refl
starts_begins (a ∷ front) (b ∷ s) = rw (eqb-sym a b, starts_begins front s) (joined (eqb b a) (begins front s))
  where
    joined : (p q : Bool) → (p && q) ≡ and p q
    joined true q = refl
    joined false q = refl

-- bytes put in the place of as many
pub put_sets : (d s : List ℕ) (at : ℕ) → at + length s ≤ length d → put_mid at (at + length s - at) d s ≡ sets d at s
put_sets d s at h =
    let k : at + length s - at ≡ length s = omega arith in
    rw (k, drop-drop) (sym (sets-eq s d at h ∙ append_assoc (take at d) s (drop (at + length s) d)))

-- bytes laid over as many leave themselves
pub laid_same : (s d : List ℕ) → length d ≡ length s → sets d 0 s ≡ s
laid_same s d l =
    let z : 0 + length s ≡ length s = omega arith in
    sets-eq s d 0 (omega arith) ∙ rw (z, drop_of_length-le d {i = length s} (omega arith)) (append-nil s)

-- two parts laid one after the other are written as one
pub parts-written : (a b d : List ℕ) {n m : ℕ} → length a ≡ n → length (a ++ b) ≡ m → m ≤ length d →
    write_effect (Ok m) (sets (sets d 0 a) n b) ≡ write_of (a ++ b) d
parts-written a b d {n} {m} la lab h =
    let one : Laid a 0 d (sets d 0 a) n = record { bytes = refl; next = omega arith } in
    let both : Laid (a ++ b) 0 d (sets (sets d 0 a) n b) m = record { bytes = writer-laws.after one b; next = omega arith } in
    writer-laws.whole both (omega arith)

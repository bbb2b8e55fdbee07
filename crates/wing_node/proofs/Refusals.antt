-- The reason of a refusal, what the fault of a string tells of it, and the result where a `?` hands a refusal on.
use mathlib.Core.Path.{◌≡◌, refl, ap, sym}
use mathlib.Core.Bool.{Bool, true, false, true≢false}
use mathlib.Core.List.{List}
use Prim.Native.Nat.{ℕ}
use Rattle.wing_node.specs.Bool.{if}
use Rattle.wing_node.specs.Utf8.{utf8}
use Rattle.wing_node.specs.Refusal.{string_not_utf8, no_fault, because, is_refused, string_fault, Fault}
use Rattle.wing_node.specs.Result.{Result, ok, refused}
use Rattle.wing_node.specs.declared.refusal.Refusal.{Refusal}
use Rattle.std.specs.Prelude.{Ok, Err, IsErrAnd}

-- the reason of a refusal, or another
abbrev pub reason : {A : Type 0} → Refusal → Result A → Refusal
reason other (ok a) = other
reason other (refused why) = why

-- the reason of a fault, or another
abbrev pub reason_of : Refusal → Fault → Refusal
reason_of other (Ok u) = other
reason_of other (Err why) = why

-- where a `?` returns, the result is the refusal that the call gave
pub handed-on : {A : Type 0} (r : Result A) (why : Refusal) → IsErrAnd r (λ e. e ≡ why) → r ≡ Err why
handed-on (Ok a) why h = absurd h
handed-on (Err e) why h = ap Err h

module _ (s : List ℕ) where
  pub string-right : string_fault s ≡ no_fault → utf8 s ≡ true
  unfolding string_fault
  string-right e = go (utf8 s) e
    where
      go : (b : Bool) → if b no_fault (because (string_not_utf8 s)) ≡ no_fault → b ≡ true
      go true h = refl
      go false h = absurd (true≢false (ap is_refused h))

  pub string-wrong : (why : Refusal) → string_fault s ≡ because why → (utf8 s ≡ false) × (why ≡ string_not_utf8 s)
  unfolding string_fault
  string-wrong why e = go (utf8 s) e
    where
      go : (b : Bool) → if b no_fault (because (string_not_utf8 s)) ≡ because why → (b ≡ false) × (why ≡ string_not_utf8 s)
      go true h = absurd (true≢false (sym (ap is_refused h)))
      go false h = (refl, sym (ap (reason_of why) h))

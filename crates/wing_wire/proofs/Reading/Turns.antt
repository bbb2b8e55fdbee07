-- Laws of a run: it goes on byte by byte, to the end of the bytes.
use Prim.Native.Nat.{ℕ, suc, ◌+◌, ◌<◌, ◌≤◌}
use mathlib.Core.Bool.{true}
use mathlib.Core.Path.{◌≡◌, ap}
use mathlib.Core.List.{List}
use native.Mathlib.Numerals.{add-one}
use lib.ListN.{length, drop, get_or, drop_of_length-le}
use lib.Seq.{drop-cons}
use Rattle.wing_wire.specs.Stream.{Run, is_more, step_of, onward, run_of}

more : (r : Run) (b : ℕ) → is_more r.effect.answered.answer ≡ true → onward r b ≡ record { effect = step_of r.effect.answered.control r.effect.store b; taken = r.taken + 1 }
more r b e = rw e

-- one turn
pub turn :
    (r : Run) (bytes : List ℕ) (i : ℕ) → i < length bytes → is_more r.effect.answered.answer ≡ true
    → run_of r (drop i bytes) ≡ run_of (record { effect = step_of r.effect.answered.control r.effect.store (get_or bytes i 0); taken = r.taken + 1 }) (drop (i + 1) bytes)
unfolding run_of
turn r bytes i h e = rw (add-one i, drop-cons bytes i 0 h) (ap (λ (x : Run). run_of x (drop (suc i) bytes)) (more r (get_or bytes i 0) e))

-- no bytes are left
pub ended : (r : Run) (bytes : List ℕ) (i : ℕ) → length bytes ≤ i → run_of r (drop i bytes) ≡ r
unfolding run_of
ended r bytes i h = rw (drop_of_length-le bytes h)

-- What is promised of a state as bytes, as specs/Saved states it.
use Prim.Native.Nat.{ℕ}
use mathlib.Core.Bool.{true}
use mathlib.Core.Path.{◌≡◌, refl, sym, ◌∙◌, ap}
use mathlib.Core.List.{List, ◌++◌}
use native.Mathlib.Omega.{arith}
use lib.Dec.{ltb}
use lib.ListN.{length, take, drop}
use Rattle.wing_node.specs.declared.refusal.Refusal.{Refusal}
use Rattle.wing_node.proofs.Branches.{branch}
use Rattle.wing_wire.specs.State.{sound_state}
use Rattle.wing_wire.specs.Range.{AreBytes}
use Rattle.wing_wire.specs.Write.{WriteEffect, write_effect, write_of}
use Rattle.wing_wire.specs.Answers.{written_result}
use Rattle.wing_wire.specs.declared.state.State.{State}
use Rattle.wing_saved.specs.Saved.{state_bytes, state_from, save_of, Typed, Saves}
use Rattle.wing_saved.proofs.Saving.Trips.{saved-laws}
use Rattle.wing_saved.specs.Earlier.{load_earlier_of}
use Rattle.wing_saved.proofs.Saving.Before.{earlier-laws}
use Rattle.promises.specs.Saved.{SaveCall, LoadCall, LoadEarlierCall}
use Rattle.promises.proofs.Lines.{unless}
use Rattle.promises.proofs.Carries.{by_lines}
use Rattle.promises.proofs.Writers.{at_front, came, Kept, Rest, refused-rest, written-rest, command-writes}
use Rattle.wing_node.specs.declared.refusal.Refusal.TheVariants.{OutputShort, StateUnsound}
use Rattle.std.specs.Prelude.{Ok, Err}

-- what a call says that it wrote is kept as the state's
abbrev Saved : State → WriteEffect → Type 0
Saved s x = (n : ℕ) → x.answer ≡ Ok n → Saves (take n x.out) s

refused-saved : (s : State) (k : Refusal) (out : List ℕ) → Saved s (write_effect (Err k) out)
refused-saved s k out n e = absurd (let z : ◌≡◌ {A = ℕ} 0 1 = cc in omega arith)

written-saved : (s : State) (out : List ℕ) → Typed s → sound_state s ≡ true → Saved s (write_of (state_bytes s) out)
unfolding write_of
written-saved s out t e =
    branch (Saved s) (ltb (length out) (length (state_bytes s))) _ _ (λ _. refused-saved s OutputShort out)
    (λ _ n q.
    let z : length (state_bytes s) ≡ n = cc in
    record { typed = t; sound = e; laid = sym (ap (λ (m : ℕ). take m (state_bytes s ++ drop (length (state_bytes s)) out)) (sym z) ∙ at_front (state_bytes s) out) })

pub save-call : (s : State) (out : List ℕ) → Typed s → SaveCall s out (save_of s out).answer (save_of s out).out
unfolding save_of written_result
save-call s out t = record {
  writes = record {
    answered = unless came (Kept out) (state_bytes s) (sound_state s) StateUnsound _ _ _ refl (refl, tt) (command-writes (state_bytes s) out).answered;
    rest = λ n e. (went n e).1;
    told = λ n e. (went n e).0;
  };
  saves = branch (Saved s) (sound_state s) _ _ (λ e. written-saved s out t e) (λ _. refused-saved s StateUnsound out);
}
  where
    went : Rest (state_bytes s) out (save_of s out)
    went = branch (Rest (state_bytes s) out) (sound_state s) _ _ (λ _. written-rest (state_bytes s) out) (λ _. refused-rest StateUnsound (state_bytes s) out out)

pub load_call : (bytes : List ℕ) → AreBytes bytes → LoadCall bytes (state_from bytes)
load_call bytes are = record { back = saved-laws.back bytes; again = λ s p. saved-laws.again bytes s are p; refusal = saved-laws.refusal bytes }

pub load-earlier-call : (bytes : List ℕ) → AreBytes bytes → LoadEarlierCall bytes (load_earlier_of bytes)
unfolding load_earlier_of
load-earlier-call bytes are =
    record {
      back = earlier-laws.back bytes;
      by_lines = λ s g. earlier-laws.back bytes s g ∙ by_lines s;
      again = λ t p. earlier-laws.again bytes t are p;
      refusal = earlier-laws.refusal bytes;
    }

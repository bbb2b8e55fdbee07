-- Demand 2, on the writers' own answers: what a set order wrote is read as that value at that node.
use Prim.Native.Nat.{ℕ}
use mathlib.Core.Bool.{true}
use mathlib.Core.Path.{◌≡◌, refl, sym, ◌∙◌, ap, subst}
use mathlib.Core.List.{List}
use lib.Dec.{ltb, leb}
use lib.IntN.{ℤ}
use lib.ListN.{length, drop}
use lib.Seq.{take-append_seam}
use borrow.Author.Tests.{leb-true}
use Rattle.wing_node.proofs.Branches.{branch}
use Rattle.wing_node.specs.Signed.{InBits}
use Rattle.wing_node.specs.Utf8.{utf8}
use Rattle.wing_node.specs.Value.{NodeValue, string}
use Rattle.wing_wire.specs.State.{body_limit, sound_state}
use Rattle.wing_wire.specs.Write.{WriteEffect, write_effect, write_of}
use Rattle.wing_wire.specs.Command.{set_bytes, set_string}
use Rattle.wing_wire.specs.Reader.{next_of}
use Rattle.wing_wire.specs.Answers.{event_at, answer_result, reply_result}
use Rattle.wing_wire.specs.RoundTrip.{Settable, rest_state}
use Rattle.wing_wire.specs.SetOrders.{AtRest, ReadBack, ReadsAsSet}
use Rattle.wing_wire.specs.declared.state.State.{State}
use Rattle.wing_wire.proofs.BothWays.RoundTrip.{round_trip}
use Rattle.wing_node.specs.Result.{Result}
use Rattle.std.specs.Prelude.{ℕ}

-- a state at rest by its parts
by_parts : (s : State) → AtRest s → s ≡ rest_state s.control.escape.channel s.control.node s.store
by_parts s a = rw (a.unescaped, a.pending, a.between)

-- a sound state is sound at any node
rest-sound : (ch node id : ℤ) (s : List ℕ) → sound_state (rest_state ch node s) ≡ true → sound_state (rest_state ch id s) ≡ true
unfolding sound_state
rest-sound ch node id s e = e

module _ (id : ℤ) (v : NodeValue) (i : InBits 31 id) (h : Settable v) where
  read-rest : (ch node : ℤ) (s : List ℕ) → length s ≡ body_limit → sound_state (rest_state ch node s) ≡ true →
      ReadBack id v (length (set_bytes id v)) (set_bytes id v) (rest_state ch node s)
  unfolding reply_result answer_result event_at
  read-rest ch node s full sound =
      let r = round_trip ch node id s v i h full sound in
      let rest : AtRest (rest_state ch id s) = record { sound = rest-sound ch node id s sound; store = full; unescaped = refl; pending = refl; between = refl } in
      record {
        event = ap (event_at (next_of (rest_state ch node s) (set_bytes id v)).state.control.node) r.event ∙ rw r.state;
        taken = r.taken;
        state = rw r.state rest;
        node = rw r.state;
      }

  -- a set order's bytes, read at rest
  pub read_back : (s : State) → AtRest s → ReadBack id v (length (set_bytes id v)) (set_bytes id v) s
  read_back s a =
      let e = by_parts s a in
      subst (ReadBack id v (length (set_bytes id v)) (set_bytes id v)) (sym e)
      (read-rest s.control.escape.channel s.control.node s.store a.store (ap sound_state (sym e) ∙ a.sound))

  order-read : (out : List ℕ) → ReadsAsSet id v (write_of (set_bytes id v) out).answer (write_of (set_bytes id v) out).out
  unfolding write_of
  order-read out =
      let bytes = set_bytes id v in
      let P : WriteEffect → Type 0 = λ w. ReadsAsSet id v w.answer w.out in
      branch P (ltb (length out) (length bytes)) _ _ (λ _. tt)
      (λ _ s a. rw (take-append_seam bytes (drop (length bytes) out)) (read_back s a))

  -- what set_int and set_float promise of their answer r and the output after it gives this
  pub reads-as-set : (out : List ℕ) (r : Result ℕ) (after : List ℕ) → write_effect r after ≡ write_of (set_bytes id v) out → ReadsAsSet id v r after
  reads-as-set out r after e = subst (λ (w : WriteEffect). ReadsAsSet id v w.answer w.out) (sym e) (order-read out)

-- and what set_string promises, whatever its string: one that is not settable is refused
pub reads-as-string : (id : ℤ) (s out : List ℕ) (r : Result ℕ) (after : List ℕ) → InBits 31 id → write_effect r after ≡ set_string id s out → ReadsAsSet id (string s) r after
unfolding set_string
reads-as-string id s out r after i e =
    let P : WriteEffect → Type 0 = λ w. ReadsAsSet id (string s) w.answer w.out in
    subst P (sym e)
    (branch P (leb (length s) 256) _ _
    (λ l. branch P (utf8 s) _ _ (λ u. order-read id (string s) i (leb-true (length s) 256 l, u) out) (λ _. tt))
    (λ _. tt))

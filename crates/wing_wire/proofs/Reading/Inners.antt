-- Laws of the inner units of a number or a string: what one turn takes, and where they end.
use Prim.Native.Nat.{ℕ, ◌+◌, ◌-◌, ◌<◌, ◌≤◌}
use mathlib.Core.Bool.{Bool, true, false, not}
use mathlib.Core.Path.{◌≡◌, refl}
use mathlib.Core.List.{List}
use native.Mathlib.Numerals.{add-one}
use borrow.Author.Tests.{leb-false}
use lib.Dec.{leb, eqb}
use lib.ListN.{length, drop, get_or, set, drop_of_length-le}
use lib.Seq.{drop-cons}
use Rattle.wing_node.specs.Bool.{if}
use Rattle.wing_wire.specs.Unit.{shift_in}
use Rattle.wing_wire.specs.Plain.{is_inner, token_at, number_ahead, ahead_effect, string_ahead}
use Rattle.wing_wire.specs.declared.token.Class.{Class}
use Rattle.wing_wire.specs.declared.state.Token.TheVariants.{Number, String}
use Rattle.wing_wire.proofs.Reading.Pieces.{clash}

-- an inner unit is not the last
pub inner-left : (left b : ℕ) → is_inner left b ≡ true → leb left 1 ≡ false
unfolding is_inner
inner-left left b = go (leb left 1)
  where
    go : (t : Bool) → if t false (not (eqb b 0xdf)) ≡ true → t ≡ false
    go true e = absurd (clash e refl)
    go false e = refl

-- and it is no df
pub inner-byte : (left b : ℕ) → is_inner left b ≡ true → eqb b 0xdf ≡ false
unfolding is_inner
inner-byte left b = go (leb left 1) (eqb b 0xdf)
  where
    go : (t u : Bool) → if t false (not u) ≡ true → u ≡ false
    go true u e = absurd (clash e refl)
    go false true e = absurd (clash e refl)
    go false false e = refl

pub inner-more : (left b : ℕ) → is_inner left b ≡ true → 1 < left
inner-more left b e = leb-false left 1 (inner-left left b e)

module _ (bytes : List ℕ) (n : ℕ) where
  module _ (class : Class) (left v : ℕ) where
    pub number-turn : n < length bytes → is_inner left (get_or bytes n 0) ≡ true →
        number_ahead class left v n (drop n bytes) ≡ number_ahead class (left - 1) (shift_in v (get_or bytes n 0)) (n + 1) (drop (n + 1) bytes)
    unfolding number_ahead
    number-turn h e = rw (drop-cons bytes n 0 h, e, add-one n)

    pub number-stops : n < length bytes → is_inner left (get_or bytes n 0) ≡ false → number_ahead class left v n (drop n bytes) ≡ token_at (Number class left v) n
    unfolding number_ahead
    number-stops h e = rw (drop-cons bytes n 0 h, e)

    pub number-ends : length bytes ≤ n → number_ahead class left v n (drop n bytes) ≡ token_at (Number class left v) n
    unfolding number_ahead
    number-ends h = rw (drop_of_length-le bytes h)

  module _ (want left : ℕ) (s : List ℕ) where
    pub string-turn : n < length bytes → is_inner left (get_or bytes n 0) ≡ true →
        string_ahead want left s n (drop n bytes) ≡ string_ahead want (left - 1) (set s (want - left) (get_or bytes n 0)) (n + 1) (drop (n + 1) bytes)
    unfolding string_ahead
    string-turn h e = rw (drop-cons bytes n 0 h, e, add-one n)

    pub string-stops : n < length bytes → is_inner left (get_or bytes n 0) ≡ false → string_ahead want left s n (drop n bytes) ≡ ahead_effect (token_at (String want left) n) s
    unfolding string_ahead
    string-stops h e = rw (drop-cons bytes n 0 h, e)

    pub string-ends : length bytes ≤ n → string_ahead want left s n (drop n bytes) ≡ ahead_effect (token_at (String want left) n) s
    unfolding string_ahead
    string-ends h = rw (drop_of_length-le bytes h)

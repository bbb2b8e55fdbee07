-- What a user of the wire may rely on besides the contracts: the decoder's laws and the writers', one value each.
use mathlib.Core.Bool.{true}
use mathlib.Core.Path.{◌≡◌, ◌∙◌}
use Prim.Native.Nat.{ℕ}
use mathlib.Core.List.{[]}
use lib.ListN.{replicate, length-replicate}
use Rattle.wing_node.proofs.Branches.{and_left}
use Rattle.wing_node.proofs.Characters.Grammar.{decides}
use Rattle.wing_wire.specs.State.{sound_escape, sound_token, sound_state}
use Rattle.wing_wire.specs.Stream.{Fed, fed_from, feed_of}
use Rattle.wing_wire.specs.DecoderLaws.{Handler, state_in, NextLaws, FeedLaws, SoundLaws, DecoderLaws}
use Rattle.wing_wire.specs.WriterLaws.{WriterLaws}
use Rattle.wing_wire.proofs.Reading.Overs.{length_over}
use Rattle.wing_wire.proofs.Reading.Pieces.{pending-same, feed-pieces}
use Rattle.wing_wire.proofs.Reading.Steps.{next-in, next_more, next-takes, feed-ends, feed-again}
use Rattle.wing_wire.proofs.Reading.Bounds.{advance-bounded}
use Rattle.wing_wire.proofs.Reading.Sound.{sound-within, fresh-sound, decode-next-sound, sound-feed, state-parts}
use Rattle.wing_wire.proofs.Reading.Ranges.{fresh_in_lem, range-feed}
use Rattle.wing_wire.proofs.Reading.Handled.{feed-keeps}
use Rattle.wing_wire.proofs.Reading.Few.{answers-sound}
use Rattle.wing_wire.proofs.Reading.Along.{feed-along}
use Rattle.wing_wire.proofs.Reading.Channels.{channel-set}
use Rattle.wing_wire.proofs.Writing.Lays.{written, short, goes_on, in-part}
use Rattle.wing_wire.proofs.Writing.Choices.{string-good}
use Rattle.wing_wire.proofs.Writing.Sizes.{set-int-le, set-float-le, set-string-le}
use Rattle.wing_wire.proofs.BothWays.RoundTrip.{round-trip-pieces}
use Rattle.std.specs.Prelude.{None}

next-laws : NextLaws
next-laws = record { within = next-in; more = next_more; takes = next-takes; bounded = advance-bounded; sound = sound-within }

feed-none : {M : Type 0} (h : Handler M) (x : Fed M) → x.control.escape.pending ≡ None → feed_of h x [] ≡ x
unfolding feed_of fed_from
feed-none h x e = pending-same h x e

feed-laws : FeedLaws
feed-laws =
    record {
      ends = λ h x bytes p. feed-ends h x.control x.store x.memo bytes p;
      again = λ h x bytes p. feed-again h x.control x.store x.memo bytes p;
      empty = λ h x e. feed-none h x e;
      pieces = λ h x a b. feed-pieces h x a b;
      along = λ h k f e x bytes. feed-along h k f e x bytes;
      channel = λ h ch node s m n l. channel-set h ch node s m n l;
      order = λ h. round-trip-pieces h;
    }

-- a sound state's escapes are sound
sound-escapes : {M : Type 0} (x : Fed M) → sound_state (state_in x) ≡ true → sound_escape x.control.escape ≡ true
unfolding sound_state
sound-escapes x e = and_left (sound_escape x.control.escape) (sound_token x.control.token x.store) e

sound-laws : SoundLaws
sound-laws =
    record {
      fresh = fresh-sound;
      fresh_in = fresh_in_lem;
      step = decode-next-sound;
      range = λ h x bytes l r. range-feed h x bytes l r;
      sound = λ h x bytes l r e. sound-feed h x bytes l r.pending e;
      keeps = λ h P k x bytes l r e p. feed-keeps h P k x bytes l (state-parts (state_in x) r.pending e) r p;
      few = λ x bytes e. answers-sound x bytes (sound-escapes x e);
    }

pub decoder-laws : DecoderLaws
decoder-laws =
    record {
      next = next-laws;
      feed = feed-laws;
      sound = sound-laws;
      filled_size = λ w s. length_over s (replicate w 0) ∙ length-replicate {A = ℕ} w 0;
    }

pub writer-laws : WriterLaws
writer-laws =
    record {
      whole = λ a h. written a h;
      short = short;
      after = λ a t. goes_on a t;
      part = λ a l. in-part a l;
      accepted = string-good;
      integer_size = set-int-le;
      float_size = set-float-le;
      string_size = λ id s h u. set-string-le id s ((decides s).right u) h;
    }

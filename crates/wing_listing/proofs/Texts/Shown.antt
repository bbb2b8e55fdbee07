-- Entries that can be printed, and those that lines say.
use Prim.Native.Nat.{ℕ, suc}
use mathlib.Core.Bool.{true}
use mathlib.Core.Path.{◌≡◌}
use mathlib.Core.List.{List, [], ◌∷◌}
use Rattle.wing_node.specs.Refusal.{no_fault}
use Rattle.wing_node.specs.Value.{NodeValue, integer, float, string}
use Rattle.wing_node.proofs.Numerals.Numbers.{Digits}
use Rattle.wing_wire.specs.Range.{AreBytes, no_bytes, byte_then}
use Rattle.wing_mirror.proofs.Records.Words.{are-digits}
use Rattle.wing_listing.specs.Reading.{is_line, entry_said, value_fault}
use Rattle.wing_listing.specs.FirstBad.{Bytewise, Printable}
use Rattle.wing_listing.proofs.Texts.Said.{DigitBytes, line-node, line-typed, line-bytes, line-valid}
use Rattle.wing_listing.proofs.Texts.Listed.{Listable, said-origin}

-- a list of bytes, by its elements and by its digits
digits_are : (s : List ℕ) → Digits 256 s → AreBytes s
digits_are [] d = no_bytes
digits_are (a ∷ s) d = byte_then (d 0) (digits_are s (λ i. d (suc i)))

pub digit-bytes : (v : NodeValue) → Bytewise v → DigitBytes v
digit-bytes (integer x) b = tt
digit-bytes (float bits) b = tt
digit-bytes (string s) b = are-digits s b

pub byte-digits : (v : NodeValue) → DigitBytes v → Bytewise v
byte-digits (integer x) b = tt
byte-digits (float bits) b = tt
byte-digits (string s) b = digits_are s b

module _ (line : List ℕ) (e : is_line line ≡ true) where
  pub said-printable : Printable (entry_said line)
  said-printable = record { node = line-node line e; typed = line-typed line e; bytes = byte-digits (entry_said line).value (line-bytes line e) }

  pub said-listable : value_fault (entry_said line).value ≡ no_fault → Listable (entry_said line)
  said-listable f = (line-valid line e f, line-bytes line e, said-origin line)

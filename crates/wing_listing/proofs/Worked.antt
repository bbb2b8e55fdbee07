-- 01's example, the boundary lines and some whole texts, one joint proof: the whole table is computed at once. The largest and the least integer are spelled by a lemma instead.
use mathlib.Core.Path.{◌≡◌, refl}
use mathlib.Core.List.{[], ◌∷◌, map}
use lib.IntN.{pos, negsuc}
use Rattle.wing_node.specs.Bytes.{joined}
use Rattle.wing_node.specs.Digits.{number_from, number_in, digits_in}
use Rattle.wing_node.specs.Decimal.{digits_up_to, digits, decimal, number_spelled, integer_of}
use Rattle.wing_node.specs.Utf8.{holds, begins, first_that, char_length, good_from, good, utf8}
use Rattle.wing_mirror.specs.Table.{every}
use Rattle.wing_mirror.specs.Call.{too_long, not_text}
use Rattle.wing_mirror.specs.Query.{same_bytes}
use Rattle.wing_listing.specs.Parts.{onto, parted}
use Rattle.wing_listing.specs.Integers.{is_digit, no_leading_zero, is_natural, is_signed, fits32, is_integer}
use Rattle.wing_listing.specs.Hex.{hex_digit, hex_value, is_hex, pair_of, from_pairs, are_pairs}
use Rattle.wing_listing.specs.Listing.{letter_of, value_text, line_of, listing_of}
use Rattle.wing_listing.specs.Reading.{is_value, value_said, is_line, entry_said, above, value_fault, line_fault, after, lines_from, after_header, reading_of}
use Rattle.wing_listing.specs.Cases.{Case, lists, fine, wrong, reads, cases, ends}
use Rattle.wing_listing.proofs.Texts.Numbers.{integer-spelled}

-- what the definitions give in every case is what is wanted
pub worked : map (λ (c : Case). c.got) cases ≡ map (λ (c : Case). c.wanted) cases
unfolding cases lists fine wrong reads reading_of after_header lines_from after same_bytes listing_of line_of value_text letter_of line_fault value_fault above entry_said is_line value_said is_value are_pairs from_pairs pair_of is_hex hex_value hex_digit is_integer fits32 is_signed is_natural no_leading_zero is_digit parted onto too_long not_text every utf8 good_from good char_length first_that begins holds integer_of number_spelled decimal digits digits_up_to digits_in number_in number_from joined
worked = refl

most : decimal (pos 2147483647) ≡ 0x32 ∷ 0x31 ∷ 0x34 ∷ 0x37 ∷ 0x34 ∷ 0x38 ∷ 0x33 ∷ 0x36 ∷ 0x34 ∷ 0x37 ∷ []
unfolding is_integer fits32 is_signed is_natural no_leading_zero is_digit every integer_of number_spelled number_in number_from
most = integer-spelled (0x32 ∷ 0x31 ∷ 0x34 ∷ 0x37 ∷ 0x34 ∷ 0x38 ∷ 0x33 ∷ 0x36 ∷ 0x34 ∷ 0x37 ∷ []) refl

least : decimal (negsuc 2147483647) ≡ 0x2d ∷ 0x32 ∷ 0x31 ∷ 0x34 ∷ 0x37 ∷ 0x34 ∷ 0x38 ∷ 0x33 ∷ 0x36 ∷ 0x34 ∷ 0x38 ∷ []
unfolding is_integer fits32 is_signed is_natural no_leading_zero is_digit every integer_of number_spelled number_in number_from
least = integer-spelled (0x2d ∷ 0x32 ∷ 0x31 ∷ 0x34 ∷ 0x37 ∷ 0x34 ∷ 0x38 ∷ 0x33 ∷ 0x36 ∷ 0x34 ∷ 0x38 ∷ []) refl

pub ends-worked : ends.got ≡ ends.wanted
unfolding lists listing_of line_of value_text letter_of joined
ends-worked = rw (most, least) refl

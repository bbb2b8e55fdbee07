-- The worked cases, one joint proof: the whole table is computed at once.
use mathlib.Core.Path.{◌≡◌, refl}
use mathlib.Core.List.{map}
use Rattle.wing_node.specs.Utf8.{holds, begins, first_that, char_length, good_from, good, utf8}
use Rattle.wing_node.specs.Digits.{digits_in, number_in, number_from}
use Rattle.wing_wire.specs.Token.{rule_in, rule_of, width_of}
use Rattle.wing_wire.specs.State.{zeros, sound_pending, sound_escape, underway, sound_number, sound_string, sound_body, sound_counts, stored_by, sound_token, sound_state, fresh_state}
use Rattle.wing_wire.specs.Escape.{other_of, escaped_of, plain_of, decode_of}
use Rattle.wing_wire.specs.Unit.{single_of, is_string, token_of, begin_of, count_of, long_count_of, number_of, number_unit, string_done, string_unit, keeps, body_done, body_next, body_unit, unit_of}
use Rattle.wing_wire.specs.Stream.{settle_of, first_of, follow_of, run_of, advance_of}
use Rattle.wing_wire.specs.Reader.{event_of, string_beside, body_beside, next_of}
use Rattle.wing_wire.specs.Units.{units_of}
use Rattle.wing_wire.specs.Cases.{Case, units_are, channel_is, reads, reads_at, reads_in, state_is, set_writes, set_ends, packet_reads, cases}
use Rattle.wing_wire.specs.Write.{escaped}
use Rattle.wing_wire.specs.Answers.{event_at, answer_result, reply_result}
use Rattle.wing_wire.specs.Command.{integer_bytes, value_bytes, id_bytes, set_bytes, request_bytes}
use Rattle.wing_wire.specs.Meter.{item_of, item_bytes, meters_bytes, request_head, meter_request, keep_alive, keep_alives, readings, packet_of}

-- what the definitions give in every case is what 01 wants
pub worked : map (λ (c : Case). c.got) cases ≡ map (λ (c : Case). c.wanted) cases
unfolding cases units_are channel_is reads reads_at reads_in state_is set_writes set_ends packet_reads reply_result answer_result event_at request_bytes meter_request request_head meters_bytes item_bytes item_of keep_alives keep_alive set_bytes id_bytes value_bytes integer_bytes escaped digits_in packet_of readings number_in number_from units_of next_of event_of string_beside body_beside advance_of run_of follow_of first_of settle_of unit_of body_unit body_next body_done keeps string_unit string_done number_unit number_of count_of long_count_of begin_of token_of is_string single_of decode_of plain_of escaped_of other_of fresh_state sound_state sound_token underway sound_number sound_string sound_body sound_counts stored_by sound_escape sound_pending zeros width_of rule_of rule_in utf8 good_from good char_length first_that begins holds
worked = refl

-- The worked cases, one joint proof: the whole table is computed at once.
use mathlib.Core.Path.{◌≡◌, refl}
use mathlib.Core.List.{map}
use Rattle.wing_node.specs.Bytes.{joined}
use Rattle.wing_node.specs.Utf8.{holds, begins, first_that, char_length, good_from, good, utf8}
use Rattle.wing_node.specs.Digits.{digits_in, number_in, number_from}
use Rattle.wing_node.specs.Types.{type_of, unit_of as unit_in}
use Rattle.wing_node.specs.Cursor.{size, content, right, held_fault, fault, value_of, content_at, read_at, reads, after}
use Rattle.wing_node.specs.Definition.{times, item_at, details_at, listed_at, definition_of}
use Rattle.wing_wire.specs.Token.{rule_in, rule_of, width_of}
use Rattle.wing_wire.specs.State.{zeros, sound_pending, sound_escape, sound_counts, stored_by, sound_token, sound_state, fresh_state}
use Rattle.wing_wire.specs.Escape.{other_of, escaped_of, plain_of, decode_of}
use Rattle.wing_wire.specs.Unit.{single_of, is_string, token_of, begin_of, count_of, long_count_of, number_of, number_unit, string_done, string_unit, keeps, body_done, body_next, body_unit, unit_of}
use Rattle.wing_wire.specs.Stream.{settle_of, first_of, follow_of, fed_from, feed_of}
use Rattle.wing_wire.specs.Reader.{event_of}
use Rattle.wing_wire.specs.Write.{escaped}
use Rattle.wing_wire.specs.Command.{integer_bytes, float_bytes, length_bytes, string_bytes, value_bytes, id_bytes, set_bytes}
use Rattle.wing_mirror.specs.Rows.{records, laid, holds as has_key_lem, below, over, rising, insert, takes as takes-record, store}
use Rattle.wing_mirror.specs.Origin.{origin_number, origin_of}
use Rattle.wing_mirror.specs.Record.{kind_of, payload_of, record_of, key_of, value_in, entry_in, string_kept, well_kept, well_formed}
use Rattle.wing_mirror.specs.Table.{every, places_allowed, checked_of, sound_of, usable_of, put, fits}
use Rattle.wing_mirror.specs.Counts.{mark_number, one, refusal_mark, body_mark}
use Rattle.wing_mirror.specs.Call.{too_long, not_text, run_all}
use Rattle.wing_mirror.specs.Mirror.{keep_event, fed_all, mirror_feed, mirror_set}
use Rattle.wing_mirror.specs.Machine.{decode_all, has, put_in, room, machine_event, machine_events, machine_step}
use Rattle.wing_mirror.specs.Recall.{recall_bytes}
use Rattle.wing_mirror.specs.History.{mirror_step}
use Rattle.wing_mirror.specs.Cases.{Case, counts, come_out, leaves, lays, recalls, takes, cases}

-- what the definitions give in every case is what is wanted
pub worked : map (λ (c : Case). c.got) cases ≡ map (λ (c : Case). c.wanted) cases
unfolding cases counts come_out leaves lays recalls takes recall_bytes mirror_step mirror_set mirror_feed fed_all keep_event run_all machine_step machine_events machine_event room put_in has decode_all too_long not_text mark_number one refusal_mark body_mark every places_allowed checked_of sound_of usable_of put fits kind_of payload_of record_of key_of value_in entry_in string_kept well_kept well_formed origin_number origin_of records laid has_key_lem below over rising insert takes-record store set_bytes id_bytes value_bytes integer_bytes float_bytes length_bytes string_bytes escaped event_of feed_of fed_from follow_of first_of settle_of unit_of body_unit body_next body_done keeps string_unit string_done number_unit number_of count_of long_count_of begin_of token_of is_string single_of decode_of plain_of escaped_of other_of fresh_state sound_state sound_token sound_counts stored_by sound_escape sound_pending zeros width_of rule_of rule_in definition_of listed_at details_at item_at times after reads read_at content_at value_of fault held_fault right content size unit_in type_of utf8 good_from good char_length first_that begins holds digits_in number_in number_from joined
worked = refl

-- The bytes before the store, written out for some controls, one table: the order of the fields and the width of each, byte for byte; and the same of
-- version 1, for two.
-- Then the same of old states, which version 1 has, with the number of every class.
use Rattle.std.specs.Prelude.{ℕ, true, false, List, [], ◌∷◌, ◌++◌, pos, negsuc, take, drop, replicate, None, Some}
use Rattle.wing_wire.specs.State.{escape, control, fresh_control}
use Rattle.wing_wire.specs.Earlier.{earlier_control, earlier_state, earlier_fresh}
use Rattle.wing_wire.specs.declared.token.Class.{Class}
use Rattle.wing_wire.specs.declared.token.Class.TheVariants.{NoEvent, Integer, String as AString, Length, Int16, Int32, Float, Node, End, Count, LongCount}
use Rattle.wing_wire.specs.declared.state.Token.TheVariants.{Number, Body}
use Rattle.wing_wire.specs.declared.state.Control.{Control}
use Rattle.wing_wire.specs.declared.earlier.Token.TheVariants.{Number as number, String as string, Body as body}
use Rattle.wing_wire.specs.declared.earlier.Control.{Control as EarlierControl}
use Rattle.wing_saved.specs.Saved.{head_under, head_bytes}
use Rattle.wing_saved.specs.Earlier.{earlier_version, earlier_bytes}

-- what the definitions give, and what is wanted
pub record Case : Type 0 where
  pub got : List ℕ
  pub wanted : List ℕ

-- the bytes of a control, and those wanted
unfoldable pub head_is : Control → List ℕ → Case
head_is c bytes = record { got = head_bytes c; wanted = bytes }

-- the same under version 1
unfoldable pub earlier_head_is : Control → List ℕ → Case
earlier_head_is c bytes = record { got = head_under earlier_version c; wanted = bytes }

-- the same of an old control, with no store after it
unfoldable pub old_head_is : EarlierControl → List ℕ → Case
old_head_is c bytes = record { got = earlier_bytes (earlier_state c []); wanted = bytes }

-- the kind and the class in the bytes of an old number of a class: 01, and the class's number
unfoldable pub class_is : Class → ℕ → Case
class_is k n = record { got = take 2 (drop 9 (earlier_bytes (earlier_state (earlier_control earlier_fresh.control.escape (pos 0) (number k 1 0)) []))); wanted = 1 ∷ n ∷ [] }

-- node −2, channel 2, the byte 41 pending, in the middle of a body of 70,000: 65,800 are left, none stored
abbrev pub in_body : Control
in_body = control (escape false (pos 2) (Some 0x41)) (negsuc 1) (Body 0 70000 65800)

-- the same of a body of 300: 200 are left, 7 stored
abbrev pub in_short_body : Control
in_short_body = control (escape false (pos 2) (Some 0x41)) (negsuc 1) (Body 7 300 200)

-- node 0, channel −1, after a count 0: the four units of the long count are left
abbrev pub in_long_count : Control
in_long_count = control (escape false (negsuc 0) None) (pos 0) (Number LongCount 4 0)

-- an old state in that shorter body
abbrev pub in_old_body : EarlierControl
in_old_body = earlier_control (escape false (pos 2) (Some 0x41)) (negsuc 1) (body 300 200 7)

-- an old state at node 7, channel 0, after an escape byte, in a string of 5: 2 are left
abbrev pub in_old_string : EarlierControl
in_old_string = earlier_control (escape true (pos 0) None) (pos 7) (string 5 2)

-- an old state at node 0, channel −1, after a count 0: the four units of the long count are left
abbrev pub in_old_long_count : EarlierControl
in_old_long_count = earlier_control (escape false (negsuc 0) None) (pos 0) (number LongCount 4 0)

-- node 7, channel −1, after an escape byte, in the middle of a number of four units: two are left, those read are 01 02
abbrev pub in_number : Control
in_number = control (escape true (negsuc 0) None) (pos 7) (Number Int32 2 0x0102)

-- version, escaped, channel, pending, which; node; kind, class; wanted; left; stored; value
unfoldable pub cases : List Case
cases =
    -- a fresh control: 02 00 ff 00 00, node 0, between tokens; 27 bytes
    head_is fresh_control (0x02 ∷ 0x00 ∷ 0xff ∷ replicate 24 0x00) ∷
    -- in a body: 02 00 02 01 41, ff ff ff fe, 03 00, 00 01 11 70, 00 01 01 08, 00 00 00 00, 00 00 00 00
    head_is in_body
    ((0x02 ∷ 0x00 ∷ 0x02 ∷ 0x01 ∷ 0x41 ∷ []) ++ ((0xff ∷ 0xff ∷ 0xff ∷ 0xfe ∷ []) ++ ((0x03 ∷ 0x00 ∷ []) ++ ((0x00 ∷ 0x01 ∷ 0x11 ∷ 0x70 ∷ []) ++
    ((0x00 ∷ 0x01 ∷ 0x01 ∷ 0x08 ∷ []) ++ ((0x00 ∷ 0x00 ∷ 0x00 ∷ 0x00 ∷ []) ++ (0x00 ∷ 0x00 ∷ 0x00 ∷ 0x00 ∷ []))))))) ∷
    -- in a shorter body: 02 00 02 01 41, ff ff ff fe, 03 00, 00 00 01 2c, 00 00 00 c8, 00 00 00 07, 00 00 00 00
    head_is in_short_body
    ((0x02 ∷ 0x00 ∷ 0x02 ∷ 0x01 ∷ 0x41 ∷ []) ++ ((0xff ∷ 0xff ∷ 0xff ∷ 0xfe ∷ []) ++ ((0x03 ∷ 0x00 ∷ []) ++ ((0x00 ∷ 0x00 ∷ 0x01 ∷ 0x2c ∷ []) ++
    ((0x00 ∷ 0x00 ∷ 0x00 ∷ 0xc8 ∷ []) ++ ((0x00 ∷ 0x00 ∷ 0x00 ∷ 0x07 ∷ []) ++ (0x00 ∷ 0x00 ∷ 0x00 ∷ 0x00 ∷ []))))))) ∷
    -- in a number: 02 01 ff 00 00, 00 00 00 07, 01 05, 00 00 00 00, 00 00 00 02, 00 00 00 00, 00 00 01 02
    head_is in_number
    ((0x02 ∷ 0x01 ∷ 0xff ∷ 0x00 ∷ 0x00 ∷ []) ++ ((0x00 ∷ 0x00 ∷ 0x00 ∷ 0x07 ∷ []) ++ ((0x01 ∷ 0x05 ∷ []) ++ ((0x00 ∷ 0x00 ∷ 0x00 ∷ 0x00 ∷ []) ++
    ((0x00 ∷ 0x00 ∷ 0x00 ∷ 0x02 ∷ []) ++ ((0x00 ∷ 0x00 ∷ 0x00 ∷ 0x00 ∷ []) ++ (0x00 ∷ 0x00 ∷ 0x01 ∷ 0x02 ∷ []))))))) ∷
    -- in a shorter body, under version 1: 01 00 02 01 41, ff ff ff fe, 03 00, 00 00 01 2c, 00 00 00 c8, 00 00 00 07, 00 00 00 00
    earlier_head_is in_short_body
    ((0x01 ∷ 0x00 ∷ 0x02 ∷ 0x01 ∷ 0x41 ∷ []) ++ ((0xff ∷ 0xff ∷ 0xff ∷ 0xfe ∷ []) ++ ((0x03 ∷ 0x00 ∷ []) ++ ((0x00 ∷ 0x00 ∷ 0x01 ∷ 0x2c ∷ []) ++
    ((0x00 ∷ 0x00 ∷ 0x00 ∷ 0xc8 ∷ []) ++ ((0x00 ∷ 0x00 ∷ 0x00 ∷ 0x07 ∷ []) ++ (0x00 ∷ 0x00 ∷ 0x00 ∷ 0x00 ∷ []))))))) ∷
    -- after a count 0, under version 1: 01 00 ff 00 00, 00 00 00 00, 01 0a, 00 00 00 00, 00 00 00 04, 00 00 00 00, 00 00 00 00
    earlier_head_is in_long_count
    ((0x01 ∷ 0x00 ∷ 0xff ∷ 0x00 ∷ 0x00 ∷ []) ++ ((0x00 ∷ 0x00 ∷ 0x00 ∷ 0x00 ∷ []) ++ ((0x01 ∷ 0x0a ∷ []) ++ ((0x00 ∷ 0x00 ∷ 0x00 ∷ 0x00 ∷ []) ++
    ((0x00 ∷ 0x00 ∷ 0x00 ∷ 0x04 ∷ []) ++ ((0x00 ∷ 0x00 ∷ 0x00 ∷ 0x00 ∷ []) ++ (0x00 ∷ 0x00 ∷ 0x00 ∷ 0x00 ∷ []))))))) ∷
    -- an old fresh control: 01 00 ff 00 00, node 0, between tokens; 27 bytes
    old_head_is earlier_fresh.control (0x01 ∷ 0x00 ∷ 0xff ∷ replicate 24 0x00) ∷
    -- an old state in a shorter body, under version 1: 01 00 02 01 41, ff ff ff fe, 03 00, 00 00 01 2c, 00 00 00 c8, 00 00 00 07, 00 00 00 00
    old_head_is in_old_body
    ((0x01 ∷ 0x00 ∷ 0x02 ∷ 0x01 ∷ 0x41 ∷ []) ++ ((0xff ∷ 0xff ∷ 0xff ∷ 0xfe ∷ []) ++ ((0x03 ∷ 0x00 ∷ []) ++ ((0x00 ∷ 0x00 ∷ 0x01 ∷ 0x2c ∷ []) ++
    ((0x00 ∷ 0x00 ∷ 0x00 ∷ 0xc8 ∷ []) ++ ((0x00 ∷ 0x00 ∷ 0x00 ∷ 0x07 ∷ []) ++ (0x00 ∷ 0x00 ∷ 0x00 ∷ 0x00 ∷ []))))))) ∷
    -- an old state in a string, under version 1: 01 01 00 00 00, 00 00 00 07, 02 00, 00 00 00 05, 00 00 00 02, 00 00 00 00, 00 00 00 00
    old_head_is in_old_string
    ((0x01 ∷ 0x01 ∷ 0x00 ∷ 0x00 ∷ 0x00 ∷ []) ++ ((0x00 ∷ 0x00 ∷ 0x00 ∷ 0x07 ∷ []) ++ ((0x02 ∷ 0x00 ∷ []) ++ ((0x00 ∷ 0x00 ∷ 0x00 ∷ 0x05 ∷ []) ++
    ((0x00 ∷ 0x00 ∷ 0x00 ∷ 0x02 ∷ []) ++ ((0x00 ∷ 0x00 ∷ 0x00 ∷ 0x00 ∷ []) ++ (0x00 ∷ 0x00 ∷ 0x00 ∷ 0x00 ∷ []))))))) ∷
    -- an old state after a count 0, under version 1: 01 00 ff 00 00, 00 00 00 00, 01 0a, 00 00 00 00, 00 00 00 04, 00 00 00 00, 00 00 00 00
    old_head_is in_old_long_count
    ((0x01 ∷ 0x00 ∷ 0xff ∷ 0x00 ∷ 0x00 ∷ []) ++ ((0x00 ∷ 0x00 ∷ 0x00 ∷ 0x00 ∷ []) ++ ((0x01 ∷ 0x0a ∷ []) ++ ((0x00 ∷ 0x00 ∷ 0x00 ∷ 0x00 ∷ []) ++
    ((0x00 ∷ 0x00 ∷ 0x00 ∷ 0x04 ∷ []) ++ ((0x00 ∷ 0x00 ∷ 0x00 ∷ 0x00 ∷ []) ++ (0x00 ∷ 0x00 ∷ 0x00 ∷ 0x00 ∷ []))))))) ∷
    -- the classes, under version 1, by their numbers
    class_is NoEvent 0 ∷
    class_is Integer 1 ∷
    class_is AString 2 ∷
    class_is Length 3 ∷
    class_is Int16 4 ∷
    class_is Int32 5 ∷
    class_is Float 6 ∷
    class_is Node 7 ∷
    class_is End 8 ∷
    class_is Count 9 ∷
    class_is LongCount 10 ∷ []

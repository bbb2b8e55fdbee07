-- What a field at a cursor gives, case by case: at any width, and for a string.
use mathlib.Core.Path.{◌≡◌}
use mathlib.Core.Bool.{true, false}
use mathlib.Core.List.{List}
use Prim.Native.Nat.{ℕ, ◌+◌, ◌-◌, ◌≤◌, ◌<◌}
use native.Mathlib.Omega.{arith}
use lib.Dec.{ltb}
use lib.ListN.{length, take, drop, get_or, length-drop}
use lib.Seq.{get_or-drop, drop-drop, length-take-le}
use borrow.Author.Tests.{lt-ltb, le-ltb, eq-eqb, ne_eqb}
use Rattle.wing_node.specs.Refusal.{no_fault, because, is_refused}
use Rattle.wing_node.specs.Utf8.{good, utf8}
use Rattle.wing_node.specs.Cursor.{Cursor, Field, string, size, content, held_fault, right, fault, value_of, content_at, stopped, cursor, from, field_read, nothing, read_at}
use Rattle.wing_node.specs.declared.refusal.Refusal.TheVariants.{DefinitionNotUtf8, DefinitionShort}
use Rattle.wing_node.proofs.Characters.Grammar.{good-le}

pub first_byte : (s : List ℕ) (i : ℕ) → get_or (drop i s) 0 0 ≡ get_or s i 0
first_byte s i = let e : i + 0 ≡ i = omega arith in rw (get_or-drop, e)

module _ (f : Field) (body : List ℕ) (c : Cursor) where
  pub read-refused : is_refused c.fault ≡ true → read_at f body c ≡ nothing c
  unfolding read_at
  read-refused h = rw h

  module _ (not-refused : is_refused c.fault ≡ false) where
    pub read_short : length body - c.at < size f (from body c) → read_at f body c ≡ nothing (stopped c (because DefinitionShort))
    unfolding read_at fault
    read_short h = rw (not-refused, length-drop, lt-ltb _ _ h)

    pub read-there : size f (from body c) ≤ length body - c.at → right f (from body c) ≡ true →
        read_at f body c ≡ field_read (value_of f (from body c)) (content_at f c.at) (cursor (c.at + size f (from body c)) no_fault)
    unfolding read_at fault held_fault
    read-there fits r = rw (not-refused, length-drop, le-ltb _ _ fits, r)

-- a string, by its length byte in the body
module _ (body : List ℕ) (c : Cursor) (not-refused : is_refused c.fault ≡ false) where
  pub string-short : length body - c.at < 1 + get_or body c.at 0 → read_at string body c ≡ nothing (stopped c (because DefinitionShort))
  unfolding size
  string-short h = read_short string body c not-refused (rw first_byte h)

  -- its bytes are there, and so many of them are good
  module _ (fits : get_or body c.at 0 ≤ length body - c.at - 1) (some : 1 ≤ length body - c.at) (g : ℕ) (eg : g ≡ good (take (get_or body c.at 0) (drop (c.at + 1) body))) where
    abbrev text : List ℕ
    text = take (get_or body c.at 0) (drop (c.at + 1) body)

    here : content string (from body c) ≡ text
    unfolding content
    here = rw (first_byte, drop-drop)

    long : length text ≡ get_or body c.at 0
    long = length-take-le (get_or body c.at 0) (drop (c.at + 1) body) (omega (arith, length-drop (c.at + 1) body))

    whole : ltb (length (from body c)) (size string (from body c)) ≡ false
    unfolding size
    whole =
        let there : 1 + get_or body c.at 0 ≤ length body - c.at = omega arith in
        rw (length-drop, first_byte) (le-ltb _ _ there)

    pub string-wrong : g < get_or body c.at 0 → read_at string body c ≡ nothing (stopped c (because (DefinitionNotUtf8 g)))
    unfolding read_at fault held_fault right utf8
    string-wrong l = rw (not-refused, whole, here, ne_eqb (good text) (length text) (λ e. omega (arith, long)), ← eg)

    pub string-right : get_or body c.at 0 ≤ g → read_at string body c ≡ field_read (get_or body c.at 0) (c.at + 1) (cursor (c.at + 1 + get_or body c.at 0) no_fault)
    unfolding read_at fault held_fault right utf8 size value_of content_at
    string-right l =
        let k : c.at + (1 + get_or body c.at 0) ≡ c.at + 1 + get_or body c.at 0 = omega arith in
        let all : good text ≡ length text = omega (arith, long, good-le text) in
        rw (not-refused, whole, here, eq-eqb (good text) (length text) all, first_byte, k)

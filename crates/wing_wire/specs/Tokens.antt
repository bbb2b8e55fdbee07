-- Demand 1 on the wire: whole tokens. 01's table of tokens and its lines for 1, 2 and 3, with 02's rule for counts, row by row; what the units of a token come to;
-- and every stream of units is such tokens.
use Rattle.std.specs.Prelude.{ℕ, ◌+◌, ◌-◌, ◌≤◌, ◌<◌, Bool, ◌≡◌, List, [], ◌∷◌, ◌++◌, ◌⊎◌, ℤ, pos, length, take, replicate}
use Rattle.wing_node.specs.Bool.{if}
use Rattle.wing_node.specs.Field.{big}
use Rattle.wing_node.specs.Signed.{signed}
use Rattle.wing_node.specs.Utf8.{utf8}
use Rattle.wing_node.specs.Value.{integer, float, string}
use Rattle.wing_node.specs.Refusal.{string_not_utf8}
use Rattle.wing_wire.specs.State.{body_limit, control}
use Rattle.wing_wire.specs.Stream.{Fed, feed_of}
use Rattle.wing_wire.specs.Reader.{Event, value, body, end, refused, event_of}
use Rattle.wing_wire.specs.Range.{AreBytes, PendingByte}
use Rattle.wing_wire.specs.Units.{StreamUnit, stream_unit, units_of, with_escape, units_taken}
use Rattle.wing_wire.specs.declared.state.Escape.{Escape}
use Rattle.wing_wire.specs.declared.state.Token.TheVariants.{Between}
use Rattle.wing_wire.specs.declared.unit.Answer.{Answer}
use Rattle.wing_node.specs.declared.refusal.Refusal.TheVariants.{BodyEmpty, BodyLong}

-- a store with nothing in it: 4,096 zeros
unfoldable pub empty_store : List ℕ
empty_store = replicate body_limit 0

-- the values of units
abbrev pub values : List StreamUnit → List ℕ
values [] = []
values (g ∷ gs) = g.unit ∷ values gs

-- 01: a body is what its units append
abbrev pub appended : List StreamUnit → List ℕ
appended [] = []
appended (g ∷ gs) = if g.appended (g.unit ∷ appended gs) (appended gs)

-- n units, each a byte, appended or not
pub record Further (n : ℕ) (us : List StreamUnit) : Type 0 where
  pub number : length us ≡ n
  pub bytes : AreBytes (values us)

-- a first unit of a row from a to b
abbrev pub From : ℕ → ℕ → ℕ → Type 0
From a b t = (a ≤ t) × (t ≤ b)

-- 02: the count in force: a 16-bit count, or after count 0 the 32-bit count that follows it
pub data InForce : List StreamUnit → ℕ → Type 0 where
  short : (c : List StreamUnit) → Further 2 c → 1 ≤ big (values c) → InForce c (big (values c))
  long : (z c : List StreamUnit) → Further 2 z → big (values z) ≡ 0 → Further 4 c → InForce (z ++ c) (big (values c))

-- 01: 40–7f, d8, da–dd, e0–ff
abbrev pub Rest : ℕ → Type 0
Rest t = From 0x40 0x7f t ⊎ (From 0xd8 0xd8 t ⊎ (From 0xda 0xdd t ⊎ From 0xe0 0xff t))

-- what a token gives when its last unit comes
pub data TokenResult : Type 0 where
  -- an event or a refusal, at the node that was current
  event : Event → TokenResult
  -- no event
  nothing : TokenResult
  -- a new current node, and no event
  new_node : ℤ → TokenResult

-- 01: strings are UTF-8; one that is not is 1
abbrev pub string_of : List ℕ → TokenResult
string_of s = if (utf8 s) (event (value (string s))) (event (refused (string_not_utf8 s)))

-- 01's table: the units of one token, and what it gives when its last unit comes. t is the first unit, a whether it is appended, and
-- us are the units that the row wants after it
pub data InTable : List StreamUnit → TokenResult → Type 0 where
  -- 00–3f: integer t
  integer_t : (t : ℕ) (a : Bool) → From 0x00 0x3f t → InTable (stream_unit t a ∷ []) (event (value (integer (pos t))))
  -- 80–bf: string of t − 80 + 1 units
  string_80 : (t : ℕ) (a : Bool) (us : List StreamUnit) → From 0x80 0xbf t → Further (t - 0x80 + 1) us → InTable (stream_unit t a ∷ us) (string_of (values us))
  -- c0–cf: string of t − c0 + 1 units
  string_c0 : (t : ℕ) (a : Bool) (us : List StreamUnit) → From 0xc0 0xcf t → Further (t - 0xc0 + 1) us → InTable (stream_unit t a ∷ us) (string_of (values us))
  -- d0: empty string
  string_d0 : (a : Bool) → InTable (stream_unit 0xd0 a ∷ []) (event (value (string [])))
  -- d1: length n, then string of n + 1
  string_d1 : (n : ℕ) (a b : Bool) (us : List StreamUnit) → n < 256 → Further (n + 1) us → InTable (stream_unit 0xd1 a ∷ stream_unit n b ∷ us) (string_of (values us))
  -- d3, d4: signed 16, 32 bits: integer
  integer_16 : (a : Bool) (us : List StreamUnit) → Further 2 us → InTable (stream_unit 0xd3 a ∷ us) (event (value (integer (signed 15 (big (values us))))))
  integer_32 : (a : Bool) (us : List StreamUnit) → Further 4 us → InTable (stream_unit 0xd4 a ∷ us) (event (value (integer (signed 31 (big (values us))))))
  -- d5, d6: 32 float bits
  float_bits : (t : ℕ) (a : Bool) (us : List StreamUnit) → From 0xd5 0xd6 t → Further 4 us → InTable (stream_unit t a ∷ us) (event (value (float (big (values us)))))
  -- d7: 32 bits: new current node, no event
  new_node_d7 : (a : Bool) (us : List StreamUnit) → Further 4 us → InTable (stream_unit 0xd7 a ∷ us) (new_node (signed 31 (big (values us))))
  -- d2, d9: two units, one unit, no event
  skips_two : (a : Bool) (us : List StreamUnit) → Further 2 us → InTable (stream_unit 0xd2 a ∷ us) nothing
  skips_one : (a : Bool) (us : List StreamUnit) → Further 1 us → InTable (stream_unit 0xd9 a ∷ us) nothing
  -- de: end
  end_unit : (a : Bool) → InTable (stream_unit 0xde a ∷ []) (event end)
  -- df: count n, then n units; body is what they append. c are the units of the count
  bodies : (a : Bool) (c us : List StreamUnit) (n : ℕ) → InForce c n → 1 ≤ n → n ≤ body_limit → Further n us →
      InTable (stream_unit 0xdf a ∷ (c ++ us)) (event (body (appended us)))
  -- count over 4,096 reads all n units, then answers 2
  count_over : (a : Bool) (c us : List StreamUnit) (n : ℕ) → InForce c n → body_limit < n → Further n us →
      InTable (stream_unit 0xdf a ∷ (c ++ us)) (event (refused BodyLong))
  -- 02: 3 means that both counts are 0
  counts_zero : (a : Bool) (c : List StreamUnit) → InForce c 0 → InTable (stream_unit 0xdf a ∷ c) (event (refused BodyEmpty))
  -- 40–7f, d8, da–dd, e0–ff: no event
  no_event : (t : ℕ) (a : Bool) → Rest t → InTable (stream_unit t a ∷ []) nothing

-- units cut into tokens of the table, with what these give in order
pub data Cut : List StreamUnit → List TokenResult → Type 0 where
  -- a token, and what comes after it
  token : (us more : List StreamUnit) (g : TokenResult) (gs : List TokenResult) → InTable us g → Cut more gs → Cut (us ++ more) (g ∷ gs)
  -- at the end, the units so far of a token that wants more: u and what follows it have not come
  waits : (us more : List StreamUnit) (u : StreamUnit) (g : TokenResult) → InTable (us ++ (u ∷ more)) g → Cut us []

-- a cut of units, and what it gives
pub record CutOf (us : List StreamUnit) : Type 0 where
  pub results : List TokenResult
  pub cut : Cut us results

-- the current node after tokens: the last new one
abbrev pub node_after : ℤ → List TokenResult → ℤ
node_after node [] = node
node_after node (event x ∷ gs) = node_after node gs
node_after node (nothing ∷ gs) = node_after node gs
node_after node (new_node id ∷ gs) = node_after id gs

-- for a handler of events
module _ {M : Type 0} (h : ℤ → Event → M → M) where
  -- units through every answer: each event or refusal is handed on, with the node that is current
  abbrev pub through : Fed M → List StreamUnit → Fed M
  through x us = units_taken (λ node a s m. h node (event_of a s s) m) x us

  -- between tokens with an empty store
  abbrev pub between : Escape → ℤ → M → Fed M
  between e node m = record { control = control e node Between; store = empty_store; memo = m }

  -- between tokens again, with the same escapes: what is given was handed on once at the node that was current, or there is a new node
  abbrev pub after : Escape → ℤ → M → TokenResult → Fed M
  after e node m (event x) = between e node (h node x m)
  after e node m nothing = between e node m
  after e node m (new_node id) = between e id m

  -- a decoder with these escapes, at this node, whose handler has made m so far
  pub record Holds (e : Escape) (id : ℤ) (m : M) (x : Fed M) : Type 0 where
    pub memo : x.memo ≡ m
    pub node : x.control.node ≡ id
    pub escape : x.control.escape ≡ e

  -- the units of one token, from between tokens with an empty store, at any node and with any escapes
  pub record Token (us : List StreamUnit) (g : TokenResult) : Type 0 where
    -- after every front of the units that is not all of them nothing is handed on, and the node and the escapes are what they were
    pub before : (e : Escape) (node : ℤ) (m : M) (n : ℕ) → n < length us → Holds e node m (through (between e node m) (take n us))
    -- with the last unit comes what the token gives
    pub last : (e : Escape) (node : ℤ) (m : M) → through (between e node m) us ≡ after e node m g

  -- what tokens give one after the other, each event or refusal handed on at the node that is current
  abbrev pub handed_on : ℤ → M → List TokenResult → M
  handed_on node m [] = m
  handed_on node m (event x ∷ gs) = handed_on node (h node x m) gs
  handed_on node m (nothing ∷ gs) = handed_on node m gs
  handed_on node m (new_node id ∷ gs) = handed_on id m gs

  -- what a feed of bytes makes: the units of the bytes are cut into tokens, and what these give is handed on
  pub record Read (e : Escape) (id : ℤ) (m : M) (bytes : List ℕ) : Type 0 where
    pub results : List TokenResult
    pub cut : Cut (units_of e bytes).units results
    pub fed : Holds (units_of e bytes).escape (node_after id results) (handed_on id m results) (feed_of (λ node a s m. h node (event_of a s s) m) (between e id m) bytes)

  -- what is said of tokens
  pub record Tokens : Type 0 where
    -- every token of the table is taken as a whole and gives what its row says: 1 for a string that is not UTF-8, 2 for a count in force over
    -- 4,096 and 3 where both counts are 0, each when the last unit comes and with the node as it was
    pub row : (us : List StreamUnit) (g : TokenResult) → InTable us g → Token us g
    -- whatever units come, they can be cut into tokens of the table: no unit is outside it
    pub cut : (us : List StreamUnit) → AreBytes (values us) → CutOf us
    -- units that are cut into tokens hand on what these give, in order and nothing else: so 1, 2 and 3 come for no other cause
    pub stream : (us : List StreamUnit) (gs : List TokenResult) → Cut us gs → (e : Escape) (node : ℤ) (m : M) →
        Holds e (node_after node gs) (handed_on node m gs) (through (between e node m) us)
    -- and so it is with a feed of any bytes
    pub feed : (e : Escape) (node : ℤ) (m : M) (bytes : List ℕ) → PendingByte e.pending → AreBytes bytes → Read e node m bytes

-- for a handler of answers: a feed takes exactly the units of its bytes, and its escapes are those after them
abbrev pub TakesUnits : {M : Type 0} → (ℤ → Answer → List ℕ → M → M) → Type 0
TakesUnits {M} f = (x : Fed M) (bytes : List ℕ) →
    feed_of f x bytes ≡ with_escape (units_of x.control.escape bytes).escape (units_taken f x (units_of x.control.escape bytes).units)

-- the units of bytes are bytes
abbrev pub UnitsAreBytes : Type 0
UnitsAreBytes = (e : Escape) (bytes : List ℕ) → PendingByte e.pending → AreBytes bytes → AreBytes (values (units_of e bytes).units)

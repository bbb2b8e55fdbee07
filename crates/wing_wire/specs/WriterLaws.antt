-- What a user of the writers may rely on besides the contracts: how bytes are laid into a lent output, and how long a set order is.
use Rattle.std.specs.Prelude.{ℕ, ◌+◌, ◌-◌, ◌≤◌, ◌<◌, true, ◌≡◌, List, ◌++◌, ℤ, length, take, drop, Ok, Err}
use Rattle.std.proofs.lemmas.List.Edits.{sets}
use borrow.Rule.Slice.PartMut.{put_mid}
use Rattle.wing_node.specs.Utf8.{utf8}
use Rattle.wing_node.specs.Value.{integer, float, string}
use Rattle.wing_wire.specs.Write.{Laid, write_effect, write_of}
use Rattle.wing_wire.specs.Command.{set_bytes, set_string}
use Rattle.wing_node.specs.declared.refusal.Refusal.TheVariants.{OutputShort}

-- what a user of the writers may rely on
pub record WriterLaws : Type 0 where
  -- bytes laid from the front of an output that has room for them are what a call leaves that writes them
  pub whole : {s d e : List ℕ} {n : ℕ} → Laid s 0 d e n → length s ≤ length d → write_effect (Ok n) e ≡ write_of s d
  -- 01: output too short for the whole: 9, as it was
  pub short : (s d : List ℕ) → length d < length s → write_effect (Err OutputShort) d ≡ write_of s d
  -- bytes laid where others end are laid with them
  pub after : {s d e : List ℕ} {at n : ℕ} → Laid s at d e n → (t : List ℕ) → sets e n t ≡ sets d at (s ++ t)
  -- 01: each command goes into the part of the lent buffer after the last one: what is laid into that part is laid into the buffer at its place
  pub part : {s d e : List ℕ} {n : ℕ} (a : ℕ) → Laid s 0 (take (length d - a) (drop a d)) e n → Laid s a d (put_mid a (length d - a) d e) (a + n)
  -- a string of at most 256 bytes that is UTF-8 meets neither 10 nor 1
  pub accepted : (id : ℤ) (s out : List ℕ) → length s ≤ 256 → utf8 s ≡ true → write_of (set_bytes id (string s)) out ≡ set_string id s out
  -- a set order of an integer has at most 18 bytes
  pub integer_size : (id x : ℤ) → length (set_bytes id (integer x)) ≤ 18
  -- that of a float too
  pub float_size : (id : ℤ) (bits : ℕ) → length (set_bytes id (float bits)) ≤ 18
  -- that of a string at most 395
  pub string_size : (id : ℤ) (s : List ℕ) → length s ≤ 256 → utf8 s ≡ true → length (set_bytes id (string s)) ≤ 395

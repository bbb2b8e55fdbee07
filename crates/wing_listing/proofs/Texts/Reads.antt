-- What the code reads of a line, by the place of its first comma.
use Prim.Native.Nat.{ℕ, ◌+◌, ◌≤◌, ◌<◌}
use mathlib.Core.Bool.{true, false}
use mathlib.Core.Path.{◌≡◌, sym, ap, ◌∙◌}
use native.Mathlib.Omega.{arith}
use mathlib.Core.List.{List}
use mir.Syntax.{w32}
use mir.Val.{to_z, of_z}
use lib.IntN.{ℤ}
use lib.ListN.{length, get_or, take, drop}
use Rattle.wing_node.specs.Decimal.{integer_of}
use Rattle.wing_listing.specs.Parts.{comma, part}
use Rattle.wing_listing.specs.Integers.{first, is_integer}
use Rattle.wing_listing.specs.Reading.{is_value, is_line, id_said}
use Rattle.wing_listing.specs.Steps.{integer_read, LineSays}
use Rattle.std.proofs.Common.{Option, Some, None}
use Rattle.std.specs.Option.{is_some}
use Rattle.wing_listing.proofs.Texts.Parts.{front-take}
use Rattle.wing_listing.proofs.Texts.Values.{read-formed, read_is, read-passed, integer-passed}
use Rattle.wing_listing.proofs.Texts.Lines.{formed-id, line-id, line-short, line-off, line-value, line-fields}

module _ (s : List ℕ) (a : ℕ) (f : a ≡ length (part comma 0 s)) (o : Option ℤ) (i : o ≡ integer_read (take a s)) where
  same : o ≡ integer_read (part comma 0 s)
  same = i ∙ ap integer_read (ap (λ n. take n s) f ∙ sym (front-take comma s))

  pub says-no-id : o ≡ None → is_line s ≡ false
  says-no-id e = line-id s (sym (read-formed (part comma 0 s)) ∙ ap is_some (sym same ∙ e))

  pub says-short : length s ≤ a + 2 → is_line s ≡ false
  says-short h = line-short s (omega arith)

  module _ (h : a + 2 < length s) where
    long : length (part comma 0 s) + 2 < length s
    long = omega arith

    pub says-off : (get_or s (a + 2) 0 ≡ comma → ⊥) → is_line s ≡ false
    says-off e = line-off s long (λ c. e (ap (λ n. get_or s (n + 2) 0) f ∙ c))

    module _ (e : get_or s (a + 2) 0 ≡ comma) (x : ℤ) (y : o ≡ Some x) where
      id-read : (is_integer (part comma 0 s) ≡ true) × (x ≡ integer_of (part comma 0 s))
      id-read = read_is (part comma 0 s) x (sym y ∙ same)

      line_is : is_line s ≡ is_value (get_or s (a + 1) 0) (drop (a + 3) s)
      line_is =
          let c : get_or s (length (part comma 0 s) + 2) 0 ≡ comma = ap (λ n. get_or s (n + 2) 0) (sym f) ∙ e in
          line-value s long c id-read.0 ∙ ap (λ n. is_value (get_or s (n + 1) 0) (drop (n + 3) s)) (sym f)

      pub says-other : is_value (get_or s (a + 1) 0) (drop (a + 3) s) ≡ false → is_line s ≡ false
      says-other v = line_is ∙ v

      pub says-line : is_value (get_or s (a + 1) 0) (drop (a + 3) s) ≡ true → LineSays (record { id = to_z w32 (of_z w32 x); kind = get_or s (a + 1) 0; from = a + 3 }) s
      says-line v =
          let c : get_or s (length (part comma 0 s) + 2) 0 ≡ comma = ap (λ n. get_or s (n + 2) 0) (sym f) ∙ e in
          let k : get_or s (a + 1) 0 ≡ get_or s (length (part comma 0 s) + 1) 0 = ap (λ n. get_or s (n + 1) 0) f in
          let w = line-value s long c id-read.0 in
          record {
            formed = line_is ∙ v;
            id = read-passed x (part comma 0 s) (sym y ∙ same);
            kind = k ∙ sym (ap first (line-fields s long c (sym w ∙ (line_is ∙ v))).0);
            from = ap (λ n. n + 3) f;
          }

-- the id of a line in form is within its type
pub said-passed : (s : List ℕ) (x : ℤ) → is_line s ≡ true → x ≡ id_said s → to_z w32 (of_z w32 x) ≡ id_said s
said-passed s x e i = ap (λ y. to_z w32 (of_z w32 y)) i ∙ integer-passed (part comma 0 s) (formed-id s e)

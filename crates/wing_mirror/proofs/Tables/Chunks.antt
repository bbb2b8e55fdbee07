-- Laws of records in a buffer, for any width.
use Prim.Native.Nat.{ℕ, zero, suc, ◌+◌, ◌-◌, ◌*◌, ◌≤◌, ◌<◌}
use mathlib.Core.Path.{◌≡◌, refl, sym, ◌∙◌, ap}
use mathlib.Core.List.{List, [], ◌∷◌, ◌++◌, append_assoc}
use native.Mathlib.Omega.{arith}
use native.Mathlib.Nat.{mul-suc, mul-zero, mul-le-mul_left}
use lib.ListN.{length, take, drop, length-append, length-drop, take-append-drop}
use lib.Seq.{take_at, drop_at, drop-drop, length-take-le, drop-append-add, take-add}
use Rattle.std.specs.Simd.{first_chunks}
use Rattle.wing_node.specs.Bytes.{joined}
use Rattle.wing_mirror.specs.Rows.{row, records, laid, All}

-- every record has the width w
abbrev pub Wide : ℕ → List (List ℕ) → Type 0
Wide w rs = All (λ (r : List ℕ). length r ≡ w) rs

module _ (w : ℕ) where
  pub length-joined : (rs : List (List ℕ)) → Wide w rs → length (joined rs) ≡ w * length rs
  unfolding joined
  length-joined [] h = sym (mul-zero w)
  length-joined (r ∷ rs) h = rw (length-append r (joined rs), h.0, length-joined rs h.1) (omega (arith, mul-suc w (length rs)))

  -- the records that are laid are the records that stand there
  pub records-laid : (rs : List (List ℕ)) (rest : List ℕ) → Wide w rs → records w (length rs) (joined rs ++ rest) ≡ rs
  unfolding records joined
  records-laid [] rest h = refl
  records-laid (r ∷ rs) rest h =
      rw (append_assoc r (joined rs) rest, take_at r (joined rs ++ rest) w h.0, drop_at r (joined rs ++ rest) w h.0, records-laid rs rest h.1)

  pub length-laid : (rs : List (List ℕ)) (buf : List ℕ) → Wide w rs → w * length rs ≤ length buf → length (laid w rs buf) ≡ length buf
  unfolding laid
  length-laid rs buf h f = rw (length-append (joined rs) (drop (w * length rs) buf), length-joined rs h, length-drop (w * length rs) buf) (omega arith)

  -- bytes past the last record
  pub drop-laid : (rs : List (List ℕ)) (buf : List ℕ) (n : ℕ) → Wide w rs → w * length rs ≤ n → drop n (laid w rs buf) ≡ drop n buf
  unfolding laid
  drop-laid rs buf n h f =
      let k : ℕ = n - w * length rs in
      let z : n ≡ length (joined rs) + k = omega (arith, length-joined rs h) in
      let y : w * length rs + k ≡ n = omega arith in
      ap (λ (x : ℕ). drop x (joined rs ++ drop (w * length rs) buf)) z ∙ drop-append-add (joined rs) _ k ∙ drop-drop k (w * length rs) buf ∙ ap (λ (x : ℕ). drop x buf) y

  -- laying more over less: as if from the first
  pub laid-again : (rs ss : List (List ℕ)) (buf : List ℕ) → Wide w rs → length rs ≤ length ss → laid w ss (laid w rs buf) ≡ laid w ss buf
  laid-again rs ss buf h f = unfold laid in ap (λ (x : List ℕ). joined ss ++ x) (drop-laid rs buf (w * length ss) h (mul-le-mul_left w f))

  pub laid_nil : (buf : List ℕ) → laid w [] buf ≡ buf
  unfolding laid joined
  laid_nil buf = ap (λ (x : ℕ). drop x buf) (mul-zero w)

  pub length-records : (n : ℕ) (buf : List ℕ) → length (records w n buf) ≡ n
  unfolding records
  length-records zero buf = refl
  length-records (suc n) buf = ap suc (length-records n (drop w buf))

  pub wide-records : (n : ℕ) (buf : List ℕ) → w * n ≤ length buf → Wide w (records w n buf)
  unfolding records
  wide-records zero buf h = tt
  wide-records (suc n) buf h =
      let m = mul-suc w n in
      (length-take-le w buf (omega arith), wide-records n (drop w buf) (omega (arith, length-drop w buf)))

  -- the bytes of a record that is among n
  pub row_fits : (p n l : ℕ) → p < n → w * n ≤ l → w * p + w ≤ l
  row_fits p n l h f = omega (arith, mul-le-mul_left w h, mul-suc w p)

  pub row-wide : (p : ℕ) (buf : List ℕ) → w * p + w ≤ length buf → length (row w p buf) ≡ w
  row-wide p buf h = length-take-le w (drop (w * p) buf) (omega (arith, length-drop (w * p) buf))

  pub joined-records : (n : ℕ) (buf : List ℕ) → joined (records w n buf) ≡ take (w * n) buf
  unfolding records joined
  joined-records zero buf = rw (mul-zero w)
  joined-records (suc n) buf =
      let z : w * suc n ≡ w + w * n = omega (arith, mul-suc w n) in
      rw (z, take-add w (w * n) buf, joined-records n (drop w buf))

  -- a table's own records laid where they stand
  pub laid-own : (n : ℕ) (buf : List ℕ) → laid w (records w n buf) buf ≡ buf
  unfolding laid
  laid-own n buf = rw (joined-records n buf, length-records n buf) (take-append-drop (w * n) buf)

-- as the library cuts them
pub chunks-records : (w n : ℕ) (buf : List ℕ) → first_chunks w n buf ≡ records w n buf
unfolding records
chunks-records w zero buf = refl
chunks-records w (suc n) buf = ap (λ (rs : List (List ℕ)). take w buf ∷ rs) (chunks-records w n (drop w buf))

-- One turn of laying lines as records: the line is in form, its record goes after the last one, and the text left says the entries left.
use Prim.Native.Nat.{ℕ, suc, ◌+◌, ◌-◌, ◌*◌, ◌≤◌, ◌<◌}
use mathlib.Core.Bool.{true}
use mathlib.Core.Path.{◌≡◌, refl, sym, ap, ap₂, ◌∙◌, subst}
use mathlib.Core.List.{List, [], ◌∷◌, ◌++◌, map, append_assoc, append-nil}
use native.Mathlib.Omega.{arith}
use borrow.Rule.Slice.PartMut.{post_of, put_mid}
use lib.ListN.{length, get_or, take, drop, length-append, length-drop, length-map}
use lib.Seq.{take-suc, drop-cons, drop-drop, take-append_seam, length-take-le}
use Rattle.wing_node.specs.Refusal.{no_fault}
use Rattle.wing_node.specs.Bytes.{joined}
use Rattle.wing_mirror.specs.Rows.{found, laid}
use Rattle.wing_mirror.specs.Entry.{Entry}
use Rattle.wing_mirror.specs.Record.{width, record_of}
use Rattle.wing_mirror.proofs.Tables.Chunks.{Wide, length-joined, drop-laid}
use Rattle.wing_mirror.proofs.Records.Formed.{record-width}
use Rattle.wing_listing.specs.Parts.{newline, part}
use Rattle.wing_listing.specs.Reading.{is_line, id_said, entry_said, value_fault, reading_of, entries_in}
use Rattle.wing_listing.proofs.Texts.Scans.{faultless-line, faultless-value, Says, Next, next-line, Left}
use Rattle.wing_listing.proofs.Texts.Turns.{line-length, the-line, the_rest}

pub records-wide : (es : List Entry) → Wide width (map record_of es)
records-wide [] = tt
records-wide (e ∷ es) = (record-width e, records-wide es)

joined-last : (rs : List (List ℕ)) (r : List ℕ) → joined (rs ++ (r ∷ [])) ≡ joined rs ++ r
unfolding joined
joined-last [] r = append-nil r
joined-last (q ∷ rs) r = ap (λ (l : List ℕ). q ++ l) (joined-last rs r) ∙ sym (append_assoc q (joined rs) r)

map_last : (es : List Entry) (e : Entry) → map record_of (es ++ (e ∷ [])) ≡ map record_of es ++ (record_of e ∷ [])
map_last [] e = refl
map_last (f ∷ es) e = ap (λ (l : List (List ℕ)). record_of f ∷ l) (map_last es e)

-- one record more, after those that are laid
module _ (rs : List (List ℕ)) (r buf : List ℕ) (wide : Wide width rs) (n : ℕ) (many : length rs ≡ n) (k : ℕ) (w : k ≡ 264) where
  pub laid_next : put_mid (264 * n) k (laid width rs buf) r ≡ laid width (rs ++ (r ∷ [])) buf
  unfolding laid
  laid_next =
      let size : length (joined rs) ≡ 264 * n = length-joined width rs wide ∙ ap (λ m. 264 * m) many in
      let front : take (264 * n) (joined rs ++ drop (width * length rs) buf) ≡ joined rs = ap (λ m. take m (joined rs ++ drop (width * length rs) buf)) (sym size) ∙ take-append_seam (joined rs) (drop (width * length rs) buf) in
      let last : width * length (rs ++ (r ∷ [])) ≡ 264 * n + k = omega (arith, length-append rs (r ∷ []), ap (λ m. 264 * m) many) in
      let post : post_of (264 * n) k (laid width rs buf) ≡ drop (264 * n + k) buf = posted ∙ drop-laid width rs buf (264 * n + k) wide (omega (arith, ap (λ m. 264 * m) many)) in
      ap (λ (l : List ℕ). l ++ (r ++ post_of (264 * n) k (laid width rs buf))) front ∙ ap (λ (l : List ℕ). joined rs ++ (r ++ l)) post ∙
      sym (append_assoc (joined rs) r (drop (264 * n + k) buf)) ∙ ap (λ (l : List ℕ). l ++ drop (264 * n + k) buf) (sym (joined-last rs r)) ∙ ap (λ m. joined (rs ++ (r ∷ [])) ++ drop m buf) (sym last)
    where
      posted : post_of (264 * n) k (laid width rs buf) ≡ drop (264 * n + k) (laid width rs buf)
      posted = drop-drop k (264 * n) (laid width rs buf)

module _ (text : List ℕ) (count number at : ℕ) (c : count ≤ length (entries_in (reading_of text))) (h : number < count) (l : Left (drop at text) (drop number (entries_in (reading_of text)))) where
  abbrev all : List Entry
  all = entries_in (reading_of text)

  next : Next l.number l.before (drop at text) (drop number all)
  next = next-line l.number l.before (drop at text) (drop number all) l.reads (omega (arith, length-drop number all))

  pub turn_at : at < length text
  turn_at = omega (arith, next.ended, length-drop at text)

  module _ (k : ℕ) (f : k ≡ length (part newline 0 (take (length text - at) (drop at text)))) where
    abbrev said : List ℕ
    said = take (at + k - at) (drop at text)

    same : said ≡ part newline 0 (drop at text)
    same = the-line text at k f

    pub turn-within : at + k < length text
    turn-within = omega (arith, next.ended, length-drop at text, line-length text at k f)

    pub turn-line : is_line said ≡ true
    turn-line = ap is_line same ∙ faultless-line l.before (part newline 0 (drop at text)) next.fault

    pub turn-fault : value_fault (entry_said said).value ≡ no_fault
    turn-fault = ap (λ (s : List ℕ). value_fault (entry_said s).value) same ∙ faultless-value l.before (part newline 0 (drop at text)) next.fault

    pub turn-left : Left (drop (at + k + 1) text) (drop (number + 1) all)
    turn-left =
        let before = found (id_said (part newline 0 (drop at text))) in
        record {
          number = suc l.number;
          before = before;
          reads = subst (Says (suc l.number) before (drop (at + k + 1) text)) (drop-drop 1 number all)
              (subst (λ (t : List ℕ). Says (suc l.number) before t (drop 1 (drop number all))) (the_rest text at k f) next.rest);
        }

    taken : take (number + 1) all ≡ take number all ++ (entry_said said ∷ [])
    taken =
        let e = entry_said said in
        let j : number + 1 ≡ suc number = omega arith in
        let g : get_or all number e ≡ e =
        ap (λ (es : List Entry). get_or es 0 e) (sym (drop-cons all number e (omega arith)) ∙ next.says) ∙ ap entry_said (sym same) in
        ap (λ m. take m all) j ∙ take-suc all number e (omega arith) ∙ ap (λ x. take number all ++ (x ∷ [])) g

    pub turn-laid : (x table buf : List ℕ) → x ≡ record_of (entry_said said) → table ≡ laid width (map record_of (take number all)) buf →
        put_mid (264 * number) (264 * number + 264 - 264 * number) table x ≡ laid width (map record_of (take (number + 1) all)) buf
    turn-laid x table buf q p =
        let rs = map record_of (take number all) in
        let many : length rs ≡ number = length-map (take number all) record_of ∙ length-take-le number all (omega arith) in
        let w : 264 * number + 264 - 264 * number ≡ 264 = omega arith in
        ap₂ (λ (t y : List ℕ). put_mid (264 * number) (264 * number + 264 - 264 * number) t y) p q ∙
        laid_next rs (record_of (entry_said said)) buf (records-wide (take number all)) number many (264 * number + 264 - 264 * number) w ∙
        ap (λ (r : List (List ℕ)). laid width r buf) (sym (ap (map record_of) taken ∙ map_last (take number all) (entry_said said)))

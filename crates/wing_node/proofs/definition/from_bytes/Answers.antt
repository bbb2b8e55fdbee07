-- `definition_of` opened is the code's reads one after the other: the contract of each call gives its field, or the refusal that is handed on.
use mathlib.Core.Path.{◌≡◌, refl, ◌∙◌, ap, sym}
use mathlib.Core.List.{[], ◌∷◌}
use mir.Syntax.{w32}
use mir.Val.{to_z, of_z}
use Prim.Native.Nat.{◌/◌, ◌%◌}
use lib.Dec.{eqb}
use Rattle.wing_node.specs.Signed.{signed}
use Rattle.wing_node.specs.Types.{type_of, unit_of}
use Rattle.wing_node.specs.Cursor.{number, string, Cursor, Reading, start, read_at, reads, after}
use Rattle.wing_node.specs.Definition.{header, named, kind_from, span_of, details_at, parsed_from, definition_of}
use Rattle.wing_node.proofs.Refusals.{handed-on}
use borrow.Author.Rules.{rules}
use Rattle.wing_node.proofs.Numerals.Signs.{reads as read}
use Rattle.wing_node.proofs.Bodies.Fails.{field-read, field-next, field-fault, short-value, short-next, short-fault, details-read, details-fault, stop, on, parsed-refused, header-stops}
use Rattle.wing_node.proofs.definition.from_bytes.Goals as goal

pub returns-in_err-parent_id : goal.returns-in_err-parent_id
returns-in_err-parent_id c =
    handed-on _ _ c.from_residual.ensures.1 ∙ header-stops _ _
    (stop (number 4) (number 4 ∷ number 2 ∷ string ∷ string ∷ number 2 ∷ []) _ _ _ (field-fault _ _ c.in_err-parent_id.ensures))

pub returns-in_err-id : goal.returns-in_err-id
returns-in_err-id c =
    handed-on _ _ c.from_residual-in_err-id.ensures.1 ∙ header-stops _ _
    (on (number 4) (number 4 ∷ number 2 ∷ string ∷ string ∷ number 2 ∷ []) _ _ _ _ (field-next _ _ c.in_ok-parent_id.ensures)
    (stop (number 4) (number 2 ∷ string ∷ string ∷ number 2 ∷ []) _ _ _ (field-fault _ _ c.in_err-id.ensures)))

pub returns-in_err-index : goal.returns-in_err-index
returns-in_err-index c =
    handed-on _ _ c.from_residual-in_err-index.ensures.1 ∙ header-stops _ _
    (on (number 4) (number 4 ∷ number 2 ∷ string ∷ string ∷ number 2 ∷ []) _ _ _ _ (field-next _ _ c.in_ok-parent_id.ensures)
    (on (number 4) (number 2 ∷ string ∷ string ∷ number 2 ∷ []) _ _ _ _ (field-next _ _ c.in_ok-id.ensures)
    (stop (number 2) (string ∷ string ∷ number 2 ∷ []) _ _ _ (short-fault _ _ _ _ c.in_err-index.ensures))))

pub returns-in_err-name : goal.returns-in_err-name
returns-in_err-name c =
    handed-on _ _ c.from_residual-in_err-name.ensures.1 ∙ header-stops _ _
    (on (number 4) (number 4 ∷ number 2 ∷ string ∷ string ∷ number 2 ∷ []) _ _ _ _ (field-next _ _ c.in_ok-parent_id.ensures)
    (on (number 4) (number 2 ∷ string ∷ string ∷ number 2 ∷ []) _ _ _ _ (field-next _ _ c.in_ok-id.ensures)
    (on (number 2) (string ∷ string ∷ number 2 ∷ []) _ _ _ _ (short-next _ _ _ _ c.in_ok-index.ensures)
    (stop string (string ∷ number 2 ∷ []) _ _ _ (field-fault _ _ c.in_err-name.ensures)))))

pub returns-in_err-long_name : goal.returns-in_err-long_name
returns-in_err-long_name c =
    handed-on _ _ c.from_residual-in_err-long_name.ensures.1 ∙ header-stops _ _
    (on (number 4) (number 4 ∷ number 2 ∷ string ∷ string ∷ number 2 ∷ []) _ _ _ _ (field-next _ _ c.in_ok-parent_id.ensures)
    (on (number 4) (number 2 ∷ string ∷ string ∷ number 2 ∷ []) _ _ _ _ (field-next _ _ c.in_ok-id.ensures)
    (on (number 2) (string ∷ string ∷ number 2 ∷ []) _ _ _ _ (short-next _ _ _ _ c.in_ok-index.ensures)
    (on string (string ∷ number 2 ∷ []) _ _ _ _ (field-next _ _ c.in_ok-name.ensures)
    (stop string (number 2 ∷ []) _ _ _ (field-fault _ _ c.in_err-long_name.ensures))))))

pub returns-in_err-flags : goal.returns-in_err-flags
returns-in_err-flags c =
    handed-on _ _ c.from_residual-in_err-flags.ensures.1 ∙ header-stops _ _
    (on (number 4) (number 4 ∷ number 2 ∷ string ∷ string ∷ number 2 ∷ []) _ _ _ _ (field-next _ _ c.in_ok-parent_id.ensures)
    (on (number 4) (number 2 ∷ string ∷ string ∷ number 2 ∷ []) _ _ _ _ (field-next _ _ c.in_ok-id.ensures)
    (on (number 2) (string ∷ string ∷ number 2 ∷ []) _ _ _ _ (short-next _ _ _ _ c.in_ok-index.ensures)
    (on string (string ∷ number 2 ∷ []) _ _ _ _ (field-next _ _ c.in_ok-name.ensures)
    (on string (number 2 ∷ []) _ _ _ _ (field-next _ _ c.in_ok-long_name.ensures)
    (stop (number 2) [] _ _ _ (short-fault _ _ _ _ c.in_err-flags.ensures)))))))

pub returns-in_err-found : goal.returns-in_err-found
unfolding definition_of reads after
returns-in_err-found c =
    let body = c.args.body.now in
    let f = named header body start in
    let parent = field-read _ _ c.in_ok-parent_id.ensures in
    let id = ap (λ (r : Reading). read_at (number 4) body r.next) parent ∙ field-read _ _ c.in_ok-id.ensures in
    let index = ap (λ (r : Reading). (read_at (number 2) body r.next).value) id ∙ short-value _ _ _ _ c.in_ok-index.ensures in
    let after-index = ap (λ (r : Reading). (read_at (number 2) body r.next).next) id ∙ short-next _ _ _ _ c.in_ok-index.ensures in
    let name = ap (λ (k : Cursor). read_at string body k) after-index ∙ field-read _ _ c.in_ok-name.ensures in
    let long = ap (λ (r : Reading). read_at string body r.next) name ∙ field-read _ _ c.in_ok-long_name.ensures in
    let flags = ap (λ (r : Reading). (read_at (number 2) body r.next).value) long ∙ short-value _ _ _ _ c.in_ok-flags.ensures in
    let after-flags = ap (λ (r : Reading). (read_at (number 2) body r.next).next) long ∙ short-next _ _ _ _ c.in_ok-flags.ensures in
    let kind : kind_from f ≡ c.from-kind.result = ap (λ v. type_of (v / 16 % 16)) flags ∙ sym c.from-kind.ensures in
    handed-on _ _ c.from_residual-in_err-found.ensures.1 ∙
    parsed-refused _ _ _ ((λ j. (details_at (kind j) body (after-flags j)).next.fault) ∙ details-fault _ _ c.in_err-found.ensures)

pub returns : goal.returns
unfolding definition_of reads after
returns c =
    let body = c.args.body.now in
    let f = named header body start in
    let parent = field-read _ _ c.in_ok-parent_id.ensures in
    let id = ap (λ (r : Reading). read_at (number 4) body r.next) parent ∙ field-read _ _ c.in_ok-id.ensures in
    let index = ap (λ (r : Reading). (read_at (number 2) body r.next).value) id ∙ short-value _ _ _ _ c.in_ok-index.ensures in
    let after-index = ap (λ (r : Reading). (read_at (number 2) body r.next).next) id ∙ short-next _ _ _ _ c.in_ok-index.ensures in
    let name = ap (λ (k : Cursor). read_at string body k) after-index ∙ field-read _ _ c.in_ok-name.ensures in
    let long = ap (λ (r : Reading). read_at string body r.next) name ∙ field-read _ _ c.in_ok-long_name.ensures in
    let flags = ap (λ (r : Reading). (read_at (number 2) body r.next).value) long ∙ short-value _ _ _ _ c.in_ok-flags.ensures in
    let after-flags = ap (λ (r : Reading). (read_at (number 2) body r.next).next) long ∙ short-next _ _ _ _ c.in_ok-flags.ensures in
    let kind : kind_from f ≡ c.from-kind.result = ap (λ v. type_of (v / 16 % 16)) flags ∙ sym c.from-kind.ensures in
    let found = (λ j. details_at (kind j) body (after-flags j)) ∙ details-read _ _ c.in_ok-found.ensures in
    let back : to_z w32 (of_z w32 c.cast_signed.result) ≡ c.cast_signed.result = search rules in
    let back2 : to_z w32 (of_z w32 c.cast_signed-2.result) ≡ c.cast_signed-2.result = search rules in
    let parent-id = ap (λ (r : Reading). signed 31 r.value) parent ∙ sym (back ∙ (c.cast_signed.ensures ∙ read w32 refl _)) in
    let own-id = ap (λ (r : Reading). signed 31 r.value) id ∙ sym (back2 ∙ (c.cast_signed-2.ensures ∙ read w32 refl _)) in
    let name-span = ap span_of name ∙ sym c.span_of.ensures in
    let long-span = ap span_of long ∙ sym c.span_of-2.ensures in
    let unit = ap (λ v. unit_of (v % 16)) flags ∙ sym c.from.ensures in
    sym (λ j. parsed_from (found j).next.fault (record {
      parent_id = parent-id j;
      id = own-id j;
      index = index j;
      name = name-span j;
      long_name = long-span j;
      node_type = kind j;
      unit = unit j;
      read_only = eqb (flags j / 512 % 2) 1;
      details = (found j).details;
    }))

-- `put_number` leaves the id over zeros, which is the head of a record from the console (`console-head`), and `lay_said` the value over that: the record of what the line says (wing_mirror's `record-laid`).
use mathlib.Core.Path.{◌≡◌, refl, ap, ◌∙◌}
use mir.Syntax.{w32}
use mir.Val.{to_z, of_z}
use lib.ListN.{replicate}
use Rattle.wing_node.specs.Field.{put_at, bytes_of}
use Rattle.wing_node.specs.Signed.{unsigned}
use Rattle.wing_node.specs.Value.{NodeValue}
use Rattle.wing_mirror.specs.Record.{kind_of, payload_of, laid_from}
use Rattle.wing_mirror.specs.declared.origin.Origin.TheVariants.{Console}
use Rattle.wing_mirror.proofs.Tables.Laying.{record-laid}
use Rattle.wing_listing.specs.Reading.{id_said, entry_said, value_fault}
use Rattle.wing_listing.specs.Steps.{LineSays}
use Rattle.wing_listing.proofs.Texts.Reads.{said-passed}
use Rattle.wing_listing.proofs.Texts.Places.{console-head}
use Rattle.wing_listing.proofs.Texts.Judged.{value-from, value-formed, value_same, line-some}
use Rattle.wing_listing.proofs.place.record_in.Goals as goal
use Rattle.wing_listing.proofs.place.record_in.Goals.{After-unwrap-l}

says : (c : After-unwrap-l) → LineSays c.unwrap-l.result c.args.s.now
says c = rw c.unwrap-l.ensures at c.line_in.ensures

pub unwrap-l-requires : goal.unwrap-l-requires
unwrap-l-requires c = line-some c.line_in.result c.args.s.now c.line_in.ensures c.requires.0

pub slice_bounds-lay_said-count : goal.slice_bounds-lay_said-count
slice_bounds-lay_said-count c = value-from c.args.s.now c.unwrap-l.result (says (goal.at.slice_bounds-lay_said-count c).After-unwrap-l)

pub slice_bounds-lay_said-start : goal.slice_bounds-lay_said-start
slice_bounds-lay_said-start c = value-from c.args.s.now c.unwrap-l.result (says (goal.at.slice_bounds-lay_said-start c).After-unwrap-l)

pub lay_said-requires : goal.lay_said-requires
lay_said-requires c =
    let x = c.args.s.now in
    let l = says (goal.at.lay_said-requires c).After-unwrap-l in
    (value-formed x c.unwrap-l.result l, ap value_fault (value_same x c.unwrap-l.result l) ∙ c.requires.1)

pub returns : goal.returns
unfolding entry_said
returns c =
    let x = c.args.s.now in
    let l = says (goal.at.returns c).After-unwrap-l in
    let id : to_z w32 (of_z w32 c.unwrap-l.result.id) ≡ id_said x = said-passed x c.unwrap-l.result.id c.requires.0 l.id in
    record-laid (id_said x) (entry_said x).value Console (replicate 264 0) c.put_number.new.out c.lay_said.new.out refl
    (console-head (id_said x) (replicate 264 0) c.put_number.new.out c.put_number.result refl (c.put_number.ensures ∙ ap (λ y. put_at (bytes_of 4 (unsigned 31 y)) 0 (replicate 264 0)) id))
    (c.lay_said.ensures ∙ ap (λ (v : NodeValue). laid_from c.put_number.new.out (kind_of v) (payload_of v)) (value_same x c.unwrap-l.result l))

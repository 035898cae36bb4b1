use Rattle.std.proofs.Common.{ap, ◌∙◌, arith}
use Rattle.std.proofs.lemmas.List.{take_all}
use Rattle.hy_rows.specs.Spelling.{live_rows}
use Rattle.hy_relation.specs.Relation.{owner_pages, relation_slots}
use Rattle.hy_relation.proofs.RelationLaws.{length-slots_of, live_rows-read}
use Rattle.hy_relation.proofs.relation.Relation.scan.Goals as goal

-- a slot more was read
pub loop-slot-preserved : goal.loop-slot-preserved
loop-slot-preserved g c =
    live_rows-read g.row.N g.R.Row.BYTES g.R.Row.row_of_bytes (owner_pages c.args.space.now g.R.Row.SEGMENT) c.loop-slot.slot c.as_slice.result.now _ _
    (omega (arith, c.loop-slot-test.true, c.used_of-slot-end.ensures.value)) (c.as_slice.ensures ∙ c.slot_in.ensures.bytes) c.loop-slot.invariant c.in_ok-push_row.ensures

-- those of all slots
pub returns : goal.returns
returns g c =
    let slots = relation_slots g.row.N g.R.Row.SEGMENT g.R.Row.BYTES g.R.Row.row_of_bytes c.args.space.now in
    let counted = length-slots_of g.row.N g.R.Row.BYTES g.R.Row.row_of_bytes (owner_pages c.args.space.now g.R.Row.SEGMENT) in
    c.loop-slot.invariant ∙ ap live_rows (take_all c.loop-slot.slot slots (omega (arith, c.loop-slot-test.false, c.used_of-slot-end.ensures.value, counted)))

use Rattle.std.proofs.Common.{◌∙◌, arith}
use Rattle.hy_relation.proofs.RelationLaws.{live_rows-read}
use Rattle.hy_relation.proofs.relation.Relation.scan_pages.Goals as goal

-- a slot more was read
pub loop-slot-preserved : goal.loop-slot-preserved
loop-slot-preserved g c =
    live_rows-read g.row.N g.R.Row.BYTES g.R.Row.row_of_bytes c.args.pages.now c.loop-slot.slot c.as_slice.result.now _ _
    (omega (arith, c.loop-slot-test.true, c.used_on-slot-end.ensures.number)) (c.as_slice.ensures ∙ c.slot_on.ensures.bytes) c.loop-slot.invariant c.in_ok-push_row.ensures

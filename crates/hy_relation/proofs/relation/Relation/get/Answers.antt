use Rattle.std.proofs.Common.{sym, ap, ◌∙◌, arith}
use Rattle.hy_rows.specs.Spelling.{row_of_slot}
use Rattle.hy_relation.specs.Relation.{owner_pages}
use Rattle.hy_relation.proofs.RelationLaws.{row-unused, row-used}
use Rattle.hy_relation.proofs.relation.Relation.get.Goals as goal

pub returns-then-slot-used_of : goal.returns-then-slot-used_of
returns-then-slot-used_of g c =
    c.row_of.ensures
    ∙ ap (row_of_slot g.R.Row.row_of_bytes) (c.as_slice.ensures ∙ c.slot_in.ensures.bytes)
    ∙ sym (row-used g.row.N g.R.Row.BYTES g.R.Row.row_of_bytes (owner_pages c.args.space.now g.R.Row.SEGMENT) c.args.slot (omega (arith, c.if-slot-used_of.true, c.used_of.ensures.value)))

pub returns-else-slot-used_of : goal.returns-else-slot-used_of
returns-else-slot-used_of g c =
    sym (row-unused g.row.N g.R.Row.BYTES g.R.Row.row_of_bytes (owner_pages c.args.space.now g.R.Row.SEGMENT) c.args.slot (omega (arith, c.if-slot-used_of.false, c.used_of.ensures.value)))

use Rattle.std.proofs.Common.{sym, ◌∙◌, arith}
use Rattle.hy_relation.specs.Relation.{owner_pages}
use Rattle.hy_relation.proofs.RelationLaws.{row-unused, row-used}
use Rattle.hy_relation.proofs.relation.Relation.bytes.Goals as goal

pub returns-then-slot-used_of-clause-row : goal.returns-then-slot-used_of-clause-row
returns-then-slot-used_of-clause-row g c =
    c.row_bytes_in.ensures.row
    ∙ sym (row-used g.row.N g.R.Row.BYTES g.R.Row.row_of_bytes (owner_pages c.args.space.now g.R.Row.SEGMENT) c.args.slot (omega (arith, c.if-slot-used_of.true, c.used_of.ensures.value)))

pub returns-else-slot-used_of-clause-row : goal.returns-else-slot-used_of-clause-row
returns-else-slot-used_of-clause-row g c =
    sym (row-unused g.row.N g.R.Row.BYTES g.R.Row.row_of_bytes (owner_pages c.args.space.now g.R.Row.SEGMENT) c.args.slot (omega (arith, c.if-slot-used_of.false, c.used_of.ensures.value)))

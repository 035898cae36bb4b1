use Rattle.std.proofs.Common.{sym, ◌∙◌}
use Rattle.hy_relation.specs.Relation.{owner_pages}
use Rattle.hy_relation.proofs.RelationLaws.{length-slots_of}
use Rattle.hy_relation.proofs.relation.Relation.slots.Goals as goal

pub returns-clause-count : goal.returns-clause-count
returns-clause-count g c =
    c.used_of.ensures.value ∙ sym (length-slots_of g.row.N g.R.Row.BYTES g.R.Row.row_of_bytes (owner_pages c.args.space.now g.R.Row.SEGMENT))

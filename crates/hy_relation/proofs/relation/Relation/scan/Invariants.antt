use Rattle.std.proofs.Common.{◌≡◌, take}
use Rattle.hy_rows.specs.Spelling.{live_rows}
use Rattle.hy_relation.specs.Relation.{relation_slots}
use Rattle.hy_relation.proofs.relation.Relation.scan.Given as goal

-- the rows of the slots so far
abbrev pub invariant-loop-slot : goal.invariant-loop-slot
invariant-loop-slot g l =
    l.rows.items ≡ live_rows (take l.slot (relation_slots g.row.N g.R.Row.SEGMENT g.R.Row.BYTES g.R.Row.row_of_bytes l.space))

use Rattle.std.proofs.Common.{◌≡◌, take}
use Rattle.hy_rows.specs.Spelling.{live_rows, slots_of}
use Rattle.hy_relation.proofs.relation.Relation.scan_pages.Given as goal

-- the rows of the slots so far
abbrev pub invariant-loop-slot : goal.invariant-loop-slot
invariant-loop-slot g l =
    l.rows.items ≡ live_rows (take l.slot (slots_of g.row.N g.R.Row.BYTES g.R.Row.row_of_bytes l.pages))

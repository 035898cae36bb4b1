use Rattle.std.proofs.Common.{◌+◌, ◌-◌, length}
use Rattle.hy_relation.specs.Relation.{owner_pages}
use Rattle.hy_relation.proofs.RoomLaws.{HasGrown}
use Rattle.hy_relation.proofs.slots.make_room.Given as goal

abbrev pub invariant-loop-space : goal.invariant-loop-space
invariant-loop-space g l = HasGrown g.row.N g.R.Row.SEGMENT l.last l.fn.space l.space l.undo

-- the pages that may come
abbrev pub decreases-loop-space : goal.decreases-loop-space
decreases-loop-space g l = l.last + 1 - length (owner_pages l.space g.R.Row.SEGMENT)

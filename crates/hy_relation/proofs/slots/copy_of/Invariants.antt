use Rattle.std.proofs.Common.{◌+◌, ◌-◌, length}
use Rattle.hy_rows.specs.Spelling.{slot_start}
use Rattle.hy_relation.specs.Relation.{owner_pages}
use Rattle.hy_relation.proofs.CopyLaws.{IsCopied}
use Rattle.hy_relation.proofs.slots.copy_of.Given as goal

abbrev pub invariant-loop-bytes : goal.invariant-loop-bytes
invariant-loop-bytes g l =
    IsCopied g.row.N l.total (slot_start g.row.N g.R.Row.BYTES l.slot + l.skip) (owner_pages l.space g.R.Row.SEGMENT) l.bytes.items l.page l.offset

-- the bytes that are left
abbrev pub decreases-loop-bytes : goal.decreases-loop-bytes
decreases-loop-bytes g l = l.total - length l.bytes.items

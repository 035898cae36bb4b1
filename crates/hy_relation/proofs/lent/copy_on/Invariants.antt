use Rattle.std.proofs.Common.{◌-◌, length}
use Rattle.hy_rows.specs.Spelling.{slot_start, slot_width}
use Rattle.hy_relation.proofs.CopyLaws.{IsCopied}
use Rattle.hy_relation.proofs.lent.copy_on.Given as goal

abbrev pub invariant-loop-bytes : goal.invariant-loop-bytes
invariant-loop-bytes g l =
    IsCopied g.row.N (slot_width g.R.Row.BYTES) (slot_start g.row.N g.R.Row.BYTES l.slot) l.pages l.bytes.items l.page l.offset

-- the bytes that are left
abbrev pub decreases-loop-bytes : goal.decreases-loop-bytes
decreases-loop-bytes g l = slot_width g.R.Row.BYTES - length l.bytes.items

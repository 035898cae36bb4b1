use Rattle.std.proofs.Common.{subst, sym}
use Rattle.hy_partition.specs.Limits.{IsWhyUnmade}
use Rattle.hy_partition.proofs.MadeLaws.{why_unmade}
use Rattle.hy_partition.proofs.partition.rows_on_pages.Goals as goal

pub returns-in-Err-clause-refused : goal.returns-in-Err-clause-refused
returns-in-Err-clause-refused g c =
    subst (IsWhyUnmade g.row.N c.args.load.now c.args.warehouse c.args.max_frames) (sym c.refusal_of_shortage.ensures)
    (why_unmade g.row.N c.args.load.now c.args.warehouse c.args.max_frames c.in_ok-layout.layout c.filled_store.result c.in-Err.shortage
    c.in_ok-layout.ensures c.in-Err.is c.filled_store.ensures.no_frame)

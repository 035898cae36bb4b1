use Rattle.std.proofs.Common.{subst}
use Rattle.hy_partition.specs.Partition.{PartitionState}
use Rattle.hy_undo.specs.PrivatePages.{IsUndoLog}
use Rattle.hy_partition.proofs.partition.Partition.touched.Goals as goal

pub returns-clause-undo_log : goal.returns-clause-undo_log
returns-clause-undo_log g c =
    subst (λ (p : PartitionState). IsUndoLog g.row.N p.space p.undo) c.self.view_is c.self.invariant.0.undo_log

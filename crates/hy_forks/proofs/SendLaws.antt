-- Snapshots of all warehouses may go to another thread, since each of them may.
use denote.RattleType.{RattleType}
use denote.Param.Send.{IsSend, recorded_send, struct_send, view_send}
use denote.Struct.Declared.{shape}
use Rattle.std.below.std_heap.proofs.GlobalAllocator.TheSendSync as allocator
use Rattle.std.proofs.alloc.Global.TheSendSync as global
use Rattle.std.proofs.vec.Vec.TheSendSync as vec
use Rattle.std.specs.contracts.alloc.Global
use Rattle.std.specs.contracts.impls.GlobalAllocator.TheImpl
use Rattle.hy_crossing.proofs.of_partition.SendLaws as snapshots
use Rattle.hy_crossing.specs.of_partition.contracts.snapshot.Snapshot
use Rattle.hy_forks.specs.contracts.snapshot.SnapshotAll.{the_row}
use Rattle.hy_forks.specs.contracts.snapshot.SnapshotAll.TheInside as inside

module _ (N : RattleType) where
  pub send : IsSend (the_row N)
  send =
      view_send _ _ _ _ _ (recorded_send _ _ (inside.the_type N).to (inside.the_type N).to_one
      (struct_send (shape (inside.the_type N))
      (vec.the_send (Snapshot.the_row N) Global.the_row TheImpl.ghosts (snapshots.send N) global.the_send allocator.the_frees, tt)))

-- A snapshot may go to another thread, since each of its parts may: the load, the ticket, the number of commits, and what it
-- shares with those that are forked from it.
use denote.RattleType.{RattleType}
use denote.Param.Send.{IsSend, IsSync, recorded_send, sendable, struct_send, view_send}
use denote.Struct.Declared.{shape}
use Rattle.std.below.std_heap.proofs.GlobalAllocator.TheSendSync as allocator
use Rattle.std.proofs.Crossing.{crosses}
use Rattle.std.proofs.alloc.Global.TheSendSync as global
use Rattle.std.proofs.sync.Arc.TheSendSync as arc
use Rattle.std.specs.contracts.alloc.Global
use Rattle.std.specs.contracts.impls.GlobalAllocator.TheImpl
use Rattle.std.specs.contracts.sync.Arc
use Rattle.hy_loads.proofs.load.Load.TheSendSync as load
use Rattle.hy_tickets.proofs.ticket.Ticket.TheSendSync as ticket
use Rattle.hy_partition.specs.contracts.snapshot.SharedPages
use Rattle.hy_partition.specs.contracts.snapshot.Snapshot.{the_row}
use Rattle.hy_partition.specs.contracts.snapshot.Snapshot.TheInside as inside

module _ (N : RattleType) where
  pages_send : IsSend (SharedPages.the_row N)
  pages_send = search (crosses, sendable) depth 60 fits 20000

  pages_sync : IsSync (SharedPages.the_row N)
  pages_sync = search (crosses, sendable) depth 60 fits 20000

  shared_send : IsSend (Arc.the_row (SharedPages.the_row N) Global.the_row TheImpl.ghosts)
  shared_send =
      arc.the_send (SharedPages.the_row N) Global.the_row TheImpl.ghosts pages_send global.the_send pages_sync
      global.the_sync allocator.the_frees

  pub send : IsSend (the_row N)
  send =
      view_send _ _ _ _ _ (recorded_send _ _ (inside.the_type N).to (inside.the_type N).to_one
      (struct_send (shape (inside.the_type N)) (load.the_send, (ticket.the_send, (search sendable, (shared_send, tt))))))

use Rattle.std.proofs.Common.{arith}
use Rattle.hy_passes.proofs.SerialLaws.{crossings-room}
use Rattle.hy_passes.proofs.journal.SerialList.next_crossing.Goals as goal

pub overflow_add-result : goal.overflow_add-result
overflow_add-result g c = let r = crossings-room g.C.Commits.warehouses g.C.Commits.number c.self.invariant in omega arith

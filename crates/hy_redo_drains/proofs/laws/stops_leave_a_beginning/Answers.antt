-- The calls of a write stand behind those that made the log.
use Rattle.hy_redo_drains.proofs.FollowLaws.{leave-beginnings}
use Rattle.hy_redo_drains.proofs.laws.stops_leave_a_beginning.Goals as goal

pub returns : goal.returns
returns c = leave-beginnings c.stops_leave_batches.ensures

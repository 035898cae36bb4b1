use Rattle.hy_redo.proofs.CallLaws.{leave_batches}
use Rattle.hy_redo.proofs.laws.stops_leave_batches.Goals as goal

pub returns : goal.returns
returns c = leave_batches

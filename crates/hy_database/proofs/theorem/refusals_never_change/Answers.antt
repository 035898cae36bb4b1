-- Neither warehouses nor items come or go, and customers keep their numbers and names.
use Rattle.hy_database.proofs.Replays.{refusals-same}
use Rattle.hy_database.proofs.theorem.refusals_never_change.Goals as goal

pub returns : goal.returns
returns c = λ lists commits command is_load. refusals-same lists commits command

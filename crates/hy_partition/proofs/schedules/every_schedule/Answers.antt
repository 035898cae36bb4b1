-- Each event keeps the snapshots in order, and every replay meets the conditions.
use Rattle.hy_partition.proofs.ScheduleLaws.{keeps_all}
use Rattle.hy_partition.proofs.schedules.every_schedule.Goals as goal

pub returns : goal.returns
returns c = λ lists number events world is_load between run. keeps_all lists number events world is_load between run

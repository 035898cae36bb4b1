use Rattle.hy_partition.proofs.ScheduleLaws.{leads-step}
use Rattle.hy_partition.proofs.schedules.calls_are_events.Goals as goal

pub returns-clause-step : goal.returns-clause-step
returns-clause-step c = λ n log after p q world job reached is running did.
    leads-step n log after p q world job is running reached did

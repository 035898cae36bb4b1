-- What a stop leaves are the first of sound batches.
use Rattle.hy_durability.proofs.StopLaws.{are-recoverable}
use Rattle.hy_durability.proofs.theorem.stops_are_recovered.Goals as goal

pub returns : goal.returns
returns c = λ lists front events old whole log calls more left is_load begins run room behind are stop.
    are-recoverable lists front events old whole log calls more left c.every_schedule_of_all.ensures.rests
    c.every_schedule_of_all.ensures.goes_on c.stops_leave_batches.ensures is_load begins run room behind are stop

-- The batch of the drain is among those that are left.
use Rattle.hy_durability.proofs.AcknowledgedLaws.{are-recovered}
use Rattle.hy_durability.proofs.theorem.acknowledged_commits_are_recovered.Goals as goal

pub returns : goal.returns
returns c =
    λ lists front before rest events later old mid next whole log calls more call left is_load begins first drain run are_handed
    at is room behind are stop.
    are-recovered lists front before rest events later old mid next whole log calls more call left
    c.every_schedule_of_all.ensures.rests c.every_schedule_of_all.ensures.goes_on c.stops_leave_batches.ensures is_load begins
    first drain run are_handed at is room behind are stop

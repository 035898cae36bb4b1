-- By induction over the events, each of which keeps everything.
use Rattle.hy_durability.proofs.RunLaws.{are-durable}
use Rattle.hy_durability.proofs.theorem.drained_logs_are_sound.Goals as goal

pub returns : goal.returns
returns c = λ lists front events old whole batches is_load begins run.
    are-durable lists c.every_schedule_of_all.ensures.goes_on is_load c.every_schedule_of_all.ensures.rests front old begins
    events whole batches run

-- By induction over the lives.
use Rattle.std.proofs.Common.{[], refl}
use Rattle.hy_durability.proofs.LifeLaws.{all-there, last-sound}
use Rattle.hy_durability.proofs.theorem.lives_are_recovered.Goals as goal

pub returns-clause-sound : goal.returns-clause-sound
returns-clause-sound c = λ lists lives is_load led.
    last-sound lists c.every_schedule_of_all.ensures.rests c.every_schedule_of_all.ensures.goes_on
    c.stops_leave_batches.ensures is_load [] lives ((0, refl), refl) led

pub returns-clause-acknowledged : goal.returns-clause-acknowledged
returns-clause-acknowledged c = λ lists lives is_load led.
    all-there lists c.every_schedule_of_all.ensures.rests c.every_schedule_of_all.ensures.goes_on
    c.stops_leave_batches.ensures is_load [] lives led

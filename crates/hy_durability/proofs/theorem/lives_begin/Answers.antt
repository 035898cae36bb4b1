-- At rest, place by place.
use Rattle.hy_durability.proofs.AgainLaws.{begins-again, begins-fresh, whole-is}
use Rattle.hy_durability.proofs.TieLaws.{has-room}
use Rattle.hy_durability.proofs.theorem.lives_begin.Goals as goal

pub returns-clause-first : goal.returns-clause-first
returns-clause-first c = λ lists. begins-fresh lists

pub returns-clause-later : goal.returns-clause-later
returns-clause-later c = λ n frames most lists batches log parts known told recovered history numbers within. (
  whole-is lists frames most batches parts log recovered history n known,
  begins-again lists frames most batches parts log recovered history n known told numbers within,
)

pub returns-clause-room : goal.returns-clause-room
returns-clause-room c = λ n log parts whole is few. has-room n log parts whole is few

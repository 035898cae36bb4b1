-- Each commit does to each warehouse what it does where it is replayed.
use Rattle.hy_database.proofs.EachLaws.{count-after}
use Rattle.hy_database.proofs.Replays.{replay-after}
use Rattle.hy_database.proofs.theorem.warehouses_are_replays.Goals as goal

pub returns-clause-rows : goal.returns-clause-rows
returns-clause-rows c = λ lists commits number is_load between. (replay-after lists commits).rows number between

pub returns-clause-count : goal.returns-clause-count
returns-clause-count c = λ lists commits. count-after lists commits

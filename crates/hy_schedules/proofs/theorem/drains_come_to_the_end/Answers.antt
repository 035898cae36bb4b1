use Rattle.hy_schedules.proofs.DrainLaws.{drained-fresh, drained-moves, drained-rested, drained-stays}
use Rattle.hy_schedules.proofs.theorem.drains_come_to_the_end.Goals as goal

pub returns-clause-fresh : goal.returns-clause-fresh
returns-clause-fresh c = drained-fresh

pub returns-clause-rested : goal.returns-clause-rested
returns-clause-rested c = drained-rested

pub returns-clause-stays : goal.returns-clause-stays
returns-clause-stays c = drained-stays

pub returns-clause-moves : goal.returns-clause-moves
returns-clause-moves c = drained-moves

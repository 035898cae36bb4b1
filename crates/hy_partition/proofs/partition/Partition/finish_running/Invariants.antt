use Rattle.hy_partition.proofs.FinishLaws.{Reached, steps_left}
use Rattle.hy_partition.proofs.partition.Partition.finish_running.Given as goal

abbrev pub invariant-loop-self : goal.invariant-loop-self
invariant-loop-self g l = Reached l.initial.journal.list.log l.journal.list.log l.initial.self l.self

abbrev pub decreases-loop-self : goal.decreases-loop-self
decreases-loop-self g l = steps_left l.self.running

use Rattle.hy_queues.proofs.line.Back.take.Goals as goal
use Rattle.hy_queues.specs.Queues.{log_of}
use Rattle.hy_queues.proofs.SideLaws.{takes, learns_taken}

pub pop_as-requires-clause-rule : goal.pop_as-requires-clause-rule
pop_as-requires-clause-rule g c = let pass = c.self.inside.pass in (takes pass.id (log_of pass) c.self.invariant.1, learns_taken pass.id (log_of pass) c.self.invariant.1)

use Rattle.hy_queues.proofs.line.Front.put.Goals as goal
use Rattle.crossbeam_queue.specs.Passes.{ruled_capacity}
use Rattle.hy_queues.specs.Queues.{log_of}
use Rattle.hy_queues.proofs.SideLaws.{puts, learns_put}

pub push_as-requires-clause-rule : goal.push_as-requires-clause-rule
push_as-requires-clause-rule g c = let pass = c.self.inside.pass in (puts (ruled_capacity c.deref.result.now) pass.id (log_of pass) c.args.item c.self.invariant.1, learns_put pass.id (log_of pass) c.self.invariant.1)

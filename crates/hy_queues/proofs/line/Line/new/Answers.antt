use Rattle.std.proofs.Common.{ap, ◌∙◌}
use Rattle.hy_queues.proofs.line.Line.new.Goals as goal
use Rattle.hy_queues.specs.Queues.{log_of}
use Rattle.hy_queues.proofs.SideLaws.{begins, parts}

pub ruled-requires-clause-rule : goal.ruled-requires-clause-rule
ruled-requires-clause-rule g c = begins

pub another-taking-requires-clause-rule : goal.another-taking-requires-clause-rule
another-taking-requires-clause-rule g c = let pass = c.in_ok-queue.pass in let first = c.in_ok-queue.ensures.3 in parts pass.id (log_of pass) (ap (λ v. v.puts) first) (ap (λ v. v.takes) first)

use Rattle.hy_hyper_service.proofs.RoundLaws.{HasServed}
use Rattle.hy_hyper_service.proofs.serving.serve_input.Given as goal

abbrev pub invariant-loop : goal.invariant-loop
invariant-loop g l = HasServed 4_096 g.K.Loaded.load l.fn.service l.service l.fn.input l.input l.counter

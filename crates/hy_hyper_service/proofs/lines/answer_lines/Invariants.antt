use Rattle.hy_hyper_service.proofs.LinesLaws.{HasAnswered}
use Rattle.hy_hyper_service.proofs.lines.answer_lines.Given as goal

abbrev pub invariant-loop : goal.invariant-loop
invariant-loop g l = HasAnswered 4_096 l.fn.database l.database l.fn.answers l.answers l.fn.input l.input l.counter

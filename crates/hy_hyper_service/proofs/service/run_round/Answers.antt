-- Why a round has ended a service.
use Rattle.std.proofs.Common.{ap, inl, inr, refl}
use Rattle.hy_hyper_service.specs.declared.service.ServiceFault.TheVariants as faults
use Rattle.hy_hyper_service.specs.Endings.EndsParts.{log_failed, no_memory, output_failed}
use Rattle.hy_hyper_service.proofs.ServiceLaws.{lines-done}
use Rattle.hy_hyper_service.proofs.service.run_round.Goals as goal

pub returns-in-Err-clause-ended : goal.returns-in-Err-clause-ended
returns-in-Err-clause-ended g c = elim c.in-Err.ensures.refused [
  | inl why ↦ no_memory (ap faults.Refused why.0) why.1 refl
  | inr why ↦ log_failed (ap faults.Refused why.0) c.answer_lines.new.database c.keep_commits.new.database
      (lines-done 4_096 c.args.database.now c.answer_lines.new.database c.args.answers.now c.answer_lines.new.answers
      c.args.input.now c.answer_lines.new.input c.in_ok-end.end c.requires.none c.in_ok-end.ensures.answered)
      (inr (refl, why.1)) refl
]

pub returns-in-Err-print_held-clause-ended : goal.returns-in-Err-print_held-clause-ended
returns-in-Err-print_held-clause-ended g c =
    output_failed c.in-Err-print_held.error refl c.in-Err-print_held.ensures.failed c.answer_lines.new.database
    c.keep_commits.new.database
    (lines-done 4_096 c.args.database.now c.answer_lines.new.database c.args.answers.now c.answer_lines.new.answers
    c.args.input.now c.answer_lines.new.input c.in_ok-end.end c.requires.none c.in_ok-end.ensures.answered)
    c.in_default.ensures.kept

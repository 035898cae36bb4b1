use Rattle.std.proofs.Common.{rules, ◌≡◌, subst}
use Rattle.hy_commands.specs.declared.edition.Edition.TheVariants as editions
use Rattle.hy_redo_drains.specs.of_partition.Jobs.{JobState}
use Rattle.hy_engine.specs.Engines.{AnswersJob}
use Rattle.hy_engine.proofs.AnswerLaws.{answered-at-home}
use Rattle.hy_engine.proofs.engine.Engine.do_job.Goals as goal

pub returns-in-Ok-clause-is : goal.returns-in-Ok-clause-is
returns-in-Ok-clause-is g c =
    let job = c.args.job in
    let new : job.edition ≡ editions.Second =
    subst (λ (job : JobState). job.edition ≡ editions.Second) c.open.ensures.job c.open.ensures.new in
    let answers : AnswersJob job c.args.part.now c.run_slices.new.part c.run_slices.result = search rules in
    answered-at-home g.K.Loaded.load job c.run_slices.result new c.args.part.now c.run_slices.new.part answers

pub returns-in-Err-clause-is : goal.returns-in-Err-clause-is
returns-in-Err-clause-is g c =
    let job = c.args.job in
    let new : job.edition ≡ editions.Second =
    subst (λ (job : JobState). job.edition ≡ editions.Second) c.open.ensures.job c.open.ensures.new in
    let answers : AnswersJob job c.args.part.now c.begin.new.self c.refuse.result = search rules in
    answered-at-home g.K.Loaded.load job c.refuse.result new c.args.part.now c.begin.new.self answers

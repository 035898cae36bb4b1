use Rattle.std.proofs.Common.{sym, ◌∙◌}
use Rattle.std.proofs.lemmas.Bool.{false≢true}
use Rattle.hy_engine.proofs.engine.Engine.run_last.Goals as goal
use Rattle.hy_engine.proofs.RunLaws.{ended_early, ended_last}

pub returns-then-not-at_last : goal.returns-then-not-at_last
returns-then-not-at_last g c =
    λ first early. ended_early first c.args.part.now early c.requires (λ last. false≢true (sym c.if-not-at_last.true ∙ c.at_last.ensures.1 last))

pub returns : goal.returns
returns g c =
    λ first early. ended_last c.deref_mut.result.now.list.log c.step-progress.new.journal.list.log first c.args.part.now c.step-progress.new.self c.step-progress.result early (c.at_last.ensures.0 c.if-not-at_last.false) c.step-progress.ensures

use Rattle.std.proofs.Common.{rules, ◌≡◌, IfOk, Ok, Result, subst}
use Rattle.hy_schema.specs.declared.refusal.Refusal.{Refusal}
use Rattle.hy_storm.specs.declared.ending.Figures.{Figures}
use Rattle.hy_storm.specs.Storms.{AreFigures}
use Rattle.hy_program.proofs.storm.run_unlogged.Goals as goal

pub returns-clause-kept : goal.returns-clause-kept
returns-clause-kept g c =
    let is : c.storm-figures.result.0 ≡ Ok c.in_ok-figures.field-0 = search rules in
    let all = subst (λ (r : Result Figures Refusal). IfOk r (AreFigures c.args.load.now)) is c.storm-figures.ensures.figures in
    (all.0, all.1, λ nothing. tt)

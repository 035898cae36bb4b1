use Rattle.hy_passes.proofs.AgreementLaws.{projections-agree}
use Rattle.hy_passes.proofs.laws.projections_agree.Goals as goal

pub returns : goal.returns
returns g c = projections-agree g.C.Commits.warehouses g.C.Commits.number

use Rattle.hy_passes.proofs.AgreementLaws.{kept-begins}
use Rattle.hy_passes.proofs.laws.beginnings_of_kept_lists.Goals as goal

pub returns : goal.returns
returns g c = kept-begins g.C.Commits.warehouses

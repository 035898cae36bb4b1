use Rattle.std.proofs.Common.{rules}
use Rattle.hy_passes.proofs.Steps.{looks}
use Rattle.hy_passes.proofs.passes.Passes.look.Goals as goal

pub load-requires : goal.load-requires
load-requires g c = (search rules, search rules, looks g.C.Commits.warehouses _ _ _)

use Rattle.hy_passes.proofs.Steps.{begins}
use Rattle.hy_passes.proofs.kit.make.Goals as goal

pub of_words-requires : goal.of_words-requires
of_words-requires g c = begins g.C.Commits.warehouses

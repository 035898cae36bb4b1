-- A load's numbers are small, and each commit, and each slice behind it, adds as much as it can.
use Rattle.hy_slices.proofs.GrowingSlices.{grown-between}
use Rattle.hy_slices.proofs.theorem.numbers_stay_small_between.Goals as goal

pub returns : goal.returns
returns c = λ lists number commits edition command done begun.
    grown-between lists begun.load number commits edition command done begun.warehouse begun.begins begun.within
    begun.known

-- Each slice leaves the undelivered orders of the districts behind it.
use Rattle.hy_slices.proofs.BetweenSlices.{oldest-before}
use Rattle.hy_slices.proofs.theorem.deliveries_stay_the_same.Goals as goal

pub returns : goal.returns
returns c = λ items number edition delivery tables done district delivers.
    oldest-before items number edition delivery tables delivers.sound delivers.begins done district delivers.before

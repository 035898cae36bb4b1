-- The head and each line of a purchase keep the rows whole; a payment's first slice is a part of the payment, and each
-- slice of a delivery keeps the rows sound.
use Rattle.hy_slices.proofs.GrowingSlices.{whole-slices}
use Rattle.hy_slices.proofs.theorem.rows_stay_whole.Goals as goal

pub returns : goal.returns
returns c = λ items number edition command tables done under_way.
    whole-slices items number edition command tables done under_way.sound under_way.begins under_way.within
    under_way.known

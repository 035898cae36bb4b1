-- A load's numbers are small, and each commit adds as much as it can.
use Rattle.hy_commands.proofs.Grown.{grown-rows}
use Rattle.hy_commands.proofs.theorem.numbers_stay_small.Goals as goal

pub returns : goal.returns
returns c = grown-rows

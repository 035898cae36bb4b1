use Rattle.hy_passes.proofs.Telling.{telling-all}
use Rattle.hy_passes.proofs.laws.telling_all_leaves_none_behind.Goals as goal

pub returns : goal.returns
returns c = telling-all

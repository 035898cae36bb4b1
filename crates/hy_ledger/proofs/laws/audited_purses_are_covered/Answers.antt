use Rattle.hy_ledger.proofs.Covering.{audited-covered}
use Rattle.hy_ledger.proofs.laws.audited_purses_are_covered.Goals as goal

pub returns : goal.returns
returns c = audited-covered

use Rattle.hy_redo.proofs.CallLaws.{have_causes}
use Rattle.hy_redo.proofs.laws.answers_have_causes.Goals as goal

pub returns : goal.returns
returns c = have_causes

-- One more is answered behind others.
use Rattle.hy_hyper_answers.proofs.ServedLaws.{serves-more}
use Rattle.hy_hyper_answers.proofs.theorem.answers_follow_one_another.Goals as goal

pub returns : goal.returns
returns c = serves-more

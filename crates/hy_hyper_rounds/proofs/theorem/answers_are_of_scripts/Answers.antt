-- Answers are those of a script.
use Rattle.hy_hyper_rounds.proofs.ScriptLaws.{serves-plainly, serves-script}
use Rattle.hy_hyper_rounds.proofs.theorem.answers_are_of_scripts.Goals as goal

pub returns : goal.returns
returns c = record { plainly = serves-plainly; by_script = serves-script }

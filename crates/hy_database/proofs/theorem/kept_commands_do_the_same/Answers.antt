-- The command as it is kept isn't refused either, and each warehouse does its part of it.
use Rattle.hy_database.proofs.KeptLaws.{act-kept}
use Rattle.hy_database.proofs.theorem.kept_commands_do_the_same.Goals as goal

pub returns : goal.returns
returns c = λ database edition command number accepted. act-kept database edition command number accepted

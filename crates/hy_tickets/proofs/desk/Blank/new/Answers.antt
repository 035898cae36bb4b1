use Rattle.hy_tickets.proofs.Steps.{begins}
use Rattle.hy_tickets.proofs.desk.Blank.new.Goals as goal

pub of_words-requires : goal.of_words-requires
of_words-requires c = begins

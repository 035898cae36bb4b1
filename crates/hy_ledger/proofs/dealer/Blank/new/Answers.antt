use Rattle.hy_ledger.proofs.Steps.{begins}
use Rattle.hy_ledger.proofs.dealer.Blank.new.Goals as goal

pub of_words-requires : goal.of_words-requires
of_words-requires c = begins

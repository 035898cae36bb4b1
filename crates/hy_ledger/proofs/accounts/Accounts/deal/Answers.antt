use Rattle.std.proofs.Common.{rules, ap}
use Rattle.hy_ledger.proofs.Steps.{deals}
use Rattle.hy_ledger.proofs.accounts.Accounts.deal.Goals as goal

pub split_seat-requires : goal.split_seat-requires
split_seat-requires c = (search rules, search rules, deals _ _ (ap (λ me. me.0.is_dealer) c.requires.dealer))

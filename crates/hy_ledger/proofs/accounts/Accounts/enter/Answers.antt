use Rattle.std.proofs.Common.{rules}
use Rattle.hy_ledger.proofs.Steps.{hands}
use Rattle.hy_ledger.proofs.accounts.Accounts.enter.Goals as goal

pub split_seat-requires : goal.split_seat-requires
split_seat-requires c = (search rules, search rules, hands _ _)

use Rattle.std.proofs.Common.{rules}
use Rattle.hy_ledger.proofs.Steps.{comes}
use Rattle.hy_ledger.proofs.accounts.Accounts.admit.Goals as goal

pub load_new_seat-requires : goal.load_new_seat-requires
load_new_seat-requires c = (search rules, comes _)

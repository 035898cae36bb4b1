use Rattle.std.proofs.Common.{rules}
use Rattle.hy_ledger.proofs.Steps.{boards, leaves, meets}
use Rattle.hy_ledger.proofs.accounts.Accounts.meet.Goals as goal

pub join_seat-requires : goal.join_seat-requires
join_seat-requires c = (search rules, search rules, search rules, search rules, boards _ _ _ _)

pub load-requires : goal.load-requires
load-requires c = (search rules, search rules, meets _ _ _)

pub split_seat-requires : goal.split_seat-requires
split_seat-requires c = (search rules, search rules, leaves _ _)

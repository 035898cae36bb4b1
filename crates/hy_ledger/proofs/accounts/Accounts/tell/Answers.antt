use Rattle.std.proofs.Common.{rules}
use Rattle.hy_ledger.proofs.Steps.{enters}
use Rattle.hy_ledger.proofs.accounts.Accounts.tell.Goals as goal

pub load-requires : goal.load-requires
load-requires g c = (search rules, search rules, enters _ _ _ _ c.requires.book c.requires.few)

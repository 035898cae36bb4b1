use Rattle.hy_ledger.proofs.Insides.{first-balance}
use Rattle.hy_ledger.proofs.balance.Balance.new.Goals as goal

pub invariant_of-result : goal.invariant_of-result
invariant_of-result g c = first-balance g.K.World.passes.partitions c.args.purse.shares c.sound.ensures

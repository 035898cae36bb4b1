use Rattle.std.proofs.Common.{rules, arith, ap}
use Rattle.hy_ledger.proofs.Insides.{one-share, room}
use Rattle.hy_ledger.proofs.purse.Purse.add.Goals as goal

pub overflow_add-self-2 : goal.overflow_add-self-2
overflow_add-self-2 g c =
    let most = room g.K.World.passes _ _ _ _ _ c.self.invariant in
    let one = c.share.invariant.given.2 in
    omega arith

pub invariant_of-self : goal.invariant_of-self
invariant_of-self g c =
    one-share g.K.World.passes _ _ _ _ _ c.self.invariant _ _ (ap (λ me. me.0.held) c.share.invariant.seat) c.share.invariant.given _ _
    (search rules) c.gather.ensures.purse c.gather.ensures.few

use Rattle.std.proofs.Common.{rules, arith}
use Rattle.hy_ledger.proofs.Insides.{more-shares, room}
use Rattle.hy_ledger.proofs.purse.Purse.merge.Goals as goal

pub overflow_add-self-2 : goal.overflow_add-self-2
overflow_add-self-2 g c =
    let mine = room g.K.World.passes _ _ _ _ _ c.self.invariant in
    let theirs = room g.K.World.passes _ _ _ _ _ c.other.invariant in
    omega arith

pub invariant_of-self : goal.invariant_of-self
invariant_of-self g c =
    more-shares g.K.World.passes _ _ _ _ _ c.self.invariant _ _ _ c.other.invariant.given c.other.invariant.commits_are c.other.invariant.cents_are _ _
    (search rules) c.gather.ensures.purse c.gather.ensures.few

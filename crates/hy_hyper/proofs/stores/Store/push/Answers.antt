use Rattle.hy_hyper.proofs.StoreLaws.{pushed}
use Rattle.hy_hyper.proofs.stores.Store.push.Goals as goal

-- the row was added in its segment
pub invariant_of-self : goal.invariant_of-self
invariant_of-self g c =
    pushed g.row.N c.self.inside.space c.push.new.space c.self.inside.undo c.push.new.undo _ _ c.self.invariant
    c.push.ensures.slots c.push.ensures.only c.push.ensures.can_undo

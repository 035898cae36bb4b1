use Rattle.hy_hyper.proofs.StoreLaws.{seen}
use Rattle.hy_hyper.proofs.stores.Store.fork.Goals as goal

pub invariant_of-self : goal.invariant_of-self
invariant_of-self g c =
    seen g.row.N c.self.inside.space c.fork.new.space c.holds.new.self c.close.new.self c.self.inside.undo
    c.self.invariant c.fork.ensures.owner c.fork.ensures.undo_log c.holds.ensures.unchanged c.holds.ensures.kept
    c.close.ensures.owner c.close.ensures.kept

use Rattle.hy_hyper.proofs.StoreLaws.{rolled_back}
use Rattle.hy_hyper.proofs.stores.Store.roll_back.Goals as goal

pub invariant_of-self : goal.invariant_of-self
invariant_of-self g c =
    rolled_back g.row.N c.self.inside.space c.roll_back.new.space c.self.inside.undo c.roll_back.new.self
    c.self.invariant c.roll_back.ensures.bytes c.roll_back.ensures.log c.roll_back.ensures.undo_log
    c.roll_back.ensures.gives_up

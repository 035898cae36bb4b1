use Rattle.hy_hyper.proofs.StoreLaws.{refused}
use Rattle.hy_hyper.proofs.stores.Store.try_insert.Goals as goal

-- behind a refusal
pub invariant_of-self-2 : goal.invariant_of-self-2
invariant_of-self-2 g c =
    refused g.row.N c.self.inside.space c.insert.new.space c.roll_back.new.space c.self.inside.undo c.insert.new.undo
    c.roll_back.new.self _ c.self.invariant c.insert.ensures.writes c.roll_back.ensures.bytes c.roll_back.ensures.log
    c.roll_back.ensures.undo_log c.roll_back.ensures.gives_up

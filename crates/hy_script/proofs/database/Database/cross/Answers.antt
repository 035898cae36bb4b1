use Rattle.std.proofs.Common.{refl}
use Rattle.hy_script.proofs.CrossedLaws.{keeps-crossed}
use Rattle.hy_script.proofs.DatabaseLaws.{served-pairs}
use Rattle.hy_script.proofs.database.Database.cross.Goals as goal

pub invariant_of-self : goal.invariant_of-self
invariant_of-self g c =
    let olds = c.self.inside.partitions in
    let news = c.cross-done.new.self in
    record {
      served = served-pairs 1 olds news c.self.inside.terminals.items
          (keeps-crossed g.K.Loaded.load c.new.result c.self.inside.journal.list.log c.cross-done.new.journal.list.log
          olds news c.cross-done.result c.cross-done.ensures.crosses) c.self.invariant.served;
      taken = c.self.invariant.taken;
      pass_is = refl;
    }

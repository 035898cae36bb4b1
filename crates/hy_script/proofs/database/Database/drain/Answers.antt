use Rattle.hy_session.specs.of_forks.Drains.{TellsHere}
use Rattle.hy_session.proofs.of_forks.RelationLaws.{pairs-map}
use Rattle.hy_script.proofs.CrossedLaws.{Keeps, keeps-told}
use Rattle.hy_script.proofs.DatabaseLaws.{served-pairs}
use Rattle.hy_script.proofs.database.Database.drain.Goals as goal

pub invariant_of-self : goal.invariant_of-self
invariant_of-self g c =
    let log = c.self.inside.journal.list.log in
    let olds = c.self.inside.partitions in
    let news = c.drain.new.self in
    record {
      served = served-pairs 1 olds news c.self.inside.terminals.items
          (pairs-map (TellsHere log) Keeps (λ number old new tells. keeps-told log old new tells.0) 1 olds news
          c.drain.ensures.told) c.self.invariant.served;
      taken = c.self.invariant.taken;
      pass_is = c.self.invariant.pass_is;
    }

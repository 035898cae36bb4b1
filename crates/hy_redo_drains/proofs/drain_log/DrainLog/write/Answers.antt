-- The batch that was due stands behind those that the log was handed before.
use Rattle.std.proofs.Common.{◌≡◌, Some}
use Rattle.hy_redo_drains.proofs.FollowLaws.{written-one}
use Rattle.hy_redo_drains.proofs.drain_log.DrainLog.write.Goals as goal

pub invariant_of-self : goal.invariant_of-self
invariant_of-self g c =
    let due : c.self.inside.due ≡ Some c.in-Some.batch = cc in (
      written-one g.K.Loaded.load c.self.inside.log c.write_batch.new.self c.self.inside.cursor c.self.inside.due
          c.take.new.self c.in-Some.batch c.write_batch.result c.self.invariant.0 due c.take.ensures.after
          c.write_batch.ensures,
      c.self.invariant.1,
    )

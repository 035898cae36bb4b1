-- The batch that was drained stands behind those that the log was handed before.
use Rattle.std.proofs.Common.{◌∷◌, ◌++◌, [], ap, sym, subst, ◌∙◌, length}
use Rattle.std.specs.Prelude.{IfErr}
use Rattle.hy_redo_drains.specs.of_forks.Drains.{drained_of}
use Rattle.hy_redo_drains.specs.of_forks.Logged.{SaySame}
use Rattle.hy_redo_drains.specs.of_partition.Jobs.{Log}
use Rattle.hy_hyper_service.specs.Keeping.{IsWhyUnkept, LoggedState}
use Rattle.hy_hyper_service.proofs.KeepingLaws.{follows-on, handed, unkept}
use Rattle.hy_hyper_service.proofs.keeping.ServiceLog.keep_commits.Goals as goal

pub invariant_of-self-2 : goal.invariant_of-self-2
invariant_of-self-2 g c =
    let lists = g.K.Loaded.load in
    let drained = c.in_ok-batch.ensures in
    let batch = c.in_ok-batch.batch in (
      follows-on lists c.self.inside.log c.write_batch.new.self c.self.inside.cursor c.drain.new.cursor batch
          c.write_batch.result c.write_batch.ensures c.self.invariant.0
          (λ batches same. subst (λ (seen : Log). SaySame lists (batches ++ batch ∷ []) seen) (sym drained.moved)
          (drained.follows c.self.invariant.1 batches
          (subst (λ (seen : Log). SaySame lists batches seen) (sym c.is_drained.ensures.cursor) same))),
      c.self.invariant.1,
      c.commits-self-inside.ensures ∙ ap length (drained.log ∙ sym drained.moved),
    )

pub returns-clause-refused : goal.returns-clause-refused
returns-clause-refused g c =
    let lists = g.K.Loaded.load in
    let drained = c.in_ok-batch.ensures in
    let cursor = c.is_drained.ensures.cursor in
    let new : LoggedState = record { log = c.write_batch.new.self; seen = c.drain.new.cursor } in
    subst (λ (old : LoggedState). IfErr c.write_batch.result
    (IsWhyUnkept lists old new c.args.database.now c.drain.new.self)) c.self.view_is
    (unkept lists (record { log = c.self.inside.log; seen = c.self.inside.cursor }) new c.args.database.now
    c.drain.new.self c.write_batch.result
    (handed lists c.self.inside.log c.write_batch.new.self c.self.inside.cursor c.drain.new.cursor c.args.database.now
    c.is_drained.new.self c.drain.new.self c.in_ok-batch.batch c.write_batch.result c.is_drained.ensures.same
    drained.told drained.snapshots drained.log
    (drained.drained ∙ ap (λ (seen : Log). drained_of seen c.drain.new.self.parts) cursor) drained.moved
    (λ batches same. drained.follows c.self.invariant.1 batches
    (subst (λ (seen : Log). SaySame lists batches seen) (sym cursor) same)) c.write_batch.ensures))

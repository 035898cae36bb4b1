use Rattle.std.proofs.Common.{◌≡◌, ap, ◌∙◌, arith, subst}
use mathlib.Core.List.{IsPrefix}
use Rattle.hy_batches.specs.Batches.{Batch}
use Rattle.hy_crossing.specs.of_partition.Jobs.{Log}
use Rattle.hy_forks.specs.Drains.{TellsHere, drained_of}
use Rattle.hy_forks.proofs.LoggedLaws.{drain-follows, drained-new, kept-numbered}
use Rattle.hy_forks.proofs.RelationLaws.{pairs-length}
use Rattle.hy_forks.proofs.partitions.Partitions.drain.Goals as goal

pub copy_behind-requires-clause-some : goal.copy_behind-requires-clause-some
copy_behind-requires-clause-some g c =
    let olds = g.P.Parts.states c.self.inside.parts in
    let news = g.P.Parts.states c.tell_all.new.parts in
    omega (
      arith,
      c.self.invariant.some,
      pairs-length (TellsHere c.args.journal.now.list.log) 1 olds news c.tell_all.ensures.told,
    )

pub copy_behind-requires-clause-numbered : goal.copy_behind-requires-clause-numbered
copy_behind-requires-clause-numbered g c =
    kept-numbered g.K.World.passes.partitions c.args.journal.now.list.log (g.P.Parts.states c.tell_all.new.parts)
    c.tell_all.ensures.history

pub returns-clause-new : goal.returns-clause-new
returns-clause-new g c = drained-new g.K.Loaded.load 1 c.in_ok-batch.batch.lists c.in_ok-batch.ensures.drained

pub returns-clause-follows : goal.returns-clause-follows
returns-clause-follows g c =
    let seen : Log = c.args.cursor.now in
    let log : Log = c.args.journal.now.list.log in
    let parts = g.P.Parts.states c.tell_all.new.parts in
    let batch : Batch = c.in_ok-batch.batch in
    let begins : IsPrefix seen log =
    subst (λ (l : Log). IsPrefix seen l) c.tell_all.ensures.log c.find.ensures.begins in
    let is : batch ≡ drained_of seen parts =
    c.in_ok-batch.ensures.copies ∙ ap (λ (s : Log). drained_of s parts) c.find.ensures.same in
    drain-follows g.K.Loaded.load g.K.World.passes.partitions seen log parts batch begins c.tell_all.ensures.parts
    c.tell_all.ensures.history is c.in_ok-batch.ensures.drained c.sound.ensures

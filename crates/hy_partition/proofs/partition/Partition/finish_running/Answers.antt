use Rattle.std.proofs.Common.{rules, ◌≡◌, None, subst, sym}
use Rattle.std.specs.Prelude.{IsSome}
use Rattle.hy_partition.specs.Partition.{PartitionState}
use Rattle.hy_partition.specs.inside.Soundness.{IsSound}
use Rattle.hy_partition.specs.inside.Views.{partition_of}
use Rattle.hy_partition.proofs.FinishLaws.{reached-start, reached-step, reached-end, fewer_left}
use Rattle.hy_partition.proofs.partition.Partition.finish_running.Goals as goal

pub loop-self-init : goal.loop-self-init
loop-self-init g c = reached-start c.args.journal.now.list.log c.args.self.now

pub loop-self-smaller : goal.loop-self-smaller
loop-self-smaller g c =
    let running : IsSome c.loop-self.self.running =
    subst (λ (p : PartitionState). IsSome p.running) c.self.view_is (sym c.loop-self-test.ensures) in
    let sound = subst (λ (p : PartitionState). IsSound g.row.N c.self.inside.kept.room c.self.inside.executor p) c.self.view_is
    c.self.invariant.0 in
    fewer_left g.row.N _ _ c.loop-self.journal.list.log c.step-progress.new.journal.list.log c.loop-self.self
    c.step-progress.new.self c.step-progress.result sound running c.step-progress.ensures

pub loop-self-preserved : goal.loop-self-preserved
loop-self-preserved g c =
    let running : IsSome c.loop-self.self.running =
    subst (λ (p : PartitionState). IsSome p.running) c.self.view_is (sym c.loop-self-test.ensures) in
    reached-step c.args.journal.now.list.log c.loop-self.journal.list.log c.step-progress.new.journal.list.log
    c.args.self.now c.loop-self.self c.step-progress.new.self c.step-progress.result running
    c.loop-self.invariant c.step-progress.ensures

pub returns : goal.returns
returns g c =
    let none : (partition_of c.self.inside).running ≡ None = search rules in
    reached-end c.args.journal.now.list.log c.loop-self.journal.list.log c.args.self.now c.loop-self.self
    (subst (λ (p : PartitionState). p.running ≡ None) c.self.view_is none) c.loop-self.invariant

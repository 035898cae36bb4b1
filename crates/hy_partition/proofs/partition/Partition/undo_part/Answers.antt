use Rattle.std.proofs.Common.{◌≡◌, Option, None, ap, refl, sym, ◌∙◌, subst}
use Rattle.hy_undo.specs.PrivatePages.{GivesUpPages}
use Rattle.hy_partition.specs.Jobs.{RunningJob}
use Rattle.hy_partition.specs.Partition.{PartState, PartitionState}
use Rattle.hy_partition.specs.Parts.{HasNoPart}
use Rattle.hy_partition.specs.inside.Soundness.{IsSound, IsTied}
use Rattle.hy_partition.specs.inside.Views.{partition_of}
use Rattle.hy_partition.proofs.SoundLaws.{sound-undone}
use Rattle.hy_partition.proofs.TieLaws.{tied-parted}
use Rattle.hy_partition.proofs.partition.Partition.undo_part.Goals as goal

pub invariant_of-self : goal.invariant_of-self
invariant_of-self g c =
    let p : PartitionState = partition_of c.self.inside in
    let inside = c.self.inside in
    let idle : p.running ≡ None = ap (λ (q : PartitionState). q.running) c.self.view_is ∙ c.requires.idle in
    let back = c.roll_back.ensures in
    let after : PartitionState = record p { undo = c.roll_back.new.self; space = c.roll_back.new.space } in
    subst (λ (part : Option PartState). IsSound g.row.N inside.kept.room inside.executor (record after { part = part })
    × IsTied g.K.Loaded.load g.K.World.passes inside.kept inside.desk (record after { part = part })) (sym c.clear.ensures)
    (subst (λ (running : Option RunningJob).
    IsSound g.row.N inside.kept.room inside.executor (record after { running = running; part = None })
    × IsTied g.K.Loaded.load g.K.World.passes inside.kept inside.desk (record after { running = running; part = None })) (sym idle) (
      sound-undone g.row.N _ _ p c.self.invariant.0 inside.kept.room inside.executor c.roll_back.new.space c.roll_back.new.self
          p.finished refl back.log back.undo_log back.bytes back.gives_up.children,
      tied-parted g.K.Loaded.load g.K.World.passes inside.kept inside.desk p c.self.invariant.1 inside.kept.room None None c.roll_back.new.self
          c.roll_back.new.space,
    ))

pub returns-clause-undone : goal.returns-clause-undone
returns-clause-undone g c =
    let p : PartitionState = partition_of c.self.inside in
    let back = c.roll_back.ensures in
    let after : PartitionState =
    record p { part = c.clear.new.place; undo = c.roll_back.new.self; space = c.roll_back.new.space } in
    let undone : HasNoPart p after = record {
      part = c.clear.ensures;
      undo = back.log;
      bytes = back.bytes;
      nothing = record { seen = refl; kept = refl; book = refl };
      beside = record {
        terms = refl;
        running = refl;
        finished = refl;
        snapshots = refl;
        children = back.gives_up.children;
        max_frames = back.gives_up.limit;
      };
    } in
    subst (λ (old : PartitionState). HasNoPart old after) c.self.view_is undone

pub returns-clause-gives_up : goal.returns-clause-gives_up
returns-clause-gives_up g c =
    subst (λ (old : PartitionState). GivesUpPages old.space c.roll_back.new.space) c.self.view_is
    c.roll_back.ensures.gives_up

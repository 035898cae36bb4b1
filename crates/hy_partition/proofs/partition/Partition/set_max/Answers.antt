use Rattle.std.proofs.Common.{OnOk, [], refl, sym, subst}
use Rattle.std.proofs.lemmas.List.{append-nil}
use Rattle.hy_partition.specs.Partition.{PartitionState}
use Rattle.hy_partition.specs.Steps.{KeepsJob}
use Rattle.hy_partition.specs.inside.Views.{partition_of}
use Rattle.hy_undo.proofs.PrivatePageLaws.{IsUndoLog-kept, KeepsPages-unseen}
use Rattle.hy_partition.proofs.UndoLaws.{KeepsOwn-same_frames}
use Rattle.hy_partition.proofs.SoundLaws.{sound-snapshots}
use Rattle.hy_partition.proofs.SpellLaws.{spells-kept_more}
use Rattle.hy_partition.proofs.TieLaws.{tied-unforked}
use Rattle.hy_partition.proofs.partition.Partition.set_max.Goals as goal
use Rattle.hy_partition.proofs.partition.Partition.set_max.Goals.{in-Ok, in-Err}

pub returns-clause-job : goal.returns-clause-job
returns-clause-job g c =
    let p : PartitionState = partition_of c.self.inside in
    let new : PartitionState = record p { space = c.set_max.new.self } in
    let keeps : KeepsJob c.args.self.now new = subst (λ (old : PartitionState). KeepsJob old new) c.self.view_is (record {
      terms = refl;
      kept = refl;
      book = refl;
      running = refl;
      part = refl;
      undo = refl;
      finished = refl;
      owner = c.set_max.ensures.owner;
    }) in
    elim c.match-set_max.branch [
      | in-Ok w ↦ subst (λ r. OnOk r (KeepsJob c.args.self.now new)) (sym w.result-is) keeps
      | in-Err w ↦ subst (λ r. OnOk r (KeepsJob c.args.self.now new)) (sym w.result-is) tt
    ]

pub invariant_of-self : goal.invariant_of-self
invariant_of-self g c =
    let p : PartitionState = partition_of c.self.inside in
    let owner = c.set_max.ensures.owner in
    let after : PartitionState = record p { space = c.set_max.new.self } in
    let kept = KeepsOwn-same_frames p.space c.set_max.new.self owner.table c.set_max.ensures.frames in (
      sound-snapshots g.row.N _ _ p c.self.invariant.0 c.set_max.new.self p.snapshots owner
          (IsUndoLog-kept g.row.N p.space c.set_max.new.self p.undo (KeepsPages-unseen p.space c.set_max.new.self owner.bytes kept)
          c.self.invariant.0.undo_log)
          (λ child. spells-kept_more g.row.N p after refl [] (sym (append-nil p.kept)) child refl
          (c.set_max.ensures.children.bytes child) (c.self.invariant.0.snapshots child)),
      tied-unforked g.K.Loaded.load g.K.World.passes c.self.inside.kept c.self.inside.desk p c.self.invariant.1 c.set_max.new.self p.snapshots refl,
    )

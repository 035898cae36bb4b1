use Rattle.std.proofs.Common.{ap, subst}
use Rattle.hy_partition.specs.Partition.{PartitionState, projection_of}
use Rattle.hy_partition.specs.Headline.{Headline}
use Rattle.hy_partition.specs.inside.Views.{partition_of}
use Rattle.hy_partition.proofs.SoundLaws.{rests, sound_now, spells-store}
use Rattle.hy_partition.proofs.partition.Partition.headline.Goals as goal

pub returns : goal.returns
returns g c = subst (λ (p : PartitionState). Headline g.row.N p) c.self.view_is (record {
  frame_counts_are_exact = record { counts = c.sound.ensures.counts; once = c.sound.ensures.once };
  open_snapshots_spell_a_beginning = c.self.invariant.0.snapshots;
  live_pages_undone_spell_all = spells-store c.self.invariant.0.live;
  nothing_to_undo_where_nothing_runs = λ idle no_part.
      (rests g.row.N _ _ (partition_of c.self.inside) c.self.invariant.0 idle no_part).undo;
  replay_meets_the_conditions = (sound_now g.row.N _ _ (partition_of c.self.inside) c.self.invariant.0).conditions;
  kept_is_the_projection =
      ap (λ warehouse. projection_of warehouse c.self.inside.kept.seen) c.self.invariant.1.list_of;
})

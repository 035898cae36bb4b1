use Rattle.std.proofs.Common.{◌≡◌, List, ap, slice_index_or, slice_set, subst}
use Rattle.hy_crossing.specs.of_partition.Partition.{PartitionState}
use Rattle.hy_forks.proofs.serving.Partitions+N+K+Vec+Partition+N+K.begin.Goals as goal

pub returns : goal.returns
returns g c =
    let p = c.index_mut.result.now in
    let new = c.begin.new.part in (
      p,
      new,
      subst (λ (rows : List PartitionState). p ≡ slice_index_or rows c.args.place p) c.self.view_is
          c.index_mut.ensures.value,
      ap (λ (rows : List PartitionState). slice_set rows c.args.place new) c.self.view_is,
      c.begin.ensures,
    )

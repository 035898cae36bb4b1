use Rattle.std.proofs.Common.{◌≡◌, None, ap, sym, ◌∙◌, arith}
use Rattle.hy_partition.specs.Partition.{PartitionState}
use Rattle.hy_partition.specs.inside.Views.{partition_of}
use Rattle.hy_partition.proofs.SoundLaws.{rests, store_now}
use Rattle.hy_partition.proofs.partition.Partition.find_customer.Goals as goal

pub find_customer-requires : goal.find_customer-requires
find_customer-requires g c =
    let p : PartitionState = partition_of c.self.inside in
    let idle : p.running ≡ None = ap (λ (q : PartitionState). q.running) c.self.view_is ∙ c.requires.idle.0 in
    let no_part : p.part ≡ None = ap (λ (q : PartitionState). q.part) c.self.view_is ∙ c.requires.idle.1 in (
      omega arith,
      (
        (rests g.row.N _ _ p c.self.invariant.0 idle no_part).pages.store,
        (
          store_now g.row.N _ _ p c.self.invariant.0 idle no_part,
          c.requires.here ∙ sym (ap (λ (q : PartitionState). q.warehouse) c.self.view_is),
        ),
      ),
    )

use Rattle.std.proofs.Common.{rules}
use Rattle.std.specs.Ordering.{is_le}
use Rattle.std.proofs.lemmas.List.Sorted.{IsPartitionPoint-from_clause}
use Rattle.hy_layout.specs.inside.Places.{compare_name}
use Rattle.hy_layout.proofs.NameOrders.{names-last}
use Rattle.hy_layout.proofs.names.behind_named.Goals as goal

pub returns-clause-point : goal.returns-clause-point
returns-clause-point c =
    IsPartitionPoint-from_clause (λ customer. is_le (compare_name c.args.district c.args.name.now customer))
    c.args.names.now c.partition_point.result c.partition_point.ensures.partitioned
    (names-last c.args.district c.args.name.now c.args.names.now c.requires) (λ a r f k. search rules)

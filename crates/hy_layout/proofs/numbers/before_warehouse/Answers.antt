use Rattle.std.proofs.Common.{rules, nat_lt}
use Rattle.std.proofs.lemmas.List.Sorted.{IsPartitionPoint-from_clause, IsPartitionedBy-ltb}
use Rattle.hy_layout.proofs.numbers.before_warehouse.Goals as goal

pub returns-clause-point : goal.returns-clause-point
returns-clause-point c =
    IsPartitionPoint-from_clause (λ row. nat_lt row.warehouse c.args.warehouse) c.args.rows.now c.partition_point.result
    c.partition_point.ensures.partitioned
    (IsPartitionedBy-ltb (λ row. row.warehouse) c.args.rows.now c.args.warehouse c.requires) (λ a r f k. search rules)

use Rattle.std.proofs.Common.{rules}
use Rattle.std.specs.Prelude.{nat_le}
use Rattle.std.proofs.lemmas.List.Sorted.{IsPartitionPoint-from_clause, IsPartitionedBy-leb}
use Rattle.hy_layout.proofs.NumberLaws.{end-of}
use Rattle.hy_layout.proofs.numbers.up_to_district.Goals as goal

pub returns : goal.returns
returns c =
    end-of c.args.rows.now c.args.district c.partition_point.result c.partition_point.ensures.bound
    (IsPartitionPoint-from_clause (λ row. nat_le row.district c.args.district) c.args.rows.now c.partition_point.result
    c.partition_point.ensures.partitioned
    (IsPartitionedBy-leb (λ row. row.district) c.args.rows.now c.args.district c.requires) (λ a r f k. search rules))

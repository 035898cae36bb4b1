-- The rows rise, so that those which pass stand first.
use Rattle.std.proofs.Common.{rules}
use Rattle.std.specs.Prelude.{nat_lt}
use Rattle.std.proofs.lemmas.List.Sorted.{IsPartitionPoint-from_clause, IsPartitionedBy-ltb}
use Rattle.hy_sound.specs.inside.Places.{stands_at}
use Rattle.hy_sound.proofs.customers.before_place.Goals as goal

pub returns-clause-point : goal.returns-clause-point
returns-clause-point c =
    IsPartitionPoint-from_clause (λ row. nat_lt (stands_at row) c.args.place) c.args.rows.now c.partition_point.result
    c.partition_point.ensures.partitioned
    (IsPartitionedBy-ltb stands_at c.args.rows.now c.args.place c.requires) (λ a r f k. search rules)

use Rattle.std.proofs.Common.{◌≡◌, ◌+◌, ◌≤◌, List, ◌++◌, map}
use Rattle.std.specs.Prelude.{vec_capacity, vec_len, length}
use Rattle.std.specs.List.{range_with_len}
use Rattle.atomic_table.specs.Seated.{TableId}
use Rattle.hy_passes.specs.Law.{dealer}
use Rattle.hy_passes.specs.Worlds.{new_partition}
use Rattle.hy_passes.proofs.kit.deal_seats.Given as goal

abbrev pub invariant-loop-before : goal.invariant-loop-before
invariant-loop-before g l =
    (l.journal.table_id ≡ l.initial.journal.table_id)
    × (l.journal.id ≡ l.initial.journal.id)
    × (l.journal.me.0 ≡ dealer l.before)
    × (l.seats.items ≡ map new_partition (range_with_len 1 l.before))
    × (length l.seats.items ≡ l.before)
    × (l.partitions ≤ vec_capacity l.seats)
    × (length l.desks.items + l.before ≡ l.partitions)
    × (vec_len l.desks + l.before ≡ l.partitions)
    × (l.ledger ≡ l.before)
    × ((given : List TableId) × (l.desks.items ++ given ≡ g.K.World.passes.desks))

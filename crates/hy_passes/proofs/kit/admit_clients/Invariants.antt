use Rattle.std.proofs.Common.{◌≡◌, ◌≤◌, map}
use Rattle.std.specs.Prelude.{vec_capacity, length}
use Rattle.std.specs.List.{range_with_len}
use Rattle.hy_passes.specs.Worlds.{new_client}
use Rattle.hy_passes.proofs.kit.admit_clients.Given as goal

abbrev pub invariant-loop-client : goal.invariant-loop-client
invariant-loop-client g l =
    (l.journal.table_id ≡ l.initial.journal.table_id)
    × (l.journal.id ≡ l.initial.journal.id)
    × (l.journal.me.0 ≡ l.initial.journal.me.0)
    × (l.all.items ≡ map new_client (range_with_len 0 l.client))
    × (length l.all.items ≡ l.client)
    × (l.clients ≤ vec_capacity l.all)

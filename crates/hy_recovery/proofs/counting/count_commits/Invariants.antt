-- The warehouses before have their counts, and there is room for all.
use Rattle.std.proofs.Common.{◌≡◌, ◌<◌, ◌≤◌, ℕ, length, slice_index_or, vec_capacity}
use Rattle.hy_forks.specs.of_partition.Limits.{most_kept}
use Rattle.hy_recovery.specs.Recovering.{joined}
use Rattle.hy_recovery.proofs.counting.count_commits.Given as goal

abbrev pub invariant-loop-place : goal.invariant-loop-place
invariant-loop-place l =
    (length l.counts.items ≡ l.place) × (l.warehouses ≤ vec_capacity l.counts)
    × ((place : ℕ) → place < l.place → length (joined l.batches place) ≤ most_kept
    → slice_index_or l.counts.items place 0 ≡ length (joined l.batches place))

-- So many commits the batches before have, where all have no more than may be kept.
use Rattle.std.proofs.Common.{◌≡◌, ◌≤◌, length, take}
use Rattle.hy_forks.specs.of_partition.Limits.{most_kept}
use Rattle.hy_recovery.specs.Recovering.{joined}
use Rattle.hy_recovery.proofs.counting.count_all.Given as goal

abbrev pub invariant-loop-number : goal.invariant-loop-number
invariant-loop-number l =
    length (joined l.batches l.place) ≤ most_kept → l.sum ≡ length (joined (take l.number l.batches) l.place)

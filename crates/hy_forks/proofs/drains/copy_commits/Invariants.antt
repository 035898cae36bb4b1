use Rattle.std.proofs.Common.{◌≡◌, ◌≤◌, true, length, take, vec_capacity}
use Rattle.std.specs.List.{list_all}
use Rattle.hy_forks.specs.inside.Copies.{has_number}
use Rattle.hy_forks.proofs.drains.copy_commits.Given as goal

abbrev pub invariant-loop-place : goal.invariant-loop-place
invariant-loop-place l =
    (l.copies.items ≡ take l.place l.commits) × (length l.commits ≤ vec_capacity l.copies)
    × (l.place-end ≡ length l.commits) × (list_all has_number l.copies.items ≡ true)

-- What is known of the copies that a drain makes.
use Rattle.std.specs.Prelude.{ℕ, suc, Bool, true, ◌&&◌, nat_le, List, [], ◌∷◌, length}
use Rattle.std.specs.List.{list_all}
use Rattle.hy_rows.specs.Tables.{Lists}
use Rattle.hy_commands.specs.declared.command.Commit.{Commit}
use Rattle.hy_commands.specs.declared.command.Commit.TheVariants as commits
use Rattle.hy_batches.specs.Grammar.{fits}
use Rattle.hy_crossing.specs.of_partition.Limits.{most_kept}
use Rattle.hy_crossing.specs.of_partition.Partition.{is_new, may_be_kept}

-- whether the number of a commit, where it has one, is at least 1, and whether 64 bits tell it
abbrev pub counts_from_one : Commit → Bool
counts_from_one (commits.Local edition command) = true
counts_from_one (commits.Cross edition number command) = nat_le 1 number

abbrev pub has_number : Commit → Bool
has_number (commits.Local edition command) = true
has_number (commits.Cross edition number command) = fits 8 number

-- whether a commit that a warehouse of a load has kept may be drained: it may be kept there, is of the second edition, and
-- has such a number
abbrev pub may_be_drained : Lists → ℕ → Commit → Bool
may_be_drained lists warehouse commit =
    may_be_kept lists warehouse commit && is_new commit && counts_from_one commit && has_number commit

-- whether some commits may, no more than a warehouse keeps; and whether lists may, those of the warehouses from a number on
abbrev pub is_drained : Lists → ℕ → List Commit → Bool
is_drained lists warehouse commits =
    nat_le (length commits) most_kept && list_all (may_be_drained lists warehouse) commits

abbrev pub are_drained : Lists → ℕ → List (List Commit) → Bool
are_drained lists warehouse [] = true
are_drained lists warehouse (commits ∷ rows) = is_drained lists warehouse commits && are_drained lists (suc warehouse) rows

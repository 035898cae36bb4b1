-- The accounts of a partition: the commits of its warehouse, and what they brought in.
use Rattle.std.specs.Prelude.{◌≡◌, ℕ, ℤ, pos, ◌+◌, ◌+ℤ◌, ◌==◌, if◌then◌else◌, List, filter, length}
use Rattle.hy_rows.specs.Tables.{Lists, Tables, of_warehouse}
use Rattle.hy_schema.specs.Conditions.{column_sum}
use Rattle.hy_ledger.specs.Books.{BookState}
use Rattle.hy_commands.specs.declared.command.Command.{Command}
use Rattle.hy_commands.specs.declared.command.Commit.{Commit}
use Rattle.hy_commands.specs.Commands.{cents_of, command_of, home_of, is_reader}
use Rattle.hy_commands.specs.Replay.{rows_after}

-- the commits whose home a warehouse is
abbrev pub home_commits : ℕ → List Commit → List Commit
home_commits warehouse commits = filter (λ commit. home_of (command_of commit) == warehouse) commits

-- W_YTD of the rows of a warehouse
abbrev pub taken_in : Tables → ℤ
taken_in tables = column_sum (λ row. row.ytd) tables.warehouses

-- a book has the commits of a warehouse of a load, and as cents what W_YTD has grown by since the load
pub record IsBookOf (lists : Lists) (warehouse : ℕ) (commits : List Commit) (book : BookState) : Type 0 where
  pub warehouse_is : book.warehouse ≡ warehouse
  pub commits_are : book.commits ≡ length (home_commits warehouse commits)
  pub cents_are : taken_in (rows_after lists warehouse commits) ≡ taken_in (of_warehouse warehouse lists.tables) +ℤ pos book.cents

-- the book after an accepted command: one that only reads leaves it
abbrev pub with_command : BookState → Command → BookState
with_command book command =
    if is_reader command then book
    else record book { commits = book.commits + 1; cents = book.cents + cents_of command }

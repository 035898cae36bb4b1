-- A warehouse after a list of commits, one after the other.
use Rattle.std.specs.Prelude.{ℕ, List, fold, length}
use Rattle.hy_rows.specs.Ranges.{IsBetween}
use Rattle.hy_rows.specs.Tables.{Lists, Tables, of_warehouse}
use Rattle.hy_commands.specs.declared.command.Commit.{Commit}
use Rattle.hy_commands.specs.declared.command.Commit.TheVariants as commits
use Rattle.hy_commands.specs.Parts.{database_of, part_unless, refusal_in}
use Rattle.hy_commands.specs.Transactions.{act}

-- the rows of a warehouse of a load after one commit. A command of several warehouses does its part here, unless the
-- database refuses it: whether it does is known from the load, since no warehouse, district, customer or item ever
-- comes or goes
abbrev pub committed : Lists → ℕ → Tables → Commit → Tables
committed lists warehouse tables (commits.Local edition command) =
    (act lists.items warehouse edition command tables).tables
committed lists warehouse tables (commits.Cross edition number command) =
    part_unless (refusal_in (database_of lists) command) lists.items warehouse edition command tables

-- the rows of a warehouse after the commits, from some rows on
abbrev pub replay : Lists → ℕ → Tables → List Commit → Tables
replay lists warehouse loaded commits = fold (committed lists warehouse) loaded commits

-- the lists have a warehouse of this number
abbrev pub HasWarehouse : Lists → ℕ → Type 0
HasWarehouse lists number = IsBetween 1 (length lists.tables.warehouses) number

-- the rows of a warehouse of a load after the commits
abbrev pub rows_after : Lists → ℕ → List Commit → Tables
rows_after lists number commits = replay lists number (of_warehouse number lists.tables) commits

-- The rows of a database as lists.
use Rattle.hy_rows.specs.Tables.{Lists}
use Rattle.hy_commands.specs.Parts.{Database}
use Rattle.hy_database.specs.Database.{all_rows}

-- its items, and the rows of each table warehouse by warehouse
abbrev pub lists_of : Database → Lists
lists_of database = record { items = database.items; tables = all_rows database }

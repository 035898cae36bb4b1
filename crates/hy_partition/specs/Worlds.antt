-- Loads of worlds.
use Rattle.std.specs.Prelude.{[]}
use Rattle.hy_rows.specs.Tables.{Lists, no_rows}

-- the load of a kit that nobody opened
abbrev pub no_lists : Lists
no_lists = record { items = []; tables = no_rows }
